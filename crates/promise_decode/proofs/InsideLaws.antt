-- What a part of a plan without refusals 8 and 12 reads lies in the planned state, and before the state of its own major stage where it is staged:
-- each bit that a slot asks for, so each word of its lanes, which are a packing of its set.
-- Assumes nothing.
use mathlib.Core.Path.{◌≡◌, refl, sym, ◌∙◌}
use mathlib.Core.Bool.{Bool, true, false}
use mathlib.Core.Option.{Option, none, some}
use mathlib.Core.List.{List, [], ◌∷◌}
use mathlib.Core.Logic.{◌⊎◌, ⊎_elim}
use Prim.Native.Nat.{ℕ, zero, suc, ◌+◌, ◌*◌, ◌-◌, ◌/◌, ◌%◌, ◌^◌, ◌≤◌, ◌<◌}
use native.Mathlib.Nat.{not-suc-le-zero, le_of_suc-le-suc}
use native.Mathlib.Omega.{arith}
use borrow.Author.Tests.{eqb-false}
use lib.Dec.{eqb}
use lib.ListN.{length, get_or}
use Rattle.words.proofs.BitLaws.{lt_or_ge}
use Rattle.reads.specs.ReadSet.{pairs_from, pairs_of}
use Rattle.reads.specs.Search.{Lane}
use Rattle.reads.specs.Packing.{times, Packing}
use Rattle.reads.specs.Local.{word_in, mask_in}
use Rattle.words.specs.Answer.{good}
use Rattle.reads.proofs.PackingLaws.{times_nil, times_cons}
use Rattle.reads.proofs.SetLaws.{times_here, times_cases}
use Rattle.reads.proofs.RoundCountLaws.{in_lanes}
use Rattle.reads.proofs.SectionWordLaws.{mask_none}
use Rattle.reads.proofs.SetAnswerLaws.{placed_packing}
use Rattle.reads_asked.proofs.AskedFormLaws.{EachPair, set-each}
use Rattle.reads_try.specs.TableLanes.{Each}
use Rattle.reads_try.proofs.LaneTableLaws.{each_append, each_at}
use Rattle.rounds.specs.Rounds.{Solvable}
use Rattle.plan_record.specs.Record.{plan_lanes, slots_of, majors_of, parts_of, level_at}
use Rattle.plan_record.proofs.RecordLaws.{lanes_range}
use Rattle.words.specs.Pins.{empty}
use Rattle.plan_blocks.specs.Blocks.{state_of, state_words, totals_fit}
use Rattle.plan_blocks.proofs.MajorStageLaws.{totals_fit_lem}
use Rattle.plan_blocks.proofs.StateStartLaws.{state_mono}
use Rattle.plan_positions.specs.Positions.{major_of, refusal12}
use Rattle.plan_winners.specs.Planned.{Planned, planned}
use Rattle.plan_positions.proofs.MajorLaws.{MajorAt, major_at}
use Rattle.plan_positions.proofs.PositionLaws.{RightlyPlanned, read_planned}
use Rattle.plan_positions.proofs.PlannedLaws.{slot_read}
use Rattle.plan_reads.specs.PartReads.{bit_number, asked_by, asked_to, read_words, part_reads, part_packed, part_lanes}
use Rattle.plan_reads.specs.ReadsReady.{AllNarrow}
use Rattle.plan_reads.proofs.AskedLaws.{slot_asks}

-- a word that, but for its mark, is one of the state's; a staged one is before word b
abbrev WordInside : List ℕ → ℕ → ℕ → Type 0
WordInside d b w = (w % 2 ^ 31 < state_words d) × (2 ^ 31 ≤ w → w - 2 ^ 31 < b)

-- a bit of such a word
pub record Inside (d : List ℕ) (b q : ℕ) : Type 0 where
  pub small : q < 2 ^ 37
  pub word : WordInside d b (q / 32)

number_inside : (m a s b : ℕ) → (m ≡ 0) ⊎ (m ≡ 1) → a / 32 < s → s ≤ 2 ^ 27 → (m ≡ 1 → a / 32 < b)
    → (2 ^ 36 * m + a < 2 ^ 37) × ((2 ^ 36 * m + a) / 32 % 2 ^ 31 < s) × (2 ^ 31 ≤ (2 ^ 36 * m + a) / 32 → (2 ^ 36 * m + a) / 32 - 2 ^ 31 < b)
number_inside m a s b k h l staged =
    ⊎_elim (λ e. (omega arith, omega arith, λ u. absurd (omega arith))) (λ e. (omega arith, omega arith, λ u. omega (arith, staged e))) k

-- the search asks only that it has room
pub solvable : (d : List ℕ) → Solvable (slots_of d) 8192 8192 (plan_lanes d)
solvable d = record { room = refl; some_lanes = omega (arith, lanes_range d); few-lanes = (lanes_range d).1; keys-room = omega arith; scratch-room = omega arith }

-- what holds of each pair of a set holds of one that stands in it
each_times : (P : ℕ → ℕ → Type 0) (i : ℕ) (s : List ℕ) (w m : ℕ) → EachPair P s → 0 < times w m (pairs_from i s) → P w m
unfolding EachPair pairs_from
each_times P i [] w m e h = absurd (omega (arith, times_nil w m))
each_times P i (v ∷ []) w m e h = absurd e
each_times P i (v ∷ n ∷ ws) w m e h =
    ⊎_elim (λ q. rw (← q.0, ← q.1) e.0) (λ l. each_times P (i + 1) ws w m e.1 l) (times_cases w m _ (pairs_from (i + 1) ws) h)

-- the pair of round r stands in its lane
times_in : (l : Lane) (r : ℕ) → r < length l → 0 < times (word_in l r) (mask_in l r) l
unfolding word_in mask_in
times_in [] r h = absurd (not-suc-le-zero h)
times_in (p ∷ l) zero h = times_here p l
times_in (p ∷ l) (suc r) h = omega (arith, times_in l r (le_of_suc-le-suc h), times_cons (word_in l r) (mask_in l r) p l)

module _ (d : List ℕ) (fit : totals_fit d ≡ true) (twelve : refusal12 d ≡ none) (p : ℕ) (part : p < parts_of d) where
  -- where the part's major stage begins to store
  abbrev B : ℕ
  B = state_of d (major_of d p)

  -- ---- the bits that are asked for

  planned-inside : (x : ℕ) (y : Planned) → RightlyPlanned d (major_of d p) x → planned d x ≡ some y → Inside d B (bit_number y)
  planned-inside x y r e =
      let twice : some r.position ≡ some y = sym r.is ∙ e in
      let same : r.position ≡ y = cc in
      let m : MajorAt d p (major_of d p) = major_at d p part in
      let in-state : r.position.place / 32 < state_words d =
      ⊎_elim (λ z. r.unstaged z) (λ z. omega (arith, r.before z, state_mono d (major_of d p) (majors_of d) (omega arith))) r.mark in
      let (a, b, c) = number_inside r.position.staged r.position.place (state_words d) B r.mark in-state (totals_fit_lem d fit).0 r.before in
      rw (← same) (record { small = a; word = (b, c) })

  slot_inside : (j : ℕ) → j < slots_of d → Each (Inside d B) (slot_asks d p j)
  unfolding asked_by
  slot_inside j h = go (eqb (level_at d p 0 j) empty) refl (planned d (level_at d p 0 j)) refl
    where
      go : (b : Bool) → eqb (level_at d p 0 j) empty ≡ b → (o : Option Planned) → planned d (level_at d p 0 j) ≡ o → Each (Inside d B) (asked_by b o)
      go true e o f = tt
      go false e none f = tt
      go false e (some y) f =
          (planned-inside (level_at d p 0 j) y (read_planned d twelve p (level_at d p 0 j) part (slot_read d p j h) (eqb-false _ _ e)) f, tt)

  asked-inside : (m : ℕ) → m ≤ slots_of d → Each (Inside d B) (asked_to d p m)
  unfolding asked_to
  asked-inside zero h = tt
  asked-inside (suc m) h = each_append (Inside d B) (asked_to d p m) (slot_asks d p m) (asked-inside m (omega arith)) (slot_inside m (omega arith))

  asked_at : (i : ℕ) → i < length (asked_to d p (slots_of d)) → Inside d B (get_or (asked_to d p (slots_of d)) i 0)
  asked_at i h = each_at (Inside d B) (asked_to d p (slots_of d)) i 0 (asked-inside (slots_of d) (omega arith)) h

  pub narrow : AllNarrow (asked_to d p (slots_of d))
  narrow i h =
      let a : Inside d B (get_or (asked_to d p (slots_of d)) i 0) = asked_at i h in
      let few : state_words d ≤ 2 ^ 27 = (totals_fit_lem d fit).0 in
      record { small = a.small; place = omega (arith, a.word.0) }

  set-inside : EachPair (λ w m. WordInside d B w) (read_words d p)
  unfolding read_words
  set-inside =
      set-each (λ w m. WordInside d B w) (asked_to d p (slots_of d)) (λ i h. record { alone = (asked_at i h).word; joins = λ w m e k. k })

  -- ---- the lanes

  module _ (found : part_reads (plan_lanes d) d p ≡ good (part_packed (plan_lanes d) d p)) where
    pub part_packing : Packing (plan_lanes d) (pairs_of (read_words d p)) (part_lanes (plan_lanes d) d p)
    unfolding part_reads
    part_packing = placed_packing (plan_lanes d) (pairs_of (read_words d p)) (part_packed (plan_lanes d) d p) found (omega (arith, lanes_range d))

    word-inside : (r i : ℕ) → (mask_in (get_or (part_lanes (plan_lanes d) d p) i []) r ≡ 0 → ⊥) → WordInside d B (word_in (get_or (part_lanes (plan_lanes d) d p) i []) r)
    word-inside r i some_bits = ⊎_elim there (λ l. absurd (some_bits (mask_none lane r l))) (lt_or_ge r (length lane))
      where
        lane : Lane
        lane = get_or (part_lanes (plan_lanes d) d p) i []

        there : r < length lane → WordInside d B (word_in lane r)
        there l =
            let stands = in_lanes (word_in lane r) (mask_in lane r) (part_lanes (plan_lanes d) d p) i (times_in lane r l) in
            each_times (λ w m. WordInside d B w) 0 (read_words d p) (word_in lane r) (mask_in lane r) set-inside
            (omega (arith, part_packing.once (word_in lane r) (mask_in lane r)))

    pub read_inside : (r i : ℕ) → (mask_in (get_or (part_lanes (plan_lanes d) d p) i []) r ≡ 0 → ⊥) → word_in (get_or (part_lanes (plan_lanes d) d p) i []) r % 2 ^ 31 < state_words d
    read_inside r i some_bits = (word-inside r i some_bits).0

    -- a staged word was stored by an earlier major stage
    pub read_before : (r i : ℕ) → (mask_in (get_or (part_lanes (plan_lanes d) d p) i []) r ≡ 0 → ⊥) → 2 ^ 31 ≤ word_in (get_or (part_lanes (plan_lanes d) d p) i []) r
        → word_in (get_or (part_lanes (plan_lanes d) d p) i []) r - 2 ^ 31 < state_of d (major_of d p)
    read_before r i some_bits staged = (word-inside r i some_bits).1 staged
