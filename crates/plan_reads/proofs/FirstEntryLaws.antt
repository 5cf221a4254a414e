-- Each bit that a slot asks for is among the bits asked for, so it is requested and has a local position; and the entries of stage 0.
-- Assumes nothing.
use mathlib.Core.Path.{◌≡◌, refl, sym, ap, ◌∙◌}
use mathlib.Core.Bool.{true, false}
use mathlib.Core.Option.{Option, none, some}
use mathlib.Core.List.{List, [], ◌∷◌, ◌++◌}
use mathlib.Core.Logic.{⊎_elim}
use Prim.Native.Nat.{ℕ, zero, suc, ◌+◌, ◌*◌, ◌/◌, ◌%◌, ◌^◌, ◌≤◌, ◌<◌}
use native.Mathlib.Nat.{not-suc-le-zero, eq-or-lt_of_le}
use native.Mathlib.Omega.{arith}
use borrow.Author.Tests.{eq-eqb, ne_eqb}
use lib.ListN.{length, get_or, set, length-append, get_or-append}
use lib.Seq.{get_or_at, get_or-set_same, get_or-set_other}
use Rattle.words.proofs.BitLaws.{lt_or_ge}
use Rattle.reads.specs.ReadSet.{pairs_of}
use Rattle.reads.specs.Search.{Lane, lanes_of, size_of}
use Rattle.words.specs.Answer.{Answer, good}
use Rattle.reads.specs.SetAnswer.{Packed}
use Rattle.reads.specs.Local.{local_of}
use Rattle.reads.proofs.LocalLaws.{Requested}
use Rattle.reads.proofs.SetAnswerLaws.{placed_lanes, Sound}
use Rattle.reads_asked.proofs.AskedFormLaws.{set-form, set_small, set_length_le}
use Rattle.reads_asked.proofs.RequestLaws.{set_requests}
use Rattle.reads_try.specs.TableLanes.{lanes_at}
use Rattle.rounds.specs.Rounds.{table_after, Solvable}
use Rattle.rounds.proofs.RoundsAnswerLaws.{Win, win_of}
use Rattle.plan_record.specs.Record.{plan_lanes, slots_of, level_at, parts_of}
use Rattle.plan_record.proofs.RecordLaws.{lanes_range}
use Rattle.words.specs.Pins.{empty}
use Rattle.words.proofs.TestLaws.{lowest_none, not_none}
use Rattle.plan_positions.specs.Positions.{position_right, twelve_right, refusal12}
use Rattle.plan_winners.specs.Planned.{Planned, planned}
use Rattle.plan_reads.specs.PartReads.{bit_number, or_zero, asked_by, asked_to, read_words, part_reads, packed_in, part_lanes, local_position}
use Rattle.plan_reads.specs.ReadsReady.{planned_number, AllNarrow, AllPlanned, SetInForm}
use Rattle.reads_local.specs.Bases.{store_lanes, local_by}
use Rattle.plan_reads.specs.Entries.{first_entry, NumberedAt, AllNumbered}
use Rattle.plan_reads.proofs.AskedLaws.{slot_asks, asked_to_few}
use Rattle.plan_reads.proofs.SearchedLaws.{in_search, won_sound}
use Rattle.reads_local.proofs.LocalPositionLaws.{local_is}

-- ---- the set of a part is in form

pub words_form : (d : List ℕ) (p : ℕ) → AllNarrow (asked_to d p (slots_of d)) → SetInForm (read_words d p)
unfolding read_words
words_form d p narrow = record {
  few = omega (arith, set_length_le (asked_to d p (slots_of d)), asked_to_few d p (slots_of d), lanes_range d);
  form = set-form (asked_to d p (slots_of d)) (λ i l. omega (arith, (narrow i l).place, (narrow i l).small));
}

pub words_small : (d : List ℕ) (p : ℕ) → AllNarrow (asked_to d p (slots_of d)) → (x : ℕ) → get_or (read_words d p) x 0 < 2 ^ 32
unfolding read_words
words_small d p narrow = set_small (asked_to d p (slots_of d)) (λ i l. (narrow i l).small)

-- ---- a slot's bit is asked for

pub asked_in : (d : List ℕ) (p n j : ℕ) (y : Planned) → j < n → (level_at d p 0 j ≡ empty → ⊥) → planned d (level_at d p 0 j) ≡ some y
    → (i : ℕ) × (i < length (asked_to d p n)) × (get_or (asked_to d p n) i 0 ≡ bit_number y)
unfolding asked_to asked_by
asked_in d p zero j y h full e = absurd (not-suc-le-zero h)
asked_in d p (suc n) j y h full e = ⊎_elim last (earlier (λ s. asked_in d p n j y s full e)) (lt_or_ge n j)
  where
    size : length (asked_to d p n ++ slot_asks d p n) ≡ length (asked_to d p n) + length (slot_asks d p n)
    size = length-append (asked_to d p n) (slot_asks d p n)

    last : n < j → (i : ℕ) × (i < length (asked_to d p (suc n))) × (get_or (asked_to d p (suc n)) i 0 ≡ bit_number y)
    last l = absurd (omega arith)

    earlier : (j < n → (i : ℕ) × (i < length (asked_to d p n)) × (get_or (asked_to d p n) i 0 ≡ bit_number y)) → j ≤ n → (i : ℕ) × (i < length (asked_to d p (suc n))) × (get_or (asked_to d p (suc n)) i 0 ≡ bit_number y)
    earlier before l = ⊎_elim
        (λ s.
        let one : slot_asks d p n ≡ bit_number y ∷ [] = rw (← s, ne_eqb _ _ full, e, asked_by) in
        (length (asked_to d p n), omega (arith, size, ap length one), ap (λ (v : List ℕ). get_or (asked_to d p n ++ v) (length (asked_to d p n)) 0) one ∙ get_or_at (asked_to d p n) (bit_number y) [] 0 (length (asked_to d p n)) refl))
        (λ s.
        let (i, k, g) = before s in
        (i, omega (arith, size), get_or-append (asked_to d p n) (slot_asks d p n) 0 i k ∙ g))
        (eq-or-lt_of_le l)

-- ---- a part that was searched, with its lanes in the table

is_planned : (o : Option Planned) → (o ≡ none → ⊥) → (y : Planned) × (o ≡ some y)
is_planned none h = absurd (h refl)
is_planned (some y) h = (y, refl)

module _ (d : List ℕ) (p : ℕ) (narrow : AllNarrow (asked_to d p (slots_of d))) {K S n : ℕ} {t : ℕ} (s : Solvable t K S n) (x : Packed) (found : part_reads n d p ≡ good x) where
  pub part_found : lanes_of n (pairs_of (read_words d p)) ≡ some x.lanes
  unfolding part_reads
  part_found = placed_lanes n (pairs_of (read_words d p)) x found

  pub part_win : (table : List ℕ) → table ≡ table_after n (lanes_of n (pairs_of (read_words d p))) → length table ≡ 32 * n → Win (read_words d p) table n
  part_win table e long = win_of (in_search (words_form d p narrow) s (words_small d p narrow)) x.lanes table part_found e long

  -- the table says the part's lanes
  pub part_lanes_lem : (table : List ℕ) → table ≡ table_after n (lanes_of n (pairs_of (read_words d p))) → length table ≡ 32 * n → lanes_at (read_words d p) table n ≡ part_lanes n d p
  part_lanes_lem table e long =
      let w = part_win table e long in
      let twice : some w.lanes ≡ some x.lanes = sym w.found ∙ part_found in
      let one : w.lanes ≡ x.lanes = cc in
      w.same ∙ (one ∙ ap (λ (o : Answer Packed). (packed_in o).lanes) (sym found))

  -- the pins of the slots are found at their local positions
  pub part_numbered : (table bases : List ℕ) → table ≡ table_after n (lanes_of n (pairs_of (read_words d p))) → length table ≡ 32 * n → length (read_words d p) / 2 ≤ length bases
      → AllPlanned d p → AllNumbered n d p (read_words d p) (store_lanes 0 (lanes_at (read_words d p) table n) bases)
  unfolding read_words local_position
  part_numbered table bases e long room all j l full =
      let ws = read_words d p in
      let w = part_win table e long in
      let at = lanes_at ws table n in
      let sound : Sound n (pairs_of ws) (record { size = size_of n (pairs_of ws); lanes = at }) = rw w.same (won_sound (words_form d p narrow) s (words_small d p narrow) w.lanes w.found) in
      let (y, is) = is_planned (planned d (level_at d p 0 j)) (all j l full) in
      let (i, k, g) = asked_in d p (slots_of d) j y l full is in
      let asked : Requested (pairs_of ws) (bit_number y / 32) (bit_number y % 32) = rw g at (set_requests (asked_to d p (slots_of d)) i k) in
      let here = local_is n ws at s.few-lanes sound w.readable.filled.kept bases room (bit_number y) asked in
      let same : at ≡ part_lanes n d p = part_lanes_lem table e long in
      record {
        placeable = rw is here.placeable;
        is = rw is (ap or_zero (sym here.is) ∙ ap (λ (ls : List Lane). or_zero (local_of ls (bit_number y / 32) (bit_number y % 32))) same);
        below = rw is here.below;
      }

-- ---- the entries

pub entry_empty : (d : List ℕ) (p i : ℕ) → level_at d p 0 i ≡ empty → (0 ≡ first_entry (plan_lanes d) d p i) × (0 < slots_of d)
unfolding first_entry
entry_empty d p i h = (rw (eq-eqb _ _ h, first_entry), omega (arith, lanes_range d))

pub entry_local : (d set bases : List ℕ) (p i x q r : ℕ) → x ≡ level_at d p 0 i → (x ≡ empty → ⊥) → NumberedAt (plan_lanes d) d p set bases i → q ≡ planned_number (planned d x) → r ≡ local_by set bases q
    → (r ≡ first_entry (plan_lanes d) d p i) × (r < slots_of d)
unfolding first_entry
entry_local d set bases p i x q r is full at eq er =
    let e : r ≡ local_by set bases (planned_number (planned d (level_at d p 0 i))) = er ∙ ap (local_by set bases) (eq ∙ ap (λ (y : ℕ). planned_number (planned d y)) is) in
    (e ∙ (at.is ∙ rw (ne_eqb (level_at d p 0 i) empty (λ z. full (is ∙ z)), first_entry)), omega (arith, e, at.below))

pub entries_on : (f : ℕ → ℕ) (m : ℕ) (l : List ℕ) (i v : ℕ) → i < length l → ((k : ℕ) → k < i → (get_or l k 0 ≡ f k) × (f k < m)) → (v ≡ f i) × (v < m)
    → (k : ℕ) → k < i + 1 → (get_or (set l i v) k 0 ≡ f k) × (f k < m)
entries_on f m l i v room so_far new k h = ⊎_elim
    (λ s. (get_or-set_other l i k v 0 (λ e. omega arith) ∙ (so_far k s).0, (so_far k s).1))
    (λ s.
    let e : k ≡ i = omega arith in
    rw e (get_or-set_same l i v 0 room ∙ new.0, omega (arith, new.0, new.1)))
    (lt_or_ge k i)

-- ---- refusal 12 excluded: each pin that a part reads has a planned position

pub all_planned : (d : List ℕ) → refusal12 d ≡ none → (p : ℕ) → p < parts_of d → AllPlanned d p
unfolding refusal12 twelve_right position_right
all_planned d h p l j k full e =
    let right = not_none (twelve_right d p) (slots_of d) (lowest_none _ (parts_of d) h p l) j k in
    let wrong : twelve_right d p j ≡ false = rw (ne_eqb _ _ full, e, twelve_right, position_right) in
    let z : true ≡ false = sym right ∙ wrong in
    let q : ◌≡◌ {A = ℕ} 0 1 = cc in
    omega arith
