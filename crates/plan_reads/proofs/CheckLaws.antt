-- What a part's answer says of refusals 3, 21, 22 and 4, and what a pass over the parts keeps.
-- Assumes nothing.
use mathlib.Core.Path.{◌≡◌, refl, sym, ap, ◌∙◌}
use mathlib.Core.Bool.{Bool, true, false}
use mathlib.Core.Option.{Option, none, some}
use mathlib.Core.List.{List, ◌++◌}
use Prim.Native.Nat.{ℕ, ◌+◌, ◌*◌, ◌-◌, ◌≤◌, ◌<◌}
use native.Mathlib.Omega.{arith}
use borrow.Author.Tests.{eqb-true}
use lib.Dec.{eqb}
use lib.ListN.{length, set, take, drop, replicate, length-append, take-append-drop}
use lib.Seq.{sets, length-take-le, drop_at, get_or-take, ext_get_or}
use Rattle.reads.specs.ReadSet.{Pair, pairs_of}
use Rattle.reads.specs.Search.{Found, won, ended, found_of, last_word, longest}
use Rattle.words.specs.Answer.{Answer, good, refused, at_item, nowhere}
use Rattle.reads.specs.SetAnswer.{Packed, searched, packed}
use Rattle.reads.proofs.SetAnswerLaws.{Came, at_three, at_bits, at_wide, at_search, came}
use Rattle.reads_asked.proofs.FrontStoreLaws.{take-front}
use Rattle.rounds.specs.declared.Placed.{Placed}
use Rattle.rounds.specs.Rounds.{rounds_of, Solvable}
use Rattle.plan_record.specs.Record.{plan_lanes, slots_of, parts_of, body_at}
use Rattle.std.specs.Prelude.{⊤, Some, None, Err, is_some}
use Rattle.std.specs.declared.option.Option as code
use Rattle.std.specs.declared.result.Result.{Result}
use Rattle.words.specs.declared.found.Place as found
use Rattle.words.specs.Found.{item_of, lowest_of}
use Rattle.words.specs.Tests.{Place, lowest_from}
use Rattle.words.proofs.TestLaws.{some_not_none, lowest_fault, lowest_end}
use Rattle.words.proofs.FoundLaws.{item_some, pass_start, pass_fault, pass_next, pass_end}
use Rattle.plan_rows.specs.Columns as col
use Rattle.plan_rows.specs.Rows.{cell}
use Rattle.plan_reads.specs.PartReads.{packed_in, asked_to, read_words, part_reads, part_packed, part_size, bad_reads, refused_reads}
use Rattle.plan_reads.specs.ReadsReady.{AllNarrow, SetRoom, SetInForm, ClearRoom}
use Rattle.words.specs.declared.refusals.Refusal.{Refusal}
use Rattle.plan_reads.specs.declared.check.Unread.{Unread}
use Rattle.plan_reads.specs.declared.check.Unread.TheVariants as unread
use Rattle.plan_reads.specs.declared.check.Firsts.{Firsts}
use Rattle.plan_reads.specs.PartReadAnswers.{refused_at, place_of, first_after, FirstsAfter, reads_told, firsts_told, checked_of, rounds_kept, size_kept, rounds_in, parts_up_to, read_rows, searched_room}
use Rattle.plan_reads.proofs.ReadRowLaws.{read_more, read_long, read_low}
use Rattle.plan_reads.proofs.FirstEntryLaws.{words_form}

-- ---- one part

module _ (d : List ℕ) (p : ℕ) (set₀ set' : List ℕ) (n : ℕ) (count : (n ≡ length (read_words d p)) × (n ≤ 16384)) (holds : set' ≡ sets set₀ 0 (read_words d p)) (room : 16384 ≤ length set₀) where
  pub set_front : take n set' ≡ read_words d p
  set_front = rw (holds, count.0) (take-front set₀ (read_words d p) (omega arith))

  pub set-size : n ≡ length (take n set')
  set-size = count.0 ∙ sym (ap length set_front)

  pub set_in_form : AllNarrow (asked_to d p (slots_of d)) → SetInForm (take n set')
  set_in_form narrow = rw set_front (words_form d p narrow)

  pub set_reads : (lanes : ℕ) → lanes ≡ plan_lanes d → (r : Result Placed Refusal) → r ≡ rounds_of (packed lanes (pairs_of (take n set'))) → r ≡ rounds_of (part_reads (plan_lanes d) d p)
  unfolding part_reads
  set_reads lanes are r e = (rw set_front at e) ∙ ap (λ (k : ℕ). rounds_of (packed k (pairs_of (read_words d p)))) are

pub part_solvable : (lanes : ℕ) → 128 ≤ lanes → lanes ≤ 256 → (room : List ℕ) (K S K' S' : ℕ) (set : ℕ) → length room ≡ 32768 → SetRoom K S set → K' ≡ K → S' ≡ S
    → Solvable (length (take (32 * lanes) room)) K' S' lanes
part_solvable lanes least few room K S K' S' set n r k s =
    let t : length (take (32 * lanes) room) ≡ 32 * lanes = length-take-le (32 * lanes) room (omega arith) in
    record { room = t; some_lanes = omega arith; few-lanes = omega arith; keys-room = omega (arith, r.keys-room); scratch-room = omega (arith, r.scratch-room) }

-- ---- what an outcome says of the four numbers

-- the search refuses with 3, 21, 22 or 4, and only with 4 at another item than 0
pub data SearchAnswered (o : Answer Packed) : Type 0 where
  three : o ≡ refused (nowhere 3) → SearchAnswered o
  bits : o ≡ refused (nowhere 21) → SearchAnswered o
  wide : o ≡ refused (nowhere 22) → SearchAnswered o
  four : (w : ℕ) → o ≡ refused (at_item 4 w) → SearchAnswered o
  rounds : (x : Packed) → o ≡ good x → SearchAnswered o

pub answered : (n : ℕ) (ps : List Pair) → SearchAnswered (packed n ps)
unfolding searched
answered n ps = go (came n ps)
  where
    searching : packed n ps ≡ searched n ps → (o : Found) → found_of n ps ≡ o → SearchAnswered (packed n ps)
    searching q ended f = four (last_word n ps) (q ∙ rw (f, searched))
    searching q (won k lanes) f = rounds (record { size = k; lanes = lanes }) (q ∙ rw (f, searched))

    go : Came n ps → SearchAnswered (packed n ps)
    go (at_three q) = three q
    go (at_bits q) = bits q
    go (at_wide q) = wide q
    go (at_search h l m q) = searching q (found_of n ps) refl

abbrev pub bad : ℕ → List ℕ → ℕ → Option ℕ
bad k d p = bad_reads k (part_reads (plan_lanes d) d p)

-- a part that none refuses has lanes
pub placed_part : (n : ℕ) (d : List ℕ) (p : ℕ) → bad_reads 3 (part_reads n d p) ≡ none → bad_reads 21 (part_reads n d p) ≡ none → bad_reads 22 (part_reads n d p) ≡ none
    → bad_reads 4 (part_reads n d p) ≡ none → part_reads n d p ≡ good (part_packed n d p)
unfolding bad_reads part_reads
placed_part n d p a b w f = go (answered n (pairs_of (read_words d p)))
  where
    go : SearchAnswered (part_reads n d p) → part_reads n d p ≡ good (part_packed n d p)
    go (three q) = absurd (some_not_none (rw (q, bad_reads) at a))
    go (bits q) = absurd (some_not_none (rw (q, bad_reads) at b))
    go (wide q) = absurd (some_not_none (rw (q, bad_reads) at w))
    go (four x q) = absurd (some_not_none (rw (q, bad_reads) at f))
    go (rounds x q) = rw q

-- only 4 is told at another item than 0
chosen : (t : Bool) (j i : ℕ) → elim t [ true ↦ some j | false ↦ none ] ≡ some i → (t ≡ true) × (j ≡ i)
chosen true j i e = (refl, cc)
chosen false j i e = let z : ◌≡◌ {A = ℕ} 0 1 = cc in absurd (omega arith)

pub zero_item : (k : ℕ) → (4 ≡ k → ⊥) → (d : List ℕ) (p i : ℕ) → bad k d p ≡ some i → i ≡ 0
unfolding bad_reads part_reads
zero_item k other d p i e = go (answered (plan_lanes d) (pairs_of (read_words d p)))
  where
    go : SearchAnswered (part_reads (plan_lanes d) d p) → i ≡ 0
    go (three q) = sym (chosen (eqb 3 k) 0 i (rw (q, bad_reads) at e)).1
    go (bits q) = sym (chosen (eqb 21 k) 0 i (rw (q, bad_reads) at e)).1
    go (wide q) = sym (chosen (eqb 22 k) 0 i (rw (q, bad_reads) at e)).1
    go (four w q) = absurd (other (eqb-true 4 k (chosen (eqb 4 k) w i (rw (q, bad_reads) at e)).0))
    go (rounds x q) =
        let s : none ≡ some i = rw (q, bad_reads) at e in
        let z : ◌≡◌ {A = ℕ} 0 1 = cc in
        absurd (omega arith)

-- ---- a pass over the parts

-- what a part is refused at with k, by its answer
refused_is : (k : ℕ) (o : Answer Packed) → refused_at k (rounds_of o) ≡ item_of (bad_reads k o)
unfolding bad_reads
refused_is k (good x) = refl
refused_is k (refused q) = go (eqb q.number k)
  where
    go : (t : Bool) → elim t as (λ u. code.Option ℕ) [ true ↦ Some q.item | false ↦ None ] ≡ item_of (elim t [ true ↦ some q.item | false ↦ none ])
    go true = refl
    go false = refl

-- the first place refused with k is told, or is to be found from part p on
abbrev pub Late : ℕ → List ℕ → code.Option found.Place → ℕ → Type 0
Late k d None p = lowest_from (bad k d) (parts_of d - p) p ≡ refused_reads (plan_lanes d) k d
Late k d (Some x) p = Some x ≡ lowest_of (refused_reads (plan_lanes d) k d)

late_start : (k : ℕ) (d : List ℕ) → Late k d None 0
unfolding refused_reads
late_start k d = pass_start (bad k d) (parts_of d)

late_on : (k : ℕ) (d : List ℕ) (first : code.Option found.Place) (p : ℕ) (r : Result Placed Refusal) → p < parts_of d → refused_at k r ≡ item_of (bad k d p)
    → Late k d first p → Late k d (first_after k first p r) (p + 1)
late_on k d (Some x) p r here asked pass = pass
late_on k d None p r here asked pass = go (refused_at k r) asked
  where
    go : (q : code.Option ℕ) → q ≡ item_of (bad k d p) → Late k d (place_of p q) (p + 1)
    go None e = pass_next (bad k d) (parts_of d) p _ pass here None e refl
    go (Some i) e = pass_fault (bad k d) (parts_of d) p _ pass here (Some i) e i refl

late_end : (k : ℕ) (d : List ℕ) (first : code.Option found.Place) (p : ℕ) → parts_of d ≤ p → Late k d first p → first ≡ lowest_of (refused_reads (plan_lanes d) k d)
late_end k d (Some x) p all pass = pass
late_end k d None p all pass = pass_end (bad k d) (parts_of d) p _ pass all

pub record Passing (d : List ℕ) (at : ℕ) (f : Firsts) (p : ℕ) : Type 0 where
  pub place : at ≡ body_at d p
  pub early : lowest_from (bad 3 d) (parts_of d - p) p ≡ refused_reads (plan_lanes d) 3 d
  pub bits : Late 21 d f.bits p
  pub wide : Late 22 d f.wide p
  pub stuck : Late 4 d f.stuck p

pub passing_start : (d : List ℕ) (at : ℕ) → at ≡ body_at d 0 → Passing d at (record { bits = None; wide = None; stuck = None }) 0
passing_start d at e = record { place = e; early = late_start 3 d; bits = late_start 21 d; wide = late_start 22 d; stuck = late_start 4 d }

-- the four tests of a plan, in their order
abbrev pub all_checked : List ℕ → Result ⊤ Unread
all_checked d = checked_of (refused_reads (plan_lanes d) 3 d) (refused_reads (plan_lanes d) 21 d) (refused_reads (plan_lanes d) 22 d) (refused_reads (plan_lanes d) 4 d)

module _ (d : List ℕ) (at : ℕ) (f : Firsts) (p : ℕ) (here : p < parts_of d) (pass : Passing d at f p) (r : Result Placed Refusal)
    (is : r ≡ rounds_of (part_reads (plan_lanes d) d p)) where
  asked : (k : ℕ) → refused_at k r ≡ item_of (bad k d p)
  asked k = ap (refused_at k) is ∙ refused_is k (part_reads (plan_lanes d) d p)

  pub passing_place : (q : code.Option ℕ) → q ≡ refused_at 3 r → is_some q ≡ true → (i : ℕ) × (refused_reads (plan_lanes d) 3 d ≡ some (record { part = p; item = i }))
  passing_place (Some i) e t = (i, sym pass.early ∙ lowest_fault (bad 3 d) (parts_of d) p i here (item_some (bad 3 d p) i (sym (e ∙ asked 3))))
  passing_place None e t = let z : ◌≡◌ {A = ℕ} 0 1 = cc in absurd (omega arith)

  pub passing_fault : (q : code.Option ℕ) → q ≡ refused_at 3 r → is_some q ≡ true → Err (unread.Nothing p) ≡ all_checked d
  passing_fault q e t = rw (passing_place q e t).1

  pub passing_on : (q : code.Option ℕ) → q ≡ refused_at 3 r → is_some q ≡ false → (g : Firsts) (at' : ℕ) → FirstsAfter f p r g → at' ≡ body_at d (p + 1) → Passing d at' g (p + 1)
  passing_on q e t g at' after ea = record {
    place = ea;
    early = next q (e ∙ asked 3) t;
    bits = rw after.bits (late_on 21 d f.bits p r here (asked 21) pass.bits);
    wide = rw after.wide (late_on 22 d f.wide p r here (asked 22) pass.wide);
    stuck = rw after.stuck (late_on 4 d f.stuck p r here (asked 4) pass.stuck);
  }
    where
      next : (q : code.Option ℕ) → q ≡ item_of (bad 3 d p) → is_some q ≡ false → lowest_from (bad 3 d) (parts_of d - (p + 1)) (p + 1) ≡ refused_reads (plan_lanes d) 3 d
      next None e t = pass_next (bad 3 d) (parts_of d) p _ pass.early here None e refl
      next (Some i) e t = let z : ◌≡◌ {A = ℕ} 0 1 = cc in absurd (omega arith)

told_is : (b w f : Option Place) → reads_told (lowest_of b) (lowest_of w) (lowest_of f) ≡ checked_of none b w f
told_is (some x) w f = refl
told_is none (some x) f = refl
told_is none none (some x) = refl
told_is none none none = refl

module _ (d : List ℕ) (at : ℕ) (f : Firsts) (p : ℕ) (all : parts_of d ≤ p) (pass : Passing d at f p) where
  pub none_early : refused_reads (plan_lanes d) 3 d ≡ none
  none_early = sym pass.early ∙ lowest_end (bad 3 d) (parts_of d) p all

  pub passed_told : firsts_told f ≡ all_checked d
  passed_told =
      rw (late_end 21 d f.bits p all pass.bits, late_end 22 d f.wide p all pass.wide, late_end 4 d f.stuck p all pass.stuck, none_early)
      (told_is (refused_reads (plan_lanes d) 21 d) (refused_reads (plan_lanes d) 22 d) (refused_reads (plan_lanes d) 4 d))

-- ---- the room's first part, used and cleared

module _ (room part : List ℕ) (wide : 65536 ≤ length room) (kept : length part ≡ length (take 32768 room)) where
  part-size : length part ≡ 32768
  part-size = kept ∙ length-take-le 32768 room (omega arith)

  pub clear_size : 32768 ≡ length (take 32768 (part ++ drop 32768 room))
  clear_size = sym (length-take-le 32768 (part ++ drop 32768 room) (omega (arith, length-append part (drop 32768 room), part-size)))

  pub clear_room : (z : List ℕ) → z ≡ replicate (length (take 32768 (part ++ drop 32768 room))) 0
      → z ++ drop 32768 (part ++ drop 32768 room) ≡ replicate 32768 0 ++ drop 32768 room
  clear_room z e =
      ap (λ (l : List ℕ). l ++ drop 32768 (part ++ drop 32768 room)) (e ∙ ap (λ (n : ℕ). replicate n 0) (sym clear_size))
      ∙ ap (λ (l : List ℕ). replicate 32768 0 ++ l) (drop_at part (drop 32768 room) 32768 part-size)

  pub clear_back : take 32768 room ≡ replicate 32768 0 → (z : List ℕ) → z ≡ replicate (length (take 32768 (part ++ drop 32768 room))) 0
      → z ++ drop 32768 (part ++ drop 32768 room) ≡ room
  clear_back c z e = clear_room z e ∙ (ap (λ (l : List ℕ). l ++ drop 32768 room) (sym c) ∙ take-append-drop 32768 room)

pub roomy : (d room : List ℕ) → ClearRoom d room → 65536 ≤ length room
roomy d room c = omega (arith, c.wide)

-- ---- the rounds and the piece size

pub rounds_are : (o : Answer Packed) → rounds_kept (rounds_of o) ≡ longest (packed_in o).lanes
unfolding longest
rounds_are (good x) = refl
rounds_are (refused q) = refl

pub size_is : (o : Answer Packed) → size_kept (rounds_of o) ≡ (packed_in o).size
size_is (good x) = refl
size_is (refused q) = refl

module _ (d room₀ room : List ℕ) (p : ℕ) (is : room ≡ read_rows d room₀ p) where
  pub rows_long : length room ≡ length room₀
  rows_long = ap length is ∙ read_long d room₀ p

  pub rows_clear : ClearRoom d room₀ → ClearRoom d room
  rows_clear c = record { wide = omega (arith, rows_long, c.wide); clear = ap (take 32768) is ∙ (front ∙ c.clear) }
    where
      long : length (take 32768 (read_rows d room₀ p)) ≡ 32768
      long = length-take-le 32768 (read_rows d room₀ p) (omega (arith, read_long d room₀ p, c.wide))

      front : take 32768 (read_rows d room₀ p) ≡ take 32768 room₀
      front =
          ext_get_or 0 _ _ (long ∙ sym (length-take-le 32768 room₀ (omega (arith, c.wide))))
          (λ i l.
          let u : i < 32768 = omega (arith, long) in
          get_or-take 32768 (read_rows d room₀ p) i 0 u ∙ (read_low d room₀ p i (omega arith) ∙ sym (get_or-take 32768 room₀ i 0 u)))

  pub row_inside : ClearRoom d room₀ → p < parts_of d → cell p col.piece_size < length room
  row_inside c l = omega (arith, rows_long, c.wide)

  pub rows_more : (r : Result Placed Refusal) → r ≡ rounds_of (part_reads (plan_lanes d) d p)
      → set (set room (cell p col.rounds) (rounds_kept r)) (cell p col.piece_size) (size_kept r) ≡ read_rows d room₀ (p + 1)
  rows_more r e =
      let m : rounds_kept r ≡ rounds_in d p = ap rounds_kept e ∙ rounds_are (part_reads (plan_lanes d) d p) in
      let k : size_kept r ≡ part_size (plan_lanes d) d p = ap size_kept e ∙ size_is (part_reads (plan_lanes d) d p) in
      rw (is, m, k) (sym (read_more d room₀ p))

-- the parts that were searched, all of them or those before the first with nothing to read
pub rows_fault : (d room₀ room : List ℕ) (p i : ℕ) → room ≡ read_rows d room₀ p → refused_reads (plan_lanes d) 3 d ≡ some (record { part = p; item = i }) → room ≡ searched_room d room₀
unfolding searched_room
rows_fault d room₀ room p i is e = is ∙ ap (λ (o : Option Place). read_rows d room₀ (parts_up_to o (parts_of d))) (sym e)

pub rows_all : (d room₀ room : List ℕ) (p : ℕ) → room ≡ read_rows d room₀ p → p ≡ parts_of d → refused_reads (plan_lanes d) 3 d ≡ none → room ≡ searched_room d room₀
unfolding searched_room
rows_all d room₀ room p is n e = is ∙ (ap (read_rows d room₀) n ∙ ap (λ (o : Option Place). read_rows d room₀ (parts_up_to o (parts_of d))) (sym e))
