-- What becomes of a part: which outcome each way through the code has, and that a good part's lanes lie in the table.
-- Assumes nothing.
use mathlib.Core.Path.{◌≡◌, sym, ◌∙◌}
use mathlib.Core.Bool.{true, false}
use mathlib.Core.Logic.{◌⊎◌, ⊎_elim}
use mathlib.Core.Option.{none, some}
use mathlib.Core.List.{List}
use Prim.Native.Nat.{ℕ, ◌≤◌, ◌<◌}
use native.Mathlib.Omega.{arith}
use Rattle.std.specs.Prelude.{⊤, Ok, Err}
use Rattle.std.specs.declared.result.Result.{Result}
use borrow.Author.Tests.{le-leb, lt-leb, lt-ltb, le-ltb}
use lib.Dec.{leb}
use lib.ListN.{length}
use Rattle.words.specs.Answer.{Answer, good, refused, at_item, nowhere}
use Rattle.words.specs.declared.refusals.Refusal.{Refusal}
use Rattle.words.proofs.AnswerLaws.{refused_good}
use Rattle.reads.specs.ReadSet.{pairs_of, broken}
use Rattle.reads.specs.SetAnswer.{Packed, read_set}
use Rattle.reads_try.specs.TableLanes.{lanes_at}
use Rattle.reads_try.proofs.SetPairLaws.{pairs_length}
use Rattle.reads_section.specs.Readout.{TableReadable}
use Rattle.handed_lanes.specs.Handed.{lanes_in, fault, told_item, judged, handed_packed, handed_set}
use Rattle.handed.proofs.HandedLaws.{faultless_judged}
use Rattle.report.specs.Report.{part_given, part_outcome}
use Rattle.report_part.specs.PartOutcome.{outcome_of, LanesLie}

-- what is promised of a part with outcome o
abbrev pub Became : ℕ → List ℕ → Answer Packed → Result ⊤ Refusal → List ℕ → Type 0
Became n set o r table = (r ≡ outcome_of o) × LanesLie n set table o

pub became_refused : (n : ℕ) (set : List ℕ) (o : Answer Packed) (q : Refusal) (table : List ℕ) → o ≡ refused q → Became n set o (Err q) table
became_refused n set o q table e = (rw e, λ x f. refused_good q x (sym e ∙ f))

pub became_placed : (n : ℕ) (set : List ℕ) (o : Answer Packed) (x : Packed) (table : List ℕ) → o ≡ good x
    → TableReadable set table n × (lanes_at set table n ≡ x.lanes) → Became n set o (Ok tt) table
became_placed n set o x table e lie = (rw e, λ y f. let same : x ≡ y = cc (e, f) in rw (← same) lie)

module _ (n : ℕ) (set : List ℕ) where
  -- ---- our own search: 1, 2, then what it says

  pub own_many : 16384 < length set → read_set n (pairs_of set) ≡ refused (nowhere 1)
  unfolding read_set
  own_many h = rw (lt-leb (length (pairs_of set)) 8192 (omega (arith, pairs_length 0 set)), read_set)

  module _ (few : length set ≤ 16384) where
    pairs-few : leb (length (pairs_of set)) 8192 ≡ true
    pairs-few = le-leb (length (pairs_of set)) 8192 (omega (arith, pairs_length 0 set))

    pub own_bad : (i : ℕ) → broken (pairs_of set) ≡ some i → read_set n (pairs_of set) ≡ refused (at_item 2 i)
    unfolding read_set
    own_bad i e = rw (pairs-few, e, read_set)

    -- ---- lanes handed in: 1, 2, 3, 27

    pub handed_bad : (ws : List ℕ) (i : ℕ) → broken (pairs_of set) ≡ some i → handed_set n (pairs_of set) ws ≡ refused (at_item 2 i)
    unfolding handed_set
    handed_bad ws i e = rw (pairs-few, e, handed_set)

    module _ (ws : List ℕ) (form : broken (pairs_of set) ≡ none) where
      is-packed : handed_set n (pairs_of set) ws ≡ handed_packed n (pairs_of set) ws
      unfolding handed_set
      is-packed = rw (pairs-few, form, handed_set)

      pub handed_empty : length set ≡ 0 → handed_set n (pairs_of set) ws ≡ refused (nowhere 3)
      unfolding handed_packed
      handed_empty z = is-packed ∙ rw (le-ltb 0 (length (pairs_of set)) (omega (arith, pairs_length 0 set)), handed_packed)

      module _ (some_words : length set ≡ 0 → ⊥) where
        is-judged : handed_set n (pairs_of set) ws ≡ judged n (pairs_of set) (lanes_in (pairs_of set) ws)
        unfolding handed_packed
        is-judged =
            let some_pairs : 0 < length (pairs_of set) = omega (arith, pairs_length 0 set) in
            is-packed ∙ rw (lt-ltb 0 (length (pairs_of set)) some_pairs, handed_packed)

        pub handed_fault : (i : ℕ) → told_item (fault n (pairs_of set) (lanes_in (pairs_of set) ws)) ≡ some i → handed_set n (pairs_of set) ws ≡ refused (at_item 27 i)
        unfolding judged
        handed_fault i e = is-judged ∙ rw (e, judged)

        pub handed_fine : fault n (pairs_of set) (lanes_in (pairs_of set) ws) ≡ none → handed_set n (pairs_of set) ws ≡ good (record { size = 0; lanes = lanes_in (pairs_of set) ws })
        handed_fine e = is-judged ∙ faultless_judged n (pairs_of set) (lanes_in (pairs_of set) ws) e

  pub handed_many : (ws : List ℕ) → 16384 < length set → handed_set n (pairs_of set) ws ≡ refused (nowhere 1)
  unfolding handed_set
  handed_many ws h = rw (lt-leb (length (pairs_of set)) 8192 (omega (arith, pairs_length 0 set)), handed_set)

  -- ---- a part: 5, then one of the two

  part_none : (lanes : List ℕ) (stages : ℕ) → stages ≡ 0 → part_outcome n (part_given set lanes stages) ≡ refused (nowhere 5)
  unfolding part_outcome
  part_none lanes stages e =
      let low : leb 1 stages ≡ false = lt-leb 1 stages (omega arith) in
      rw (low, part_outcome)

  part_many : (lanes : List ℕ) (stages : ℕ) → (stages ≡ 0 → ⊥) → 255 < stages → part_outcome n (part_given set lanes stages) ≡ refused (nowhere 5)
  unfolding part_outcome
  part_many lanes stages h l =
      let some_stages : leb 1 stages ≡ true = le-leb 1 stages (omega arith) in
      rw (some_stages, lt-leb stages 255 l, part_outcome)

  pub part_wrong : (lanes : List ℕ) (stages : ℕ) → (stages ≡ 0) ⊎ ((stages ≡ 0 → ⊥) × (255 < stages)) → part_outcome n (part_given set lanes stages) ≡ refused (nowhere 5)
  part_wrong lanes stages e = ⊎_elim (λ z. part_none lanes stages z) (λ h. part_many lanes stages h.0 h.1) e

  module _ (lanes : List ℕ) (stages : ℕ) (some_stages : stages ≡ 0 → ⊥) (few : stages ≤ 255) where
    least : leb 1 stages ≡ true
    least = le-leb 1 stages (omega arith)

    pub part_own : length lanes ≡ 0 → part_outcome n (part_given set lanes stages) ≡ read_set n (pairs_of set)
    unfolding part_outcome
    part_own z = rw (least, le-leb stages 255 few, le-ltb 0 (length lanes) (omega arith), part_outcome)

    pub part_handed : (length lanes ≡ 0 → ⊥) → part_outcome n (part_given set lanes stages) ≡ handed_set n (pairs_of set) lanes
    unfolding part_outcome
    part_handed h = rw (least, le-leb stages 255 few, lt-ltb 0 (length lanes) (omega arith), part_outcome)

pub became_same : (n : ℕ) (set : List ℕ) (o d : Answer Packed) (r : Result ⊤ Refusal) (table : List ℕ) → d ≡ o → Became n set o r table → Became n set d r table
became_same n set o d r table e b = rw e b
