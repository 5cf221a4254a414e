-- What the code's tests say of two sets, when there is room for any join of them, and how it tells the answer.
-- Assumes nothing.
use mathlib.Core.Path.{◌≡◌, refl, ap, ◌∙◌}
use Rattle.std.specs.Prelude.{Ok, Err}
use mathlib.Core.Bool.{true, ◌&&◌}
use mathlib.Core.Option.{Option, none, some}
use mathlib.Core.List.{List}
use Prim.Native.Nat.{ℕ, ◌≤◌}
use native.Mathlib.Omega.{arith}
use borrow.Author.Tests.{leb-true}
use lib.Dec.{leb}
use lib.ListN.{length}
use lib.Seq.{sets}
use Rattle.words.specs.Answer.{Answer, good, refused, result_of}
use Rattle.words.specs.declared.refusals.Refusal.{Refusal}
use Rattle.words.proofs.TestLaws.{and_true}
use Rattle.reads.specs.ReadSet.{pairs_of}
use Rattle.reads_try.proofs.SetPairLaws.{pairs_length}
use Rattle.joins_sets.specs.Join.{join_after}
use Rattle.joins_sets.proofs.JoinKeptLaws.{formed_set}
use Rattle.joins_sets.proofs.JoinAnswerLaws.{FineSet}
use Rattle.joins.specs.Merge.{pairs_count, tested_of, fits_of, Joinable}

-- ---- a set by itself, then both

pub tested_bad : (o : Option Refusal) (q : Refusal) → tested_of o ≡ Err q → o ≡ some q
tested_bad none q e = let z : ◌≡◌ {A = ℕ} 0 1 = cc in absurd (omega arith)
tested_bad (some p) q e = let f : p ≡ q = cc in ap some f

pub tested_fine : (o : Option Refusal) → tested_of o ≡ Ok tt → o ≡ none
tested_fine none e = refl
tested_fine (some p) e = let z : ◌≡◌ {A = ℕ} 0 1 = cc in absurd (omega arith)

pub joinable : {a b : List ℕ} → FineSet a → FineSet b → Joinable a b
joinable {a} {b} p q = record {
  first = (formed_set a p.form).rising;
  second = (formed_set b q.form).rising;
  first-few = omega (arith, p.few, pairs_length 0 a);
  second-few = omega (arith, q.few, pairs_length 0 b);
}

-- ---- room for both sets

module _ (words room : ℕ) where
  pub roomy_true : (leb words 16384 && leb words room) ≡ true → (words ≤ 16384) × (words ≤ room)
  roomy_true e = let both = and_true (leb words 16384) (leb words room) e in (leb-true words 16384 both.0, leb-true words room both.1)

-- ---- the code's answer and the result, by the answer

module _ (D : Answer (List ℕ)) (out : List ℕ) where
  pub refused_told : (q : Refusal) → D ≡ refused q → (Err q ≡ result_of pairs_count D) × (out ≡ join_after D out)
  unfolding join_after
  refused_told q e = rw e (refl, refl)

  pub room_refused : (q : Refusal) → fits_of D ≡ Err q → D ≡ refused q
  room_refused q e = go D refl e
    where
      go : (x : Answer (List ℕ)) → D ≡ x → fits_of x ≡ Err q → D ≡ refused q
      go (good s) is e = let z : ◌≡◌ {A = ℕ} 0 1 = cc in absurd (omega arith)
      go (refused p) is e = let f : p ≡ q = cc in is ∙ ap refused f

  pub room_good : fits_of D ≡ Ok tt → (s : List ℕ) × (D ≡ good s)
  room_good e = go D refl e
    where
      go : (x : Answer (List ℕ)) → D ≡ x → fits_of x ≡ Ok tt → (s : List ℕ) × (D ≡ good s)
      go (good s) is e = (s, is)
      go (refused p) is e = let z : ◌≡◌ {A = ℕ} 0 1 = cc in absurd (omega arith)

  pub join_told : (s : List ℕ) (n : ℕ) (after : List ℕ) → D ≡ good s → n ≡ length (pairs_of s) → after ≡ sets out 0 s
      → (Ok n ≡ result_of pairs_count D) × (after ≡ join_after D out)
  unfolding join_after
  join_told s n after e f g = rw e (ap Ok f, g)
