-- The stage of a location, said from the record's counts, is the one that the script's words are made of: of the stages before it each ends at or before the
-- location, and of the others none.
-- Assumes nothing.
use mathlib.Core.Path.{◌≡◌, sym, ap, ◌∙◌}
use mathlib.Core.Logic.{⊎_elim}
use mathlib.Core.Bool.{true, false}
use mathlib.Core.List.{List}
use Prim.Native.Nat.{ℕ, zero, suc, ◌+◌, ◌*◌, ◌-◌, ◌≤◌, ◌<◌}
use native.Mathlib.Omega.{arith}
use borrow.Author.Tests.{le-leb, lt-leb, lt-ltb, le-ltb}
use lib.Dec.{leb}
use Rattle.words.specs.Sum.{sum_to}
use Rattle.words.proofs.BitLaws.{lt_or_ge}
use Rattle.words.proofs.SumLaws.{sum_more, sum_le, sum_ext}
use Rattle.plan_record.specs.Record.{stages_of, stage_locations, slot_at, location_at}
use Rattle.plan_blocks.proofs.TotalLaws.{sum_zero, sum_const, sum_split}
use Rattle.script.specs.Script.{stage_in, location_stage}
use Rattle.promise.specs.Promise.{stage_holding, stage_of_location, carried}

module _ (counts : ℕ → ℕ) where
  -- 1 where stage t ends at or before location x
  abbrev ended_by : ℕ → ℕ → ℕ
  ended_by x t = elim (leb (sum_to counts (suc t)) x) [ true ↦ 1 | false ↦ 0 ]

  all-ended : (s x : ℕ) → sum_to counts s ≤ x → sum_to (ended_by x) s ≡ s
  all-ended s x h = sum_ext (ended_by x) (λ t. 1) s ended ∙ sum_const 1 s ∙ omega arith
    where
      ended : (t : ℕ) → t < s → ended_by x t ≡ 1
      ended t l = let m = sum_le counts (suc t) s (omega arith) in rw (le-leb (sum_to counts (suc t)) x (omega arith), ended_by)

  none-ended : (s m x : ℕ) → x < sum_to counts (suc s) → sum_to (λ i. ended_by x (s + i)) m ≡ 0
  none-ended s m x h = sum_zero (λ i. ended_by x (s + i)) m going
    where
      going : (i : ℕ) → i < m → ended_by x (s + i) ≡ 0
      going i l = let n = sum_le counts (suc s) (suc (s + i)) (omega arith) in rw (lt-leb (sum_to counts (suc (s + i))) x (omega arith), ended_by)

  holding-is : (n s l : ℕ) → stage_holding counts n s l ≡ stage_in counts (s + n) (sum_to counts s + l)
  unfolding stage_holding
  holding-is zero s l = let e : s + 0 ≡ s = omega arith in rw e (sym (all-ended s (sum_to counts s + l) (omega arith)))
  holding-is (suc n) s l =
      ⊎_elim
      (λ k.
      let x : ℕ = sum_to counts s + l in
      let next : s + 1 ≡ suc s = omega arith in
      let end : sum_to counts (suc s) ≡ sum_to counts s + counts s = sym (ap (sum_to counts) next) ∙ sum_more counts s in
      let split = sum_split (ended_by x) s (suc n) in
      let before : sum_to (ended_by x) s ≡ s = all-ended s x (omega arith) in
      let behind : sum_to (λ i. ended_by x (s + i)) (suc n) ≡ 0 = none-ended s (suc n) x (omega arith) in
      rw (lt-ltb l (counts s) k, stage_holding) (omega arith))
      (λ k.
      let stages : s + 1 + n ≡ s + suc n = omega arith in
      let place : sum_to counts (s + 1) + (l - counts s) ≡ sum_to counts s + l = omega (arith, sum_more counts s) in
      rw (le-ltb l (counts s) k, stage_holding) (holding-is n (s + 1) (l - counts s) ∙ rw (stages, place)))
      (lt_or_ge l (counts s))

stage_of_lem : (d : List ℕ) (p l : ℕ) → stage_of_location d p l ≡ location_stage d p l
unfolding stage_of_location location_stage sum_to
stage_of_lem d p l =
    let stages : 0 + stages_of d p ≡ stages_of d p = omega arith in
    let place : sum_to (stage_locations d p) 0 + l ≡ l = omega arith in
    holding-is (stage_locations d p) (stages_of d p) 0 l ∙ rw (stages, place)

pub carried_is : (d : List ℕ) (p l k : ℕ) → carried d p l k ≡ slot_at d p (location_stage d p l) (32 * location_at d p l + k)
unfolding carried
carried_is d p l k = ap (λ (s : ℕ). slot_at d p s (32 * location_at d p l + k)) (stage_of_lem d p l)
