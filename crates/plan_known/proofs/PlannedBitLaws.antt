-- The bit at a planned position as the code reads it: from the entry of the layout or of the positions that wins.
-- Assumes nothing.
use mathlib.Core.Path.{◌≡◌, refl, sym, ap, ◌∙◌}
use mathlib.Core.Bool.{Bool, true, false}
use mathlib.Core.Option.{Option, none, some}
use mathlib.Core.List.{List}
use Prim.Native.Nat.{ℕ, ◌/◌, ◌%◌, ◌^◌, ◌≤◌, ◌<◌}
use native.Mathlib.Omega.{arith}
use borrow.Author.Tests.{eq-eqb, ne_eqb}
use lib.Bits.{bit_and, and_mask}
use lib.Dec.{eqb}
use lib.ListN.{length, get_or, get_or-eq_default}
use Rattle.words.specs.Bit.{bit, bit_at}
use Rattle.words.proofs.BitLaws.{bit_zero, at_lt}
use Rattle.plan_winners.specs.Planned.{Planned}
use Rattle.plan_winners.specs.declared.Planned as code
use Rattle.plan_winners.specs.Winners.{planned_by, position_of}
use Rattle.plan_positions.specs.Input.{planned_bit}

-- ---- bits of a state

-- the code reads bit k of word w, where these are the position's
pub state_bit_is : (l : List ℕ) (p w k : ℕ) → w ≡ p / 32 → k ≡ p % 32 → bit_and (get_or l w 0 / 2 ^ k) 1 ≡ bit_at l p
unfolding bit bit_at
state_bit_is l p w k word place = rw (word, place) (and_mask _ 1)

pub beyond : (l : List ℕ) (p : ℕ) → length l ≤ p / 32 → 0 ≡ bit_at l p
unfolding bit_at
beyond l p h = sym (ap (λ (w : ℕ). bit w (p % 32)) (get_or-eq_default l 0 h) ∙ bit_zero (p % 32))

-- ---- bits at planned positions

module _ (old new : List ℕ) where
  bit-old : (y : Planned) → y.staged ≡ 0 → planned_bit old new (some y) ≡ some (bit_at old y.place)
  unfolding planned_bit
  bit-old y h = rw (eq-eqb y.staged 0 h, planned_bit)

  bit-new : (y : Planned) → (y.staged ≡ 0 → ⊥) → planned_bit old new (some y) ≡ some (bit_at new y.place)
  unfolding planned_bit
  bit-new y h = rw (ne_eqb y.staged 0 h, planned_bit)

  pub bit_none : planned_bit old new none ≡ none
  unfolding planned_bit
  bit_none = refl

  pub planned_lt : (o : Option Planned) (v : ℕ) → planned_bit old new o ≡ some v → v < 2
  unfolding planned_bit
  planned_lt none v h = let z : ◌≡◌ {A = ℕ} 0 1 = cc in absurd (omega arith)
  planned_lt (some y) v h = go (eqb y.staged 0) h
    where
      go : (b : Bool) → elim b [ true ↦ some (bit_at old y.place) | false ↦ some (bit_at new y.place) ] ≡ some v → v < 2
      go true e = let k : bit_at old y.place ≡ v = cc in omega (arith, at_lt old y.place, k)
      go false e = let k : bit_at new y.place ≡ v = cc in omega (arith, at_lt new y.place, k)

-- entry w gives position x
module _ (d old new : List ℕ) (w : ℕ) (x : code.Planned) (by : planned_by d w ≡ some (position_of x)) (r : ℕ) where
  pub unstaged_bit : x.staged ≡ 0 → r ≡ bit_at old x.place.0 → some r ≡ planned_bit old new (planned_by d w)
  unstaged_bit h e = ap some e ∙ sym (ap (planned_bit old new) by ∙ bit-old old new (position_of x) h)

  pub staged_bit : (x.staged ≡ 0 → ⊥) → r ≡ bit_at new x.place.0 → some r ≡ planned_bit old new (planned_by d w)
  staged_bit h e = ap some e ∙ sym (ap (planned_bit old new) by ∙ bit-new old new (position_of x) h)
