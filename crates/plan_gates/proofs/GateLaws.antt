-- Laws of a plan's gate list: those of `gatelist`, and on bits the code's operations are the definition's.
-- Assumes nothing.
use Rattle.std.proofs.Common.{◌≡◌, ℕ, zero, suc, ◌-◌, ◌/◌, ◌%◌, ◌<◌, min, true, false, ◌&&◌, eqb, ltb, List, refl, ◌∙◌, ap₂, arith}
use mathlib.Core.Option.{none, some}
use lib.Bits.{bit_and, bit_xor, differ}
use Rattle.words.proofs.BitLaws.{differ_lt}
use Rattle.sort.specs.HalfSearch.{Monotone, least}
use Rattle.plan_record.specs.Record.{gates_of, gate_pin, gate_first, gate_second}
use Rattle.words.specs.Tests.{first_from}
use Rattle.words.proofs.FoundLaws.{look_start}
use Rattle.gatelist.specs.GateList.{bad_over}
use Rattle.gatelist.proofs.GateListLaws as over
use Rattle.plan_gates.specs.Gates.{gate_right, bad_gate, gate_of}

-- ---- refusal 6, gate by gate

-- the answer from the first gate on
pub bad_from_lem : (d : List ℕ) → first_from (gate_right d) (gates_of d - 0) 0 ≡ bad_gate d
unfolding bad_gate bad_over gate_right
bad_from_lem d = look_start (gate_right d) (gates_of d)

-- ---- a gate by its pin

pub gate_at_lem : (d : List ℕ) (x g : ℕ) → gate_of d x ≡ some g → (g < gates_of d) × (gate_pin d g ≡ x)
unfolding gate_of
gate_at_lem d x = over.gate_at_lem (gate_pin d) (gates_of d) x

-- ---- where refusal 6 is excluded

module _ (d : List ℕ) (good : bad_gate d ≡ none) where
  pub pins_monotone : Monotone (gate_pin d) (gates_of d)
  unfolding bad_gate
  pins_monotone = over.pins_monotone (gate_pin d) (gate_first d) (gate_second d) (gates_of d) good

  -- fan-ins of a gate found by its pin are below that pin
  pub first_falls : (x g : ℕ) → gate_of d x ≡ some g → gate_first d g / 2 < x
  unfolding bad_gate gate_of
  first_falls = over.first_falls (gate_pin d) (gate_first d) (gate_second d) (gates_of d) good

  pub second_falls : (x g : ℕ) → gate_of d x ≡ some g → gate_second d g / 2 < x
  unfolding bad_gate gate_of
  second_falls = over.second_falls (gate_pin d) (gate_first d) (gate_second d) (gates_of d) good

  -- the code's test of a gate, and what it says where it fails at the search's end
  pub has_gate : (x g : ℕ) → (ltb g (gates_of d) && eqb (gate_pin d g) x) ≡ true → gate_of d x ≡ some g
  unfolding bad_gate gate_of
  has_gate = over.has_gate (gate_pin d) (gate_first d) (gate_second d) (gates_of d) good

  pub least_gate : (x g : ℕ) → g ≡ least (gate_pin d) (gates_of d) x → (ltb g (gates_of d) && eqb (gate_pin d g) x) ≡ false → gate_of d x ≡ none
  unfolding bad_gate gate_of
  least_gate = over.least_gate (gate_pin d) (gate_first d) (gate_second d) (gates_of d) good

-- ---- on bits the code's operations are the definition's

pub bit_of_and : (a b : ℕ) → a < 2 → b < 2 → bit_and a b ≡ min a b
bit_of_and zero zero h k = refl
bit_of_and zero (suc zero) h k = refl
bit_of_and (suc zero) zero h k = refl
bit_of_and (suc zero) (suc zero) h k = refl
bit_of_and zero (suc (suc b)) h k = absurd (omega arith)
bit_of_and (suc zero) (suc (suc b)) h k = absurd (omega arith)
bit_of_and (suc (suc a)) b h k = absurd (omega arith)

pub bit_of_xor : (a b : ℕ) → a < 2 → b < 2 → bit_xor a b ≡ differ a b
bit_of_xor zero zero h k = refl
bit_of_xor zero (suc zero) h k = refl
bit_of_xor (suc zero) zero h k = refl
bit_of_xor (suc zero) (suc zero) h k = refl
bit_of_xor zero (suc (suc b)) h k = absurd (omega arith)
bit_of_xor (suc zero) (suc (suc b)) h k = absurd (omega arith)
bit_of_xor (suc (suc a)) b h k = absurd (omega arith)

pub and_gate_is : (a b u v x y : ℕ) → a < 2 → b < 2 → u ≡ x % 2 → v ≡ y % 2
    → (bit_and (bit_xor a u) (bit_xor b v) ≡ min (differ a (x % 2)) (differ b (y % 2))) × (bit_and (bit_xor a u) (bit_xor b v) < 2)
and_gate_is a b u v x y ha hb hu hv =
    let p : bit_xor a u ≡ differ a u = bit_of_xor a u ha (omega arith) in
    let q : bit_xor b v ≡ differ b v = bit_of_xor b v hb (omega arith) in
    let m : differ a u < 2 = differ_lt a u ha (omega arith) in
    let n : differ b v < 2 = differ_lt b v hb (omega arith) in
    let e : bit_and (bit_xor a u) (bit_xor b v) ≡ min (differ a u) (differ b v) = ap₂ bit_and p q ∙ bit_of_and (differ a u) (differ b v) m n in
    (e ∙ ap₂ (λ (s : ℕ) (t : ℕ). min (differ a s) (differ b t)) hu hv, rw e (omega arith))
