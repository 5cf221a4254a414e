-- Laws of the value of a pin. Its three rules: the fuel of the definition does not matter, since fan-in pins fall.
-- Assumes nothing.
use Rattle.std.proofs.Common.{◌≡◌, ℕ, zero, suc, ◌/◌, ◌%◌, ◌<◌, ◌≤◌, min, List, refl, ap, ◌∙◌, ap₂, not-suc-le-zero, mod-lt, arith}
use mathlib.Core.Option.{Option, none, some}
use lib.Bits.{differ}
use Rattle.words.proofs.BitLaws.{differ_lt}
use Rattle.plan_record.specs.Record.{gate_first, gate_second}
use Rattle.plan_gates.specs.Gates.{bad_gate, gate_of, gate_bit, pin_bit, value_in, value}
use Rattle.plan_gates.proofs.GateLaws.{first_falls, second_falls}

-- ---- a pin that is read, and one that is neither read nor a gate's: the first and the last of the three rules

pub value_read : (d : List ℕ) (inp : ℕ → Option ℕ) (x v : ℕ) → inp x ≡ some v → value d inp x ≡ v
unfolding value value_in pin_bit
value_read d inp x v e = ap (λ (i : Option ℕ). pin_bit d i (gate_of d x) (λ y. value_in d inp x y)) e

pub value_else : (d : List ℕ) (inp : ℕ → Option ℕ) (x : ℕ) → inp x ≡ none → gate_of d x ≡ none → value d inp x ≡ 0
unfolding value value_in pin_bit
value_else d inp x e h = ap₂ (λ (i : Option ℕ) (o : Option ℕ). pin_bit d i o (λ y. value_in d inp x y)) e h

-- ---- one step: the pins that it asks for

-- a gate's bit asks for its two fan-in pins
pub gate_bit_ext : (d : List ℕ) (g : ℕ) (r s : ℕ → ℕ) → r (gate_first d g / 2) ≡ s (gate_first d g / 2) → r (gate_second d g / 2) ≡ s (gate_second d g / 2)
    → gate_bit d g r ≡ gate_bit d g s
unfolding gate_bit
gate_bit_ext d g r s p q = ap₂ (λ (x : ℕ) (y : ℕ). min (differ x (gate_first d g % 2)) (differ y (gate_second d g % 2))) p q

pub gate_bit_lt : (d : List ℕ) (g : ℕ) (r : ℕ → ℕ) → r (gate_first d g / 2) < 2 → gate_bit d g r < 2
unfolding gate_bit
gate_bit_lt d g r h =
    let s : differ (r (gate_first d g / 2)) (gate_first d g % 2) < 2 = differ_lt _ _ h (mod-lt (gate_first d g) (omega arith)) in
    omega arith

-- a pin's bit asks for those of its gate, where it has one
pin_bit_ext : (d : List ℕ) (i o : Option ℕ) (r s : ℕ → ℕ) → ((g : ℕ) → o ≡ some g → gate_bit d g r ≡ gate_bit d g s) → pin_bit d i o r ≡ pin_bit d i o s
unfolding pin_bit
pin_bit_ext d (some v) o r s h = refl
pin_bit_ext d none none r s h = refl
pin_bit_ext d none (some g) r s h = h g refl

pin_bit_lt : (d : List ℕ) (i o : Option ℕ) (r : ℕ → ℕ) → ((v : ℕ) → i ≡ some v → v < 2) → ((y : ℕ) → r y < 2) → pin_bit d i o r < 2
unfolding pin_bit
pin_bit_lt d (some v) o r h k = h v refl
pin_bit_lt d none none r h k = omega arith
pin_bit_lt d none (some g) r h k = gate_bit_lt d g r (k (gate_first d g / 2))

-- ---- the range

in_lt : (d : List ℕ) (inp : ℕ → Option ℕ) → ((x v : ℕ) → inp x ≡ some v → v < 2) → (f x : ℕ) → value_in d inp f x < 2
unfolding value_in
in_lt d inp h zero x = omega arith
in_lt d inp h (suc f) x = pin_bit_lt d (inp x) (gate_of d x) (λ y. value_in d inp f y) (h x) (in_lt d inp h f)

pub value_lt : (d : List ℕ) (inp : ℕ → Option ℕ) → ((x v : ℕ) → inp x ≡ some v → v < 2) → (x : ℕ) → value d inp x < 2
unfolding value
value_lt d inp h x = in_lt d inp h (suc x) x

-- ---- where refusal 6 is excluded

module _ (d : List ℕ) (good : bad_gate d ≡ none) where
  -- any fuel above the pin will do, and only what is read of pins up to this one matters
  in-same : (inp jnp : ℕ → Option ℕ) (f h x : ℕ) → x < f → x < h → ((y : ℕ) → y ≤ x → inp y ≡ jnp y) → value_in d inp f x ≡ value_in d jnp h x
  unfolding value_in
  in-same inp jnp zero h x l k e = absurd (not-suc-le-zero l)
  in-same inp jnp (suc f) zero x l k e = absurd (not-suc-le-zero k)
  in-same inp jnp (suc f) (suc h) x l k e =
      ap (λ (i : Option ℕ). pin_bit d i (gate_of d x) (λ y. value_in d inp f y)) (e x (omega arith))
      ∙ pin_bit_ext d (jnp x) (gate_of d x) (λ y. value_in d inp f y) (λ y. value_in d jnp h y)
      (λ g o.
      let a : gate_first d g / 2 < x = first_falls d good x g o in
      let b : gate_second d g / 2 < x = second_falls d good x g o in
      gate_bit_ext d g (λ y. value_in d inp f y) (λ y. value_in d jnp h y)
      (in-same inp jnp f h (gate_first d g / 2) (omega arith) (omega arith) (λ y m. e y (omega arith)))
      (in-same inp jnp f h (gate_second d g / 2) (omega arith) (omega arith) (λ y m. e y (omega arith))))

  pub value_gate : (inp : ℕ → Option ℕ) (x g : ℕ) → inp x ≡ none → gate_of d x ≡ some g → value d inp x ≡ gate_bit d g (value d inp)
  unfolding value value_in pin_bit
  value_gate inp x g e o =
      let a : gate_first d g / 2 < x = first_falls d good x g o in
      let b : gate_second d g / 2 < x = second_falls d good x g o in
      ap₂ (λ (i : Option ℕ) (o : Option ℕ). pin_bit d i o (λ y. value_in d inp x y)) e o
      ∙ gate_bit_ext d g (λ y. value_in d inp x y) (value d inp)
      (in-same inp inp x (suc (gate_first d g / 2)) (gate_first d g / 2) a (omega arith) (λ y m. refl))
      (in-same inp inp x (suc (gate_second d g / 2)) (gate_second d g / 2) b (omega arith) (λ y m. refl))

  -- two inputs that agree on the pins up to x give x the same value
  pub value_ext : (inp jnp : ℕ → Option ℕ) (x : ℕ) → ((y : ℕ) → y ≤ x → inp y ≡ jnp y) → value d inp x ≡ value d jnp x
  unfolding value
  value_ext inp jnp x e = in-same inp jnp (suc x) (suc x) x (omega arith) (omega arith) e
