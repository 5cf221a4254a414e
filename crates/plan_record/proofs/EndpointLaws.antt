-- An endpoint's words, and the value that they stand for: one law for each kind.
-- Assumes nothing.
use mathlib.Core.Path.{◌≡◌, refl, sym, ap, ap₂, ◌∙◌}
use mathlib.Core.Bool.{Bool, true, ◌&&◌}
use mathlib.Core.List.{List}
use Prim.Native.Nat.{ℕ, zero, suc}
use Rattle.words.specs.declared.units.Pin.{Pin}
use Rattle.words.specs.declared.units.PinIv.{PinIv}
use Rattle.words.specs.Pins.{is_pin, is_pin_iv}
use Rattle.plan_record.specs.declared.bodies.Endpoint.{Endpoint}
use Rattle.plan_record.specs.declared.bodies.Endpoint.TheVariants.{Output, Staged, Register, Sram}
use Rattle.plan_record.specs.Record.{endpoint_word}
use Rattle.plan_record.specs.Endpoint.{endpoint_of, endpoint_at}
use Rattle.plan_record.specs.Form.{numbers_form}

other_kind : (k x y : ℕ) → (k ≡ 0 → ⊥) → (k ≡ 1 → ⊥) → (k ≡ 2 → ⊥) → Sram ≡ endpoint_of k x y
unfolding endpoint_of
other_kind zero x y a b c = absurd (a refl)
other_kind (suc zero) x y a b c = absurd (b refl)
other_kind (suc (suc zero)) x y a b c = absurd (c refl)
other_kind (suc (suc (suc k))) x y a b c = refl

module _ (d : List ℕ) (p i k x : ℕ) (kind : k ≡ endpoint_word d p i 0) (first : x ≡ endpoint_word d p i 1) where
  of-kind : (m : ℕ) → k ≡ m → endpoint_of m (endpoint_word d p i 1) (endpoint_word d p i 2) ≡ endpoint_at d p i
  of-kind m e = ap (λ (z : ℕ). endpoint_of z (endpoint_word d p i 1) (endpoint_word d p i 2)) (sym e ∙ kind)

  pub at_output : k ≡ 0 → Output (record { 0 = x }) ≡ endpoint_at d p i
  unfolding endpoint_of
  at_output e = ap (λ (z : ℕ). Output (record { 0 = z })) first ∙ of-kind 0 e

  pub at_staged : k ≡ 1 → Staged (record { 0 = x }) ≡ endpoint_at d p i
  unfolding endpoint_of
  at_staged e = ap (λ (z : ℕ). Staged (record { 0 = z })) first ∙ of-kind 1 e

  pub at_register : (y : ℕ) → y ≡ endpoint_word d p i 2 → k ≡ 2 → Register (record { 0 = x }) (record { 0 = y }) ≡ endpoint_at d p i
  unfolding endpoint_of
  at_register y second e = ap₂ (λ (z w : ℕ). Register (record { 0 = z }) (record { 0 = w })) first second ∙ of-kind 2 e

  pub at_sram : (k ≡ 0 → ⊥) → (k ≡ 1 → ⊥) → (k ≡ 2 → ⊥) → Sram ≡ endpoint_at d p i
  at_sram a b c = other_kind k (endpoint_word d p i 1) (endpoint_word d p i 2) a b c ∙ of-kind k refl

-- the numbers of an endpoint of each kind
pub numbers_output : (e : Endpoint) (x : PinIv) → e ≡ Output x → is_pin_iv x.0 ≡ numbers_form e
unfolding numbers_form
numbers_output e x h = sym (ap numbers_form h)

pub numbers_staged : (e : Endpoint) (x : Pin) → e ≡ Staged x → is_pin x.0 ≡ numbers_form e
unfolding numbers_form
numbers_staged e x h = sym (ap numbers_form h)

pub numbers_register : (e : Endpoint) (x y : PinIv) (a b : Bool) → e ≡ Register x y → a ≡ is_pin_iv x.0 → b ≡ is_pin_iv y.0 → (a && b) ≡ numbers_form e
unfolding numbers_form
numbers_register e x y a b h u v = ap₂ ◌&&◌ u v ∙ sym (ap numbers_form h)

pub numbers_sram : (e : Endpoint) → e ≡ Sram → true ≡ numbers_form e
unfolding numbers_form
numbers_sram e h = sym (ap numbers_form h)
