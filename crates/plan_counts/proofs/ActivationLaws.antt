-- The key of an endpoint by its kind, and the count of extras along a list, one neighbour more a turn.
-- Assumes nothing.
use mathlib.Core.Path.{◌≡◌, refl, sym, ap, ◌∙◌}
use mathlib.Core.Bool.{Bool, true, false}
use mathlib.Core.List.{List, [], ◌∷◌}
use Prim.Native.Nat.{ℕ, zero, suc, ◌+◌, ◌*◌, ◌/◌, ◌^◌, ◌≤◌, ◌<◌}
use native.Mathlib.Nat.{not-suc-le-zero}
use native.Mathlib.Numerals.{add-one}
use native.Mathlib.Omega.{arith}
use lib.ListN.{length, get_or, drop}
use lib.Dec.{eqb}
use borrow.Author.Tests.{eqb-true, eqb-false}
use Rattle.sort.specs.Sorted.{sort_of}
use Rattle.sort.specs.SortAnswer.{keys_after}
use Rattle.sort.proofs.SortLaws.{sort_length}
use Rattle.sort.proofs.SortEndLaws.{keys_done}
use Rattle.words.specs.declared.units.Pin.{Pin}
use Rattle.words.specs.declared.units.PinIv.{PinIv}
use Rattle.plan_record.specs.declared.bodies.Endpoint.{Endpoint}
use Rattle.plan_record.specs.declared.bodies.Endpoint.TheVariants.{Output, Staged, Register, Sram}
use Rattle.plan_counts.specs.Counts.{activation, activations_of, duplicates_in}
use Rattle.plan_counts.specs.Neighbours.{extra, extras}
use Rattle.plan_counts.proofs.DifferentLaws.{extra_same, extra_yes, extra_no, duplicates_sorted}

pub output_key : (e : Endpoint) (x : PinIv) → e ≡ Output x → activations_of e ≡ activation x.0 1 ∷ []
unfolding activations_of
output_key e x h = ap activations_of h

pub staged_key : (e : Endpoint) (x : Pin) → e ≡ Staged x → activations_of e ≡ activation (2 * x.0) 1 ∷ []
unfolding activations_of
staged_key e x h = ap activations_of h

pub register_key : (e : Endpoint) (x en : PinIv) → e ≡ Register x en → activations_of e ≡ activation x.0 en.0 ∷ []
unfolding activations_of
register_key e x en h = ap activations_of h

pub no_key : (e : Endpoint) → e ≡ Sram → activations_of e ≡ []
unfolding activations_of
no_key e h = ap activations_of h

-- ---- extras from index i on

extras_step : (l : List ℕ) (i : ℕ) → suc i < length l → extras (drop i l) ≡ extra (get_or l i 0) (get_or l (suc i) 0) + extras (drop (suc i) l)
unfolding extras
extras_step [] i h = absurd (not-suc-le-zero h)
extras_step (x ∷ []) i h = absurd (omega arith)
extras_step (x ∷ (y ∷ ys)) zero h = refl
extras_step (x ∷ (y ∷ ys)) (suc i) h = extras_step (y ∷ ys) i (omega arith)

pub extras_more : (l : List ℕ) (i : ℕ) → i + 1 < length l → extras (drop i l) ≡ extra (get_or l i 0) (get_or l (i + 1) 0) + extras (drop (i + 1) l)
extras_more l i h = rw add-one (extras_step l i (omega arith))

pub extras_end : (l : List ℕ) (i : ℕ) → length l ≤ i + 1 → extras (drop i l) ≡ 0
unfolding extras
extras_end [] zero h = refl
extras_end [] (suc i) h = refl
extras_end (x ∷ []) zero h = refl
extras_end (x ∷ (y ∷ ys)) zero h = absurd (omega arith)
extras_end (x ∷ xs) (suc i) h = extras_end xs i (omega arith)

extra_le : (x y : ℕ) → extra x y ≤ 1
extra_le x y = go (eqb y x) refl (eqb (y / 2 ^ 33) (x / 2 ^ 33)) refl
  where
    go : (b : Bool) → eqb y x ≡ b → (t : Bool) → eqb (y / 2 ^ 33) (x / 2 ^ 33) ≡ t → extra x y ≤ 1
    go true e t f = omega (arith, extra_same x y (eqb-true y x e))
    go false e true f = omega (arith, extra_yes x y (eqb-false y x e) (eqb-true (y / 2 ^ 33) (x / 2 ^ 33) f))
    go false e false f = omega (arith, extra_no x y (eqb-false y x e) (eqb-false (y / 2 ^ 33) (x / 2 ^ 33) f))

pub extras_le : (l : List ℕ) → extras l ≤ length l
unfolding extras
extras_le [] = omega arith
extras_le (x ∷ []) = omega arith
extras_le (x ∷ (y ∷ ys)) = omega (arith, extra_le x y, extras_le (y ∷ ys))

-- the extras of the keys that a sort leaves
pub extras_sorted : (keys scratch after : List ℕ) (n : ℕ) → length keys ≤ length scratch → after ≡ keys_after keys scratch → n ≡ extras after
    → (n ≤ length keys) × ((n + 31) / 32 ≡ duplicates_in keys)
extras_sorted keys scratch after n h e f =
    let s : n ≡ extras (sort_of keys) = f ∙ ap extras (e ∙ keys_done keys scratch h) in
    (omega (arith, extras_le (sort_of keys), sort_length keys), ap (λ (k : ℕ). (k + 31) / 32) s ∙ sym (duplicates_sorted keys))
