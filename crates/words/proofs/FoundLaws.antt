-- A look over a part's items, and a pass over all parts, in the code's terms: at i (or part p) below n the answer from here on is the answer.
-- Assumes nothing.
use mathlib.Core.Path.{◌≡◌, refl, sym, ap, ◌∙◌}
use mathlib.Core.Bool.{Bool, true, false}
use mathlib.Core.Option.{Option, none, some}
use Prim.Native.Nat.{ℕ, ◌+◌, ◌-◌, ◌≤◌, ◌<◌}
use native.Mathlib.Nat.{sub-zero}
use native.Mathlib.Omega.{arith}
use Rattle.words.specs.Tests.{all_below, first_from, first_not, lowest_from, lowest, Place}
use Rattle.words.proofs.TestLaws.{all_true, all_fault, not_at, not_none, first_fault, first_next, first_end, lowest_fault, lowest_next, lowest_end}
use Rattle.std.specs.Option.{ok_or}
use Rattle.std.specs.Prelude.{Err, Some, None, is_some, not}
use Rattle.std.specs.declared.option.Option as code
use Rattle.words.specs.Found.{item_of, lowest_of}

not_false : (b : Bool) → not b ≡ false → b ≡ true
not_false true h = refl
not_false false h = sym h

not_true : (b : Bool) → not b ≡ true → b ≡ false
not_true true h = sym h
not_true false h = refl

-- ---- what an answer says of the definition

pub item_some : (o : Option ℕ) (i : ℕ) → item_of o ≡ Some i → o ≡ some i
item_some none i h = let z : ◌≡◌ {A = ℕ} 0 1 = cc in absurd (omega arith)
item_some (some j) i h = let e : j ≡ i = cc in ap some e

pub item_none : (o : Option ℕ) → item_of o ≡ None → o ≡ none
item_none none h = refl
item_none (some j) h = let z : ◌≡◌ {A = ℕ} 0 1 = cc in absurd (omega arith)

-- what is not there, as `ok_or` tells it
pub missing_told : {T E : Type 0} (o : code.Option T) (q e : E) → ok_or o q ≡ Err e → (o ≡ None) × (q ≡ e)
missing_told (Some x) q e f = let z : ◌≡◌ {A = ℕ} 0 1 = cc in absurd (omega arith)
missing_told None q e f = let same : q ≡ e = cc in (refl, same)

-- ---- the first item that a test refuses

pub look_start : (f : ℕ → Bool) (n : ℕ) → first_from f (n - 0) 0 ≡ first_not f n
look_start f n = rw sub-zero

module _ (f : ℕ → Bool) (n i : ℕ) (o : Option ℕ) (here : first_from f (n - i) i ≡ o) where
  pub look_fault : i < n → f i ≡ false → Some i ≡ item_of o
  look_fault h t = ap item_of (sym (first_fault f n i h t) ∙ here)

  pub look_next : i < n → f i ≡ true → first_from f (n - (i + 1)) (i + 1) ≡ o
  look_next h t = sym (first_next f n i h t) ∙ here

  pub look_end : n ≤ i → None ≡ item_of o
  look_end h = ap item_of (sym (first_end f n i h) ∙ here)

-- all pass exactly where none is the first that doesn't: b is whether there is none
pub none_first : (f : ℕ → Bool) (n : ℕ) (b : Bool) → is_some (item_of (first_not f n)) ≡ not b → b ≡ all_below f n
none_first f n b h = go (first_not f n) refl
  where
    go : (o : Option ℕ) → first_not f n ≡ o → b ≡ all_below f n
    go none e =
        let t : is_some (item_of none) ≡ not b = ap (λ o. is_some (item_of o)) (sym e) ∙ h in
        not_false b (sym t) ∙ sym (all_true f n (not_none f n e))
    go (some i) e =
        let t : is_some (item_of (some i)) ≡ not b = ap (λ o. is_some (item_of o)) (sym e) ∙ h in
        let at = not_at f n i e in
        not_true b (sym t) ∙ sym (all_fault f n i at.0 at.1)

-- ---- the lowest place, where `bad p` is the lowest item of part p that is refused

pub pass_start : (bad : ℕ → Option ℕ) (n : ℕ) → lowest_from bad (n - 0) 0 ≡ lowest bad n
pass_start bad n = rw sub-zero

module _ (bad : ℕ → Option ℕ) (n p : ℕ) (o : Option Place) (here : lowest_from bad (n - p) p ≡ o) where
  pub pass_end : n ≤ p → None ≡ lowest_of o
  pass_end h = ap lowest_of (sym (lowest_end bad n p h) ∙ here)

  module _ (h : p < n) (r : code.Option ℕ) (asked : r ≡ item_of (bad p)) where
    pub pass_fault : (i : ℕ) → r ≡ Some i → Some (record { part = p; item = i }) ≡ lowest_of o
    pass_fault i e = ap lowest_of (sym (lowest_fault bad n p i h (item_some (bad p) i (sym asked ∙ e))) ∙ here)

    pub pass_next : r ≡ None → lowest_from bad (n - (p + 1)) (p + 1) ≡ o
    pass_next e = sym (lowest_next bad n p h (item_none (bad p) (sym asked ∙ e))) ∙ here
