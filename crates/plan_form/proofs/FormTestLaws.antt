-- The tests of refusal 5, one after the other: what the answer is when the code leaves off.
-- Assumes nothing.
use mathlib.Core.Path.{◌≡◌, ap, ◌∙◌}
use mathlib.Core.Bool.{Bool, false, ◌&&◌, and-false}
use mathlib.Core.List.{List}
use Prim.Native.Nat.{ℕ, ◌/◌, ◌%◌, ◌≤◌, ◌<◌}
use native.Mathlib.Omega.{arith}
use borrow.Author.Tests.{ne_eqb}
use lib.Dec.{eqb}
use lib.ListN.{length}
use Rattle.words.specs.Tests.{all_below}
use Rattle.plan_record.specs.Record.{gates_of, layout_of, positions_of, parts_of, endpoints_of, body_at}
use Rattle.plan_record.specs.Form.{head_form, counts_form, part_head_form, length_form, gate_form, layout_form, position_form, endpoint_form, lists_form, plan_form}
use Rattle.plan_record.proofs.RecordLaws.{body_mono}

-- a body that begins past the record's words
pub length-past : (d : List ℕ) (p : ℕ) → p ≤ parts_of d → length d / 4 < body_at d p → length_form d ≡ false
unfolding length_form
length-past d p l h =
    let n : eqb (body_at d (parts_of d)) (length d / 4) ≡ false = ne_eqb (body_at d (parts_of d)) (length d / 4) (λ e. omega (arith, body_mono d p (parts_of d) l)) in
    ap (λ (b : Bool). eqb (length d % 4) 0 && b) n ∙ and-false (eqb (length d % 4) 0)

pub lists_are : (d : List ℕ) (g l p e : Bool) → all_below (gate_form d) (gates_of d) ≡ g → all_below (layout_form d) (layout_of d) ≡ l → all_below (position_form d) (positions_of d) ≡ p
    → all_below (λ q. all_below (endpoint_form d q) (endpoints_of d q)) (parts_of d) ≡ e → lists_form d ≡ (g && l && p && e)
unfolding lists_form
lists_are d g l p e a b c f = cc

pub plan_is : (d : List ℕ) (h c : Bool) → head_form d ≡ h → counts_form d ≡ c
    → plan_form d ≡ (h && c && all_below (part_head_form d) (parts_of d) && length_form d && lists_form d)
unfolding plan_form
plan_is d h c a b = cc
