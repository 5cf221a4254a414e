-- The entries of a stage after the first in the code's terms: one law for each way out.
-- Assumes nothing.
use mathlib.Core.Path.{◌≡◌, refl, sym, ap, ◌∙◌}
use mathlib.Core.List.{List}
use mathlib.Core.Option.{none, some}
use Prim.Native.Nat.{ℕ, zero, suc, ◌+◌, ◌<◌}
use native.Mathlib.Decide.{ℕ_discrete}
use native.Mathlib.Numerals.{add-one}
use native.Mathlib.Omega.{arith}
use borrow.Author.Tests.{eq-eqb, ne_eqb}
use Rattle.std.specs.Prelude.{Some, None}
use Rattle.std.specs.declared.option.Option as code
use Rattle.words.specs.Found.{item_of}
use Rattle.words.proofs.FoundLaws.{item_some, item_none}
use Rattle.pinmap.specs.PinMap.{look}
use Rattle.plan_record.specs.Record.{plan_lanes, slots_of, level_at}
use Rattle.plan_record.proofs.RecordLaws.{lanes_range}
use Rattle.words.specs.Pins.{empty}
use Rattle.plan_slots.specs.Slots.{highest}
use Rattle.plan_slots.specs.Puts.{position_puts, FilledWith, found_at}
use Rattle.plan_slots.proofs.PutLaws.{positions_found, highest_is}
use Rattle.script.specs.Script.{stage_entry, pin_entry}

found_at_lem : (h v : ℕ) → found_at h ≡ some v → v ≡ h
found_at_lem zero v e = let z : ◌≡◌ {A = ℕ} 0 1 = cc in absurd (omega arith)
found_at_lem (suc h) v e = cc

found_not : (h : ℕ) → found_at h ≡ none → 0 ≡ h
found_not zero e = refl
found_not (suc h) e = let z : ◌≡◌ {A = ℕ} 0 1 = cc in absurd (omega arith)

module _ (d : List ℕ) (p s i x : ℕ) (pin : x ≡ level_at d p (s + 1) i) where
  pub entry_empty : x ≡ empty → 0 ≡ stage_entry (plan_lanes d) d p (s + 1) i
  unfolding stage_entry
  entry_empty h = rw (eq-eqb (level_at d p (s + 1) i) empty (sym pin ∙ h), stage_entry)

  module _ (there : x ≡ empty → ⊥) where
    at_next : level_at d p (suc s) i ≡ x
    at_next = ap (λ (t : ℕ). level_at d p t i) (sym (add-one s)) ∙ sym pin

    entry_next : stage_entry (plan_lanes d) d p (suc s) i ≡ highest d p s (level_at d p (suc s) i)
    unfolding stage_entry pin_entry
    entry_next = rw (ne_eqb (level_at d p (suc s) i) empty (λ e. there (sym at_next ∙ e)), stage_entry)

    pub entry_is : stage_entry (plan_lanes d) d p (s + 1) i ≡ highest d p s x
    entry_is = ap (λ (t : ℕ). stage_entry (plan_lanes d) d p t i) (add-one s) ∙ (entry_next ∙ ap (highest d p s) at_next)

    module _ (t : List ℕ) (held : FilledWith (position_puts d p s) t) (r : code.Option ℕ) (found : r ≡ item_of (look t x)) where
      pub entry_found : (v : ℕ) → r ≡ Some v → v ≡ stage_entry (plan_lanes d) d p (s + 1) i
      entry_found v e = found_at_lem (highest d p s x) v (sym (positions_found d t p s x held there) ∙ item_some (look t x) v (sym found ∙ e)) ∙ sym entry_is

      pub entry_missing : r ≡ None → 0 ≡ stage_entry (plan_lanes d) d p (s + 1) i
      entry_missing e = found_not (highest d p s x) (sym (positions_found d t p s x held there) ∙ item_none (look t x) (sym found ∙ e)) ∙ sym entry_is

-- an entry is a position
pub entry_small : (d : List ℕ) (p s i : ℕ) → stage_entry (plan_lanes d) d p (s + 1) i < slots_of d
entry_small d p s i = by (ℕ_discrete (level_at d p (s + 1) i) empty)
  where
    by : Dec (level_at d p (s + 1) i ≡ empty) → stage_entry (plan_lanes d) d p (s + 1) i < slots_of d
    by (yes e) = omega (arith, entry_empty d p s i _ refl e, lanes_range d)
    by (no n) = omega (arith, entry_is d p s i _ refl n, (highest_is d p s (level_at d p (s + 1) i)).below, lanes_range d)
