-- A refusal of one group is that of the plan, those before it being passed.
-- Assumes nothing.
use mathlib.Core.Path.{◌≡◌, sym, ap, ◌∙◌}
use mathlib.Core.Bool.{true}
use mathlib.Core.Option.{Option, none}
use mathlib.Core.List.{List}
use Prim.Native.Nat.{ℕ}
use Rattle.words.specs.Edition.{known}
use Rattle.plan_record.specs.Record.{edition_of}
use Rattle.plan_record.specs.Form.{plan_form}
use Rattle.plan_gates.specs.Gates.{bad_gate}
use Rattle.plan_counts.specs.Counts.{refusal7}
use Rattle.plan_slots.specs.Slots.{refusal9, refusal10, refusal11}
use Rattle.plan_positions.specs.Positions.{refusal12}
use Rattle.plan_entries.specs.TableEntries.{refusal13}
use Rattle.words.specs.declared.refusals.Refusal.{Refusal}
use Rattle.plan_refusals.specs.Refusals.{or_else, unless, gate_place, plan_refusal}
use Rattle.plan_refusals.specs.RefusalGroups.{first, list_refusal, total_refusal, pin_refusal, place_refusal, read_refusal}
use Rattle.plan_refusals.proofs.RefusalOrderLaws.{from_places, from_pins, from_totals, plan_first}
use Rattle.std.specs.Prelude.{⊤, Err}
use Rattle.std.specs.declared.result.Result.{Result}
use Rattle.plan_checks.specs.Verdicts.{verdict_of}
use Rattle.plan_checks.proofs.VerdictLaws.{stopped, stopped_at, stopped_by}

-- ---- a later step of a group, those before it being passed

module _ (d : List ℕ) (q : Refusal) where
  pub list_edition : Err q ≡ verdict_of (unless 29 (known (edition_of d)) none) → Err q ≡ verdict_of (list_refusal d)
  unfolding list_refusal
  list_edition is = stopped_by 29 (known (edition_of d)) q is _

  module _ (edition : known (edition_of d) ≡ true) where
    pub list_five : Err q ≡ verdict_of (unless 5 (plan_form d) none) → Err q ≡ verdict_of (list_refusal d)
    unfolding list_refusal
    list_five is = rw (list_refusal, edition) (stopped_by 5 (plan_form d) q is _)

    pub list_six : plan_form d ≡ true → Err q ≡ verdict_of (or_else 6 (gate_place (bad_gate d)) none) → Err q ≡ verdict_of (list_refusal d)
    unfolding list_refusal
    list_six form is = rw (list_refusal, edition, form) (stopped_at 6 (gate_place (bad_gate d)) q is _)

  pub pin_nine : Err q ≡ verdict_of (or_else 9 (refusal9 d) none) → Err q ≡ verdict_of (pin_refusal d)
  unfolding pin_refusal
  pin_nine is = stopped_at 9 (refusal9 d) q is _

  pub pin_ten : refusal9 d ≡ none → Err q ≡ verdict_of (or_else 10 (refusal10 d) none) → Err q ≡ verdict_of (pin_refusal d)
  unfolding pin_refusal
  pin_ten nine is = rw (pin_refusal, nine) (stopped_at 10 (refusal10 d) q is _)

  pub place_twelve : Err q ≡ verdict_of (or_else 12 (refusal12 d) none) → Err q ≡ verdict_of (place_refusal d)
  unfolding place_refusal
  place_twelve is = stopped_at 12 (refusal12 d) q is _

-- ---- the last step of a group

module _ (d : List ℕ) (v : Result ⊤ Refusal) where
  pub list_seven : known (edition_of d) ≡ true → plan_form d ≡ true → gate_place (bad_gate d) ≡ none → v ≡ verdict_of (or_else 7 (refusal7 d) none) → v ≡ verdict_of (list_refusal d)
  unfolding list_refusal
  list_seven edition form gates is = rw (list_refusal, edition, form, gates) is

  pub pin_eleven : refusal9 d ≡ none → refusal10 d ≡ none → v ≡ verdict_of (or_else 11 (refusal11 d) none) → v ≡ verdict_of (pin_refusal d)
  unfolding pin_refusal
  pin_eleven nine ten is = rw (pin_refusal, nine, ten) is

  pub place_thirteen : refusal12 d ≡ none → v ≡ verdict_of (or_else 13 (refusal13 d) none) → v ≡ verdict_of (place_refusal d)
  unfolding place_refusal
  place_thirteen twelve is = rw (place_refusal, twelve) is

-- ---- a group that ends the checks

module _ (d : List ℕ) where
  pub plan_lists : (q : Refusal) → Err q ≡ verdict_of (list_refusal d) → Err q ≡ verdict_of (plan_refusal d)
  plan_lists q is = stopped (list_refusal d) q is (from_totals d) ∙ ap verdict_of (sym (plan_first d))

  module _ (lists : list_refusal d ≡ none) where
    past-lists : (v : Result ⊤ Refusal) → v ≡ verdict_of (from_totals d) → v ≡ verdict_of (plan_refusal d)
    past-lists v is = is ∙ ap verdict_of (ap (λ (o : Option Refusal). first o (from_totals d)) (sym lists) ∙ sym (plan_first d))

    pub plan_totals : (q : Refusal) → Err q ≡ verdict_of (total_refusal d) → Err q ≡ verdict_of (plan_refusal d)
    plan_totals q is = past-lists _ (stopped (total_refusal d) q is (from_pins d))

    module _ (totals : total_refusal d ≡ none) where
      past-totals : (v : Result ⊤ Refusal) → v ≡ verdict_of (from_pins d) → v ≡ verdict_of (plan_refusal d)
      past-totals v is = past-lists _ (is ∙ ap verdict_of (ap (λ (o : Option Refusal). first o (from_pins d)) (sym totals)))

      pub plan_pins : (q : Refusal) → Err q ≡ verdict_of (pin_refusal d) → Err q ≡ verdict_of (plan_refusal d)
      plan_pins q is = past-totals _ (stopped (pin_refusal d) q is (from_places d))

      module _ (pins : pin_refusal d ≡ none) where
        past-pins : (v : Result ⊤ Refusal) → v ≡ verdict_of (from_places d) → v ≡ verdict_of (plan_refusal d)
        past-pins v is = past-totals _ (is ∙ ap verdict_of (ap (λ (o : Option Refusal). first o (from_places d)) (sym pins)))

        pub plan_places : (q : Refusal) → Err q ≡ verdict_of (place_refusal d) → Err q ≡ verdict_of (plan_refusal d)
        plan_places q is = past-pins _ (stopped (place_refusal d) q is (read_refusal d))

        pub plan_reads : (v : Result ⊤ Refusal) → place_refusal d ≡ none → v ≡ verdict_of (read_refusal d) → v ≡ verdict_of (plan_refusal d)
        plan_reads v places is = past-pins _ (is ∙ ap verdict_of (ap (λ (o : Option Refusal). first o (read_refusal d)) (sym places)))
