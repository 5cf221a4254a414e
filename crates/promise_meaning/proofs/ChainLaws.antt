-- Stage after stage: a later stage gathers each pin from its highest position in the stage before, which holds its value. And which stage a location
-- is captured after.
-- Assumes nothing.
use mathlib.Core.Path.{◌≡◌, sym, ap, ◌∙◌}
use mathlib.Core.List.{List}
use mathlib.Core.Logic.{⊎_elim}
use Prim.Native.Nat.{ℕ, zero, suc, ◌/◌, ◌%◌, ◌<◌}
use native.Mathlib.Nat.{not-suc-le-zero}
use native.Mathlib.Numerals.{add-one}
use native.Mathlib.Omega.{arith}
use borrow.Author.Tests.{eq-eqb, ne_eqb}
use lib.ListN.{get_or}
use Rattle.words.specs.Bit.{bit_at}
use Rattle.words.specs.Edition.{levels_for}
use Rattle.words.proofs.BitLaws.{lt_or_ge}
use Rattle.plan_record.specs.Record.{plan_lanes, stages_of, locations_of, level_at}
use Rattle.words.specs.Pins.{empty}
use Rattle.plan_record.proofs.PlanFormLaws.{formed}
use Rattle.plan_counts.proofs.PartCountLaws.{counts_passed}
use Rattle.plan_slots.specs.Slots.{highest}
use Rattle.plan_slots.proofs.SlotLaws.{later_highest}
use Rattle.values.specs.Values.{pin_value}
use Rattle.script.specs.Script.{stage_entry, pin_entry}
use Rattle.run_machine.specs.Part.{normal_at, location_in, entry_at}
use Rattle.run_machine.specs.Turn.{read_row}
use Rattle.run_machine.proofs.TurnLaws.{captured_word_lem}
use Rattle.promise_order.specs.Order.{row_after, caps_after}
use Rattle.promise_decode.specs.Decoded.{Decoded}
use Rattle.promise_decode.proofs.DecodeLaws.{stage_lt}
use Rattle.promise_meaning.specs.Meaning.{PassedPart, LocationAt, Gathers, HoldsValues}
use Rattle.promise_meaning.proofs.ReadLaws.{first_gathers}
use Rattle.promise_meaning.proofs.StageValueLaws.{stage_values}

-- ---- a word that is captured after stage k stays

module _ (n H : ℕ) (W : List ℕ) (o : ℕ) (row : List ℕ) (l k w : ℕ) (inside : l < normal_at W o) (stage : location_in n W o l / 256 ≡ k) (word : location_in n W o l % 256 ≡ w) where
  pub kept_word : (m : ℕ) → k < m → get_or (caps_after n H W o row m) l 0 ≡ get_or (row_after n H W o row (suc k)) w 0
  unfolding caps_after
  kept_word zero h = absurd (not-suc-le-zero h)
  kept_word (suc m) h = captured_word_lem n W o m (row_after n H W o row (suc m)) (caps_after n H W o row m) l inside ∙ ⊎_elim
      (λ b. rw (ne_eqb (location_in n W o l / 256) m (λ e. omega arith)) (kept_word m b))
      (λ b.
      let e : k ≡ m = omega arith in
      rw (eq-eqb (location_in n W o l / 256) m (stage ∙ e), word, e))
      (lt_or_ge k m)

-- ---- the stage of a location

module _ (d : List ℕ) (p : ℕ) (s : PassedPart d p) where
  some_stages : 0 < stages_of d p
  some_stages = ((formed d s.form).part p s.part).some_stages

  pub location_at_lem : (l : ℕ) → l < locations_of d p → LocationAt d p l
  location_at_lem l h = record {
    stage = stage_lt d p l h;
    word = (counts_passed d s.seven p s.part).location l h;
  }

  module _ (last state sram : ℕ) (W : List ℕ) (o : ℕ) (w : Decoded (plan_lanes d) d p last state sram W o) (old new : List ℕ) where
    -- ---- the rows

    later-entry : (k j : ℕ) → (level_at d p (suc k) j ≡ empty → ⊥) → stage_entry (plan_lanes d) d p (suc k) j ≡ highest d p k (level_at d p (suc k) j)
    unfolding stage_entry pin_entry
    later-entry k j full = rw (ne_eqb _ _ full, stage_entry, pin_entry)

    later-gathers : (k : ℕ) → suc k < stages_of d p → (row : List ℕ) → HoldsValues d p old new k row → Gathers d p old new W o (suc k) row
    later-gathers k stage row holds j l full =
        let x = level_at d p (suc k) j in
        let (some-position, within, there) = rw add-one at (later_highest d s.ten p k j s.part (rw add-one stage) l (rw add-one full)) in
        let here : entry_at (plan_lanes d) W o (suc k) j ≡ highest d p k x = w.entry (suc k) j stage l ∙ later-entry k j full in
        ap (bit_at row) here ∙ holds (highest d p k x) some-position within (λ e. full (sym there ∙ e)) ∙ ap (pin_value d p old new) there

    pub row_values : (k : ℕ) → k < stages_of d p → HoldsValues d p old new k (row_after (plan_lanes d) (levels_for (plan_lanes d)) W o (read_row (plan_lanes d) W o old new) (suc k))
    unfolding row_after
    row_values zero stage = stage_values d p s last state sram W o w old new zero stage _ (first_gathers d p s last state sram W o w old new some_stages)
    row_values (suc k) stage =
        stage_values d p s last state sram W o w old new (suc k) stage _ (later-gathers k stage _ (row_values k (omega arith)))
