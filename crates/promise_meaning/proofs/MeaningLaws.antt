-- The captured bits of a part of an accepted plan: each that carries a pin is the pin's value, worked from the gates.
-- Assumes nothing.
use mathlib.Core.Path.{◌≡◌, sym, ap, ◌∙◌}
use mathlib.Core.List.{List}
use Prim.Native.Nat.{ℕ, suc, ◌+◌, ◌*◌, ◌/◌, ◌%◌, ◌<◌}
use native.Mathlib.Omega.{arith}
use lib.ListN.{get_or}
use Rattle.words.specs.Bit.{bit}
use Rattle.words.specs.Edition.{levels_for}
use Rattle.plan_record.specs.Record.{plan_lanes, locations_of, location_at, slot_at}
use Rattle.plan_record.proofs.RecordLaws.{lanes_range}
use Rattle.words.specs.Pins.{empty}
use Rattle.values.specs.Values.{pin_value}
use Rattle.script.specs.Script.{location_stage}
use Rattle.run_machine.specs.Part.{stages_at, location_in}
use Rattle.run_machine.specs.Turn.{read_row}
use Rattle.run_machine.proofs.StageBitLaws.{at_word_lem}
use Rattle.promise_order.specs.Order.{row_after, captured_by}
use Rattle.promise_decode.specs.Decoded.{Decoded}
use Rattle.promise_meaning.specs.Meaning.{PassedPart}
use Rattle.promise_meaning.proofs.ChainLaws.{location_at_lem, kept_word, row_values}

-- LAYER 2 of demand 3
pub captured_pin : (d : List ℕ) (p last state sram : ℕ) (W : List ℕ) (o : ℕ) (old new : List ℕ) → PassedPart d p → Decoded (plan_lanes d) d p last state sram W o
    → (l k : ℕ) → l < locations_of d p → k < 32 → 0 < 32 * location_at d p l + k
    → (slot_at d p (location_stage d p l) (32 * location_at d p l + k) ≡ empty → ⊥)
    → bit (get_or (captured_by (plan_lanes d) (levels_for (plan_lanes d)) W o old new) l 0) k ≡ pin_value d p old new (slot_at d p (location_stage d p l) (32 * location_at d p l + k))
captured_pin d p last state sram W o old new s w l k inside bit-there some-position full =
    let at = location_at_lem d p s l inside in
    let i = location_stage d p l in
    let v = location_at d p l in
    let n = plan_lanes d in
    let H = levels_for n in
    let small : v < n = at.word in
    let most = lanes_range d in
    let row = read_row n W o old new in
    let place : location_in n W o l ≡ 256 * i + v = w.location l inside in
    let stage : location_in n W o l / 256 ≡ i = omega arith in
    let word : location_in n W o l % 256 ≡ v = omega arith in
    let kept : get_or (captured_by n H W o old new) l 0 ≡ get_or (row_after n H W o row (suc i)) v 0 =
    kept_word n H W o row l i v (omega (arith, w.normal)) stage word (stages_at W o) (omega (arith, w.stages, at.stage)) in
    ap (λ (x : ℕ). bit x k) kept ∙ sym (at_word_lem (row_after n H W o row (suc i)) v k bit-there)
    ∙ row_values d p s last state sram W o w old new i at.stage (32 * v + k) some-position (omega arith) full
