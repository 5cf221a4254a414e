-- `values::fill_bits` meets its contract. The values over the table of state bits are those of the definition (ValueAnswerLaws).
-- Assumes nothing.
use mathlib.Core.Path.{◌∙◌}
use native.Mathlib.Omega.{arith}
use Rattle.values.proofs.ValueAnswerLaws.{known_length, given, value_is, value_empty, fillable, all_valued, values_are, lent_cleared}
use borrow.Author.Rules.{rules}
use Rattle.values.proofs.fill_bits.Goals as goal
use Rattle.values.proofs.fill_bits.Goals.{then-pin-ne-EMPTY_PIN, else-pin-ne-EMPTY_PIN}

pub slice_bounds-all_values-end-2 : goal.slice_bounds-all_values-end-2
slice_bounds-all_values-end-2 c =
    let o = c.args in
    known_length o.plan.now o.part o.old.now o.new.now _ c.fill_known.ensures

pub all_values-requires : goal.all_values-requires
all_values-requires c =
    fillable c.args.plan.now c.args.part c.args.old.now c.args.new.now _ c.fill_known.ensures c.requires.0.form c.requires.0.gates _ c.requires.1

pub slice_bounds-value-end-then-pin-ne-EMPTY_PIN : goal.slice_bounds-value-end-then-pin-ne-EMPTY_PIN
slice_bounds-value-end-then-pin-ne-EMPTY_PIN c =
    let o = c.args in
    known_length o.plan.now o.part o.old.now o.new.now _ c.fill_known.ensures

pub value-bit-requires : goal.value-bit-requires
value-bit-requires c =
    let good = given c.args.plan.now c.args.part c.args.old.now c.args.new.now _ c.fill_known.ensures c.requires.0.gates in
    let valued = all_valued c.args.plan.now c.args.part c.args.old.now c.args.new.now _ c.fill_known.ensures c.requires.0.form c.requires.0.gates _ _
    c.requires.1
    c.all_values.ensures in
    (good, search rules, rw c.gates_of.ensures valued)

pub returns : goal.returns
returns c =
    let zeros = lent_cleared c.args.room.now c.fill_known.new.room _ c.clear.ensures c.fill_known.auto.room in
    let values = values_are c.args.plan.now c.args.part c.args.old.now c.args.new.now _ c.fill_known.ensures c.requires.0.form c.requires.0.gates _ _
    c.requires.1
    c.all_values.ensures in
    record {
      value =
          (elim c.if-pin-ne-EMPTY_PIN.branch [
            | then-pin-ne-EMPTY_PIN w ↦
                w.bit-is
                ∙ value_is c.args.plan.now c.args.part c.args.old.now c.args.new.now _ c.fill_known.ensures c.requires.0.gates c.args.pin.0 _ (omega arith) w.value-bit.ensures.0
            | else-pin-ne-EMPTY_PIN w ↦ w.bit-is ∙ value_empty c.args.plan.now c.args.part c.args.old.now c.args.new.now c.args.pin.0 w.if-pin-ne-EMPTY_PIN.false
          ]);
      room_after = zeros;
      bits_after = values;
    }
