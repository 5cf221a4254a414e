-- `values::value_lent` meets its contract: 14, or what is worked out in the words that are lent on.
-- Assumes nothing.
use mathlib.Core.Path.{sym, ap, ◌∙◌}
use mathlib.Core.List.{List, ◌++◌}
use Prim.Native.Nat.{ℕ}
use native.Mathlib.Omega.{arith}
use lib.ListN.{length, drop}
use lib.Seq.{length-take-le}
use Rattle.std.specs.Prelude.{Ok, Err}
use Rattle.values.specs.Values.{gate_values, valued_of}
use Rattle.values.proofs.ValueAnswerLaws.{lent_short, lent_enough, bits_kept, bits_held, values_length}
use Rattle.values.proofs.value_lent.Goals as goal

pub returns-then-bits-words : goal.returns-then-bits-words
returns-then-bits-words c =
    let e = lent_short c.args.plan.now c.args.part c.args.old.now c.args.new.now (length c.args.bits.now) c.args.pin.0 (omega arith) in
    record { value = ap Err c.nowhere.ensures ∙ ap valued_of (sym e); room_after = c.requires.clear.is; bits_after = bits_kept _ 14 0 c.args.bits.now e }

pub slice_bounds-fill_bits-end-2 : goal.slice_bounds-fill_bits-end-2
slice_bounds-fill_bits-end-2 c =
    sym (length-take-le c.bit_words-words.result c.args.bits.now (omega arith))

pub fill_bits-requires : goal.fill_bits-requires
fill_bits-requires c =
    (c.requires, length-take-le c.bit_words-words.result c.args.bits.now (omega arith) ∙ c.bit_words-words.ensures)

pub returns : goal.returns
returns c =
    let values = gate_values c.args.plan.now c.args.part c.args.old.now c.args.new.now in
    let e = lent_enough c.args.plan.now c.args.part c.args.old.now c.args.new.now (length c.args.bits.now) c.args.pin.0 (omega arith) in
    let size = values_length c.args.plan.now c.args.part c.args.old.now c.args.new.now ∙ sym c.bit_words-words.ensures in
    let held = ap (λ (a : List ℕ). a ++ drop c.bit_words-words.result c.args.bits.now) c.fill_bits.ensures.bits_after
    ∙ bits_held _ _ c.bit_words-words.result values c.args.bits.now e size (omega arith) in
    record { value = ap Ok c.fill_bits.ensures.value ∙ ap valued_of (sym e); room_after = c.fill_bits.ensures.room_after; bits_after = held }
