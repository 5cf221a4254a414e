-- `plan_reads::entries::first_entry` meets its contract: a numbered pin stands at its local position.
-- Assumes nothing.
use mathlib.Core.Path.{sym, ◌∙◌}
use native.Mathlib.Omega.{arith}
use Prim.Native.Nat.{◌<◌}
use Rattle.plan_record.specs.Record.{slots_of}
use Rattle.plan_reads.proofs.FirstEntryLaws.{entry_empty, entry_local}
use Rattle.plan_reads.proofs.entries.first_entry.Goals as goal

pub returns-then-pin : goal.returns-then-pin
returns-then-pin c = entry_empty _ _ _ (sym c.level_slot-pin.ensures ∙ c.if-pin.true)

pub bit_of_pin-requires : goal.bit_of_pin-requires
bit_of_pin-requires c =
    let slot-in : c.args.i < slots_of c.args.part.now.d.now = omega (arith, c.requires.1, c.args.part.now.of.lanes) in
    (omega arith, rw c.level_slot-pin.ensures (c.requires.2 c.args.i (slot-in) (λ z. c.if-pin.false (c.level_slot-pin.ensures ∙ z))))

pub local_position-requires : goal.local_position-requires
local_position-requires c =
    let slot-in : c.args.i < slots_of c.args.part.now.d.now = omega (arith, c.requires.1, c.args.part.now.of.lanes) in
    rw (c.bit_of_pin.ensures.0, c.level_slot-pin.ensures) (c.requires.3 c.args.i (slot-in) (λ z. c.if-pin.false (c.level_slot-pin.ensures ∙ z))).placeable

pub returns : goal.returns
returns c =
    let slot-in : c.args.i < slots_of c.args.part.now.d.now = omega (arith, c.requires.1, c.args.part.now.of.lanes) in
    entry_local c.args.part.now.d.now c.args.set.now c.args.bases.now c.args.part.now.p c.args.i _ _ _ c.level_slot-pin.ensures c.if-pin.false (c.requires.3 c.args.i (slot-in) (λ z. c.if-pin.false (c.level_slot-pin.ensures ∙ z))) c.bit_of_pin.ensures.0 c.local_position.ensures
