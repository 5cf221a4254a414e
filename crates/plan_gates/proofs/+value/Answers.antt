-- `plan_gates::value` meets its contract: a law for each way out. Assumes nothing.
use Rattle.std.proofs.Common.{◌<◌, arith}
use Rattle.std.proofs.Common.{sym, ◌∙◌}
use Rattle.words.proofs.FoundLaws.{item_some}
use Rattle.plan_gates.proofs.GateLaws.{gate_at_lem}
use Rattle.plan_gates.proofs.ValueCodeLaws.{first_under, second_under, bit_known, bit_stored, bit_neither, bit_gate}
use Rattle.plan_gates.proofs.+value.Goals as goal

pub bit_at-requires : goal.bit_at-requires
bit_at-requires t c =
    let found = gate_at_lem c.args.d.now c.args.pin.0 _ (item_some _ _ (sym c.find_gate.ensures ∙ c.in-Some-find_gate.is)) in
    let room = c.requires.2.room in
    omega (arith, found.0, room)

pub returns-then-g-done : goal.returns-then-g-done
returns-then-g-done t c =
    bit_stored c.args.d.now c.args.known.now c.args.bits.now c.args.done c.args.pin.0 _ _ c.requires.2
    (item_some _ _ (sym c.find_gate.ensures ∙ c.in-Some-find_gate.is))
    c.if-g-done.true
    c.bit_at.ensures

pub value-a-requires : goal.value-a-requires
value-a-requires t c =
    let h : c.pin.result.0 < c.args.pin.0 = first_under c.args.d.now c.requires.0.gates c.args.pin.0 _ c.find_gate.ensures _
    c.in-Some-find_gate.is _ _ c.gate_first-first.ensures c.pin.ensures in
    (omega arith, (c.requires.0, omega arith, c.requires.2))

pub value-b-requires : goal.value-b-requires
value-b-requires t c =
    let h : c.pin-in-Some-find_gate.result.0 < c.args.pin.0 = second_under c.args.d.now c.requires.0.gates c.args.pin.0 _ c.find_gate.ensures _
    c.in-Some-find_gate.is _ _ c.gate_second-second.ensures c.pin-in-Some-find_gate.ensures in
    (omega arith, (c.requires.0, omega arith, c.requires.2))

pub returns-in-Some : goal.returns-in-Some
returns-in-Some t c =
    bit_known c.args.d.now c.args.known.now c.requires.0 c.args.pin.0 _ c.look_up.ensures _ c.in-Some.is

pub returns-else-g-done : goal.returns-else-g-done
returns-else-g-done t c = (
  bit_gate c.args.d.now c.args.known.now c.requires.0 c.args.pin.0 _ c.look_up.ensures _ _ _ _ _ _ _ _
      c.in-None.is
      (item_some _ _ (sym c.find_gate.ensures ∙ c.in-Some-find_gate.is))
      c.gate_first-first.ensures
      c.gate_second-second.ensures
      c.pin.ensures
      c.pin-in-Some-find_gate.ensures
      c.value-a.ensures.0
      c.value-b.ensures.0
      c.and_gate.ensures.0,
  c.and_gate.ensures.1,
)

pub returns-in-None-find_gate : goal.returns-in-None-find_gate
returns-in-None-find_gate t c =
    bit_neither c.args.d.now c.args.known.now c.requires.0 c.args.pin.0 _ c.look_up.ensures _
    c.in-None.is
    c.find_gate.ensures
    c.in-None-find_gate.is
