use Rattle.std.proofs.Common.{rules, ◌≡◌, ◌*◌, ◌≤◌, length, replicate, ap, ◌∙◌, arith}
use Rattle.plan_record.specs.Record.{gates_of}
use Rattle.pinmap.specs.PinMap.{look}
use Rattle.plan_gates.specs.GateValues.{gate_words}
use Rattle.plan_gates.proofs.ValueCodeLaws.{stored_none, stored_below, gates_stored_more, stored_all}
use Rattle.plan_gates.proofs.all_values.Goals as goal

pub loop-g-init : goal.loop-g-init
loop-g-init c =
    let cleared : c.fill.new.self ≡ replicate (length c.fill.new.self) 0 = search rules in
    stored_none _ _ _ _ cleared

pub store_gate-requires : goal.store_gate-requires
store_gate-requires c =
    let room : gates_of c.args.d.now ≤ 32 * length c.fill.new.self = omega (arith, c.fill.ensures.len, c.requires.room) in
    record {
      given = c.requires.given;
      inside = omega arith;
      askable = c.requires.askable _ (omega arith);
      below = stored_below c.args.d.now c.args.known.now _ _ _ room c.loop-g.invariant;
    }

pub loop-g-preserved : goal.loop-g-preserved
loop-g-preserved c =
    let room : gates_of c.args.d.now ≤ 32 * length c.fill.new.self = omega (arith, c.fill.ensures.len, c.requires.room) in
    gates_stored_more c.args.d.now c.args.known.now _ _ _ _ c.requires.given room (omega arith) c.loop-g.invariant c.store_gate.ensures

pub returns : goal.returns
returns c =
    stored_all c.args.d.now c.args.known.now _ _ _ c.requires.given (omega arith) (omega arith) c.loop-g.invariant
    ∙ ap (gate_words c.args.d.now (look c.args.known.now)) c.fill.ensures.len
