use Rattle.std.proofs.Common.{◌≡◌, ◌<◌, length, arith}
use Rattle.plan_record.specs.Record.{endpoints_of}
use Rattle.plan_counts.proofs.CollectLaws.{collect_start, collect_room, collect_more, collect_all}
use Rattle.plan_counts.proofs.activations.collect.Goals as goal

pub loop-i-init : goal.loop-i-init
loop-i-init c = collect_start _ _ _

pub put_key-n-requires : goal.put_key-n-requires
put_key-n-requires c =
    let room : c.loop-i.i < length c.args.keys.now = omega (arith, c.args.part.now.of.laid.endpoints) in
    (c.requires.0, omega arith, collect_room _ _ _ _ _ _ c.loop-i.invariant room)

pub loop-i-preserved : goal.loop-i-preserved
loop-i-preserved c =
    let room : c.loop-i.i < length c.args.keys.now = omega (arith, c.args.part.now.of.laid.endpoints) in
    collect_more _ _ _ _ _ _ c.loop-i.invariant room _ _ c.put_key-n.ensures.keys_after c.put_key-n.ensures.value

pub returns : goal.returns
returns c =
    let e : c.loop-i.i ≡ endpoints_of c.args.part.now.d.now c.args.part.now.p = omega (arith, c.args.part.now.of.endpoints) in
    let all = collect_all _ _ _ _ _ _ c.loop-i.invariant e (omega (arith, c.args.part.now.of.laid.endpoints)) in
    record { value = (all.0, all.1); keys_after = all.2 }
