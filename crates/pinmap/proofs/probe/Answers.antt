use mathlib.Core.Path.{refl, sym}
use Prim.Native.Nat.{◌+◌, ◌-◌}
use native.Mathlib.Omega.{arith}
use Rattle.pinmap.specs.PinMap.{capacity}
use Rattle.pinmap.proofs.ProbeLaws.{scattered_lt, scattered_on_lt, home_lt, slot_none}
use Rattle.pinmap.proofs.PinMapCodeLaws.{homing_start, homing_free, homing_taken, homing_on, homing_over}
use Rattle.pinmap.proofs.probe.Goals as goal

pub returns-then-slots-eq0 : goal.returns-then-slots-eq0
returns-then-slots-eq0 c = sym (slot_none _ _ c.if-slots-eq0.true)

pub loop-init : goal.loop-init
loop-init c =
    (rw c.scatter-s.ensures (scattered_lt c.args.p.0), homing_start c.args.t.now c.args.p.0 c.scatter-s.result _ refl (omega arith) c.scatter-s.ensures)

pub home_slot-i-requires : goal.home_slot-i-requires
home_slot-i-requires c = c.loop.invariant.0

pub key_of-found-requires : goal.key_of-found-requires
key_of-found-requires c =
    rw c.home_slot-i.ensures (home_lt (capacity c.args.t.now) c.loop.s (omega arith) c.loop.invariant.0)

pub returns-then-found-eq0 : goal.returns-then-found-eq0
returns-then-found-eq0 c =
    homing_free c.args.t.now _ c.loop.s c.home_slot-i.result c.key_of-found.result (omega arith) c.home_slot-i.ensures
    c.key_of-found.ensures c.args.p.0 c.if-found-eq0.true c.loop.invariant.1

pub returns-then-found-key : goal.returns-then-found-key
returns-then-found-key c =
    homing_taken c.args.t.now _ c.loop.s c.home_slot-i.result c.key_of-found.result (omega arith) c.home_slot-i.ensures
    c.key_of-found.ensures c.args.p.0 c.if-found-key.true c.loop.invariant.1

pub scatter_on-s-requires : goal.scatter_on-s-requires
scatter_on-s-requires c = c.loop.invariant.0

pub loop-preserved : goal.loop-preserved
loop-preserved c =
    let g = homing_on c.args.t.now (32 - c.loop.counter) c.loop.s c.home_slot-i.result c.key_of-found.result (omega arith) c.home_slot-i.ensures
    c.key_of-found.ensures _ (32 - (c.loop.counter + 1)) (omega arith) c.if-found-eq0.false c.if-found-key.false c.loop.invariant.1 in
    rw c.scatter_on-s.ensures (scattered_on_lt c.loop.s, g)

pub home_slot-requires : goal.home_slot-requires
home_slot-requires c = c.loop.invariant.0

pub go_round-requires : goal.go_round-requires
go_round-requires c =
    let h = home_lt (capacity c.args.t.now) c.loop.s (omega arith) c.loop.invariant.0 in
    (c.requires, rw c.home_slot.ensures h)

pub returns : goal.returns
returns c =
    homing_over c.args.t.now c.args.p.0 _ c.loop.s c.home_slot.result c.go_round.result (omega arith) c.home_slot.ensures
    c.go_round.ensures c.loop.invariant.1
