use native.Mathlib.Omega.{arith}
use Prim.Native.Nat.{◌+◌, ◌-◌}
use Rattle.words.proofs.RoundLaws.{next_lt}
use Rattle.pinmap.specs.PinMap.{capacity}
use Rattle.pinmap.proofs.PinMapCodeLaws.{rounding_start, rounding_free, rounding_taken, rounding_on, rounding_over}
use Rattle.pinmap.proofs.go_round.Goals as goal

pub loop-init : goal.loop-init
loop-init c = (c.requires.1, rounding_start c.args.t.now _ c.args.from (capacity c.args.t.now - 0) (omega arith))

pub returns-then-found-eq0 : goal.returns-then-found-eq0
returns-then-found-eq0 c =
    rounding_free c.args.t.now c.args.from _ c.loop.i c.key_of-found.result (omega arith) c.key_of-found.ensures c.args.p.0 c.if-found-eq0.true c.loop.invariant.1

pub returns-then-found-key : goal.returns-then-found-key
returns-then-found-key c =
    rounding_taken c.args.t.now c.args.from _ c.loop.i c.key_of-found.result (omega arith) c.key_of-found.ensures c.args.p.0 c.if-found-key.true c.loop.invariant.1

pub loop-preserved : goal.loop-preserved
loop-preserved c =
    let g = rounding_on c.args.t.now c.args.from (capacity c.args.t.now - c.loop.counter) c.loop.i c.key_of-found.result (omega arith) c.key_of-found.ensures _
    (capacity c.args.t.now - (c.loop.counter + 1)) (omega arith)
    c.if-found-eq0.false c.if-found-key.false c.loop.invariant.1 in
    rw c.next_of-i.ensures (next_lt _ _ c.loop.invariant.0, g)

pub returns : goal.returns
returns c = rounding_over c.args.t.now c.args.p.0 c.args.from _ c.loop.i (omega arith) c.loop.invariant.1
