use mathlib.Core.Path.{◌≡◌}
use Prim.Native.Nat.{◌+◌, ◌*◌}
use native.Mathlib.Omega.{arith}
use Rattle.run_stage.proofs.GatherLaws.{bits_none, bits_more}
use Rattle.run_stage.proofs.gather_word.Goals as goal

pub loop-h-init : goal.loop-h-init
loop-h-init c = bits_none _ _ _ _

pub picked-requires : goal.picked-requires
picked-requires c =
    let low = c.args.p.now.entries (32 * c.args.j + 2 * c.loop-h.h) (omega arith) in
    let high = c.args.p.now.entries (32 * c.args.j + 2 * c.loop-h.h + 1) (omega arith) in
    (omega (arith, c.pair_of.ensures.0), omega (arith, c.pair_of.ensures.1))

pub loop-h-preserved : goal.loop-h-preserved
loop-h-preserved c =
    (bits_more _ _ _ _ _ _ _ c.loop-h.invariant (omega arith) (rw (← c.pair_of.ensures.0, ← c.pair_of.ensures.1) c.picked.ensures))

pub returns : goal.returns
returns c =
    let e : c.loop-h.h ≡ 16 = omega arith in
    rw e at c.loop-h.invariant
