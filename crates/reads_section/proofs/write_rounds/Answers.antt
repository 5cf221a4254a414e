use mathlib.Core.Path.{refl, sym, ◌∙◌}
use Prim.Native.Nat.{◌*◌}
use native.Mathlib.Nat.{mul-zero, sub-zero}
use native.Mathlib.Omega.{arith}
use Rattle.reads_section.proofs.ReadoutLaws.{rounds_step, rounds_end, at_step, at_next}
use Rattle.reads_section.proofs.write_rounds.Goals as goal

pub loop-r-init : goal.loop-r-init
loop-r-init c = rw (mul-zero, sub-zero)

pub write_round-requires : goal.write_round-requires
write_round-requires c =
    let s = at_step (2 * c.args.lanes) c.loop-r.r c.args.rounds c.loop-r-test.true in
    (c.requires.table, omega (arith, c.requires.rounds), omega (arith, c.requires.fits, s))

pub loop-r-preserved : goal.loop-r-preserved
loop-r-preserved c =
    rw (c.write_round.ensures, ← (at_next (2 * c.args.lanes) c.loop-r.r _ refl))
    (rounds_step _ c.args.rounds c.loop-r.out _ c.loop-r.r c.args.lanes c.requires.table.filled.kept.wide c.loop-r-test.true ∙ c.loop-r.invariant)

pub returns : goal.returns
returns c =
    sym (rounds_end _ c.args.rounds c.loop-r.out _ c.loop-r.r (omega arith)) ∙ c.loop-r.invariant
