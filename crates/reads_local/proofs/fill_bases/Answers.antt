use mathlib.Core.Path.{sym, ◌∙◌}
use native.Mathlib.Omega.{arith}
use Rattle.reads_local.proofs.BaseLaws.{lanes_on, lanes_end, readable_row}
use Rattle.reads_local.proofs.fill_bases.Goals as goal

pub lane_bases-requires : goal.lane_bases-requires
lane_bases-requires c = (readable_row c.requires.0 c.loop-j-test.true, omega (arith, c.requires.0.few), omega (arith, c.requires.1))

pub loop-j-preserved : goal.loop-j-preserved
loop-j-preserved c =
    lanes_on c.args.set.now c.args.table.now c.args.lanes c.loop-j.j c.loop-j.bases _ c.loop-j-test.true c.lane_bases.ensures ∙ c.loop-j.invariant

pub returns : goal.returns
returns c =
    sym (lanes_end c.args.set.now c.args.table.now c.args.lanes c.loop-j.j c.loop-j.bases (omega arith)) ∙ c.loop-j.invariant
