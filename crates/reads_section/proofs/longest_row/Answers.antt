use native.Mathlib.Omega.{arith}
use Rattle.reads_try.proofs.LaneTableLaws.{filled_row}
use Rattle.reads_section.proofs.ReadoutLaws.{longest_step, longest_end}
use Rattle.reads_section.proofs.longest_row.Goals as goal

pub lane_load-requires : goal.lane_load-requires
lane_load-requires c = filled_row c.requires.filled _ c.loop-j-test.true

pub loop-j-preserved : goal.loop-j-preserved
loop-j-preserved c = omega (arith, longest_step c.requires c.loop-j.j c.loop-j-test.true, c.lane_load.ensures.1, c.max-best.ensures)

pub returns : goal.returns
returns c = omega (arith, longest_end c.requires c.loop-j.j (omega arith))
