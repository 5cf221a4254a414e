use native.Mathlib.Omega.{arith}
use Rattle.words.proofs.SectionLaws.{list_of-is}
use Rattle.run_machine.specs.Turn.{read_row}
use Rattle.run_stage.proofs.StoreLoopLaws.{filled_none, filled_more}
use Rattle.run_read.proofs.read_turn.Goals as goal

pub loop-i-init : goal.loop-i-init
loop-i-init c = filled_none _ _ _

pub loop-i-preserved : goal.loop-i-preserved
loop-i-preserved c =
    filled_more _ 0 _ c.args.row.now _ _ c.loop-i.invariant (omega arith) (omega arith) c.read_lane.ensures

pub returns : goal.returns
unfolding read_row
returns c =
    list_of-is _ _ c.loop-i.row (omega arith) (λ i h. c.loop-i.invariant.done i (omega arith) (omega arith))
