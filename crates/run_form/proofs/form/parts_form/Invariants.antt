-- `run_form::form::parts_form` meets its contract. The invariant: the parts from word o on are in form exactly when all are.
-- Assumes nothing.
use Prim.Native.Nat.{◌-◌}
use Rattle.run_form.proofs.BlockFormLaws.{PartsGoing}
use Rattle.run_form.proofs.form.parts_form.Given as goal

abbrev pub invariant-loop-script : goal.invariant-loop-script
invariant-loop-script l = PartsGoing l.script.lanes l.script.words.now l.states.old l.states.new l.end l.block.at l.at

abbrev pub decreases-loop-script : goal.decreases-loop-script
decreases-loop-script l = l.end - l.at
