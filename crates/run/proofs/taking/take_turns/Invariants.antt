-- `run::taking::take_turns` meets its contract. The invariant: the run as the rooms hold it, with the turns from i on, ends as the whole run does.
-- Assumes nothing.
use Rattle.run.proofs.TakingLaws.{TurnsTaken}
use Rattle.run.proofs.taking.take_turns.Given as goal

abbrev pub invariant-loop-i : goal.invariant-loop-i
invariant-loop-i l = TurnsTaken l.script.lanes l.script.words.now l.turns l.old l.initial.new l.initial.room l.new l.room l.i
