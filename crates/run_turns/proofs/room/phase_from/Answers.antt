-- Each word by its arm.
-- Assumes nothing.
use mathlib.Core.Path.{sym, ap}
use native.Mathlib.Omega.{arith}
use Rattle.run_machine.specs.Room.{phase_from}
use Rattle.run_machine.proofs.BlockRoomLaws.{phase_other}
use Rattle.run_turns.proofs.room.phase_from.Goals as goal

pub returns-in-0 : goal.returns-in-0
unfolding phase_from
returns-in-0 c = ap phase_from (sym c.in-0.is)

pub returns-in-1 : goal.returns-in-1
unfolding phase_from
returns-in-1 c = ap phase_from (sym c.in-1.is)

pub returns-in-2 : goal.returns-in-2
unfolding phase_from
returns-in-2 c = ap phase_from (sym c.in-2.is)

pub returns-in_default : goal.returns-in_default
returns-in_default c = phase_other _ (λ q. omega arith) (λ q. omega arith) (λ q. omega arith)
