-- The code's phase as the definitions have it.
-- Assumes nothing.
use Rattle.run_machine.specs.Turn.{Phase, to_read, to_stage, to_store, finished}
use Rattle.run_turns.specs.declared.block.Phase as code
use Rattle.run_turns.specs.declared.block.Phase.TheVariants.{Read, Stage, Store, Finished}

abbrev pub phase_is : code.Phase → Phase
phase_is Read = to_read
phase_is Stage = to_stage
phase_is Store = to_store
phase_is Finished = finished
