-- `run_turns::room::load_state` meets its contract: every word read is below 2^32.
-- Assumes nothing.
use native.Mathlib.Omega.{arith}
use Rattle.run_machine.specs.Room.{part_low, part_high, stage_word}
use borrow.Author.Rules.{rules}
use Rattle.run_turns.proofs.room.load_state.Goals as goal

pub overflow_cast-result : goal.overflow_cast-result
overflow_cast-result c = omega (arith, c.type_inv.room part_low)

pub overflow_cast-result-2 : goal.overflow_cast-result-2
overflow_cast-result-2 c = omega (arith, c.type_inv.room part_high)

pub overflow_mul-result : goal.overflow_mul-result
overflow_mul-result c = omega (arith, c.type_inv.room part_high)

pub overflow_add-result : goal.overflow_add-result
overflow_add-result c = omega (arith, c.type_inv.room part_high, c.shared_slice_known-3-1.given part_low)

pub overflow_cast-result-3 : goal.overflow_cast-result-3
overflow_cast-result-3 c = omega (arith, c.type_inv.room stage_word)

pub returns : goal.returns
returns c = (search rules, c.phase_from-phase.ensures, search rules)
