-- `plan_known::state_bit` meets its contract. Beyond the end of the state the definition reads 0.
-- Assumes nothing.
use native.Mathlib.Omega.{arith}
use Rattle.plan_known.proofs.PlannedBitLaws.{state_bit_is, beyond}
use Rattle.plan_known.proofs.state_bit.Goals as goal

pub returns-then-word-state : goal.returns-then-word-state
returns-then-word-state c =
    state_bit_is c.args.state.now c.args.at.0 _ _ c.word-word.ensures c.bit.ensures

pub returns : goal.returns
returns c =
    beyond c.args.state.now c.args.at.0 (omega (arith, c.word-word.ensures, c.if-word-state.false))
