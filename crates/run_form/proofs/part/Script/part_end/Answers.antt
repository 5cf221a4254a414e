-- Rounds and stages are words and lanes at most 256, so nothing wraps.
-- Assumes nothing.
use mathlib.Core.Path.{ap}
use Prim.Native.Nat.{ℕ, ◌*◌}
use native.Mathlib.Omega.{arith}
use Rattle.run_machine.specs.Part.{end_at}
use Rattle.run_form.proofs.part.Script.part_end.Goals as goal

pub returns : goal.returns
unfolding end_at
returns c =
    omega (arith, ap (λ (x : ℕ). c.args.self.now.lanes * x) c.rounds.ensures.0, ap (λ (x : ℕ). c.args.self.now.lanes * x) c.stages.ensures.0)
