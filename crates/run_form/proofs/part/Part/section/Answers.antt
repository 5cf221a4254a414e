-- Section k is one of stages + 2, all inside the part.
-- Assumes nothing.
use mathlib.Core.Path.{ap}
use Prim.Native.Nat.{ℕ, ◌*◌}
use native.Mathlib.Omega.{arith}
use Rattle.words.proofs.EditionLaws.{runs_in}
use Rattle.run_machine.specs.Part.{section_at}
use Rattle.run_form.proofs.part.Part.section.Goals as goal

pub returns : goal.returns
unfolding section_at
returns c =
    let rounds = ap (λ (x : ℕ). c.args.self.now.script.lanes * x) c.rounds.ensures.0 in
    (omega (arith, rounds), omega (arith, rounds, c.args.self.now.inside.inside, runs_in c.args.self.now.script.lanes c.args.k _ c.requires), omega arith)
