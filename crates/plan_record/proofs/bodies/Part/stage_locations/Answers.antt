-- The body's locations of each stage begin where the definition says.
-- Assumes nothing.
use mathlib.Core.Path.{ap, ◌∙◌}
use Prim.Native.Nat.{ℕ, ◌+◌}
use Rattle.plan_record.specs.Record.{word_at}
use Rattle.plan_record.proofs.bodies.Part.stage_locations.Goals as goal

pub returns : goal.returns
returns c = c.word_in.ensures ∙ ap (λ (x : ℕ). word_at c.args.self.now.d.now (x + c.args.s)) c.args.self.now.of.counts
