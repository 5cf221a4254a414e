-- Each location is tested by itself.
-- Assumes nothing.
use mathlib.Core.Path.{ap, ◌∙◌}
use mathlib.Core.Bool.{Bool, ◌&&◌}
use Prim.Native.Nat.{ℕ, ◌/◌, ◌%◌}
use borrow.Author.Rules.{rules}
use lib.Dec.{ltb}
use Rattle.words.specs.Tests.{all_below}
use Rattle.run_machine.specs.Part.{stages_at, location_in}
use Rattle.run_machine.specs.Run.{locations_form}
use Rattle.run_form.proofs.form.locations_form.Goals as goal

pub returns : goal.returns
unfolding locations_form
returns c =
    let n = c.args.part.now.script.lanes in
    let W = c.args.part.now.script.words.now in
    let f : ℕ → Bool = λ l. ltb (location_in n W c.args.part.now.at l / 256) (stages_at W c.args.part.now.at) && ltb (location_in n W c.args.part.now.at l % 256) n in
    c.all_below.ensures f (λ i h b e. search rules) ∙ ap (all_below f) c.normal.ensures
