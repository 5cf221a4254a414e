-- Each section is tested by itself.
-- Assumes nothing.
use mathlib.Core.Path.{ap, ◌∙◌}
use mathlib.Core.Bool.{Bool}
use Prim.Native.Nat.{ℕ, ◌+◌, ◌*◌}
use borrow.Author.Rules.{rules}
use lib.Dec.{ltb}
use Rattle.words.specs.Tests.{all_below}
use Rattle.run_machine.specs.Part.{entry_at}
use Rattle.run_machine.specs.Run.{entries_form}
use Rattle.run_form.proofs.form.entries_form.Goals as goal

pub returns : goal.returns
unfolding entries_form
returns c =
    let n = c.args.part.now.script.lanes in
    let f : ℕ → Bool = λ k. all_below (λ i. ltb (entry_at n c.args.part.now.script.words.now c.args.part.now.at k i) (32 * n)) (32 * n) in
    c.all_below.ensures f (λ i h b e. search rules) ∙ ap (λ (m : ℕ). all_below f (m + 2)) c.stages.ensures.0
