-- Each round is tested by itself.
-- Assumes nothing.
use mathlib.Core.Path.{ap, ◌∙◌}
use mathlib.Core.Bool.{Bool}
use Prim.Native.Nat.{ℕ}
use borrow.Author.Rules.{rules}
use Rattle.words.specs.Tests.{all_below}
use Rattle.run_machine.specs.Part.{read_word_at, read_mask_at}
use Rattle.run_form.specs.PartForm.{read_form}
use Rattle.run_machine.specs.Run.{reads_form}
use Rattle.run_form.proofs.form.reads_form.Goals as goal

pub returns : goal.returns
unfolding reads_form
returns c =
    let n = c.args.part.now.script.lanes in
    let W = c.args.part.now.script.words.now in
    let f : ℕ → Bool = λ r. all_below (λ i. read_form (read_word_at n W c.args.part.now.at r i) (read_mask_at n W c.args.part.now.at r i) c.args.states.old c.args.states.new) n in
    c.all_below.ensures f (λ i h b e. search rules) ∙ ap (all_below f) c.rounds.ensures.0
