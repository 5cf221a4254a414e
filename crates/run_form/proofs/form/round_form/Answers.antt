-- Each pair is tested by itself.
-- Assumes nothing.
use mathlib.Core.Bool.{Bool}
use Prim.Native.Nat.{ℕ}
use borrow.Author.Rules.{rules}
use Rattle.run_machine.specs.Part.{read_word_at, read_mask_at}
use Rattle.run_form.specs.PartForm.{read_form}
use Rattle.run_form.proofs.form.round_form.Goals as goal

pub returns : goal.returns
returns c =
    let n = c.args.part.now.script.lanes in
    let W = c.args.part.now.script.words.now in
    let f : ℕ → Bool = λ i. read_form (read_word_at n W c.args.part.now.at c.args.r i) (read_mask_at n W c.args.part.now.at c.args.r i) c.args.states.old c.args.states.new in
    c.all_below.ensures f (λ i h b e. search rules)
