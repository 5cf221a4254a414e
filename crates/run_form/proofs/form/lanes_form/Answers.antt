-- Each lane is tested by itself.
-- Assumes nothing.
use mathlib.Core.Bool.{Bool}
use Prim.Native.Nat.{ℕ}
use borrow.Author.Rules.{rules}
use borrow.Author.Tests.{tests}
use lib.Dec.{leb}
use Rattle.words.specs.Sum.{sum_to}
use Rattle.words.specs.Bit.{pop}
use Rattle.run_machine.specs.Part.{rounds_at, read_mask_at}
use Rattle.run_machine.specs.Run.{lanes_form}
use Rattle.run_form.proofs.form.lanes_form.Goals as goal

pub returns : goal.returns
unfolding lanes_form
returns c =
    let W = c.args.part.now.script.words.now in
    let f : ℕ → Bool = λ i. leb (sum_to (λ r. pop (read_mask_at c.args.part.now.script.lanes W c.args.part.now.at r i)) (rounds_at W c.args.part.now.at)) 32 in
    c.all_below.ensures f (λ i h b e. search (rules, tests))
