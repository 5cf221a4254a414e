-- Each word is tested by itself.
-- Assumes nothing.
use Prim.Native.Nat.{◌+◌}
use borrow.Author.Rules.{rules}
use lib.ListN.{get_or}
use Rattle.run_form.specs.PartForm.{halves_form}
use Rattle.run_form.proofs.form.words_form.Goals as goal

pub returns : goal.returns
returns c = c.all_below.ensures (λ w. halves_form c.args.slots (get_or c.args.words.now (c.args.from + w) 0)) (λ i h b e. search rules)
