-- Each block is tested by itself, where there are two starts or more.
-- Assumes nothing.
use borrow.Author.Rules.{rules}
use Rattle.run_form.proofs.RefuseLaws.{block_good, few_starts, first_block}
use Rattle.run_form.proofs.refuse.bad_block.Goals as goal

pub returns-then-starts-lt2 : goal.returns-then-starts-lt2
returns-then-starts-lt2 c = few_starts _ _ _ _ _ c.if-starts-lt2.true

pub returns : goal.returns
returns c =
    let good = block_good c.args.script.now.lanes c.args.script.now.words.now c.args.starts.now c.args.states.old c.args.states.new in
    first_block _ _ _ _ _ _ _ c.if-starts-lt2.false c.blocks_of.ensures (c.first_not.ensures good (λ i h b e. search rules))
