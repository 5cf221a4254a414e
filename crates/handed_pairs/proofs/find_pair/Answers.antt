-- `find_pair`: the pair is where the search by halves ends, or nowhere.
-- Assumes nothing.
use mathlib.Core.Path.{ap}
use Rattle.std.proofs.Common.{rules}
use Rattle.words.specs.Found.{item_of}
use Rattle.handed_pairs.proofs.SetSearchLaws.{word_at, words_rise, pair_here, past_none, word_none, mask_none}
use Rattle.handed_pairs.proofs.find_pair.Goals as goal

pub returns-then-n-p : goal.returns-then-n-p
returns-then-n-p c =
    let ends = c.partition_point-p.ensures.least (word_at c.args.set.now) c.args.w (words_rise c.args.set.now c.requires.form) (λ i h b e. search rules) in
    ap item_of (past_none c.args.set.now c.requires.form c.args.w c.args.m _ ends c.if-n-p.true)

pub returns-then-set-p : goal.returns-then-set-p
returns-then-set-p c =
    let ends = c.partition_point-p.ensures.least (word_at c.args.set.now) c.args.w (words_rise c.args.set.now c.requires.form) (λ i h b e. search rules) in
    ap item_of (word_none c.args.set.now c.requires.form c.args.w c.args.m _ ends c.if-set-p.true)

pub returns-then-set-p-2 : goal.returns-then-set-p-2
returns-then-set-p-2 c =
    let ends = c.partition_point-p.ensures.least (word_at c.args.set.now) c.args.w (words_rise c.args.set.now c.requires.form) (λ i h b e. search rules) in
    ap item_of (mask_none c.args.set.now c.requires.form c.args.w c.args.m _ ends c.if-n-p.false c.if-set-p-2.true)

pub returns : goal.returns
returns c =
    ap item_of (pair_here c.args.set.now c.requires.form c.args.w c.args.m _ c.if-n-p.false c.if-set-p.false c.if-set-p-2.false)
