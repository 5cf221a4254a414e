-- `locals::is_asked` meets its contract: the pair that is found for the word decides.
-- Assumes nothing.
use Rattle.reads_local.proofs.LocalPositionLaws.{form_monotone}
use Rattle.locals.proofs.AsksLaws.{past_all, other_word, mask_bit, too_high}
use Rattle.locals.proofs.is_asked.Goals as goal

pub find_pair-e-requires : goal.find_pair-e-requires
find_pair-e-requires c = form_monotone c.args.set.now c.requires.form

pub returns-then-set-e : goal.returns-then-set-e
returns-then-set-e c =
    past_all c.args.set.now c.requires.form c.args.w c.args.k _ c.find_pair-e.ensures.0 c.if-set-e.true

pub returns-then-set-e-2 : goal.returns-then-set-e-2
returns-then-set-e-2 c =
    other_word c.args.set.now c.requires.form c.args.w c.args.k _ c.find_pair-e.ensures.0 c.if-set-e-2.true

pub returns-then-k-gt31 : goal.returns-then-k-gt31
returns-then-k-gt31 c =
    too_high c.args.set.now c.args.w c.args.k (λ i. (c.type_inv.set i).fits) c.if-k-gt31.true

pub returns : goal.returns
returns c =
    mask_bit c.args.set.now c.requires.form c.args.w c.args.k _ c.find_pair-e.ensures.0 c.if-set-e.false c.if-set-e-2.false
