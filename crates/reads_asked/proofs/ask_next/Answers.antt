-- `reads_asked::ask_next` meets its contract: the last pair has the bit's word, or the bit's pair comes behind it.
-- Assumes nothing.
use mathlib.Core.Logic.{inl, inr}
use native.Mathlib.Omega.{arith}
use lib.ListN.{length-set}
use Rattle.reads_asked.proofs.FrontStoreLaws.{next_joins, next_new, bit_mask_is}
use Rattle.reads_asked.proofs.ask_next.Goals as goal
use Rattle.reads_asked.proofs.ask_next.Goals.{then-n-ge2+else-set-n, else-n-ge2}

pub returns-then-set-n : goal.returns-then-set-n
returns-then-set-n c =
    let mask = bit_mask_is c.args.q.0 _ c.bit-mask.ensures.0 in
    let told = next_joins c.args.set.now c.args.n c.args.q.0 c.requires _ _ c.word-word.ensures mask c.if-n-ge2.true c.if-set-n.true in
    record { value = told.0; set_after = told.1 }

pub bounds-set-n-3 : goal.bounds-set-n-3
bounds-set-n-3 c = simp length-set (omega arith)

pub returns : goal.returns
returns c =
    let mask = bit_mask_is c.args.q.0 _ c.bit-mask.ensures.0 in
    let told = next_new c.args.set.now c.args.n c.args.q.0 c.requires _ _ c.word-word.ensures mask
    (elim c.if-n-ge2.branch [ then-n-ge2+else-set-n w ↦ inl w.if-set-n.false | else-n-ge2 w ↦ inr w.if-n-ge2.false ]) in
    record { value = told.0; set_after = told.1 }
