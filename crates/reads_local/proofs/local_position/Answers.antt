-- `reads_local::local_position` meets its contract: the pair that is found is the bit's.
-- Assumes nothing.
use native.Mathlib.Omega.{arith}
use Rattle.reads_try.proofs.SetPairLaws.{mask_bits_le}
use Rattle.reads_local.proofs.LocalPositionLaws.{asked_small, found_in, found_base, found_local}
use Rattle.reads_local.proofs.local_position.Goals as goal

pub word-requires : goal.word-requires
word-requires c =
    asked_small c.args.set.now c.args.bases.now c.args.q.0 c.requires (λ i. (c.type_inv.set i).fits)

pub bounds-set-e : goal.bounds-set-e
bounds-set-e c =
    (found_in c.args.set.now c.args.bases.now c.args.q.0 _ _ c.requires c.word.ensures c.find_pair-e.ensures.0).0

pub bounds-bases-e : goal.bounds-bases-e
bounds-bases-e c =
    (found_in c.args.set.now c.args.bases.now c.args.q.0 _ _ c.requires c.word.ensures c.find_pair-e.ensures.0).1

pub overflow_cast-place : goal.overflow_cast-place
overflow_cast-place c =
    omega (arith, found_base c.args.set.now c.args.bases.now c.args.q.0 _ _ c.requires c.word.ensures c.find_pair-e.ensures.0)

pub overflow_add-place : goal.overflow_add-place
overflow_add-place c =
    let base = found_base c.args.set.now c.args.bases.now c.args.q.0 _ _ c.requires c.word.ensures c.find_pair-e.ensures.0 in
    omega (arith, mask_bits_le _ _ c.count_above-above.ensures, base)

pub returns : goal.returns
returns c =
    found_local c.args.set.now c.args.bases.now c.args.q.0 _ _ c.requires c.word.ensures c.find_pair-e.ensures.0 _ _ c.bit.ensures.0 c.count_above-above.ensures
