-- `run_stage::pair_of` meets its contract: entries 32j + 2h and 32j + 2h + 1 are the halves of that word.
-- Assumes nothing.
use native.Mathlib.Omega.{arith}
use Rattle.run_stage.proofs.GatherLaws.{pair_low, pair_high, pair_in}
use Rattle.run_stage.proofs.pair_of.Goals as goal

pub overflow_mul-result-2 : goal.overflow_mul-result-2
overflow_mul-result-2 c =
    let lt = pair_in c.args.p.now.lanes c.args.j c.args.h c.requires.1 c.requires.0 in
    omega arith

pub overflow_add-result-2 : goal.overflow_add-result-2
overflow_add-result-2 c =
    let lt = pair_in c.args.p.now.lanes c.args.j c.args.h c.requires.1 c.requires.0 in
    omega arith

pub offset_bounds-p-h : goal.offset_bounds-p-h
offset_bounds-p-h c =
    let lt = pair_in c.args.p.now.lanes c.args.j c.args.h c.requires.1 c.requires.0 in
    omega arith

pub bounds-p-h : goal.bounds-p-h
bounds-p-h c =
    let lt = pair_in c.args.p.now.lanes c.args.j c.args.h c.requires.1 c.requires.0 in
    omega arith

pub returns : goal.returns
returns c = (pair_low _ _ _ _ c.requires.1, pair_high _ _ _ _ c.requires.1)
