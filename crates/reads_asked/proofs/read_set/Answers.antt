-- `reads_asked::read_set` meets its contract: the set does not depend on the bits' order.
-- Assumes nothing.
use mathlib.Core.Path.{◌∙◌}
use native.Mathlib.Omega.{arith}
use Rattle.sort.proofs.SortEndLaws.{answer_done}
use Rattle.reads_asked.proofs.FrontStoreLaws.{sorted_gatherable, read_set-is}
use Rattle.reads_asked.proofs.read_set.Goals as goal

pub unwrap-requires : goal.unwrap-requires
unwrap-requires c = rw (c.sort.ensures.value ∙ answer_done c.args.keys.now c.args.scratch.now (omega arith))

pub gather-requires : goal.gather-requires
gather-requires c =
    sorted_gatherable c.args.keys.now c.args.scratch.now c.args.set.now c.sort.new.keys c.requires c.sort.ensures.keys_after

pub returns : goal.returns
returns c =
    let told = read_set-is c.args.keys.now c.args.scratch.now c.args.set.now c.sort.new.keys c.requires c.sort.ensures.keys_after _ _ _ c.sort.ensures.scratch_after
    c.gather.ensures.value c.gather.ensures.set_after in
    record { value = told.0; keys_after = told.1.0; scratch_after = told.1.1.0; set_after = told.1.1.1 }
