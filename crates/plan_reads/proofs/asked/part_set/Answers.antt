-- `plan_reads::asked::part_set` meets its contract: the front of the keys is the bits of the listed pins.
-- Assumes nothing.
use mathlib.Core.Path.{refl}
use Rattle.plan_reads.proofs.ListedBitLaws.{asked_size, asked_settable, asked_count, asked_set}
use Rattle.plan_reads.proofs.asked.part_set.Goals as goal

pub slice_bounds-read_set-end-2 : goal.slice_bounds-read_set-end-2
slice_bounds-read_set-end-2 c =
    asked_size c.args.part.now.d.now c.args.part.now.p c.args.keys.now c.args.scratch.now c.args.set.now _ _ c.requires.3 c.list_bits-n.ensures.value c.list_bits-n.ensures.keys_after c.list_bits-n.ensures.all_narrow

pub read_set-requires : goal.read_set-requires
read_set-requires c =
    asked_settable c.args.part.now.d.now c.args.part.now.p c.args.keys.now c.args.scratch.now c.args.set.now _ _ c.requires.3 c.list_bits-n.ensures.value c.list_bits-n.ensures.keys_after c.list_bits-n.ensures.all_narrow _ refl

pub returns : goal.returns
returns c =
    let told = asked_set c.args.part.now.d.now c.args.part.now.p c.args.keys.now c.args.scratch.now c.args.set.now _ _ c.requires.3 c.list_bits-n.ensures.value c.list_bits-n.ensures.keys_after
    c.list_bits-n.ensures.all_narrow c.requires.2 _ _ _ refl c.read_set.ensures.value c.read_set.ensures.set_after in
    record {
      value = asked_count c.args.part.now.d.now c.args.part.now.p c.args.keys.now c.args.scratch.now c.args.set.now _ _ c.requires.3 c.list_bits-n.ensures.value c.list_bits-n.ensures.keys_after
          c.list_bits-n.ensures.all_narrow c.requires.2 _ _ _ refl c.read_set.ensures.value c.read_set.ensures.set_after;
      pins_after = c.list_bits-n.ensures.pins_after;
      set_after = told.0;
      all_narrow = told.1;
    }
