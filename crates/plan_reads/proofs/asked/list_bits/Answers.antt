-- `plan_reads::asked::list_bits` meets its contract: the list of the pins in front of the keys, then their bits in its place.
-- Assumes nothing.
use native.Mathlib.Omega.{arith}
use Rattle.plan_positions.proofs.PlannedLaws.{list_size}
use Rattle.plan_reads.proofs.SearchedLaws.{pins_are}
use Rattle.plan_reads.proofs.ListedBitLaws.{list_won, bits_count, bits_back, bits_narrow}
use Rattle.plan_reads.proofs.asked.list_bits.Goals as goal

pub list_planned-n-requires : goal.list_planned-n-requires
list_planned-n-requires c =
    (c.requires.1, c.requires.0, omega (arith, c.requires.4), c.requires.3)

pub slice_bounds-ask_bits-end-2 : goal.slice_bounds-ask_bits-end-2
slice_bounds-ask_bits-end-2 c =
    list_size c.args.part.now.d.now c.args.part.now.p c.args.keys.now _ _ c.requires.3 c.list_planned-n.ensures.value c.list_planned-n.ensures.list_after

pub ask_bits-requires : goal.ask_bits-requires
ask_bits-requires c =
    list_won c.args.part.now.d.now c.args.part.now.p c.args.keys.now _ _ c.requires.3 c.list_planned-n.ensures.value c.list_planned-n.ensures.list_after _
    (pins_are c.args.part.now.d.now c.args.part.now.p c.args.pins.now _ c.list_planned-n.ensures.table_after c.requires.4 c.requires.2) c.list_planned-n.ensures.all_pins

pub returns : goal.returns
returns c =
    record {
      value = (bits_count c.args.part.now.d.now c.args.part.now.p c.args.keys.now _ _ c.requires.3 c.list_planned-n.ensures.value c.list_planned-n.ensures.list_after, c.list_planned-n.ensures.value.1);
      pins_after = c.list_planned-n.ensures.table_after;
      keys_after = bits_back c.args.part.now.d.now c.args.part.now.p c.args.keys.now _ _ c.requires.3 c.list_planned-n.ensures.value c.list_planned-n.ensures.list_after _ c.ask_bits.ensures.keys_after;
      all_narrow = bits_narrow c.args.part.now.d.now c.args.part.now.p c.args.keys.now _ _ c.requires.3 c.list_planned-n.ensures.value c.list_planned-n.ensures.list_after c.ask_bits.ensures.all_narrow;
    }
