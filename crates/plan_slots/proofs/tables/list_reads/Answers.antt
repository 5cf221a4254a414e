use Prim.Native.Nat.{◌<◌}
use native.Mathlib.Omega.{arith}
use lib.ListN.{length}
use Rattle.plan_record.specs.Record.{slots_of}
use Rattle.plan_slots.proofs.ListedLaws.{listing_start, listing_length, listing_filled, listing_more, listing_all}
use Rattle.plan_slots.proofs.tables.list_reads.Goals as goal

pub loop-j-init : goal.loop-j-init
loop-j-init c =
    listing_start c.args.part.now.d.now c.args.part.now.p _ c.args.list.now (length c.args.table.now) c.clear.ensures

pub list_slot-n-requires : goal.list_slot-n-requires
list_slot-n-requires c = (
  c.requires.0,
  c.loop-j-test.true,
  omega (arith, listing_length c.args.part.now.d.now c.args.part.now.p _ c.args.list.now c.loop-j.table c.loop-j.list c.loop-j.n c.loop-j.j c.loop-j.invariant, c.loop-j.invariant.few, c.loop-j-test.true, c.requires.2),
  listing_filled c.args.part.now.d.now c.args.part.now.p _ c.args.list.now c.loop-j.table c.loop-j.list c.loop-j.n c.loop-j.j c.loop-j.invariant (length c.args.table.now) c.clear.ensures c.requires.1,
)

pub loop-j-preserved : goal.loop-j-preserved
loop-j-preserved c =
    let inside : c.loop-j.j < slots_of c.args.part.now.d.now = omega (arith, c.loop-j-test.true, c.args.part.now.of.lanes) in
    listing_more c.args.part.now.d.now c.args.part.now.p _ c.args.list.now c.loop-j.table c.loop-j.list c.loop-j.n c.loop-j.j c.loop-j.invariant _ _ _ inside (c.list_slot-n.ensures.value, (c.list_slot-n.ensures.table_after, (c.list_slot-n.ensures.list_after, c.list_slot-n.ensures.all_pins)))

pub shape_of-list : goal.shape_of-list
shape_of-list c =
    listing_length c.args.part.now.d.now c.args.part.now.p _ c.args.list.now c.loop-j.table c.loop-j.list c.loop-j.n c.loop-j.j c.loop-j.invariant

pub returns : goal.returns
returns c =
    let told = listing_all c.args.part.now.d.now c.args.part.now.p _ c.args.list.now c.loop-j.table c.loop-j.list c.loop-j.n c.loop-j.j c.loop-j.invariant (length c.args.table.now) c.clear.ensures (omega (arith, c.args.part.now.of.lanes)) in
    record { value = told.0; table_after = told.1.0; list_after = told.1.1.0; all_pins = told.1.1.1 }
