-- `repair_settle::place_spots` meets its contract: 14 before anything is written; then the list out of the map, and the spots.
-- Assumes nothing.
use mathlib.Core.Path.{sym}
use mathlib.Core.List.{[]}
use native.Mathlib.Omega.{arith}
use lib.Seq.{length-take-le}
use Rattle.repair_nodes.specs.CountList.{counts_of, nodes_of}
use Rattle.repair_tally.proofs.TallyStepLaws.{told_new, told_over}
use Rattle.repair_settle.proofs.SpotLaws.{nodes_askable, new_askable}
use Rattle.repair_settle.proofs.EndLaws.{refused_end, short_slots, up_new, place_short, place_end, place_over}
use Rattle.repair_settle.proofs.place_spots.Goals as goal

pub returns-then-slots-stage_slots : goal.returns-then-slots-stage_slots
returns-then-slots-stage_slots c =
    refused_end _ _ _ c.args.slots.now c.args.after.now (short_slots c.args.height c.args.slots.now _ _ _ (omega arith)) c.nowhere-then-slots-stage_slots.ensures

pub overflow_add-old : goal.overflow_add-old
overflow_add-old c =
    let k = told_new _ _ _ _ _ c.tally_up.ensures c.in-Some.is in
    omega (arith, k.1, c.tally_up.auto.fresh)

pub returns-then-after-old : goal.returns-then-after-old
returns-then-after-old c =
    let k = told_new _ _ _ _ _ c.tally_up.ensures c.in-Some.is in
    refused_end _ _ _ c.args.slots.now c.args.after.now (place_short c.args.height c.args.counts.now c.args.map.now c.requires.0 c.args.spots.now c.requires.1.few c.args.slots.now c.args.after.now c.tally_up.new.map c.tally_up.new.fresh
    c.in-Some.n k.0 k.1 (omega arith)) c.nowhere-then-after-old.ensures

pub write_old-requires : goal.write_old-requires
write_old-requires c =
    (nodes_askable [] c.args.counts.now c.requires.0.formed, omega (arith, c.requires.0.even))

pub slice_bounds-fresh-end : goal.slice_bounds-fresh-end
slice_bounds-fresh-end c =
    let k = told_new _ _ _ _ _ c.tally_up.ensures c.in-Some.is in
    k.1

pub slice_bounds-write_new-end : goal.slice_bounds-write_new-end
slice_bounds-write_new-end c =
    let k = told_new _ _ _ _ _ c.tally_up.ensures c.in-Some.is in
    sym (length-take-le c.in-Some.n c.tally_up.new.fresh k.1)

pub write_new-requires : goal.write_new-requires
write_new-requires c =
    let k = told_new _ _ _ _ _ c.tally_up.ensures c.in-Some.is in
    let m = length-take-le c.in-Some.n c.tally_up.new.fresh k.1 in
    (new_askable c.args.height (nodes_of (counts_of c.args.counts.now)) c.args.spots.now _ c.requires.1.askable (up_new c.args.height c.args.counts.now c.args.map.now c.requires.0 c.args.spots.now c.requires.1.few c.tally_up.new.map c.tally_up.new.fresh c.in-Some.n k.0 k.1), omega arith)

pub store_spots-requires : goal.store_spots-requires
store_spots-requires c =
    c.requires.1.inside (omega arith)

pub overflow_add-result : goal.overflow_add-result
overflow_add-result c =
    let k = told_new _ _ _ _ _ c.tally_up.ensures c.in-Some.is in
    omega (arith, k.1, c.tally_up.auto.fresh)

pub returns : goal.returns
returns c =
    let k = told_new _ _ _ _ _ c.tally_up.ensures c.in-Some.is in
    place_end c.args.height c.args.counts.now c.args.map.now c.requires.0 c.args.spots.now c.requires.1.few c.args.slots.now c.args.after.now c.tally_up.new.map c.tally_up.new.fresh c.in-Some.n k.0 k.1
    c.store_spots.new.slots c.write_old.new.after c.write_new.new.after (omega (arith, c.if-slots-stage_slots.false)) (omega (arith, c.if-after-old.false)) c.write_old.ensures c.write_new.ensures c.store_spots.ensures

pub returns-in_default : goal.returns-in_default
returns-in_default c =
    refused_end _ _ _ c.args.slots.now c.args.after.now (place_over c.args.height c.args.counts.now c.args.map.now c.requires.0 c.args.spots.now c.requires.1.few c.args.slots.now c.args.after.now (told_over _ _ _ _ c.tally_up.ensures c.in_default.is)) c.nowhere.ensures
