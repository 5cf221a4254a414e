-- `repair_settle::purge_spots` meets its contract: 34 and 14 before anything is written; then the list out of the map, and the spots emptied.
-- Assumes nothing.
use mathlib.Core.List.{[]}
use native.Mathlib.Omega.{arith}
use Rattle.repair_tally.proofs.TallyStepLaws.{told_true, told_false}
use Rattle.repair_settle.proofs.SpotLaws.{nodes_askable}
use Rattle.repair_settle.proofs.EndLaws.{refused_end, purge_short, purge_slots, purge_list, purge_end}
use Rattle.repair_settle.proofs.purge_spots.Goals as goal

pub left_count-left-requires : goal.left_count-left-requires
left_count-left-requires c =
    nodes_askable [] c.args.counts.now c.requires.0.formed

pub returns-then-slots-stage_slots : goal.returns-then-slots-stage_slots
returns-then-slots-stage_slots c =
    let k = told_true _ _ _ c.tally_down.ensures c.if-not-tally_down.false in
    refused_end _ _ _ c.args.slots.now c.args.after.now (purge_slots c.args.height c.args.counts.now c.args.map.now c.requires.0 c.args.spots.now c.requires.1.few c.args.slots.now c.args.after.now c.tally_down.new.map k (omega arith)) c.nowhere-then-slots-stage_slots.ensures

pub returns-then-after-left : goal.returns-then-after-left
returns-then-after-left c =
    let k = told_true _ _ _ c.tally_down.ensures c.if-not-tally_down.false in
    refused_end _ _ _ c.args.slots.now c.args.after.now (purge_list c.args.height c.args.counts.now c.args.map.now c.requires.0 c.args.spots.now c.requires.1.few c.args.slots.now c.args.after.now c.tally_down.new.map k
    c.left_count-left.result c.left_count-left.ensures (omega arith)) c.nowhere-then-after-left.ensures

pub write_left-requires : goal.write_left-requires
write_left-requires c =
    (nodes_askable [] c.args.counts.now c.requires.0.formed, omega (arith, c.left_count-left.ensures))

pub clear_spots-requires : goal.clear_spots-requires
clear_spots-requires c =
    c.requires.1.inside (omega arith)

pub returns : goal.returns
returns c =
    let k = told_true _ _ _ c.tally_down.ensures c.if-not-tally_down.false in
    purge_end c.args.height c.args.counts.now c.args.map.now c.requires.0 c.args.spots.now c.requires.1.few c.args.slots.now c.args.after.now c.tally_down.new.map k c.left_count-left.result
    c.clear_spots.new.slots c.write_left.new.after c.left_count-left.ensures (omega (arith, c.if-slots-stage_slots.false)) (omega (arith, c.if-after-left.false)) c.write_left.ensures c.clear_spots.ensures

pub returns-then-not-tally_down : goal.returns-then-not-tally_down
returns-then-not-tally_down c =
    refused_end _ _ _ c.args.slots.now c.args.after.now (purge_short c.args.height c.args.counts.now c.args.map.now c.requires.0 c.args.spots.now c.requires.1.few c.args.slots.now c.args.after.now (told_false _ _ _ c.tally_down.ensures c.if-not-tally_down.true)) c.nowhere.ensures
