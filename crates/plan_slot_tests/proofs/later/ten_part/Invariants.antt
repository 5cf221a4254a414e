-- `plan_slot_tests::later::ten_part` meets its contract. The loop's invariant: the answer from stage s + 1 on is the part's.
-- Assumes nothing.
use mathlib.Core.Path.{◌≡◌}
use Prim.Native.Nat.{◌+◌, ◌*◌, ◌-◌}
use lib.ListN.{length}
use Rattle.plan_record.specs.Record.{plan_lanes, slots_of}
use Rattle.words.specs.Tests.{first_from}
use Rattle.plan_slots.specs.Slots.{ten_right, bad_item, over_items}
use Rattle.plan_slot_tests.proofs.later.ten_part.Given as goal

abbrev pub invariant-loop-s : goal.invariant-loop-s
invariant-loop-s l =
    (length l.table ≡ length l.initial.table)
    × (first_from (over_items (plan_lanes l.part.d.now) (ten_right l.part.d.now l.part.p)) (slots_of l.part.d.now * l.part.body.stages - slots_of l.part.d.now * (l.s + 1)) (slots_of l.part.d.now * (l.s + 1)) ≡ bad_item l.part.d.now (ten_right l.part.d.now l.part.p) l.part.p)
