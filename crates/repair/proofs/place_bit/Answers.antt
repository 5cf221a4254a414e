-- `repair::place_bit` meets its contract: 32 before all others, and a room that is cleared whole.
-- Assumes nothing.
use mathlib.Core.Path.{sym, ◌∙◌}
use Prim.Native.Nat.{◌≤◌, ◌<◌}
use native.Mathlib.Omega.{arith}
use borrow.Author.Tests.{leb-true, leb-false}
use lib.ListN.{length}
use Rattle.repair_nodes.specs.RepairAnswer.{repair_room_words}
use Rattle.repair_settle.proofs.EndLaws.{refused_end}
use Rattle.repair.proofs.RepairAnswerLaws.{room_short, place_32}
use Rattle.repair.proofs.RepairWholeLaws.{zeros_length, zeros_own, room_left_lem, whole_end}
use Rattle.repair.proofs.place_bit.Goals as goal

pub place_in-answer-requires : goal.place_in-answer-requires
place_in-answer-requires c =
    let h : repair_room_words c.args.counts.now ≤ length c.args.room.now = leb-true _ _ (sym c.room_enough.ensures ∙ c.if-not-room_enough.false) in
    (zeros_own c.args.room.now c.fill.new.self (c.fill.ensures.after (λ y h. h)), omega (arith, zeros_length c.args.room.now c.fill.new.self (c.fill.ensures.after (λ y h. h))))

pub returns : goal.returns
returns c =
    let h : repair_room_words c.args.counts.now ≤ length c.args.room.now = leb-true _ _ (sym c.room_enough.ensures ∙ c.if-not-room_enough.false) in
    let l = zeros_length c.args.room.now c.fill.new.self (c.fill.ensures.after (λ y h. h)) in
    let told = whole_end _ _ _ _ _ _ _ c.args.counts.now c.args.room.now (rw l at c.place_in-answer.ensures)
    (room_left_lem c.args.room.now c.fill.new.self (c.fill.ensures.after (λ y h. h)) c.args.counts.now c.place_in-answer.new.map _ h c.place_in-answer.auto.map (c.fill-2.ensures.after (λ y h. h))) in
    record { value = told.0; slots_after = told.1.0; after_after = told.1.1.0; room_after = told.1.1.1 }

pub returns-then-not-room_enough : goal.returns-then-not-room_enough
returns-then-not-room_enough c =
    let h : length c.args.room.now < repair_room_words c.args.counts.now = leb-false _ _ (sym c.room_enough.ensures ∙ c.if-not-room_enough.true) in
    let told = whole_end _ _ _ _ _ _ _ c.args.counts.now c.args.room.now
    (refused_end _ _ _ c.args.slots.now c.args.after.now (place_32 c.args.edition c.args.gates.now c.args.levels.now c.args.counts.now c.args.slots.now (length c.args.after.now) c.args.level c.args.slot c.args.node.0 (length c.args.room.now) h) c.nowhere.ensures)
    (sym (room_short c.args.counts.now c.args.room.now h)) in
    record { value = told.0; slots_after = told.1.0; after_after = told.1.1.0; room_after = told.1.1.1 }
