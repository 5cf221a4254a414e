use native.Mathlib.Omega.{arith}
use lib.ListN.{get_or}
use Rattle.run.proofs.StateLaws.{lent_room}
use Rattle.run.proofs.TakingLaws.{taken_none, turn_good_lem, turn_fits, taken_next, taken_all}
use borrow.Author.Rules.{rules}
use Rattle.run.proofs.taking.take_turns.Goals as goal

pub loop-i-init : goal.loop-i-init
loop-i-init c = taken_none _ _ _ _ _ _

pub overflow_mul-b : goal.overflow_mul-b
overflow_mul-b c =
    omega (arith, turn_fits _ c.args.script.now.words.now c.args.turns.now c.args.old.now c.args.new.now c.args.room.now _ _ _ c.loop-i.invariant (omega arith) c.requires.0 c.requires.1 c.requires.2)

pub overflow_mul-b-in-loop-i : goal.overflow_mul-b-in-loop-i
overflow_mul-b-in-loop-i c =
    omega (arith, turn_fits _ c.args.script.now.words.now c.args.turns.now c.args.old.now c.args.new.now c.args.room.now _ _ _ c.loop-i.invariant (omega arith) c.requires.0 c.requires.1 c.requires.2)

pub overflow_add-b : goal.overflow_add-b
overflow_add-b c =
    omega (arith, turn_fits _ c.args.script.now.words.now c.args.turns.now c.args.old.now c.args.new.now c.args.room.now _ _ _ c.loop-i.invariant (omega arith) c.requires.0 c.requires.1 c.requires.2)

pub offset_bounds-room-b : goal.offset_bounds-room-b
offset_bounds-room-b c =
    omega (arith, turn_fits _ c.args.script.now.words.now c.args.turns.now c.args.old.now c.args.new.now c.args.room.now _ _ _ c.loop-i.invariant (omega arith) c.requires.0 c.requires.1 c.requires.2)

pub slice_bounds-one_turn-end : goal.slice_bounds-one_turn-end
slice_bounds-one_turn-end c =
    omega (arith, turn_fits _ c.args.script.now.words.now c.args.turns.now c.args.old.now c.args.new.now c.args.room.now _ _ _ c.loop-i.invariant (omega arith) c.requires.0 c.requires.1 c.requires.2)

pub one_turn-requires : goal.one_turn-requires
one_turn-requires c =
    rw (lent_room c.loop-i.room (get_or c.args.turns.now c.loop-i.i 0), c.loop-i.invariant.long)
    (turn_good_lem _ c.args.script.now.words.now c.args.turns.now c.args.old.now c.args.new.now c.args.room.now _ _ _ c.loop-i.invariant (omega arith) c.requires.0 c.requires.1 c.requires.2)

pub loop-i-preserved : goal.loop-i-preserved
loop-i-preserved c =
    let own = lent_room c.loop-i.room (get_or c.args.turns.now c.loop-i.i 0) in
    taken_next _ c.args.script.now.words.now c.args.turns.now c.args.old.now c.args.new.now c.args.room.now _ _ _ c.loop-i.invariant (omega arith) c.requires.0 c.requires.1 c.requires.2 _ _ (search rules) (search rules) (rw own at c.one_turn.ensures.block) (rw own at c.one_turn.ensures.state)

pub returns : goal.returns
returns c =
    record { good = c.loop-i.invariant.good; run = taken_all _ c.args.script.now.words.now c.args.turns.now c.args.old.now c.args.new.now c.args.room.now _ _ _ c.loop-i.invariant (omega arith) (omega arith) }
