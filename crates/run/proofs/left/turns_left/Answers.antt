use mathlib.Core.Path.{ap, ◌∙◌}
use Prim.Native.Nat.{ℕ}
use native.Mathlib.Nat.{zero-add, sub-zero}
use native.Mathlib.Omega.{arith}
use Rattle.run_machine.specs.Run.{all_left}
use Rattle.run.specs.States.{blocks_in}
use Rattle.run.proofs.StateLaws.{lent_room}
use Rattle.run.proofs.TakingLaws.{room_good}
use Rattle.run.proofs.LeftLaws.{left_next, left_all, all_bound}
use Rattle.run.proofs.left.turns_left.Goals as goal

pub loop-b-init : goal.loop-b-init
loop-b-init c =
    zero-add _ ∙ ap (λ (m : ℕ). all_left c.args.script.now.lanes c.args.script.now.words.now (blocks_in c.args.script.now.lanes c.args.script.now.words.now c.args.room.now m 0)) (sub-zero c.args.blocks)

pub block_left-sum-requires : goal.block_left-sum-requires
block_left-sum-requires c =
    (c.requires.1, c.requires.2, rw (lent_room c.args.room.now c.loop-b.b) (room_good _ c.args.script.now.words.now c.requires.0 c.requires.1 c.requires.2 c.args.room.now c.requires.4 c.loop-b.b (omega (arith, c.requires.3))))

pub overflow_add-sum : goal.overflow_add-sum
overflow_add-sum c =
    let next = left_next _ c.args.script.now.words.now c.args.room.now c.args.blocks c.loop-b.b c.loop-b.sum _ _ (omega arith) (rw (lent_room c.args.room.now c.loop-b.b) at c.block_left-sum.ensures) c.loop-b.invariant in
    let all = all_bound c.args.script.now.lanes c.args.script.now.words.now c.args.room.now c.requires.0 c.requires.1 c.requires.2 c.requires.4 in
    omega (arith, next, all, ap (λ (m : ℕ). all_left c.args.script.now.lanes c.args.script.now.words.now (blocks_in c.args.script.now.lanes c.args.script.now.words.now c.args.room.now m 0)) c.requires.3)

pub loop-b-preserved : goal.loop-b-preserved
loop-b-preserved c =
    left_next _ c.args.script.now.words.now c.args.room.now c.args.blocks c.loop-b.b c.loop-b.sum _ _ (omega arith) (rw (lent_room c.args.room.now c.loop-b.b) at c.block_left-sum.ensures) c.loop-b.invariant

pub returns : goal.returns
returns c =
    left_all _ c.args.script.now.words.now c.args.room.now c.args.blocks c.loop-b.b c.loop-b.sum _ (omega arith) c.loop-b.invariant
