-- `run::run_well` meets its contract: the blocks begin, take their turns and tell what is left; each step's facts are those of the one before.
-- Assumes nothing.
use mathlib.Core.Path.{◌∙◌}
use lib.ListN.{length}
use Rattle.run.proofs.RunAnswerLaws.{again, beginnings, goods_begun, run_left, run_new}
use borrow.Author.Rules.{rules}
use Rattle.run.proofs.run_well.Goals as goal

pub begin_blocks-requires : goal.begin_blocks-requires
begin_blocks-requires c =
    beginnings _ c.args.script.now.words.now c.args.starts.now c.args.turns.now _ _ c.args.rooms.now c.requires _ c.blocks_of-blocks.ensures

pub take_turns-requires : goal.take_turns-requires
take_turns-requires c =
    (c.args.starts.now, goods_begun _ c.args.script.now.words.now c.args.starts.now c.args.turns.now _ _ c.args.rooms.now c.requires _ (search rules) _ c.blocks_of-blocks.ensures (c.begin_blocks.ensures c.args.script.now.lanes), c.requires.named)

pub turns_left-left-requires : goal.turns_left-left-requires
turns_left-left-requires c =
    let begun = goods_begun _ c.args.script.now.words.now c.args.starts.now c.args.turns.now _ _ c.args.rooms.now c.requires _ c.begin_blocks.auto.room _ c.blocks_of-blocks.ensures (c.begin_blocks.ensures c.args.script.now.lanes) in
    (c.args.starts.now, _, _, c.blocks_of-blocks.ensures, c.take_turns.ensures.good c.args.starts.now begun c.requires.named)

pub returns : goal.returns
returns c =
    let begun = c.begin_blocks.ensures c.args.script.now.lanes in
    let good = goods_begun _ c.args.script.now.words.now c.args.starts.now c.args.turns.now _ _ c.args.rooms.now c.requires _ c.begin_blocks.auto.room _ c.blocks_of-blocks.ensures begun in
    let ran = c.take_turns.ensures.run c.args.starts.now good c.requires.named in
    record {
      left = run_left _ c.args.script.now.words.now c.args.starts.now c.args.turns.now _ _ c.args.rooms.now c.requires _ c.begin_blocks.auto.room _ c.blocks_of-blocks.ensures begun c.args.old.now c.args.new.now _ _ ran _ c.turns_left-left.ensures;
      state = run_new _ c.args.script.now.words.now c.args.starts.now c.args.turns.now _ _ c.args.rooms.now c.requires _ c.begin_blocks.auto.room _ c.blocks_of-blocks.ensures begun c.args.old.now c.args.new.now _ _ ran;
      room = again (length c.args.rooms.now) c.take_turns.new.room _ (c.fill.ensures.after (λ y e. e)) (c.take_turns.auto.room ∙ c.begin_blocks.auto.room);
    }
