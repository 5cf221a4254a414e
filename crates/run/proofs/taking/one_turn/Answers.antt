-- `run::taking::one_turn` meets its contract: the state comes from the room and goes back to it.
-- Assumes nothing.
use Rattle.run.proofs.TakingLaws.{turn_ready, stage_small, turn_kept, turn_wrote}
use borrow.Author.Rules.{rules}
use Rattle.run.proofs.taking.one_turn.Goals as goal

pub turn-state-requires : goal.turn-state-requires
turn-state-requires c =
    (turn_ready _ c.args.script.now.words.now _ _ c.args.room.now c.requires _ _ _ c.load_state.ensures.0 c.load_state.ensures.1 c.load_state.ensures.2, c.requires.long)

pub store_state-requires : goal.store_state-requires
store_state-requires c =
    (search rules, stage_small _ c.args.script.now.words.now _ _ c.args.room.now c.requires _ _ _ c.load_state.ensures.0 c.load_state.ensures.1 c.load_state.ensures.2 c.args.old.now c.args.new.now _ _ _ _ c.turn-state.ensures.block)

pub returns : goal.returns
returns c =
    record {
      block = turn_kept _ c.args.script.now.words.now _ _ c.args.room.now c.requires _ _ _ c.load_state.ensures.0 c.load_state.ensures.1 c.load_state.ensures.2 c.args.old.now c.args.new.now _ _ _ _ c.turn-state.ensures.block _ (search rules) c.store_state.ensures;
      state = turn_wrote _ c.args.script.now.words.now _ _ c.args.room.now c.requires _ _ _ c.load_state.ensures.0 c.load_state.ensures.1 c.load_state.ensures.2 c.args.old.now c.args.new.now _ _ _ _ c.turn-state.ensures.block _ c.turn-state.ensures.state;
    }
