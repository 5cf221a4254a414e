-- The parts, the empty blocks and the zero words are the whole script.
-- Assumes nothing.
use Rattle.flatten.proofs.ScriptSizeLaws.{script_long}
use Rattle.flatten.proofs.sizes.script_words.Goals as goal

pub returns : goal.returns
returns c =
    script_long c.args.d.now c.args.room.now c.requires _ _ _ c.lanes_of-zeros.ensures.0 c.parts_words.ensures.0 c.empty_words.ensures.0
