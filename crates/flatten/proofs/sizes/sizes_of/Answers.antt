-- Each of the four sizes is its definition.
-- Assumes nothing.
use native.Mathlib.Omega.{arith}
use Rattle.flatten.proofs.ScriptSizeLaws.{starts_few, tallied, sizes_are}
use Rattle.flatten.proofs.sizes.sizes_of.Goals as goal

pub overflow_mul-result : goal.overflow_mul-result
overflow_mul-result c =
    omega (arith, starts_few c.args.d.now c.args.room.now c.requires _ _ c.blocks_of-blocks.ensures c.majors_of-majors.ensures)

pub overflow_add-result : goal.overflow_add-result
overflow_add-result c =
    omega (arith, starts_few c.args.d.now c.args.room.now c.requires _ _ c.blocks_of-blocks.ensures c.majors_of-majors.ensures)

pub state_words-requires : goal.state_words-requires
state_words-requires c =
    tallied c.args.d.now c.args.room.now c.requires

pub sram_words-requires : goal.sram_words-requires
sram_words-requires c = tallied _ _ c.requires

pub returns : goal.returns
returns c =
    sizes_are c.args.d.now c.args.room.now c.requires _ _ _ _ _ c.blocks_of-blocks.ensures c.majors_of-majors.ensures c.script_words.ensures
    c.state_words.ensures c.sram_words.ensures
