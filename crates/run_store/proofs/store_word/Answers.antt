-- `run_store::store_word` meets its contract: the stored word, from whole words.
-- Assumes nothing.
use mathlib.Core.Path.{◌≡◌}
use Prim.Native.Nat.{◌+◌, ◌^◌, ◌<◌}
use Rattle.run_machine.specs.Part.{stages_at}
use native.Mathlib.Omega.{arith}
use Rattle.run_store.proofs.StoredWordLaws.{stored_code}
use Rattle.run_store.proofs.store_word.Goals as goal

pub returns : goal.returns
returns c =
    let stages : c.stages-k.result + 1 ≡ stages_at c.args.turn.now.part.part.script.words.now c.args.turn.now.part.part.at + 1 = omega (arith, c.stages-k.ensures.0) in
    let small : c.chosen_word.result < 2 ^ 32 = omega arith in
    stored_code c.args.turn.now.part.part.script.lanes c.args.turn.now.part.part.script.words.now c.args.turn.now.part.part.at c.args.turn.now.old.now c.args.caps.now c.args.l _ _ _ _ _ stages c.section.ensures.0 c.start-start.ensures small
    c.chosen_word.ensures c.kept_word-gathered.ensures
