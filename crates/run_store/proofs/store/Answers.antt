-- The words are stored from the captured ones with zeros behind them.
-- Assumes nothing.
use mathlib.Core.Path.{◌≡◌, refl, ◌∙◌}
use Prim.Native.Nat.{◌<◌}
use native.Mathlib.Omega.{arith}
use Rattle.words.specs.Section.{list_of}
use Rattle.run_machine.proofs.SetsLaws.{stored_more}
use Rattle.run_machine.specs.Part.{normal_at}
use Rattle.run_store.proofs.StoredWordLaws.{stored_padded}
use Rattle.run_store.proofs.store.Goals as goal

pub loop-l-init : goal.loop-l-init
unfolding list_of
loop-l-init c = refl

pub store_word-requires : goal.store_word-requires
store_word-requires c =
    let some : 0 < normal_at c.args.turn.now.part.part.script.words.now c.args.turn.now.part.part.at = omega (arith, c.normal-normal.ensures) in
    (omega (arith, c.normal-normal.ensures), omega (arith, c.normal-normal.ensures, c.args.turn.now.part.captures.few), omega (arith, c.normal-normal.ensures, c.args.turn.now.held some))

pub loop-l-preserved : goal.loop-l-preserved
loop-l-preserved c =
    rw (c.store_word.ensures ∙ stored_padded _ _ _ _ c.args.caps.now _ _ _ (omega (arith, c.normal-normal.ensures, c.args.turn.now.part.captures.few)) c.copy_from_slice.ensures.after)
    (stored_more _ _ _ _ _ c.loop-l.invariant)

pub returns : goal.returns
returns c =
    let all : c.loop-l.l ≡ c.normal-normal.result = omega arith in
    rw (← c.normal-normal.ensures, ← c.start-start.ensures) (rw all at c.loop-l.invariant)
