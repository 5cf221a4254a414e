use mathlib.Core.Path.{◌≡◌, refl, ap, ◌∙◌}
use borrow.Author.Rules.{rules}
use native.Mathlib.Omega.{arith}
use lib.ListN.{length-set}
use lib.Seq.{sets}
use Rattle.words.specs.Section.{list_of}
use Rattle.run_machine.specs.Part.{normal_at}
use Rattle.run_machine.specs.Room.{captured_from}
use Rattle.run_turns.proofs.CaptureLaws.{capture_more, capture_end}
use Rattle.run_turns.proofs.capture.capture.Goals as goal

pub loop-l-init : goal.loop-l-init
unfolding list_of
loop-l-init c = (c.normal-l-end.ensures, search rules, refl)

pub loop-l-preserved : goal.loop-l-preserved
loop-l-preserved c =
    (c.loop-l.invariant.0, simp length-set c.loop-l.invariant.1, capture_more _ _ _ _ c.args.room.now _ _ _ c.loop-l.invariant.2 (omega (arith, c.args.part.now.captures.places c.loop-l.l (omega arith), c.args.part.now.part.inside.lanes.most)) c.capture_word.ensures)

pub returns : goal.returns
returns c =
    let e : c.loop-l.l ≡ normal_at c.args.part.now.part.script.words.now c.args.part.now.part.at = omega arith in
    c.loop-l.invariant.2 ∙ ap (sets c.args.room.now captured_from) (capture_end _ _ _ _ _ _ _ e)
