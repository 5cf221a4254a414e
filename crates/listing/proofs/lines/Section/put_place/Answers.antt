-- `listing::lines::Section::put_place` meets its contract: no line where the mask is 0, else the line of the two words. Assumes nothing.
use mathlib.Core.List.{[]}
use mathlib.Core.Path.{sym, ◌∙◌}
use native.Mathlib.Omega.{arith}
use Rattle.text.proofs.WritingLaws.{wrote_none, wrote_is}
use Rattle.listing.proofs.SectionLineLaws.{place_small, no_line, one_line}
use Rattle.listing.proofs.lines.Section.put_place.Goals as goal

pub overflow_mul-place-2 : goal.overflow_mul-place-2
overflow_mul-place-2 c =
    omega (arith, place_small c.args.self.now.lanes c.args.lane c.args.round c.args.self.now.few c.requires.1 c.requires.2)

pub overflow_add-place : goal.overflow_add-place
overflow_add-place c =
    omega (arith, place_small c.args.self.now.lanes c.args.lane c.args.round c.args.self.now.few c.requires.1 c.requires.2)

pub returns-then-mask-ne0 : goal.returns-then-mask-ne0
returns-then-mask-ne0 c =
    wrote_is _ _ (one_line c.args.self.now.lanes c.args.self.now.words.now _ _ _ _ c.word.ensures c.word-mask.ensures c.if-mask-ne0.true) c.put_line.ensures

pub returns-else-mask-ne0 : goal.returns-else-mask-ne0
returns-else-mask-ne0 c =
    wrote_is [] _ (no_line _ c.args.self.now.words.now _ _ (sym c.word-mask.ensures ∙ c.if-mask-ne0.false)) (wrote_none _ _)
