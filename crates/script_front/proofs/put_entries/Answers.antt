use Rattle.std.proofs.Common.{refl, sym, ◌∙◌, length, get_or, arith}
use Rattle.words.proofs.SectionLaws.{list_of-is}
use Rattle.script.proofs.FilledSliceLaws.{fill_none, fill_more, fill_end}
use Rattle.script_front.proofs.put_entries.Goals as goal

pub loop-i-init : goal.loop-i-init
loop-i-init c = fill_none _

pub overflow_cast-entry : goal.overflow_cast-entry
overflow_cast-entry c = omega (arith, c.requires.1 c.loop-i.i (omega arith))

pub loop-i-preserved : goal.loop-i-preserved
loop-i-preserved c = fill_more (λ k. get_or c.args.list.now k 0) c.loop-i.entries c.loop-i.i _ (omega arith) refl c.loop-i.invariant

pub returns : goal.returns
returns c =
    fill_end _ c.loop-i.entries c.loop-i.i (length c.args.list.now) (omega arith) (omega arith) (omega arith) c.loop-i.invariant
    ∙ sym (list_of-is (λ k. get_or c.args.list.now k 0) (length c.args.list.now) c.args.list.now refl (λ k h. refl))
