-- `aiger_read::differences::difference_at` meets its contract: nothing there, one byte, or groups. Assumes nothing.
use mathlib.Core.Path.{ap, ◌∙◌}
use Rattle.std.specs.Prelude.{Err}
use Rattle.aiger_read.proofs.GroupLaws.{difference_cut, difference_byte, difference_groups}
use Rattle.aiger_read.proofs.differences.difference_at.Goals as goal

pub returns-then-bytes-at : goal.returns-then-bytes-at
returns-then-bytes-at c = ap Err c.nowhere.ensures ∙ difference_cut c.args.bytes.now _ c.if-bytes-at.true

pub returns-then-b-lt128 : goal.returns-then-b-lt128
returns-then-b-lt128 c =
    difference_byte c.args.bytes.now _ _ c.if-bytes-at.false c.wide-b.ensures.0 c.if-b-lt128.true

pub returns : goal.returns
returns c =
    difference_groups c.args.bytes.now _ _ c.if-bytes-at.false c.wide-b.ensures.0 _ c.if-b-lt128.false c.groups_from.ensures
