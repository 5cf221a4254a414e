-- `aiger_read::start::header_of` meets its contract: the fields of a marked file. Assumes nothing.
use mathlib.Core.Path.{sym, ◌∙◌}
use Rattle.aiger_read.proofs.HeaderReadLaws.{header_yes, header_no}
use Rattle.aiger_read.proofs.start.header_of.Goals as goal

pub returns-then-is_marked : goal.returns-then-is_marked
returns-then-is_marked c =
    header_yes c.args.bytes.now _ _ (sym c.if-is_marked.true ∙ c.is_marked.ensures) c.fields_of.ensures

pub returns : goal.returns
returns c =
    header_no c.args.bytes.now _ (sym c.if-is_marked.false ∙ c.is_marked.ensures)
