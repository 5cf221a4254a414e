-- `aiger_read::start::is_marked` meets its contract: the four bytes are the file's first. Assumes nothing.
use mathlib.Core.Path.{◌∙◌}
use Rattle.aiger_read.proofs.HeaderReadLaws.{marked_by}
use Rattle.aiger_read.proofs.start.is_marked.Goals as goal

pub returns : goal.returns
returns c = c.starts_with.ensures.value ∙ marked_by c.args.bytes.now
