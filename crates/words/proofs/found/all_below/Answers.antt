-- All pass exactly where none is the first that doesn't.
-- Assumes nothing.
use Rattle.std.proofs.Common.{sym, ap, ◌∙◌}
use Rattle.std.specs.Prelude.{is_some}
use Rattle.words.proofs.FoundLaws.{none_first}
use Rattle.words.proofs.found.all_below.Goals as goal

pub returns : goal.returns
returns g c = λ f same. none_first f _ _ (sym (ap is_some (c.first_not.ensures f same)) ∙ c.is_none.ensures)
