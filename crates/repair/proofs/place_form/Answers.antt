-- `repair::place_form` meets its contract: the two tests.
-- Assumes nothing.
use mathlib.Core.Path.{sym}
use native.Mathlib.Omega.{arith}
use Rattle.repair.proofs.RepairAnswerLaws.{place_high}
use Rattle.repair.proofs.RepairCodeLaws.{place_by}
use Rattle.repair.proofs.place_form.Goals as goal

pub returns-then-height-level : goal.returns-then-height-level
returns-then-height-level c =
    sym (place_high c.args.height c.args.level c.args.slot (omega arith))

pub returns : goal.returns
returns c =
    place_by c.args.height c.args.level c.args.slot _ (omega arith) c.width_of.ensures.0
