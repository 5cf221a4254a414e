-- `report_text::put_occupancy` meets its contract: the form bounds the product. Assumes nothing.
use native.Mathlib.Omega.{arith}
use Rattle.report_text.proofs.ReportLineLaws.{occupancy_wrote, occupancy_fits}
use Rattle.report_text.proofs.put_occupancy.Goals as goal

pub overflow_mul-most : goal.overflow_mul-most
overflow_mul-most c = omega (arith, occupancy_fits c.args.batch.now _ _ c.requires.1 c.word.ensures c.word-2.ensures)

pub overflow_mul-most-2 : goal.overflow_mul-most-2
overflow_mul-most-2 c = omega (arith, occupancy_fits c.args.batch.now _ _ c.requires.1 c.word.ensures c.word-2.ensures)

pub returns : goal.returns
returns c = occupancy_wrote c.args.batch.now _ _ _ c.word-3.ensures c.word-2.ensures c.word.ensures c.put_two.ensures
