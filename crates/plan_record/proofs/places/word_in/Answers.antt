-- The word is there, byte by byte.
-- Assumes nothing.
use Rattle.std.proofs.Common.{arith}
use Rattle.plan_record.proofs.RecordLaws.{word_there}
use Rattle.plan_record.proofs.places.word_in.Goals as goal

pub returns : goal.returns
returns c = omega (arith, c.from_le_bytes.ensures, word_there c.args.d.now c.args.i (omega arith))
