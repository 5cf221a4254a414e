-- The bodies follow the part heads.
-- Assumes nothing.
use native.Mathlib.Omega.{arith}
use Rattle.plan_record.proofs.RecordLaws.{body_first}
use Rattle.plan_record.proofs.bodies.first_body.Goals as goal

pub returns : goal.returns
returns c =
    (omega (arith, body_first c.args.d.now), omega arith)
