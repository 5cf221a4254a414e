-- `repair_tally::level_slots` meets its contract: a shift of 1 is a power of two.
-- Assumes nothing.
use native.Mathlib.Omega.{arith}
use Rattle.repair_tally.proofs.TallyStepLaws.{slots_most, slots_shifted}
use Rattle.repair_tally.proofs.level_slots.Goals as goal

pub returns : goal.returns
returns c =
    let e = slots_shifted c.args.height c.requires in
    (e, omega (arith, e, slots_most c.args.height c.requires))
