-- `plan_slots::tables::top_power` meets its contract. The zeros above the highest bit say its place.
-- Assumes nothing.
use Rattle.plan_slots.proofs.TopLaws.{power_is, power_shifted}
use Rattle.plan_slots.proofs.tables.top_power.Goals as goal

pub overflow_sub-result : goal.overflow_sub-result
overflow_sub-result c = (power_is c.args.q c.requires.0 c.requires.1).0

pub returns : goal.returns
returns c = power_shifted c.args.q c.requires.0 c.requires.1
