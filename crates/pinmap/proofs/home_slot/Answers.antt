-- `pinmap::home_slot` meets its contract: fewer than 2^32 slots, or the number itself.
-- Assumes nothing.
use mathlib.Core.Path.{sym}
use native.Mathlib.Omega.{arith}
use Rattle.pinmap.proofs.ProbeLaws.{home_fits, home_few, home_many}
use Rattle.pinmap.proofs.home_slot.Goals as goal

pub overflow_mul-result : goal.overflow_mul-result
overflow_mul-result c = omega (arith, home_fits c.args.slots c.args.s (omega arith) c.requires)

pub returns-then-slots-lt4294967296 : goal.returns-then-slots-lt4294967296
returns-then-slots-lt4294967296 c = sym (home_few c.args.slots c.args.s (omega arith))

pub returns-else-slots-lt4294967296 : goal.returns-else-slots-lt4294967296
returns-else-slots-lt4294967296 c = sym (home_many c.args.slots c.args.s (omega arith))
