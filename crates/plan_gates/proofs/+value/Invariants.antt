-- The measure of the cycle of calls {value} is the pin number: a fan-in's pin is below its gate's.
use Rattle.plan_gates.proofs.+value.Given as goal

abbrev pub decreases-value : goal.decreases-value
decreases-value l = l.pin.0
