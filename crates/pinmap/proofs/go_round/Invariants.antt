-- `pinmap::go_round` meets its contract. The loop's invariant: what is left ends where the whole round does (`Rounding`).
-- Assumes nothing.
use Prim.Native.Nat.{◌-◌, ◌<◌}
use Rattle.pinmap.specs.PinMap.{capacity}
use Rattle.pinmap.proofs.PinMapCodeLaws.{Rounding}
use Rattle.pinmap.proofs.go_round.Given as goal

abbrev pub invariant-loop : goal.invariant-loop
invariant-loop l = (l.i < capacity l.t) × Rounding l.t l.key l.from (capacity l.t - l.counter) l.i
