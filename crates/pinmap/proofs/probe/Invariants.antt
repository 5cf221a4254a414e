-- `pinmap::probe` meets its contract. The loop's invariant: what is left of the homes ends where the whole probe does (`Homing`).
-- Assumes nothing.
use Prim.Native.Nat.{◌-◌, ◌<◌, ◌^◌}
use Rattle.pinmap.proofs.PinMapCodeLaws.{Homing}
use Rattle.pinmap.proofs.probe.Given as goal

abbrev pub invariant-loop : goal.invariant-loop
invariant-loop l = (l.s < 2 ^ 32) × Homing l.t l.key (32 - l.counter) l.s
