-- Whatever numbers the closure tells of each gate: the answer from here on is the answer, and `before` is the pin before.
-- Assumes nothing.
use Rattle.std.proofs.Common.{◌≡◌, ℕ, ◌<◌, ◌-◌}
use Rattle.words.specs.Tests.{first_from}
use Rattle.gatelist.specs.declared.Gate.{Gate}
use Rattle.gatelist.specs.GateList.{before_over, right_over, bad_over}
use Rattle.gatelist.proofs.first_wrong.Given as goal

abbrev pub invariant-loop-i : goal.invariant-loop-i
invariant-loop-i g l =
    (pin first second : ℕ → ℕ)
    → ((i : ℕ) → i < l.n → (x : Gate) → goal.F-post g l.gate_at i x → (x.pin.0 ≡ pin i) × (x.first.0 ≡ first i) × (x.second.0 ≡ second i))
    → (l.before.0 ≡ before_over pin l.i) × (first_from (right_over pin first second) (l.n - l.i) l.i ≡ bad_over pin first second l.n)
