-- Whatever answers as the test does refuses first, from here on, what it refuses first of all.
-- Assumes nothing.
use Rattle.std.proofs.Common.{◌≡◌, ℕ, Bool, ◌<◌, ◌-◌}
use Rattle.words.specs.Tests.{first_from, first_not}
use Rattle.words.proofs.found.first_not.Given as goal

abbrev pub invariant-loop-i : goal.invariant-loop-i
invariant-loop-i g l =
    (f : ℕ → Bool) → ((i : ℕ) → i < l.n → (b : Bool) → goal.F-post g l.test i b → b ≡ f i) → first_from f (l.n - l.i) l.i ≡ first_not f l.n
