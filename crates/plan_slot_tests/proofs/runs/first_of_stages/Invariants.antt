-- Whatever has the lowest of each stage has the same answer from stage s on as from the first on.
-- Assumes nothing.
use Rattle.std.proofs.Common.{◌≡◌, ℕ, Bool, ◌*◌, ◌-◌, ◌<◌}
use Rattle.std.specs.declared.option.Option as code
use Rattle.words.specs.Found.{item_of}
use Rattle.words.specs.Tests.{first_from}
use Rattle.plan_slot_tests.proofs.runs.first_of_stages.Given as goal

abbrev pub invariant-loop-s : goal.invariant-loop-s
invariant-loop-s g l =
    (f : ℕ → Bool) (n : ℕ) → ((s : ℕ) → s < l.stages → (r : code.Option ℕ) → goal.F-post g l.bad s r → r ≡ item_of (first_from f (32 * n) (32 * n * s)))
    → first_from f (32 * n * l.stages - 32 * n * l.s) (32 * n * l.s) ≡ first_from f (32 * n * l.stages - 32 * n * 0) (32 * n * 0)
