-- `run_store::kept_word` meets its contract: where set0 clears all, nothing is gathered.
-- Assumes nothing.
use mathlib.Core.Path.{ap}
use Prim.Native.Nat.{ℕ, ◌-◌, min}
use Rattle.words.specs.Bit.{bit}
use Rattle.run_store.proofs.StoredWordLaws.{cleared_all}
use Rattle.run_store.proofs.kept_word.Goals as goal

pub returns-then-set0-eq4294967295 : goal.returns-then-set0-eq4294967295
returns-then-set0-eq4294967295 c b h = rw c.if-set0-eq4294967295.true (cleared_all b _ h)

pub returns : goal.returns
returns c b h = ap (λ (x : ℕ). min x (1 - bit c.args.set0 b)) (c.section_word.ensures b h)
