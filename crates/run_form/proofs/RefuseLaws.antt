-- The refusals of a run, from tests of each block and of each turn.
-- Assumes nothing.
use mathlib.Core.Path.{◌≡◌}
use mathlib.Core.Bool.{Bool}
use mathlib.Core.List.{List}
use Prim.Native.Nat.{ℕ, ◌+◌, ◌-◌, ◌≤◌, ◌<◌}
use borrow.Author.Tests.{le-leb, lt-leb}
use lib.ListN.{length, get_or}
use Rattle.std.specs.declared.option.Option as code
use Rattle.std.specs.Prelude.{Some}
use Rattle.words.specs.Tests.{first_not}
use Rattle.words.specs.Found.{item_of}
use Rattle.run_machine.specs.Run.{block_form, bad_block}

-- block i of the words is in form
abbrev pub block_good : ℕ → List ℕ → List ℕ → ℕ → ℕ → ℕ → Bool
block_good n W starts s t i = block_form n W s t (get_or starts i 0) (get_or starts (i + 1) 0)

module _ (n : ℕ) (W starts : List ℕ) (s t : ℕ) where
  pub few_starts : length starts < 2 → Some 0 ≡ item_of (bad_block n W starts s t)
  unfolding bad_block
  few_starts h = rw (lt-leb 2 (length starts) h, bad_block)

  pub first_block : (r : code.Option ℕ) (b : ℕ) → 2 ≤ length starts → b ≡ length starts - 1 → r ≡ item_of (first_not (block_good n W starts s t) b) → r ≡ item_of (bad_block n W starts s t)
  unfolding bad_block
  first_block r b h e q = rw (le-leb 2 (length starts) h, bad_block, ← e) q
