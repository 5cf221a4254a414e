-- The bits of a mask, and the test of a part's stores as the code goes through it: `&&` and `||` look at their second part only where the first leaves it
-- open.
-- Assumes nothing.
use mathlib.Core.Path.{◌≡◌}
use mathlib.Core.Bool.{Bool, false, ◌&&◌, ◌||◌}
use mathlib.Core.List.{List}
use Prim.Native.Nat.{ℕ, ◌+◌, ◌-◌, ◌≤◌, ◌<◌}
use borrow.Author.Tests.{le-leb, lt-leb, eq-eqb, ne_eqb}
use lib.Dec.{leb, eqb}
use Rattle.words.specs.Bit.{pop}
use Rattle.words.proofs.PopLaws.{pop_le}
use Rattle.run_machine.specs.Part.{write_outs_at, start_at, srams_at, duplicates_at, normal_at}
use Rattle.run_machine.specs.Run.{stores_form}

pub mask_count_small : (x m : ℕ) → x ≡ pop m → x ≤ 32
mask_count_small x m e = rw e (pop_le m)

-- ---- the stores, of the numbers that the code has

unfoldable pub stores_of : (n s t all other start : ℕ) → Bool
stores_of n s t all other start = leb other all && leb (all - other) n && (eqb (all - other) 0 || (leb (start + (all - other)) s && leb (start + (all - other)) t))

pub stores_as : (n s t : ℕ) (W : List ℕ) (o a b c d : ℕ) → a ≡ write_outs_at W o → b ≡ srams_at W o → c ≡ duplicates_at W o → d ≡ start_at W o
    → stores_of n s t a (b + c) d ≡ stores_form n W s t o
unfolding stores_of stores_form normal_at
stores_as n s t W o a b c d p q r u = rw (p, q, r, u)

module _ (n s t all other start : ℕ) where
  pub stores_short : all < other → false ≡ stores_of n s t all other start
  unfolding stores_of
  stores_short h = rw (lt-leb other all h)

  pub stores_many : other ≤ all → n < all - other → leb (all - other) n ≡ stores_of n s t all other start
  unfolding stores_of
  stores_many h k = rw (le-leb other all h, lt-leb (all - other) n k)

  pub stores_none : other ≤ all → all - other ≤ n → all - other ≡ 0 → eqb (all - other) 0 ≡ stores_of n s t all other start
  unfolding stores_of
  stores_none h k e = rw (le-leb other all h, le-leb (all - other) n k, eq-eqb (all - other) 0 e)

  pub stores_old : other ≤ all → all - other ≤ n → (all - other ≡ 0 → ⊥) → s < start + (all - other) → leb (start + (all - other)) s ≡ stores_of n s t all other start
  unfolding stores_of
  stores_old h k e g = rw (le-leb other all h, le-leb (all - other) n k, ne_eqb (all - other) 0 e, lt-leb (start + (all - other)) s g)

  pub stores_new : other ≤ all → all - other ≤ n → (all - other ≡ 0 → ⊥) → start + (all - other) ≤ s → leb (start + (all - other)) t ≡ stores_of n s t all other start
  unfolding stores_of
  stores_new h k e g = rw (le-leb other all h, le-leb (all - other) n k, ne_eqb (all - other) 0 e, le-leb (start + (all - other)) s g)
