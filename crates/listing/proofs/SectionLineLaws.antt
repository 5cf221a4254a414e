-- Laws of the lines as a read section's words give them, in the writers' terms.
-- Assumes nothing.
use mathlib.Core.Path.{◌≡◌, ◌∙◌}
use mathlib.Core.List.{List, [], ◌++◌}
use Prim.Native.Nat.{ℕ, suc, ◌+◌, ◌-◌, ◌^◌, ◌≤◌, ◌<◌}
use native.Mathlib.Nat.{mul-le-mul_left}
use native.Mathlib.Omega.{arith}
use borrow.Author.Tests.{eq-eqb, ne_eqb}
use lib.ListN.{get_or}
use Rattle.listing_line.specs.Line.{line}
use Rattle.listing.specs.SectionLines.{pair_start, pair_line, lane_round_lines, section_lines}

-- a place in a section is a number
pub place_small : (n i r : ℕ) → n ≤ 256 → i < 2 ^ 32 → r < 2 ^ 32 → pair_start n i r + 1 < 2 ^ 42
place_small n i r h k l = omega (arith, mul-le-mul_left {m = n} {n = 256} r h)

module _ (n : ℕ) (s : List ℕ) where
  pub no_line : (i r : ℕ) → get_or s (pair_start n i r + 1) 0 ≡ 0 → [] ≡ pair_line n s i r
  unfolding pair_line
  no_line i r h = rw (eq-eqb _ _ h, pair_line)

  pub one_line : (i r w m : ℕ) → w ≡ get_or s (pair_start n i r) 0 → m ≡ get_or s (pair_start n i r + 1) 0 → (m ≡ 0 → ⊥) → line i r w m ≡ pair_line n s i r
  unfolding pair_line
  one_line i r w m e f h = rw (e, f) (rw (ne_eqb _ _ (λ z. h (f ∙ z)), pair_line))

  -- a round more of t, and a lane more of t
  pub next_round : (i t r : ℕ) → r < t → lane_round_lines n s i (t - r) r ≡ pair_line n s i r ++ lane_round_lines n s i (t - (r + 1)) (r + 1)
  unfolding lane_round_lines
  next_round i t r h = let e : t - r ≡ suc (t - (r + 1)) = omega arith in rw (e, lane_round_lines)

  pub last_round : (i t r : ℕ) → t ≤ r → lane_round_lines n s i (t - r) r ≡ []
  unfolding lane_round_lines
  last_round i t r h = let e : t - r ≡ 0 = omega arith in rw (e, lane_round_lines)

  pub next_lane : (m t i : ℕ) → i < t → section_lines n s m (t - i) i ≡ lane_round_lines n s i m 0 ++ section_lines n s m (t - (i + 1)) (i + 1)
  unfolding section_lines
  next_lane m t i h = let e : t - i ≡ suc (t - (i + 1)) = omega arith in rw (e, section_lines)

  pub last_lane : (m t i : ℕ) → t ≤ i → section_lines n s m (t - i) i ≡ []
  unfolding section_lines
  last_lane m t i h = let e : t - i ≡ 0 = omega arith in rw (e, section_lines)
