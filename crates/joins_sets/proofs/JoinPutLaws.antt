-- A pair put into a set: where it goes; words stay ascending, and what holds of each pair and of two masks or'ed holds of the join.
-- Assumes nothing.
use mathlib.Core.Path.{◌≡◌, refl, ap₂}
use mathlib.Core.Bool.{Bool, true, false}
use mathlib.Core.List.{List, [], ◌∷◌}
use Prim.Native.Nat.{ℕ, ◌+◌, ◌≤◌, ◌<◌}
use native.Mathlib.Omega.{arith}
use borrow.Author.Tests.{lt-ltb, le-ltb, eq-eqb, ne_eqb}
use lib.Bits.{bit_or}
use lib.Dec.{ltb, eqb}
use lib.ListN.{length}
use Rattle.reads_asked.specs.Rising.{Rising}
use Rattle.reads_asked.proofs.AskLaws.{Compared, less, same, more, compared}
use Rattle.reads_asked.proofs.AskedFormLaws.{EachPair}
use Rattle.joins_sets.specs.Join.{put_pair, join}

-- ---- where a pair goes

pub put_new : (w m : ℕ) → put_pair w m [] ≡ w ∷ m ∷ []
unfolding put_pair
put_new w m = refl

module _ (w m v n : ℕ) (ws : List ℕ) where
  -- by the two tests: the word is below the first, or it is the first
  abbrev putBy : Bool → Bool → List ℕ
  putBy below first =
      elim below [
        | true ↦ w ∷ m ∷ v ∷ n ∷ ws
        | false ↦ elim first [ true ↦ v ∷ bit_or n m ∷ ws | false ↦ v ∷ n ∷ put_pair w m ws ]
      ]

  put-by : (b f : Bool) → ltb w v ≡ b → eqb w v ≡ f → put_pair w m (v ∷ n ∷ ws) ≡ putBy b f
  unfolding put_pair
  put-by b f e g = ap₂ putBy e g

  pub put_below : w < v → put_pair w m (v ∷ n ∷ ws) ≡ w ∷ m ∷ v ∷ n ∷ ws
  put_below h = put-by true false (lt-ltb w v h) (ne_eqb w v (λ e. omega arith))

  pub put_same : w ≡ v → put_pair w m (v ∷ n ∷ ws) ≡ v ∷ bit_or n m ∷ ws
  put_same h = put-by false true (le-ltb w v (omega arith)) (eq-eqb w v h)

  pub put_above : v < w → put_pair w m (v ∷ n ∷ ws) ≡ v ∷ n ∷ put_pair w m ws
  put_above h = put-by false false (le-ltb w v (omega arith)) (ne_eqb w v (λ e. omega arith))

-- before all others
pub put_in_front : (w m : ℕ) (s : List ℕ) → Rising (w + 1) s → put_pair w m s ≡ w ∷ m ∷ s
unfolding Rising
put_in_front w m [] r = put_new w m
put_in_front w m (v ∷ []) r = absurd r
put_in_front w m (v ∷ n ∷ ws) r = put_below w m v n ws (omega (arith, r.0))

-- ---- ascending words

pub rising_lower : (low high : ℕ) (s : List ℕ) → low ≤ high → Rising high s → Rising low s
unfolding Rising
rising_lower low high [] h r = tt
rising_lower low high (w ∷ []) h r = absurd r
rising_lower low high (w ∷ m ∷ ws) h r = (omega (arith, r.0), r.1)

rising_put : (low w m : ℕ) (s : List ℕ) → Rising low s → low ≤ w → Rising low (put_pair w m s)
unfolding Rising
rising_put low w m [] r h = rw (put_new w m) (h, tt)
rising_put low w m (v ∷ []) r h = absurd r
rising_put low w m (v ∷ n ∷ ws) r h = by (compared w v) (rising_put (v + 1) w m ws r.1)
  where
    by : Compared w v → (v + 1 ≤ w → Rising (v + 1) (put_pair w m ws)) → Rising low (put_pair w m (v ∷ n ∷ ws))
    by (less a) i = rw (put_below w m v n ws a) (h, (omega arith, r.1))
    by (same a) i = rw (put_same w m v n ws a) r
    by (more a) i = rw (put_above w m v n ws a) (r.0, i (omega arith))

pub rising_join : (low : ℕ) (a b : List ℕ) → Rising low a → Rising low b → Rising low (join a b)
unfolding Rising join
rising_join low [] b r q = q
rising_join low (w ∷ []) b r q = absurd r
rising_join low (w ∷ m ∷ ws) b r q = rising_put low w m (join ws b) (rising_join low ws b (rising_lower low (w + 1) ws (omega (arith, r.0)) r.1) q) r.0

-- ---- a join is no shorter than the set that is put into, and no longer than both

put_longer : (w m : ℕ) (s : List ℕ) → length s ≤ length (put_pair w m s)
unfolding put_pair
put_longer w m [] = omega arith
put_longer w m (v ∷ []) = omega arith
put_longer w m (v ∷ n ∷ ws) = by (compared w v) (put_longer w m ws)
  where
    by : Compared w v → length ws ≤ length (put_pair w m ws) → length (v ∷ n ∷ ws) ≤ length (put_pair w m (v ∷ n ∷ ws))
    by (less a) i = rw (put_below w m v n ws a) (omega arith)
    by (same a) i = rw (put_same w m v n ws a) (omega arith)
    by (more a) i = rw (put_above w m v n ws a) (omega arith)

pub join_longer : (a b : List ℕ) → length b ≤ length (join a b)
unfolding join
join_longer [] b = omega arith
join_longer (w ∷ []) b = omega arith
join_longer (w ∷ m ∷ ws) b = omega (arith, join_longer ws b, put_longer w m (join ws b))

put_shorter : (w m : ℕ) (s : List ℕ) → length (put_pair w m s) ≤ length s + 2
unfolding put_pair
put_shorter w m [] = omega arith
put_shorter w m (v ∷ []) = omega arith
put_shorter w m (v ∷ n ∷ ws) = by (compared w v) (put_shorter w m ws)
  where
    by : Compared w v → length (put_pair w m ws) ≤ length ws + 2 → length (put_pair w m (v ∷ n ∷ ws)) ≤ length (v ∷ n ∷ ws) + 2
    by (less a) i = rw (put_below w m v n ws a) (omega arith)
    by (same a) i = rw (put_same w m v n ws a) (omega arith)
    by (more a) i = rw (put_above w m v n ws a) (omega arith)

pub join_shorter : (a b : List ℕ) → length (join a b) ≤ length a + length b
unfolding join
join_shorter [] b = omega arith
join_shorter (w ∷ []) b = omega arith
join_shorter (w ∷ m ∷ ws) b = omega (arith, join_shorter ws b, put_shorter w m (join ws b))

-- ---- what holds of each pair

-- and of two masks of one word or'ed
module _ (P : ℕ → ℕ → Type 0) (keeps : (w m n : ℕ) → P w n → P w m → P w (bit_or n m)) where
  each-put : (w m : ℕ) (s : List ℕ) → P w m → EachPair P s → EachPair P (put_pair w m s)
  unfolding EachPair
  each-put w m [] p e = rw (put_new w m) (p, tt)
  each-put w m (v ∷ []) p e = absurd e
  each-put w m (v ∷ n ∷ ws) p e = by (compared w v) (each-put w m ws p e.1)
    where
      by : Compared w v → EachPair P (put_pair w m ws) → EachPair P (put_pair w m (v ∷ n ∷ ws))
      by (less a) i = rw (put_below w m v n ws a) (p, e)
      by (same a) i = rw (put_same w m v n ws a) (keeps v m n e.0 (rw a at p), e.1)
      by (more a) i = rw (put_above w m v n ws a) (e.0, i)

  pub each_join : (a b : List ℕ) → EachPair P a → EachPair P b → EachPair P (join a b)
  unfolding EachPair join
  each_join [] b e f = f
  each_join (w ∷ []) b e f = absurd e
  each_join (w ∷ m ∷ ws) b e f = each-put w m (join ws b) e.0 (each_join ws b e.1 f)
