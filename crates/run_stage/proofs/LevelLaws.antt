-- The levels of whole words one after the other, then word 0: each level's sources lie above what it writes, so a level once right stays right.
-- Assumes nothing.
use mathlib.Core.Path.{◌≡◌, refl, sym, ap, ap₂, ◌∙◌, subst}
use mathlib.Core.List.{List}
use mathlib.Core.Logic.{⊎_elim}
use Prim.Native.Nat.{ℕ, zero, suc, ◌+◌, ◌-◌, ◌*◌, ◌/◌, ◌%◌, ◌^◌, ◌≤◌, ◌<◌}
use native.Mathlib.Nat.{eq-or-lt_of_le, not-le_of_lt}
use native.Mathlib.Omega.{arith}
use lib.Pow.{pow_pos, pow_mono, pow-lt, pow-add}
use lib.ListN.{length, get_or, set, length-set}
use lib.Seq.{get_or-set_same, get_or-set_other}
use Rattle.words.specs.Bit.{bit, bit_at}
use Rattle.words.proofs.BitLaws.{lt_or_ge, bit_low, bit_high}
use Rattle.run_stage.specs.Level.{level_word, lane_gate, LevelIn, WordLevel, BitLevel, Low, Staged}
use Rattle.run_stage.proofs.StoreLoopLaws.{filled_more}
use Rattle.run_stage.proofs.LowLaws.{bit_gate}

-- one word more of a level
pub level_more : (t l₀ l : List ℕ) (m w v : ℕ) → LevelIn t l₀ l m w → m ≤ w → w < 2 * m → 4 * m ≤ length l₀ → v ≡ level_word t l m w → LevelIn t l₀ (set l w v) m (w + 1)
level_more t l₀ l m w v f lo hi room e = filled_more _ m w l₀ l v f lo (omega arith) (e ∙ rw (f.over (w + m) (omega arith), f.over (w + 2 * m) (omega arith)))

-- from words to bits: a level of m words is a level of 32m slots
word_level : (t l : List ℕ) (m : ℕ) → WordLevel t l m → BitLevel t l (32 * m)
unfolding lane_gate bit_at
word_level t l m h p lo hi =
    let wa : (p + 32 * m) / 32 ≡ p / 32 + m = omega arith in
    let ka : (p + 32 * m) % 32 ≡ p % 32 = omega arith in
    let wb : (p + 2 * (32 * m)) / 32 ≡ p / 32 + 2 * m = omega arith in
    let kb : (p + 2 * (32 * m)) % 32 ≡ p % 32 = omega arith in
    rw (wa, ka, wb, kb, h (p / 32) (omega arith) (omega arith)) (bit_gate _ _ _ _ _ _)

-- ---- the loop over the levels of words

-- the levels of 2 ^ s words and more are right in l, and the gathered words are those of l₀
pub record LevelsAbove (t l₀ l : List ℕ) (n s : ℕ) : Type 0 where
  pub long : length l ≡ length l₀
  pub over : (i : ℕ) → n ≤ i → get_or l i 0 ≡ get_or l₀ i 0
  pub levels : (e : ℕ) → s ≤ e → 2 ^ e < n → WordLevel t l (2 ^ e)

-- m is a power of two, at most n, and the levels of m words and more are right
pub record LevelsGoing (t l₀ l : List ℕ) (n m : ℕ) : Type 0 where
  pub s : ℕ
  pub is : m ≡ 2 ^ s
  pub some : 0 < m
  pub within : m ≤ n
  pub above : LevelsAbove t l₀ l n s

pub going_none : (t l : List ℕ) (n k : ℕ) → n ≡ 2 ^ k → LevelsGoing t l l n n
going_none t l n k e = record {
  s = k;
  is = e;
  some = omega (arith, pow_pos k);
  within = omega arith;
  above = record { long = refl; over = λ i h. refl; levels = λ f h lt. absurd (not-le_of_lt lt (rw e (pow_mono h))) };
}

above_more : (t l₀ l l' : List ℕ) (n s : ℕ) → LevelsAbove t l₀ l n (suc s) → 2 ^ suc s ≤ n → LevelIn t l l' (2 ^ s) (2 * 2 ^ s) → LevelsAbove t l₀ l' n s
above_more t l₀ l l' n s w h u = record {
  long = u.long ∙ w.long;
  over = λ i g. u.over i (omega arith) ∙ w.over i g;
  levels = λ e se lt. ⊎_elim
      (λ q. rw (← q) (λ w lo hi. u.done w lo hi ∙ sym (rw (u.over (w + 2 ^ s) (omega arith), u.over (w + 2 * 2 ^ s) (omega arith)))))
      (λ more i lo hi.
      let up : 2 ^ suc s ≤ 2 ^ e = pow_mono more in
      rw (u.over i (omega arith), u.over (i + 2 ^ e) (omega arith), u.over (i + 2 * 2 ^ e) (omega arith)) (w.levels e more lt i lo hi))
      (eq-or-lt_of_le se);
}

pub going_more : (t l₀ l l' : List ℕ) (n m : ℕ) → LevelsGoing t l₀ l n m → 1 < m → LevelIn t l l' (m / 2) (2 * (m / 2)) → LevelsGoing t l₀ l' n (m / 2)
going_more t l₀ l l' n m g lt u = from g.s g.is g.above
  where
    from : (s : ℕ) → m ≡ 2 ^ s → LevelsAbove t l₀ l n s → LevelsGoing t l₀ l' n (m / 2)
    from zero e w = absurd (omega arith)
    from (suc s) e w =
        let h : m / 2 ≡ 2 ^ s = omega arith in record {
          s = s;
          is = h;
          some = omega arith;
          within = omega (arith, g.within);
          above = above_more t l₀ l l' n s w (omega (arith, g.within)) (subst (λ (x : ℕ). LevelIn t l l' x (2 * x)) h u);
        }

going_end : (t l₀ l : List ℕ) (n m : ℕ) → LevelsGoing t l₀ l n m → m ≤ 1 → LevelsAbove t l₀ l n 0
going_end t l₀ l n m g h = from g.s g.is g.above
  where
    from : (s : ℕ) → m ≡ 2 ^ s → LevelsAbove t l₀ l n s → LevelsAbove t l₀ l n 0
    from zero e w = w
    from (suc s) e w = absurd (omega (arith, pow_pos s))

-- ---- word 0

-- words 0 and 1 as one number
two_words : (l : List ℕ) (p : ℕ) → p < 64 → get_or l 0 0 < 2 ^ 32 → bit_at l p ≡ bit (get_or l 1 0 * 2 ^ 32 + get_or l 0 0) p
unfolding bit_at
two_words l p h r = ⊎_elim under over (lt_or_ge p 32)
  where
    under : p < 32 → bit (get_or l (p / 32) 0) (p % 32) ≡ bit (get_or l 1 0 * 2 ^ 32 + get_or l 0 0) p
    under s =
        let d : p / 32 ≡ 0 = omega arith in
        let e : p % 32 ≡ p = omega arith in
        rw (d, e) (sym (bit_low (get_or l 1 0) 32 p r s))

    over : 32 ≤ p → bit (get_or l (p / 32) 0) (p % 32) ≡ bit (get_or l 1 0 * 2 ^ 32 + get_or l 0 0) p
    over s =
        let d : p / 32 ≡ 1 = omega arith in
        let e : 32 + p % 32 ≡ p = omega arith in
        rw d (sym (bit_high (get_or l 1 0) 32 (p % 32) r)) ∙ ap (bit _) e

all_levels : (t l₀ l : List ℕ) (k r : ℕ) → LevelsAbove t l₀ l (2 ^ k) 0 → 2 * 2 ^ k ≤ length l₀ → r < 2 ^ 32
    → Low (get_or l 1 0 * 2 ^ 32 + r) 0 (get_or t 0 0) (get_or t 1 0) (get_or t 2 0) → Staged t l₀ (set l 0 r) k
unfolding lane_gate
all_levels t l₀ l k r w room rl low =
    let kept : (i : ℕ) → 0 < i → get_or l' i 0 ≡ get_or l i 0 = λ i h. get_or-set_other l 0 i r 0 (omega arith) in record {
      long = length-set l 0 r ∙ w.long;
      over = λ i h. kept i (omega (arith, pow_pos k)) ∙ w.over i h;
      zeroth = two_words l' 0 (omega arith) small ∙ pair 0 ∙ low.zeros 0 (omega arith);
      levels = λ s h. ⊎_elim (under s) (λ g. high s g h) (lt_or_ge s 5);
    }
  where
    l' : List ℕ
    l' = set l 0 r

    zero_is : get_or l' 0 0 ≡ r
    zero_is = get_or-set_same l 0 r 0 (omega (arith, pow_pos k, w.long))

    small : get_or l' 0 0 < 2 ^ 32
    small = rw zero_is rl

    pair : (p : ℕ) → bit (get_or l' 1 0 * 2 ^ 32 + get_or l' 0 0) p ≡ bit (get_or l 1 0 * 2 ^ 32 + r) p
    pair p = ap₂ (λ (a b : ℕ). bit (a * 2 ^ 32 + b) p) (get_or-set_other l 0 1 r 0 (omega arith)) zero_is

    at : (p : ℕ) → p < 64 → bit_at l' p ≡ bit (get_or l 1 0 * 2 ^ 32 + r) p
    at p h = two_words l' p h small ∙ pair p

    under : (s : ℕ) → s < 5 → BitLevel t l' (2 ^ s)
    under s h p lo hi =
        let up : 2 ^ suc s ≤ 2 ^ 5 = pow_mono h in
        let d : p / 32 ≡ 0 = omega arith in
        let e : p % 32 ≡ p = omega arith in
        rw (d, e, at p (omega arith), at (p + 2 ^ s) (omega arith), at (p + 2 * 2 ^ s) (omega arith)) (low.levels s (omega arith) h p lo hi)

    high : (s : ℕ) → 5 ≤ s → s < k + 5 → BitLevel t l' (2 ^ s)
    high s g h =
        let e : s ≡ 5 + (s - 5) = omega arith in
        let p : 2 ^ s ≡ 32 * 2 ^ (s - 5) = ap (λ (x : ℕ). 2 ^ x) e ∙ pow-add 2 5 (s - 5) in
        let m = 2 ^ (s - 5) in
        let some = pow_pos (s - 5) in
        rw p (word_level t l' m (λ i lo hi.
        rw (get_or-set_other l 0 i r 0 (omega arith), get_or-set_other l 0 (i + m) r 0 (omega arith), get_or-set_other l 0 (i + 2 * m) r 0 (omega arith))
        (w.levels (s - 5) (omega arith) (pow-lt (omega arith)) i lo hi)))

pub levels_end : (t l₀ l : List ℕ) (n m k r : ℕ) → LevelsGoing t l₀ l n m → m ≤ 1 → 2 * n ≤ length l₀ → r < 2 ^ 32
    → Low (get_or l 1 0 * 2 ^ 32 + r) 0 (get_or t 0 0) (get_or t 1 0) (get_or t 2 0) → n ≡ 2 ^ k → Staged t l₀ (set l 0 r) k
levels_end t l₀ l n m k r g h room rl low e =
    all_levels t l₀ l k r (subst (λ (n : ℕ). LevelsAbove t l₀ l n 0) e (going_end t l₀ l n m g h)) (omega arith) rl low
