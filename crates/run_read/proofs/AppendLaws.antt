-- The read turn's loops. A mask's zeros below its lowest bit append nothing and are skipped at once; the bit above them is appended, and what is
-- left has one bit less. A lane has room for the bits of all its rounds.
-- Assumes nothing.
use mathlib.Core.Path.{◌≡◌, refl, sym, ap, ◌∙◌}
use mathlib.Core.Bool.{Bool, true, false}
use mathlib.Core.List.{List}
use Prim.Native.Nat.{ℕ, zero, suc, ◌+◌, ◌-◌, ◌*◌, ◌/◌, ◌%◌, ◌^◌, ◌≤◌, ◌<◌}
use native.Mathlib.Nat.{add-zero, zero-add, mod-lt, mul-le-mul_right, mul-le-mul_left, le_trans, le_of_eq}
use native.Mathlib.Numerals.{add-one, one-add}
use native.Mathlib.Omega.{arith}
use borrow.Author.Tests.{lt-ltb, le-ltb}
use lib.Count.{under, count_trailing_zeros}
use lib.Dec.{ltb}
use lib.ListN.{length, get_or, take, drop, length-drop}
use lib.Pow.{pow_pos, pow-add, pow_mono, shr-shr, shr_le}
use lib.Seq.{get_or-take, get_or-drop, length-take-le}
use Rattle.words.specs.Sum.{sum_to}
use Rattle.words.specs.Bit.{pop_in, pop}
use Rattle.words.proofs.SumLaws.{sum_le, sum_more}
use Rattle.reads.specs.ReadTurn.{append_bit, appended, lane_word}
use Rattle.reads.proofs.ReadTurnLaws.{append_set, append_clear, appended_none, lane_lt}
use Rattle.run_machine.specs.Turn.{state_word}
use Rattle.run_read.specs.Window.{window_of}

-- ---- the zeros below a mask's lowest bit

pub record Skipped (f d w m a t : ℕ) : Type 0 where
  pub below : t < d
  pub short : t < f
  pub odd : m / 2 ^ t % 2 ≡ 1
  pub fits : m / 2 ^ t < 2 ^ (d - t)
  pub same : appended d w m a ≡ appended (d - t) (w / 2 ^ t) (m / 2 ^ t) a
  pub count : pop_in d m ≡ pop_in (d - t) (m / 2 ^ t)

shr_suc : (w t : ℕ) → w / 2 ^ suc t ≡ w / 2 / 2 ^ t
shr_suc w t = sym (shr-shr w 1 t ∙ ap (λ (x : ℕ). w / 2 ^ x) (one-add t))

skip_none : (f d w m a : ℕ) → m < 2 ^ suc d → m % 2 ≡ 1 → Skipped (suc f) (suc d) w m a 0
skip_none f d w m a l e =
    let all : suc d - 0 ≡ suc d = omega arith in
    let x : w / 2 ^ 0 ≡ w = omega arith in
    let y : m / 2 ^ 0 ≡ m = omega arith in
    record { below = omega arith; short = omega arith; odd = rw y e; fits = rw (y, all) l; same = rw (x, y, all); count = rw (y, all) }

pub skip : (f d w m a : ℕ) → 0 < m → m < 2 ^ d → m < 2 ^ f → Skipped f d w m a (count_trailing_zeros f m)
unfolding count_trailing_zeros appended pop_in
skip zero d w m a h l k = absurd (omega arith)
skip (suc f) zero w m a h l k = absurd (omega arith)
skip (suc f) (suc d) w m a h l k = at (m % 2) refl (mod-lt m (omega arith)) (λ g. skip f d (w / 2) (m / 2) a g (omega arith) (omega arith))
  where
    at : (b : ℕ) → m % 2 ≡ b → b < 2 → (0 < m / 2 → Skipped f d (w / 2) (m / 2) a (count_trailing_zeros f (m / 2))) → Skipped (suc f) (suc d) w m a (under (m % 2) (count_trailing_zeros f (m / 2)))
    at zero e b up =
        let u = up (omega arith) in
        let t = count_trailing_zeros f (m / 2) in
        let less : suc d - suc t ≡ d - t = omega (arith, u.below) in
        let clear : append_bit w m a ≡ a = append_clear w m a (λ q. absurd (omega arith)) in
        rw e (record {
          below = omega (arith, u.below);
          short = omega (arith, u.short);
          odd = rw shr_suc u.odd;
          fits = rw (shr_suc, less) u.fits;
          same = ap (appended d (w / 2) (m / 2)) clear ∙ rw (shr_suc w t, shr_suc m t, less) u.same;
          count = rw (e, shr_suc m t, less) (zero-add _ ∙ u.count);
        })
    at (suc zero) e b up = rw e (skip_none f d w m a l e)
    at (suc (suc x)) e b up = absurd (omega arith)

-- ---- the loop: d bits of the mask are left

pub record Appending (acc word mask a w m : ℕ) : Type 0 where
  pub d : ℕ
  pub small : m < 2 ^ 32
  pub fits : m < 2 ^ d
  pub same : appended d w m a ≡ appended 32 word mask acc
  pub room : (a + 1) * 2 ^ pop_in d m ≤ 2 ^ 32

pub appending_none : (acc word mask : ℕ) → mask < 2 ^ 32 → (acc + 1) * 2 ^ pop mask ≤ 2 ^ 32 → Appending acc word mask acc word mask
appending_none acc word mask h r = record { d = 32; small = h; fits = h; same = refl; room = r }

-- what the turn's numbers are after the zeros are skipped
pub record Next (acc word mask a w m t : ℕ) : Type 0 where
  pub short : t < 32
  pub holds : a * 2 + w / 2 ^ t % 2 < 2 ^ 32
  pub next : Appending acc word mask (a * 2 + w / 2 ^ t % 2) (w / 2 ^ t / 2) (m / 2 ^ t / 2)

grow : (a b p : ℕ) → b < 2 → (a * 2 + b + 1) * p ≤ (a + 1) * (2 * p)
grow a b p h =
    let l : a * 2 + b + 1 ≤ (a + 1) * 2 = omega arith in
    le_trans (mul-le-mul_right p l) (omega arith)

pub appending_more : (acc word mask a w m : ℕ) → Appending acc word mask a w m → 0 < m → Next acc word mask a w m (count_trailing_zeros 32 m)
unfolding appended pop_in
appending_more acc word mask a w m p h =
    let s = skip 32 p.d w m a h p.fits p.small in
    from (p.d - count_trailing_zeros 32 m) s.short s.odd s.fits (sym s.same ∙ p.same) (rw (← s.count) p.room) (omega (arith, s.below))
  where
    t : ℕ
    t = count_trailing_zeros 32 m

    v : ℕ
    v = w / 2 ^ t

    u : ℕ
    u = m / 2 ^ t

    from : (d : ℕ) → t < 32 → u % 2 ≡ 1 → u < 2 ^ d → appended d v u a ≡ appended 32 word mask acc → (a + 1) * 2 ^ pop_in d u ≤ 2 ^ 32 → 0 < d → Next acc word mask a w m t
    from zero k odd fits same room some = absurd (omega arith)
    from (suc d) k odd fits same room some =
        let c = pop_in d (u / 2) in
        let two : 2 ^ (1 + c) ≡ 2 * 2 ^ c = pow-add 2 1 c in
        let room' : (a + 1) * (2 * 2 ^ c) ≤ 2 ^ 32 = rw (odd, two) at room in
        let bit : v % 2 < 2 = mod-lt v (omega arith) in
        let g = grow a (v % 2) (2 ^ c) bit in
        let one : (a * 2 + v % 2 + 1) * 1 ≤ (a * 2 + v % 2 + 1) * 2 ^ c = mul-le-mul_left (a * 2 + v % 2 + 1) (pow_pos c) in record {
          short = k;
          holds = omega arith;
          next = record { d = d; small = omega (arith, p.small, shr_le m t); fits = omega arith; same = ap (appended d (v / 2) (u / 2)) (sym (append_set v u a odd)) ∙ same; room = omega arith };
        }

pub appending_end : (acc word mask a w m : ℕ) → Appending acc word mask a w m → m ≤ 0 → a ≡ appended 32 word mask acc
appending_end acc word mask a w m p h =
    let z : m ≡ 0 = omega arith in
    sym (appended_none p.d w a) ∙ ap (λ (x : ℕ). appended p.d w x a) (sym z) ∙ p.same

-- ---- the window

pub window_long : (l : List ℕ) (i : ℕ) → i < length l → length (take (i + 1 - i) (drop i l)) ≡ 1
window_long l i h =
    let e : i + 1 - i ≡ 1 = omega arith in
    rw e (length-take-le 1 (drop i l) (rw length-drop (omega arith)))

window_first : (l : List ℕ) (i : ℕ) → get_or (take 1 (drop i l)) 0 0 ≡ get_or l i 0
window_first l i = get_or-take 1 (drop i l) 0 0 (omega arith) ∙ get_or-drop i l 0 0 ∙ ap (λ (x : ℕ). get_or l x 0) (add-zero i)

pub window_old : (old new : List ℕ) (w : ℕ) → w < 2 ^ 31 → take (w + 1 - w) (drop w old) ≡ window_of old new w
unfolding window_of
window_old old new w h =
    let e : w + 1 - w ≡ 1 = omega arith in
    rw (lt-ltb w (2 ^ 31) h, window_of, e)

pub window_new : (old new : List ℕ) (w : ℕ) → 2 ^ 31 ≤ w → take (w - 2 ^ 31 + 1 - (w - 2 ^ 31)) (drop (w - 2 ^ 31) new) ≡ window_of old new w
unfolding window_of
window_new old new w h =
    let e : w - 2 ^ 31 + 1 - (w - 2 ^ 31) ≡ 1 = omega arith in
    rw (le-ltb w (2 ^ 31) h, window_of, e)

-- the window's word is the state word
pub window_word : (old new : List ℕ) (w : ℕ) → get_or (window_of old new w) 0 0 ≡ state_word old new w
unfolding window_of state_word
window_word old new w = by (ltb w (2 ^ 31))
  where
    pick : Bool → List ℕ
    pick t = elim t [ true ↦ take 1 (drop w old) | false ↦ take 1 (drop (w - 2 ^ 31) new) ]

    word : Bool → ℕ
    word t = elim t [ true ↦ get_or old w 0 | false ↦ get_or new (w - 2 ^ 31) 0 ]

    by : (t : Bool) → get_or (pick t) 0 0 ≡ word t
    by true = window_first old w
    by false = window_first new (w - 2 ^ 31)

-- ---- the rounds of a lane

pub lane_room : (W M : ℕ → ℕ) (r R : ℕ) → r < R → sum_to (λ (q : ℕ). pop (M q)) R ≤ 32 → (lane_word W M r + 1) * 2 ^ pop (M r) ≤ 2 ^ 32
lane_room W M r R h l =
    let f : ℕ → ℕ = λ q. pop (M q) in
    let lt : lane_word W M r + 1 ≤ 2 ^ sum_to f r = omega (arith, lane_lt W M r) in
    let all : sum_to f r + pop (M r) ≤ 32 = omega (arith, sum_more f r, sum_le f (r + 1) R (omega arith)) in
    le_trans (mul-le-mul_right (2 ^ pop (M r)) lt) (le_trans (le_of_eq (sym (pow-add 2 (sum_to f r) (pop (M r))))) (pow_mono all))

pub lane_more : (W M : ℕ → ℕ) (r acc x : ℕ) → acc ≡ lane_word W M r → x ≡ appended 32 (W r) (M r) acc → x ≡ lane_word W M (r + 1)
unfolding lane_word
lane_more W M r acc x e f = rw add-one (f ∙ ap (appended 32 (W r) (M r)) e)
