-- The bits of a word after each operation, each law for every bit and every width; `bit` stays shut elsewhere.
-- Assumes nothing.
use mathlib.Core.Path.{◌≡◌, refl, sym, ap, ap₂, ◌∙◌, subst}
use mathlib.Core.Bool.{Bool, true, false}
use mathlib.Core.List.{List}
use mathlib.Core.Logic.{◌⊎◌, inl, inr, ⊎_elim}
use Prim.Native.Nat.{ℕ, zero, suc, ◌+◌, ◌-◌, ◌*◌, ◌/◌, ◌%◌, ◌^◌, ◌≤◌, ◌<◌, min, max}
use native.Mathlib.Nat.{mod-lt, mod-eq_of_lt, div-eq_of_lt, pow-suc, mul_comm, lt_of_lt_of_le, add-zero, not-suc-le-zero, le_of_suc-le-suc, eq-or-lt_of_le, max-zero, sub-zero}
use native.Mathlib.Decide.{ℕ_discrete}
use native.Mathlib.Numerals.{one-add}
use native.Mathlib.Omega.{arith}
use borrow.Author.Tests.{eq-eqb, ne_eqb}
use lib.Arith.{digits_mod, digits_lt, lt-one}
use lib.Bits.{bit_and, bit_or, bit_xor, differ, and_step, or_step, xor_step, and_shr, or_shr, xor_shr, or_lt}
use lib.Dec.{eqb}
use lib.ListN.{length, get_or, set, length-set}
use lib.Pow.{pow_pos, pow-lt, pow_mono, shr-shr, high, low, field, mod-mod-pow}
use lib.Seq.{get_or-set_same, get_or-set_other}
use Rattle.words.specs.Bit.{bit, bit_at, word_of, with_bit, set_bit}

-- an order, decided
pub lt_or_ge : (a b : ℕ) → (a < b) ⊎ (b ≤ a)
lt_or_ge a zero = inr (omega arith)
lt_or_ge zero (suc b) = inl (omega arith)
lt_or_ge (suc a) (suc b) = ⊎_elim (λ l. inl (omega arith)) (λ l. inr (omega arith)) (lt_or_ge a b)

two_pos : 0 < 2
two_pos = omega arith

pub bit_lt : (w k : ℕ) → bit w k < 2
unfolding bit
bit_lt w k = mod-lt (w / 2 ^ k) two_pos

-- a test, as a number
pub test_le : (b : Bool) → elim b [ true ↦ 1 | false ↦ 0 ] ≤ 1
test_le true = omega arith
test_le false = omega arith

-- ---- and, or, xor

min_lt : (a b : ℕ) → a < 2 → min a b < 2
min_lt a b h = omega arith

max_lt : (a b : ℕ) → a < 2 → b < 2 → max a b < 2
max_lt a b h l = omega arith

pub differ_lt : (a b : ℕ) → a < 2 → b < 2 → differ a b < 2
differ_lt zero b h l = l
differ_lt (suc a) zero h l = h
differ_lt (suc zero) (suc b) h l = omega arith
differ_lt (suc (suc a)) (suc b) h l = omega arith

pub bit_and_lem : (a b k : ℕ) → bit (bit_and a b) k ≡ min (bit a k) (bit b k)
unfolding bit
bit_and_lem a b k =
    ap (λ (x : ℕ). x % 2) (and_shr a b k ∙ and_step (a / 2 ^ k) (b / 2 ^ k))
    ∙ digits_mod _ (min_lt _ _ (mod-lt (a / 2 ^ k) two_pos))

pub bit_or_lem : (a b k : ℕ) → bit (bit_or a b) k ≡ max (bit a k) (bit b k)
unfolding bit
bit_or_lem a b k =
    ap (λ (x : ℕ). x % 2) (or_shr a b k ∙ or_step (a / 2 ^ k) (b / 2 ^ k))
    ∙ digits_mod _ (max_lt _ _ (mod-lt (a / 2 ^ k) two_pos) (mod-lt (b / 2 ^ k) two_pos))

pub bit_xor_lem : (a b k : ℕ) → bit (bit_xor a b) k ≡ differ (bit a k) (bit b k)
unfolding bit
bit_xor_lem a b k =
    ap (λ (x : ℕ). x % 2) (xor_shr a b k ∙ xor_step (a / 2 ^ k) (b / 2 ^ k))
    ∙ digits_mod _ (differ_lt _ _ (mod-lt (a / 2 ^ k) two_pos) (mod-lt (b / 2 ^ k) two_pos))

-- ---- shifts, and one bit after another

pub bit_zero : (k : ℕ) → bit 0 k ≡ 0
unfolding bit
bit_zero k = ap (λ (x : ℕ). x % 2) (div-eq_of_lt (pow_pos k))

pub bit_shr : (w s k : ℕ) → bit (w / 2 ^ s) k ≡ bit w (s + k)
unfolding bit
bit_shr w s k = ap (λ (x : ℕ). x % 2) (shr-shr w s k)

pub bit_first : (w : ℕ) → bit w 0 ≡ w % 2
unfolding bit
bit_first w = omega arith

pub bit_suc : (w k : ℕ) → bit w (suc k) ≡ bit (w / 2) k
bit_suc w k = ap (bit w) (sym (one-add k)) ∙ sym (bit_shr w 1 k)

-- a word is its bits: two numbers below 2 ^ n with the same n bits are equal
pub bit_ext : (n a b : ℕ) → a < 2 ^ n → b < 2 ^ n → ((k : ℕ) → k < n → bit a k ≡ bit b k) → a ≡ b
bit_ext zero a b ha hb h = lt-one ha ∙ sym (lt-one hb)
bit_ext (suc n) a b ha hb h =
    let lowest : a % 2 ≡ b % 2 = sym (bit_first a) ∙ h 0 (omega arith) ∙ bit_first b in
    let rest : a / 2 ≡ b / 2 = bit_ext n (a / 2) (b / 2) (omega arith) (omega arith)
    (λ k l. sym (bit_suc a k) ∙ h (suc k) (omega arith) ∙ bit_suc b k) in
    omega arith

-- ---- high and low parts

-- above a number's length there are no bits
pub bit_above : (n k : ℕ) {w : ℕ} → w < 2 ^ n → n ≤ k → bit w k ≡ 0
unfolding bit
bit_above n k h l = ap (λ (x : ℕ). x % 2) (div-eq_of_lt (lt_of_lt_of_le h (pow_mono l)))

-- a mask keeps the bits below it
pub bit_mod : (w s k : ℕ) → k < s → bit (w % 2 ^ s) k ≡ bit w k
unfolding bit
bit_mod w s k h =
    let e : s ≡ (s - suc k + 1) + k = omega arith in
    ap (λ (x : ℕ). w % 2 ^ x / 2 ^ k % 2) e ∙ ap (λ (x : ℕ). x % 2) (field w (s - suc k + 1) k) ∙ mod-mod-pow (w / 2 ^ k) (s - suc k) 1

-- a number put together from a high part and s low bits
pub bit_low : (a s k : ℕ) {r : ℕ} → r < 2 ^ s → k < s → bit (a * 2 ^ s + r) k ≡ bit r k
bit_low a s k h l = sym (bit_mod _ s k l) ∙ ap (λ (x : ℕ). bit x k) (low a s h)

pub bit_high : (a s k : ℕ) {r : ℕ} → r < 2 ^ s → bit (a * 2 ^ s + r) (s + k) ≡ bit a k
bit_high a s k h = sym (bit_shr _ s k) ∙ ap (λ (x : ℕ). bit x k) (high a s h)

-- one more bit on top of k of them: what a loop that fills a word from below does in a turn
pub bit_top : (v k : ℕ) {r : ℕ} → v < 2 → r < 2 ^ k → bit (v * 2 ^ k + r) k ≡ v
bit_top v k h l = ap (bit _) (sym (add-zero k)) ∙ bit_high v k 0 l ∙ bit_first v ∙ mod-eq_of_lt h

pub top_lt : (v k : ℕ) {r : ℕ} → v < 2 → r < 2 ^ k → v * 2 ^ k + r < 2 ^ suc k
top_lt v k {r} h l = subst (λ (x : ℕ). v * 2 ^ k + r < x) (mul_comm 2 (2 ^ k) ∙ sym (pow-suc 2 k)) (digits_lt h l)

-- ---- the complement in n bits, and n set bits

pub bit_not : (n w k : ℕ) → w < 2 ^ n → k < n → bit ((2 ^ n - 1) - w) k ≡ 1 - bit w k
bit_not zero w k h l = absurd (not-suc-le-zero l)
bit_not (suc n) w zero h l = bit_first _ ∙ flipped ∙ ap (λ (x : ℕ). 1 - x) (sym (bit_first w))
  where
    flipped : ((2 ^ suc n - 1) - w) % 2 ≡ 1 - w % 2
    flipped = omega arith
bit_not (suc n) w (suc k) h l =
    bit_suc _ k ∙ ap (λ (x : ℕ). bit x k) halved ∙ bit_not n (w / 2) k (omega arith) (omega arith) ∙ ap (λ (x : ℕ). 1 - x) (sym (bit_suc w k))
  where
    halved : ((2 ^ suc n - 1) - w) / 2 ≡ (2 ^ n - 1) - w / 2
    halved = omega arith

pub bit_ones : (n k : ℕ) → k < n → bit (2 ^ n - 1) k ≡ 1
bit_ones n k h = ap (λ (x : ℕ). bit x k) (sym (sub-zero (2 ^ n - 1))) ∙ bit_not n 0 k (pow_pos n) h ∙ ap (λ (x : ℕ). 1 - x) (bit_zero k)

-- ---- a word built from bits

pub word_of_lt : (f : ℕ → ℕ) (n : ℕ) → ((k : ℕ) → k < n → f k < 2) → word_of f n < 2 ^ n
unfolding word_of
word_of_lt f zero h = omega arith
word_of_lt f (suc n) h = top_lt (f n) n (h n (omega arith)) (word_of_lt f n (λ k l. h k (omega arith)))

pub bit_word_of : (f : ℕ → ℕ) (n : ℕ) → ((k : ℕ) → k < n → f k < 2) → (k : ℕ) → k < n → bit (word_of f n) k ≡ f k
unfolding word_of
bit_word_of f zero h k l = absurd (not-suc-le-zero l)
bit_word_of f (suc n) h k l =
    let under = word_of_lt f n (λ k l. h k (omega arith)) in
    ⊎_elim (λ e. rw e (bit_top (f n) n (h n (omega arith)) under))
    (λ s. bit_low (f n) n k under s ∙ bit_word_of f n (λ k l. h k (omega arith)) k s)
    (eq-or-lt_of_le (le_of_suc-le-suc l))

-- ---- a power of two, and a bit set

pub bit_pow : (k q : ℕ) → bit (2 ^ k) q ≡ elim (eqb q k) [ true ↦ 1 | false ↦ 0 ]
bit_pow k q = by (ℕ_discrete q k)
  where
    alone : 2 ^ k ≡ 1 * 2 ^ k + 0
    alone = omega arith

    by : Dec (q ≡ k) → bit (2 ^ k) q ≡ elim (eqb q k) [ true ↦ 1 | false ↦ 0 ]
    by (yes e) = rw (e, eq-eqb k k refl) (ap (λ (x : ℕ). bit x k) alone ∙ bit_top 1 k (omega arith) (pow_pos k))
    by (no d) =
        rw (ne_eqb q k d)
        (⊎_elim (λ l. ap (λ (x : ℕ). bit x q) alone ∙ bit_low 1 k q (pow_pos k) l ∙ bit_zero q)
        (λ l. bit_above (suc k) q (pow-lt (omega arith)) (omega arith))
        (lt_or_ge q k))

pub with_lt : (n w k : ℕ) → w < 2 ^ n → k < n → with_bit w k < 2 ^ n
unfolding with_bit
with_lt n w k h l = or_lt n w (2 ^ k) h (pow-lt l)

pub bit_with : (w k q : ℕ) → bit (with_bit w k) q ≡ elim (eqb q k) [ true ↦ 1 | false ↦ bit w q ]
unfolding with_bit
bit_with w k q = bit_or_lem w (2 ^ k) q ∙ ap (max (bit w q)) (bit_pow k q) ∙ by (eqb q k)
  where
    by : (t : Bool) → max (bit w q) (elim t [ true ↦ 1 | false ↦ 0 ]) ≡ elim t [ true ↦ 1 | false ↦ bit w q ]
    by true = omega (arith, bit_lt w q)
    by false = max-zero (bit w q)

-- ---- the bit at a position of a list, and the list with it set

pub at_lt : (l : List ℕ) (q : ℕ) → bit_at l q < 2
unfolding bit_at
at_lt l q = bit_lt (get_or l (q / 32) 0) (q % 32)

pub set-bit_length : (l : List ℕ) (p : ℕ) → length (set_bit l p) ≡ length l
unfolding set_bit
set-bit_length l p = length-set l (p / 32) _

pub at_set-bit : (l : List ℕ) (p q : ℕ) → p / 32 < length l → bit_at (set_bit l p) q ≡ elim (eqb q p) [ true ↦ 1 | false ↦ bit_at l q ]
unfolding bit_at set_bit
at_set-bit l p q h = by (ℕ_discrete (q / 32) (p / 32))
  where
    x : ℕ
    x = with_bit (get_or l (p / 32) 0) (p % 32)

    pick : Bool → ℕ → ℕ
    pick t i = elim t [ true ↦ 1 | false ↦ bit (get_or l i 0) (q % 32) ]

    here : q / 32 ≡ p / 32 → Dec (q ≡ p) → eqb (q % 32) (p % 32) ≡ eqb q p
    here e (yes s) = eq-eqb (q % 32) (p % 32) (ap (λ (y : ℕ). y % 32) s) ∙ sym (eq-eqb q p s)
    here e (no d) = ne_eqb (q % 32) (p % 32) (λ s. d (omega arith)) ∙ sym (ne_eqb q p d)

    by : Dec (q / 32 ≡ p / 32) → bit (get_or (set l (p / 32) x) (q / 32) 0) (q % 32) ≡ elim (eqb q p) [ true ↦ 1 | false ↦ bit (get_or l (q / 32) 0) (q % 32) ]
    by (yes e) =
        ap (λ (i : ℕ). bit (get_or (set l (p / 32) x) i 0) (q % 32)) e
        ∙ ap (λ (y : ℕ). bit y (q % 32)) (get_or-set_same l (p / 32) x 0 h)
        ∙ bit_with (get_or l (p / 32) 0) (p % 32) (q % 32)
        ∙ ap₂ pick (here e (ℕ_discrete q p)) (sym e)
    by (no d) =
        rw (ne_eqb q p (λ s. d (ap (λ (y : ℕ). y / 32) s)))
        (ap (λ (y : ℕ). bit y (q % 32)) (get_or-set_other l (p / 32) (q / 32) x 0 d))
