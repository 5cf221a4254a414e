-- Two bits more of a gathered word, and one word more.
-- Assumes nothing.
use mathlib.Core.Path.{◌≡◌, sym, ap, ◌∙◌, subst}
use mathlib.Core.List.{List}
use mathlib.Core.Logic.{⊎_elim}
use Prim.Native.Nat.{ℕ, zero, suc, ◌+◌, ◌-◌, ◌*◌, ◌/◌, ◌%◌, ◌^◌, ◌≤◌, ◌<◌}
use native.Mathlib.Nat.{add-zero}
use native.Mathlib.Omega.{arith}
use lib.Bits.{bit_or, or_shifted_r}
use lib.Pow.{shl_exact, pow-add}
use lib.Arith.{digits_lt}
use lib.ListN.{length, get_or, set}
use Rattle.words.specs.Bit.{bit, bit_at}
use Rattle.words.specs.Section.{word_of_entry, half_of, half_at}
use Rattle.words.proofs.BitLaws.{lt_or_ge, at_lt, bit_low, bit_high, bit_first, bit_suc}
use Rattle.run_machine.specs.Well.{Entries}
use Rattle.run_stage.specs.StoreLoop.{Filled}
use Rattle.run_stage.specs.Gather.{GatherBits, Gathered}
use Rattle.run_stage.proofs.StoreLoopLaws.{filled_none, filled_more}
use Rattle.run_form.proofs.HalfLaws.{half_high}

-- entries 32j + 2h and 32j + 2h + 1 are the halves of one word
pair_place : (n j h : ℕ) → h < 16 → word_of_entry n (32 * j + 2 * h) ≡ h / 4 * (4 * n) + (4 * j + h % 4)
unfolding word_of_entry
pair_place n j h l =
    let a : (32 * j + 2 * h) / 8 % 4 ≡ h / 4 = omega arith in
    let b : (32 * j + 2 * h) / 32 ≡ j = omega arith in
    let c : (32 * j + 2 * h) % 8 / 2 ≡ h % 4 = omega arith in
    rw (a, b, c) (omega arith)

pair_next : (n j h : ℕ) → h < 16 → word_of_entry n (32 * j + 2 * h + 1) ≡ h / 4 * (4 * n) + (4 * j + h % 4)
unfolding word_of_entry
pair_next n j h l =
    let a : (32 * j + 2 * h + 1) / 8 % 4 ≡ h / 4 = omega arith in
    let b : (32 * j + 2 * h + 1) / 32 ≡ j = omega arith in
    let c : (32 * j + 2 * h + 1) % 8 / 2 ≡ h % 4 = omega arith in
    rw (a, b, c) (omega arith)

pub pair_low : (n : ℕ) (p : List ℕ) (j h : ℕ) → h < 16 → get_or p (h / 4 * (4 * n) + (4 * j + h % 4)) 0 % 2 ^ 16 ≡ half_at n p (32 * j + 2 * h)
unfolding half_at half_of
pair_low n p j h l =
    let e : (32 * j + 2 * h) % 2 ≡ 0 = omega arith in
    rw (e, pair_place n j h l)

pub pair_high : (n : ℕ) (p : List ℕ) (j h : ℕ) → h < 16 → get_or p (h / 4 * (4 * n) + (4 * j + h % 4)) 0 / 2 ^ 16 ≡ half_at n p (32 * j + 2 * h + 1)
unfolding half_at
pair_high n p j h l =
    let e : (32 * j + 2 * h + 1) % 2 ≡ 1 = omega arith in
    rw (pair_next n j h l) (half_high _ _ e)

pub pair_in : (n j h : ℕ) → h < 16 → j < n → h / 4 * (4 * n) + (4 * j + h % 4) < 16 * n
pair_in n j h l g =
    let d : h / 4 * (4 * n) + (4 * j + h % 4) < 4 * (4 * n) = digits_lt {m = 4} (omega arith) (omega arith) in
    omega arith

-- ---- the bits of a word

pub at_small : (r : ℕ) (l : List ℕ) (q : ℕ) → r ≡ bit_at l q → r < 2
at_small r l q e = rw e (at_lt l q)

pub bits_none : (n : ℕ) (p l : List ℕ) (j : ℕ) → GatherBits n p l j 0 0
bits_none n p l j = record { small = omega arith; each = λ q h. absurd (omega arith) }

-- the bits of a two-bit number on top of s others
pair_bit : (a b s x i : ℕ) → a < 2 → b < 2 → x < 2 ^ s → i < 2 → bit ((b * 2 + a) * 2 ^ s + x) (s + i) ≡ elim i [ zero ↦ a | suc i ↦ b ]
pair_bit a b s x zero la lb small h = bit_high (b * 2 + a) s 0 small ∙ bit_first (b * 2 + a) ∙ omega arith
pair_bit a b s x (suc zero) la lb small h =
    let half : (b * 2 + a) / 2 ≡ b = omega arith in
    bit_high (b * 2 + a) s 1 small ∙ bit_suc (b * 2 + a) 0 ∙ ap (λ (y : ℕ). bit y 0) half ∙ bit_first b ∙ omega arith
pair_bit a b s x (suc (suc i)) la lb small h = absurd (omega arith)

pub bits_more : (n : ℕ) (p l : List ℕ) (j h x v : ℕ) → GatherBits n p l j h x → h < 16
    → v ≡ bit_at l (half_at n p (32 * j + 2 * h + 1)) * 2 + bit_at l (half_at n p (32 * j + 2 * h))
    → GatherBits n p l j (h + 1) (bit_or x ((v * 2 ^ (2 * h)) % 2 ^ 32))
bits_more n p l j h x v g lt e =
    let four : v < 2 ^ 2 = omega (arith, la, lb) in
    let is : bit_or x ((v * 2 ^ s) % 2 ^ 32) ≡ v * 2 ^ s + x = rw (shl_exact 2 s 32 four (omega arith)) (or_shifted_r v s x g.small) in
    let up : 2 * (h + 1) ≡ 2 + s = omega arith in
    rw is (record {
      small = rw (up, pow-add) (digits_lt four g.small);
      each = λ q k. ⊎_elim (λ u. bit_low v s q g.small u ∙ g.each q u) (λ u. top q (q - s) (omega arith) (omega arith)) (lt_or_ge q s);
    })
  where
    s : ℕ
    s = 2 * h

    la : bit_at l (half_at n p (32 * j + s)) < 2
    la = at_lt l _

    lb : bit_at l (half_at n p (32 * j + s + 1)) < 2
    lb = at_lt l _

    top : (q i : ℕ) → q ≡ s + i → i < 2 → bit (v * 2 ^ s + x) q ≡ bit_at l (half_at n p (32 * j + q))
    top q zero f h =
        let r : 32 * j + (s + 0) ≡ 32 * j + s = omega arith in
        rw (e, f, r) (pair_bit _ _ s x 0 la lb g.small h)
    top q (suc zero) f h =
        let r : 32 * j + (s + 1) ≡ 32 * j + s + 1 = omega arith in
        rw (e, f, r) (pair_bit _ _ s x 1 la lb g.small h)
    top q (suc (suc i)) f h = absurd (omega arith)

-- ---- the words

pub gathered_none : (n : ℕ) (p l : List ℕ) → Gathered n p l l 0
gathered_none n p l = subst (λ (b : ℕ). Filled (λ w x. GatherBits n p l (w - n) 16 x) n b l l) (sym (add-zero n)) (filled_none _ n l)

pub gathered_more : (n : ℕ) (p l₀ l : List ℕ) (j x : ℕ) → Gathered n p l₀ l j → GatherBits n p l j 16 x → j < n → 2 * n ≤ length l₀ → Entries n p
    → Gathered n p l₀ (set l (n + j) x) (j + 1)
unfolding bit_at
gathered_more n p l₀ l j x g b h room ok =
    let next : n + j + 1 ≡ n + (j + 1) = omega arith in
    let here : n + j - n ≡ j = omega arith in
    rw (← next) (filled_more _ n (n + j) l₀ l x g (omega arith) (omega arith) (rw here (record { small = b.small; each = λ q k. b.each q k ∙ source _ (ok (32 * j + q) (omega arith)) })))
  where
    source : (q : ℕ) → q < 32 * n → bit_at l q ≡ bit_at l₀ q
    source q s = ap (λ (y : ℕ). bit y (q % 32)) (g.under (q / 32) (omega arith))
