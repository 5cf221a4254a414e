-- A stage: what its bits are at every position. Each position but 0 lies in one level, and the levels fix the bits from the gathered ones down, so
-- that whatever keeps the levels' rule holds the stage's words. Argued once over the lanes n and the levels H, with 2^H = 32n.
-- Assumes nothing.
use mathlib.Core.Path.{◌≡◌, refl, sym, ap, ap₂, ◌∙◌}
use mathlib.Core.List.{List}
use mathlib.Core.Logic.{inl, inr, ⊎_elim}
use Prim.Native.Nat.{ℕ, zero, suc, ◌+◌, ◌-◌, ◌*◌, ◌/◌, ◌%◌, ◌^◌, ◌≤◌, ◌<◌}
use native.Mathlib.Nat.{not-suc-le-zero, eq-or-lt_of_le, le_of_suc-le-suc}
use native.Mathlib.Omega.{arith}
use borrow.Author.Tests.{le-leb, lt-leb}
use lib.Arith.{bin_ind}
use lib.ListN.{length, get_or}
use lib.Pow.{pow_pos, pow_mono}
use Rattle.words.specs.Bit.{bit, bit_at, word_of}
use Rattle.words.specs.Section.{list_of}
use Rattle.words.proofs.BitLaws.{lt_or_ge, bit_lt, bit_ext, differ_lt, word_of_lt, bit_word_of, at_lt}
use Rattle.words.proofs.SectionLaws.{length_list_of, get_d_list_of, list_of-is}
use Rattle.run_machine.specs.Part.{entry_at}
use Rattle.run_machine.specs.Turn.{gate, gate_at, level_bit, position_bit, stage_row}

-- ---- words of a list, bit by bit

-- bit b of word w is at position 32w + b
pub at_word_lem : (l : List ℕ) (w b : ℕ) → b < 32 → bit_at l (32 * w + b) ≡ bit (get_or l w 0) b
unfolding bit_at
at_word_lem l w b h =
    let d : (32 * w + b) / 32 ≡ w = omega arith in
    let m : (32 * w + b) % 32 ≡ b = omega arith in
    rw (d, m)

-- a list of n words that has the bits of f is the list made of them
pub words_of : (f : ℕ → ℕ) (n : ℕ) (l : List ℕ) → length l ≡ n → ((w : ℕ) → w < n → get_or l w 0 < 2 ^ 32) → ((q : ℕ) → q < 32 * n → bit_at l q ≡ f q)
    → l ≡ list_of (λ w. word_of (λ b. f (32 * w + b)) 32) n
words_of f n l long small same = list_of-is _ n l long (λ w h. bit_ext 32 _ _ (small w h) (word_of_lt _ 32 (is-bit w h)) (λ b k. sym (at_word_lem l w b k) ∙ same (32 * w + b) (omega arith) ∙ sym (bit_word_of _ 32 (is-bit w h) b k)))
  where
    is-bit : (w : ℕ) → w < n → (b : ℕ) → b < 32 → f (32 * w + b) < 2
    is-bit w h b k = rw (← same (32 * w + b) (omega arith)) (at_lt l (32 * w + b))

-- the list made of f's bits has them
pub bit_words_lem : (f : ℕ → ℕ) (n : ℕ) → ((q : ℕ) → q < 32 * n → f q < 2) → (q : ℕ) → q < 32 * n → bit_at (list_of (λ w. word_of (λ b. f (32 * w + b)) 32) n) q ≡ f q
unfolding bit_at
bit_words_lem f n small q h =
    let e : 32 * (q / 32) + q % 32 ≡ q = omega arith in
    ap (λ (x : ℕ). bit x (q % 32)) (get_d_list_of (λ w. word_of (λ b. f (32 * w + b)) 32) n (q / 32) (omega arith))
    ∙ bit_word_of (λ b. f (32 * (q / 32) + b)) 32 (λ b k. small (32 * (q / 32) + b) (omega arith)) (q % 32) (omega arith) ∙ ap f e

-- ---- levels

-- a position but 0 is in the level of 2^s slots, for some s
pub level_of : (q : ℕ) → 0 < q → (s : ℕ) × (2 ^ s ≤ q) × (q < 2 * 2 ^ s)
level_of = bin_ind (λ (q : ℕ). 0 < q → (s : ℕ) × (2 ^ s ≤ q) × (q < 2 * 2 ^ s)) (λ h. absurd (omega arith)) step
  where
    step : (q : ℕ) → (0 < q / 2 → (s : ℕ) × (2 ^ s ≤ q / 2) × (q / 2 < 2 * 2 ^ s)) → 0 < q → (s : ℕ) × (2 ^ s ≤ q) × (q < 2 * 2 ^ s)
    step q ih h = ⊎_elim (λ l. (0, omega arith, omega arith)) (λ l. let r = ih (omega arith) in (suc r.0, omega (arith, r.1), omega (arith, r.2))) (lt_or_ge q 2)

-- and s is below H for a position below 2^H
pub level_below : (H s q : ℕ) → 2 ^ s ≤ q → q < 2 ^ H → s < H
level_below H s q h l = ⊎_elim (λ g. g) (λ g. let up : 2 ^ H ≤ 2 ^ s = pow_mono g in absurd (omega arith)) (lt_or_ge s H)

pub gate_lt : (a b xa xb ob : ℕ) → a < 2 → xa < 2 → gate a b xa xb ob < 2
unfolding gate
gate_lt a b xa xb ob h l =
    let d = differ_lt a xa h l in
    omega arith

module _ (n : ℕ) (W : List ℕ) (o k : ℕ) (row : List ℕ) where
  pub level_bit_lt : (h m q : ℕ) → level_bit n W o k row h m q < 2
  unfolding level_bit gate_at
  level_bit_lt zero m q = at_lt row _
  level_bit_lt (suc h) m q = gate_lt _ _ _ _ _ (level_bit_lt h (2 * m) (q + m)) (bit_lt _ _)

  module _ (H : ℕ) where
    pub position_bit_lt : (t q : ℕ) → position_bit n H W o k row t q < 2
    unfolding position_bit
    position_bit_lt zero q = omega arith
    position_bit_lt (suc s) q = ⊎_elim
        (λ l. rw (le-leb (2 ^ s) q l, position_bit) (level_bit_lt (H - s) (2 ^ s) q))
        (λ l. rw (lt-leb (2 ^ s) q l, position_bit) (position_bit_lt s q))
        (⊎_elim (λ l. inr l) (λ l. inl l) (lt_or_ge q (2 ^ s)))

    -- "position 0 holds 0"
    pub position_zero : (t : ℕ) → position_bit n H W o k row t 0 ≡ 0
    unfolding position_bit
    position_zero zero = refl
    position_zero (suc s) = rw (lt-leb (2 ^ s) 0 (pow_pos s), position_bit) (position_zero s)

    pub position_level : (t s q : ℕ) → s < t → 2 ^ s ≤ q → q < 2 * 2 ^ s → position_bit n H W o k row t q ≡ level_bit n W o k row (H - s) (2 ^ s) q
    unfolding position_bit
    position_level zero s q h lo hi = absurd (not-suc-le-zero h)
    position_level (suc t) s q h lo hi = ⊎_elim
        (λ e. let g : 2 ^ t ≤ q = rw (← e) lo in rw (le-leb (2 ^ t) q g, position_bit, ← e))
        (λ l. let up : 2 ^ suc s ≤ 2 ^ t = pow_mono l in rw (lt-leb (2 ^ t) q (omega arith), position_bit) (position_level t s q l lo hi))
        (eq-or-lt_of_le (le_of_suc-le-suc h))

  -- ---- what keeps the levels' rule: b gives a bit at each position, the gathered bits from 2^H on

  pub record StageBits (H : ℕ) (b : ℕ → ℕ) : Type 0 where
    pub zeroth : b 0 ≡ 0
    pub gathered : (i : ℕ) → i < 2 ^ H → b (2 ^ H + i) ≡ bit_at row (entry_at n W o k i)
    pub levels : (s : ℕ) → s < H → (q : ℕ) → 2 ^ s ≤ q → q < 2 * 2 ^ s → b q ≡ gate_at n W o k q (b (q + 2 ^ s)) (b (q + 2 * 2 ^ s))

  module _ (H : ℕ) (wide : 2 ^ H ≡ 32 * n) where
    pub bits_level : (b : ℕ → ℕ) → StageBits H b → (h s : ℕ) → h + s ≡ H → (q : ℕ) → 2 ^ s ≤ q → q < 2 * 2 ^ s → b q ≡ level_bit n W o k row h (2 ^ s) q
    unfolding level_bit
    bits_level b a zero s e q lo hi =
        let z : s ≡ H = omega arith in
        let up : 2 ^ s ≡ 2 ^ H = ap (λ (x : ℕ). 2 ^ x) z in
        let i : 2 ^ H + (q - 32 * n) ≡ q = omega arith in
        ap b (sym i) ∙ a.gathered (q - 32 * n) (omega arith)
    bits_level b a (suc h) s e q lo hi =
        let up = bits_level b a h (suc s) (omega arith) in
        let m : 2 ^ suc s ≡ 2 * 2 ^ s = omega arith in
        a.levels s (omega arith) q lo hi
        ∙ ap₂ (gate_at n W o k q) (rw m at (up (q + 2 ^ s) (omega arith) (omega arith))) (rw m at (up (q + 2 * 2 ^ s) (omega arith) (omega arith)))

    -- the rule fixes the bit at every position
    pub bits_position : (b : ℕ → ℕ) → StageBits H b → (q : ℕ) → q < 2 ^ H → b q ≡ position_bit n H W o k row H q
    bits_position b a zero h = a.zeroth ∙ sym (position_zero H H)
    bits_position b a (suc q) h =
        let r = level_of (suc q) (omega arith) in
        let s = r.0 in
        let below = level_below H s (suc q) r.1 h in
        bits_level b a (H - s) s (omega arith) (suc q) r.1 r.2 ∙ sym (position_level H H s (suc q) below r.1 r.2)

    -- ---- the stage's words

    pub stage_length : length (stage_row n H W o k row) ≡ n
    unfolding stage_row
    stage_length = length_list_of _ n

    pub stage_bit : (q : ℕ) → q < 32 * n → bit_at (stage_row n H W o k row) q ≡ position_bit n H W o k row H q
    unfolding stage_row
    stage_bit q h = bit_words_lem (position_bit n H W o k row H) n (λ q _. position_bit_lt H H q) q h

    pub stage_is : (b : ℕ → ℕ) → StageBits H b → (l : List ℕ) → length l ≡ n → ((w : ℕ) → w < n → get_or l w 0 < 2 ^ 32)
        → ((q : ℕ) → q < 32 * n → bit_at l q ≡ b q) → l ≡ stage_row n H W o k row
    unfolding stage_row
    stage_is b a l long small same = words_of (position_bit n H W o k row H) n l long small (λ q h. same q h ∙ bits_position b a q (omega arith))
