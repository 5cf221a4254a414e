-- The store turn on whole words against bit by bit, and captured words with zeros behind them.
-- Assumes nothing.
use mathlib.Core.Path.{◌≡◌, refl, sym, ap, ap₂, ◌∙◌, fun_ext}
use mathlib.Core.List.{List}
use mathlib.Core.Logic.{⊎_elim}
use Prim.Native.Nat.{ℕ, zero, suc, ◌+◌, ◌*◌, ◌-◌, ◌/◌, ◌%◌, ◌^◌, ◌≤◌, ◌<◌, min}
use native.Mathlib.Omega.{arith}
use lib.Bits.{bit_and, bit_xor, differ}
use mathlib.Core.List.{◌++◌}
use lib.ListN.{length, get_or, take, drop, replicate, get_or-append, get_or-replicate, length-replicate, get_or-eq_default, length-take}
use Rattle.std.proofs.lemmas.List.{get_or-append_right}
use lib.Seq.{get_or-drop, length-take-le}
use Rattle.words.specs.Bit.{bit, bit_at, word_of}
use Rattle.words.proofs.BitLaws.{lt_or_ge, bit_lt, bit_ext, bit_and_lem, bit_xor_lem, bit_word_of, differ_lt}
use Rattle.run_machine.specs.Part.{stages_at, start_at, section_at, entry_at, lane_word_at}
use Rattle.run_machine.specs.Turn.{taken, gathered_bit, chosen, chosen_bits, stored_bit, stored_word}
use Rattle.run_machine.proofs.StageBitLaws.{at_word_lem}
use Rattle.run_machine.proofs.TurnLaws.{taken_lt, stored_word_lt, stored_word_bit}
use Rattle.run_store.specs.Store.{chosen_word}

-- ---- on bits

cleared : (g z : ℕ) → g < 2 → z < 2 → differ g (min g z) ≡ min g (1 - z)
cleared zero z h l = omega arith
cleared (suc zero) zero h l = refl
cleared (suc zero) (suc zero) h l = refl
cleared (suc zero) (suc (suc z)) h l = absurd (omega arith)
cleared (suc (suc g)) z h l = absurd (omega arith)

-- a bit that is changed where e is 1 and the other is not its like
picked : (e v k : ℕ) → e < 2 → v < 2 → k < 2 → differ k (min (differ v k) e) ≡ chosen e v k
picked zero zero zero a b c = refl
picked zero zero (suc zero) a b c = refl
picked zero (suc zero) zero a b c = refl
picked zero (suc zero) (suc zero) a b c = refl
picked (suc zero) zero zero a b c = refl
picked (suc zero) zero (suc zero) a b c = refl
picked (suc zero) (suc zero) zero a b c = refl
picked (suc zero) (suc zero) (suc zero) a b c = refl
picked zero zero (suc (suc k)) a b c = absurd (omega arith)
picked zero (suc zero) (suc (suc k)) a b c = absurd (omega arith)
picked zero (suc (suc v)) k a b c = absurd (omega arith)
picked (suc zero) zero (suc (suc k)) a b c = absurd (omega arith)
picked (suc zero) (suc zero) (suc (suc k)) a b c = absurd (omega arith)
picked (suc zero) (suc (suc v)) k a b c = absurd (omega arith)
picked (suc (suc e)) v k a b c = absurd (omega arith)

-- ---- on words

module _ (cap held gathered inv set0 data-inv : ℕ) where
  enable : ℕ → ℕ
  enable k = taken (bit gathered k) (bit set0 k) (bit inv k)

  enable-bit : (k : ℕ) → bit (bit_xor (bit_xor gathered (bit_and gathered set0)) inv) k ≡ enable k
  unfolding enable
  enable-bit k =
      bit_xor_lem (bit_xor gathered (bit_and gathered set0)) inv k
      ∙ ap (λ (x : ℕ). differ x (bit inv k))
      (bit_xor_lem gathered (bit_and gathered set0) k ∙ ap (differ (bit gathered k)) (bit_and_lem gathered set0 k) ∙ cleared (bit gathered k) (bit set0 k) (bit_lt gathered k) (bit_lt set0 k))

  data-bit : (k : ℕ) → bit (bit_xor (bit_xor cap data-inv) held) k ≡ differ (differ (bit cap k) (bit data-inv k)) (bit held k)
  data-bit k = bit_xor_lem (bit_xor cap data-inv) held k ∙ ap (λ (x : ℕ). differ x (bit held k)) (bit_xor_lem cap data-inv k)

  pub chosen_bit : (k : ℕ) → bit (chosen_word cap held gathered inv set0 data-inv) k ≡ chosen (taken (bit gathered k) (bit set0 k) (bit inv k)) (differ (bit cap k) (bit data-inv k)) (bit held k)
  unfolding chosen_word enable
  chosen_bit k =
      bit_xor_lem held _ k
      ∙ ap (differ (bit held k)) (bit_and_lem (bit_xor (bit_xor cap data-inv) held) (bit_xor (bit_xor gathered (bit_and gathered set0)) inv) k ∙ ap₂ min (data-bit k) (enable-bit k))
      ∙ picked (enable k) (differ (bit cap k) (bit data-inv k)) (bit held k) (taken_lt _ (bit set0 k) _ (bit_lt gathered k) (bit_lt inv k)) (differ_lt _ _ (bit_lt cap k) (bit_lt data-inv k)) (bit_lt held k)

module _ (n : ℕ) (W : List ℕ) (o : ℕ) (old : List ℕ) where
  abbrev lane : ℕ → ℕ → ℕ
  lane l h = lane_word_at n W o (stages_at W o + 1) l h

  -- THE STORED WORD, from whole words
  pub stored_is : (caps : List ℕ) (l r g : ℕ) → r < 2 ^ 32 → r ≡ chosen_word (get_or caps l 0) (get_or old (start_at W o + l) 0) g (lane l 0) (lane l 1) (lane l 2)
      → ((b : ℕ) → b < 32 → min (bit g b) (1 - bit (lane l 1) b) ≡ min (bit_at caps (entry_at n W o (stages_at W o + 1) (32 * l + b))) (1 - bit (lane l 1) b))
      → r ≡ stored_word n W o old caps l
  unfolding stored_bit gathered_bit
  stored_is caps l r g small e each = bit_ext 32 r (stored_word n W o old caps l) small (stored_word_lt n W o old caps l) (λ k h. ap (λ (x : ℕ). bit x k) e ∙ here k h ∙ sym (stored_word_bit n W o old caps l k h))
    where
      here : (k : ℕ) → k < 32 → bit (chosen_word (get_or caps l 0) (get_or old (start_at W o + l) 0) g (lane l 0) (lane l 1) (lane l 2)) k
          ≡ stored_bit n W o old caps (bit_at caps (32 * l + k)) (32 * l + k)
      here k h =
          let d : (32 * l + k) / 32 ≡ l = omega arith in
          let m : (32 * l + k) % 32 ≡ k = omega arith in
          let place : 32 * start_at W o + (32 * l + k) ≡ 32 * (start_at W o + l) + k = omega arith in
          rw (place, at_word_lem old (start_at W o + l) k h, at_word_lem caps l k h, d, m, ← each k h)
          (chosen_bit (get_or caps l 0) (get_or old (start_at W o + l) 0) g (lane l 0) (lane l 1) (lane l 2) k)

  -- captured words that are the same at every place
  pub stored_ext : (caps caps' : List ℕ) (l : ℕ) → ((i : ℕ) → get_or caps i 0 ≡ get_or caps' i 0) → stored_word n W o old caps l ≡ stored_word n W o old caps' l
  unfolding stored_word bit_at
  stored_ext caps caps' l same =
      ap (λ (f : ℕ → ℕ). chosen_bits (λ k. f (32 * l + k)) (λ k. f (entry_at n W o (stages_at W o + 1) (32 * l + k))) (λ k. bit_at old (32 * start_at W o + (32 * l + k))) (lane l 0) (lane l 1) (lane l 2))
      (fun_ext at)
    where
      at : (q : ℕ) → bit_at caps q ≡ bit_at caps' q
      at q = ap (λ (x : ℕ). bit x (q % 32)) (same (q / 32))

-- what all of set0 clears: nothing need be gathered
pub cleared_all : (b v : ℕ) → b < 32 → min (bit 0 b) (1 - bit 0xFFFFFFFF b) ≡ min v (1 - bit 0xFFFFFFFF b)
unfolding word_of
cleared_all b v h = let one : bit 0xFFFFFFFF b ≡ 1 = ones b h in omega (arith, one)
  where
    full : word_of (λ k. 1) 32 ≡ 0xFFFFFFFF
    full = refl

    ones : (b : ℕ) → b < 32 → bit 0xFFFFFFFF b ≡ 1
    ones b h = ap (λ (x : ℕ). bit x b) (sym full) ∙ bit_word_of (λ k. 1) 32 (λ k l. omega arith) b h

-- as the code has it: section k at word s, state start a
pub stored_code : (n : ℕ) (W : List ℕ) (o : ℕ) (old caps : List ℕ) (l k s a g r : ℕ) → k ≡ stages_at W o + 1 → s ≡ section_at n W o k → a ≡ start_at W o → r < 2 ^ 32
    → r ≡ chosen_word (get_or caps l 0) (get_or old (a + l) 0) g (get_or W (s + 16 * n + 4 * l) 0) (get_or W (s + 16 * n + 4 * l + 1) 0) (get_or W (s + 16 * n + 4 * l + 2) 0)
    → ((b : ℕ) → b < 32 → min (bit g b) (1 - bit (get_or W (s + 16 * n + 4 * l + 1) 0) b) ≡ min (bit_at caps (entry_at n W o k (32 * l + b))) (1 - bit (get_or W (s + 16 * n + 4 * l + 1) 0) b))
    → r ≡ stored_word n W o old caps l
unfolding lane_word_at
stored_code n W o old caps l k s a g r stages section start small e each =
    let zeroth : s + 16 * n + 4 * l ≡ section_at n W o (stages_at W o + 1) + 16 * n + 4 * l + 0 = omega (arith, at) in
    let first : s + 16 * n + 4 * l + 1 ≡ section_at n W o (stages_at W o + 1) + 16 * n + 4 * l + 1 = omega (arith, at) in
    let second : s + 16 * n + 4 * l + 2 ≡ section_at n W o (stages_at W o + 1) + 16 * n + 4 * l + 2 = omega (arith, at) in
    let cap : ℕ = get_or caps l 0 in
    let held : ℕ = get_or old (start_at W o + l) 0 in
    let one : ℕ = get_or W (s + 16 * n + 4 * l + 1) 0 in
    let two : ℕ = get_or W (s + 16 * n + 4 * l + 2) 0 in
    let is : r ≡ chosen_word cap held g (lane n W o old l 0) (lane n W o old l 1) (lane n W o old l 2) =
    e
    ∙ ap (λ (x : ℕ). chosen_word cap (get_or old (x + l) 0) g (get_or W (s + 16 * n + 4 * l) 0) one two) start
    ∙ ap (λ (x : ℕ). chosen_word cap held g (get_or W x 0) one two) zeroth
    ∙ ap (λ (x : ℕ). chosen_word cap held g (lane n W o old l 0) (get_or W x 0) two) first
    ∙ ap (λ (x : ℕ). chosen_word cap held g (lane n W o old l 0) (lane n W o old l 1) (get_or W x 0)) second in
    stored_is n W o old caps l r g small is (λ b h. rw (first, stages) at (each b h))
  where
    at : s ≡ section_at n W o (stages_at W o + 1)
    at = section ∙ ap (section_at n W o) stages

-- ---- the first m words, and zeros behind them

padded : (caps front : List ℕ) (m i : ℕ) → m ≤ length caps → front ≡ take m caps → get_or (front ++ drop m (replicate 256 0)) i 0 ≡ get_or (take m caps) i 0
padded caps front m i long e = ⊎_elim
    (λ l. get_or-append front _ 0 i (omega (arith, wide)) ∙ ap (λ (x : List ℕ). get_or x i 0) e)
    (λ l.
    get_or-append_right front _ m i 0 wide l
    ∙ get_or-drop m (replicate 256 0) (i - m) 0
    ∙ ⊎_elim (λ k. get_or-replicate 256 _ 0 0 k) (λ k. get_or-eq_default (replicate 256 0) 0 {n = m + (i - m)} (omega (arith, length-replicate {A = ℕ} 256 0))) (lt_or_ge (m + (i - m)) 256)
    ∙ sym (get_or-eq_default (take m caps) 0 {n = i} (omega (arith, length-take m caps))))
    (lt_or_ge i m)
  where
    wide : length front ≡ m
    wide = ap length e ∙ length-take-le m caps long

pub stored_padded : (n : ℕ) (W : List ℕ) (o : ℕ) (old caps front : List ℕ) (m l : ℕ) → m ≤ length caps → front ≡ take m caps
    → stored_word n W o old (front ++ drop m (replicate 256 0)) l ≡ stored_word n W o old (take m caps) l
stored_padded n W o old caps front m l long e = stored_ext n W o old _ (take m caps) l (λ i. padded caps front m i long e)
