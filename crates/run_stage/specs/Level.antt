-- The levels of a stage, in whole words and in bits. The list l has 2n words: words n .. 2n - 1 hold the gathered bits, words 0 .. n - 1 the positions;
-- position q of the level of m slots (m ≤ q < 2m) is a gate of the positions q + m and q + 2m. t has the four words of each lane.
-- Assumes nothing.
use Rattle.std.specs.Prelude.{◌≡◌, List, ℕ, ◌+◌, ◌*◌, ◌/◌, ◌%◌, ◌^◌, ◌≤◌, ◌<◌, length, get_or}
use Rattle.std.specs.Int.Bits.{bit_and, bit_or, bit_xor}
use Rattle.words.specs.Bit.{bit, bit_at}
use Rattle.run_machine.specs.Turn.{gate}
use Rattle.run_stage.specs.StoreLoop.{Filled}

-- the gate on words
unfoldable pub gate_word : (a b xa xb ob : ℕ) → ℕ
gate_word a b xa xb ob = bit_and (bit_xor a xa) (bit_or (bit_xor b xb) ob)

-- word w of the level of m words
abbrev pub level_word : List ℕ → List ℕ → ℕ → ℕ → ℕ
level_word t l m w = gate_word (get_or l (w + m) 0) (get_or l (w + 2 * m) 0) (get_or t (4 * w) 0) (get_or t (4 * w + 1) 0) (get_or t (4 * w + 2) 0)

-- the gate at position q
unfoldable pub lane_gate : List ℕ → ℕ → ℕ → ℕ → ℕ
lane_gate t q a b = gate a b (bit (get_or t (4 * (q / 32)) 0) (q % 32)) (bit (get_or t (4 * (q / 32) + 1) 0) (q % 32)) (bit (get_or t (4 * (q / 32) + 2) 0) (q % 32))

-- one level in words, of which words m .. b - 1 are done
abbrev pub LevelIn : List ℕ → List ℕ → List ℕ → ℕ → ℕ → Type 0
LevelIn t l₀ l m b = Filled (λ w x. x ≡ level_word t l₀ m w) m b l₀ l

-- the level of m words is right in l, and so is the level of m slots
abbrev pub WordLevel : List ℕ → List ℕ → ℕ → Type 0
WordLevel t l m = (w : ℕ) → m ≤ w → w < 2 * m → get_or l w 0 ≡ level_word t l m w

abbrev pub BitLevel : List ℕ → List ℕ → ℕ → Type 0
BitLevel t l m = (q : ℕ) → m ≤ q → q < 2 * m → bit_at l q ≡ lane_gate t q (bit_at l (q + m)) (bit_at l (q + 2 * m))

-- ---- the levels inside words 0 and 1, taken as one number of 64 bits

-- y is x with the level of m slots filled in
pub record Stepped (x y m xa xb ob : ℕ) : Type 0 where
  pub none : (p : ℕ) → p < m → bit y p ≡ 0
  pub new : (p : ℕ) → m ≤ p → p < 2 * m → bit y p ≡ gate (bit x (p + m)) (bit x (p + 2 * m)) (bit xa p) (bit xb p) (bit ob p)
  pub keep : (p : ℕ) → 2 * m ≤ p → bit y p ≡ bit x p

-- the levels of 2 ^ s slots and more are right in x, and what lies below is 0
pub record Low (x s xa xb ob : ℕ) : Type 0 where
  pub zeros : (p : ℕ) → p < 2 ^ s → bit x p ≡ 0
  pub levels : (e : ℕ) → s ≤ e → e < 5 → (p : ℕ) → 2 ^ e ≤ p → p < 2 * 2 ^ e
      → bit x p ≡ gate (bit x (p + 2 ^ e)) (bit x (p + 2 * 2 ^ e)) (bit xa p) (bit xb p) (bit ob p)

-- ---- all levels of 2 ^ k lanes: the gathered words are those of l₀, and every word is a word
pub record Staged (t l₀ l : List ℕ) (k : ℕ) : Type 0 where
  pub long : length l ≡ length l₀
  pub over : (i : ℕ) → 2 ^ k ≤ i → get_or l i 0 ≡ get_or l₀ i 0
  pub zeroth : bit_at l 0 ≡ 0
  pub levels : (s : ℕ) → s < k + 5 → BitLevel t l (2 ^ s)
