-- Gathering: bit i of the gathered words is the bit at entry i of the permutation p. A list l has the positions in words 0 .. n - 1 and takes the
-- gathered bits into words n .. 2n - 1.
-- Assumes nothing.
use Rattle.std.specs.Prelude.{◌≡◌, List, ℕ, ◌+◌, ◌*◌, ◌-◌, ◌^◌, ◌<◌}
use Rattle.words.specs.Bit.{bit, bit_at, word_of}
use Rattle.words.specs.Section.{half_at, list_of}
use Rattle.run_machine.specs.Part.{entry_at}
use Rattle.run_stage.specs.StoreLoop.{Filled}

-- 2h bits of word j are gathered in x
pub record GatherBits (n : ℕ) (p l : List ℕ) (j h x : ℕ) : Type 0 where
  pub small : x < 2 ^ (2 * h)
  pub each : (q : ℕ) → q < 2 * h → bit x q ≡ bit_at l (half_at n p (32 * j + q))

-- j words are gathered
abbrev pub Gathered : (n : ℕ) (p l₀ l : List ℕ) (j : ℕ) → Type 0
Gathered n p l₀ l j = Filled (λ w x. GatherBits n p l₀ (w - n) 16 x) n (n + j) l₀ l

-- the gathered words of section k
unfoldable pub gathered_row : ℕ → List ℕ → ℕ → ℕ → List ℕ → List ℕ
gathered_row n W o k row = list_of (λ w. word_of (λ b. bit_at row (entry_at n W o k (32 * w + b))) 32) n
