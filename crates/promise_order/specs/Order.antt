-- The blocks of one major stage over the words: which parts a block has, what a part captures, its turns one after another, and what keeps the
-- blocks apart. n is the number of lanes and 2^H the number of positions, W the words.
-- Assumes nothing.
use Rattle.std.specs.Prelude.{◌≡◌, Bool, true, false, ◌&&◌, List, [], ◌∷◌, ◌++◌, ℕ, zero, suc, ◌+◌, ◌-◌, ◌^◌, ◌≤◌, ◌<◌, leb, ltb, eqb, length, get_or, replicate}
use Rattle.run_machine.specs.Part.{stages_at, last_at, start_at, rounds_at, normal_at, end_at, read_word_at, read_mask_at}
use Rattle.run_machine.specs.Turn.{begins, read_row, stage_row, captured, stored_word}
use Rattle.run_machine.specs.Run.{turns_left}

-- the words at which the parts begin, from word o on, f parts at most
unfoldable pub parts_from : ℕ → List ℕ → ℕ → ℕ → List ℕ
parts_from n W zero o = []
parts_from n W (suc f) o = o ∷ elim (eqb (last_at W o) 1) [ true ↦ [] | false ↦ parts_from n W f (end_at n W o) ]

-- those of the block that begins at word o: the empty block has none
unfoldable pub parts_at : ℕ → List ℕ → ℕ → List ℕ
parts_at n W o = elim (eqb (stages_at W o) 0) [ true ↦ [] | false ↦ parts_from n W (length W) o ]

-- the positions and the captured words of the part at word o after its first k stages, `row` being what its read turn left
unfoldable pub row_after : ℕ → ℕ → List ℕ → ℕ → List ℕ → ℕ → List ℕ
row_after n H W o row zero = row
row_after n H W o row (suc k) = stage_row n H W o k (row_after n H W o row k)

unfoldable pub caps_after : ℕ → ℕ → List ℕ → ℕ → List ℕ → ℕ → List ℕ
caps_after n H W o row zero = replicate (normal_at W o) 0
caps_after n H W o row (suc k) = captured n W o k (row_after n H W o row (suc k)) (caps_after n H W o row k)

-- what the part at word o captures, between the two states
abbrev pub captured_by : ℕ → ℕ → List ℕ → ℕ → List ℕ → List ℕ → List ℕ
captured_by n H W o old new = caps_after n H W o (read_row n W o old new) (stages_at W o)

-- ---- "running the blocks one after another": all turns of block 0, then all of block 1, .. for the first m blocks

abbrev pub block_turns : ℕ → List ℕ → ℕ → ℕ
block_turns n W o = turns_left n W (begins W o).phase (begins W o)

unfoldable pub one_after_another : ℕ → List ℕ → List ℕ → ℕ → List ℕ
one_after_another n W starts zero = []
one_after_another n W starts (suc b) = one_after_another n W starts b ++ replicate (block_turns n W (get_or starts b 0)) b

-- ---- the words that a part stores, and what a finished part leaves in them

-- the part at word o stores word w. What stands above goes by `stores_at` and `store_word` alone, so that a part may store in two places
unfoldable pub stores_at : List ℕ → ℕ → ℕ → Bool
stores_at W o w = leb (start_at W o) w && ltb w (start_at W o + normal_at W o)

abbrev pub Stores : List ℕ → ℕ → ℕ → Type 0
Stores W o w = stores_at W o w ≡ true

-- what it puts there, having captured `caps` and with `old` as the old state
unfoldable pub store_word : ℕ → List ℕ → ℕ → List ℕ → List ℕ → ℕ → ℕ
store_word n W o old caps w = stored_word n W o old caps (w - start_at W o)

-- ---- what keeps the blocks apart: m blocks

-- the part that is i-th in block b begins at word o
pub record PartAt (n : ℕ) (W starts : List ℕ) (m b i o : ℕ) : Type 0 where
  pub block : b < m
  pub inside : i < length (parts_at n W (get_or starts b 0))
  pub at : o ≡ get_or (parts_at n W (get_or starts b 0)) i 0

-- no part stores word w
abbrev pub Unstored : ℕ → List ℕ → List ℕ → ℕ → ℕ → Type 0
Unstored n W starts m w = (b i o : ℕ) → PartAt n W starts m b i o → Stores W o w → ⊥

-- what parts read of the new state are words that no part stores, and each stored word is one part's
pub record Apart (n : ℕ) (W starts : List ℕ) (m : ℕ) : Type 0 where
  pub reads : (b i o : ℕ) → PartAt n W starts m b i o → (r l : ℕ) → r < rounds_at W o → l < n → 0 < read_mask_at n W o r l → 2 ^ 31 ≤ read_word_at n W o r l
      → Unstored n W starts m (read_word_at n W o r l - 2 ^ 31)
  pub apart : (b i o c j e w : ℕ) → PartAt n W starts m b i o → PartAt n W starts m c j e → Stores W o w → Stores W e w → (b ≡ c) × (i ≡ j)
