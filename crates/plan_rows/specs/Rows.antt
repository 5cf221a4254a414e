-- The part table in a plan's working room: a row of 16 words a part, from word 65536 on. Where a cell stands, and what is asked for when it is
-- read or written.
-- Assumes nothing.
use Rattle.std.specs.Prelude.{List, ℕ, ◌+◌, ◌*◌, ◌<◌, ◌≤◌, length, get_or}

-- where the row of part p begins: that of the first n parts end there
abbrev pub row_base : ℕ → ℕ
row_base p = 65536 + 16 * p

-- word k of part p's row, and what it holds
abbrev pub cell : ℕ → ℕ → ℕ
cell p k = row_base p + k

abbrev pub cell_at : List ℕ → ℕ → ℕ → ℕ
cell_at room p k = get_or room (cell p k) 0

-- a plan has parts of this number, a row has this word, and the room has it too
pub record CellIn (room : List ℕ) (p k : ℕ) : Type 0 where
  pub part : p < 262144
  pub column : k < 16
  pub inside : cell p k < length room

-- so for that word of the first rows
pub record ColumnIn (room : List ℕ) (parts k : ℕ) : Type 0 where
  pub few : parts ≤ 262144
  pub column : k < 16
  pub inside : row_base parts ≤ length room
