-- The words of a table's entry, and what reading a table asks. n is the number of lanes.
-- Assumes nothing.
use Rattle.std.specs.Prelude.{List, ℕ, zero, suc, ◌+◌, ◌*◌, ◌≤◌, length, get_or}
use Rattle.reads_try.specs.TableLanes.{LanesTabled}

-- the word (h is 0) or the mask (h is 1) that a table's word names: a pair's number and one, or 0 where none
unfoldable pub entry_word : List ℕ → ℕ → ℕ → ℕ
entry_word set zero h = 0
entry_word set (suc p) h = get_or set (2 * p + h) 0

-- a room that begins with the table of lanes of pairs of the set
pub record TableReadable (set room : List ℕ) (n : ℕ) : Type 0 where
  pub few : n ≤ 256
  pub in-room : 32 * n ≤ length room
  pub filled : LanesTabled set room n

-- and a result of o words with room for r rounds
pub record Writable (set room : List ℕ) (n r o : ℕ) : Type 0 where
  pub table : TableReadable set room n
  pub rounds : r ≤ 32
  pub fits : 2 * n * r ≤ o
