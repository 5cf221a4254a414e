-- The columns of the part table: what each word of a part's row is for. Other crates say these names and no numbers.
-- Assumes nothing.
use Rattle.std.specs.Prelude.{ℕ}

-- ---- what the record says of the part

-- where its body begins: the low 32 bits, and the others
abbrev pub body_low : ℕ
body_low = 0

abbrev pub body_high : ℕ
body_high = 1

-- how many locations, SRAMs, duplicate words and write-out words it has
abbrev pub locations : ℕ
locations = 2

abbrev pub srams : ℕ
srams = 3

abbrev pub duplicates : ℕ
duplicates = 4

abbrev pub write_outs : ℕ
write_outs = 5

-- ---- what the blocks give it

abbrev pub block : ℕ
block = 6

abbrev pub state_start : ℕ
state_start = 7

abbrev pub sram_start : ℕ
sram_start = 8

-- of row k: the part that is k-th in the order of the state
abbrev pub ranked : ℕ
ranked = 9

-- ---- what the search for its reads gives

abbrev pub rounds : ℕ
rounds = 10

abbrev pub piece_size : ℕ
piece_size = 11
