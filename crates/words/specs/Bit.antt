-- Bits of words, and of lists of 32-bit words: position p is bit p % 32 of word p / 32.
-- Assumes nothing.
use Rattle.std.specs.Prelude.{List, ℕ, zero, suc, ◌+◌, ◌*◌, ◌/◌, ◌%◌, ◌^◌, get_or, set}
use Rattle.std.specs.Int.Bits.{bit_or}

-- bit k of w: 0 or 1
unfoldable pub bit : ℕ → ℕ → ℕ
bit w k = w / 2 ^ k % 2

-- the bit at position p of a list of words
unfoldable pub bit_at : List ℕ → ℕ → ℕ
bit_at l p = bit (get_or l (p / 32) 0) (p % 32)

-- the word whose bit k is f k, for each k below n
unfoldable pub word_of : (ℕ → ℕ) → ℕ → ℕ
word_of f zero = 0
word_of f (suc n) = f n * 2 ^ n + word_of f n

-- how many of the d lowest bits of w are set
unfoldable pub pop_in : ℕ → ℕ → ℕ
pop_in zero w = 0
pop_in (suc d) w = w % 2 + pop_in d (w / 2)

-- how many bits of a 32-bit word are set
abbrev pub pop : ℕ → ℕ
pop w = pop_in 32 w

-- a word with its bit k set, and a list with the bit at position p set
unfoldable pub with_bit : ℕ → ℕ → ℕ
with_bit w k = bit_or w (2 ^ k)

unfoldable pub set_bit : List ℕ → ℕ → List ℕ
set_bit l p = set l (p / 32) (with_bit (get_or l (p / 32) 0) (p % 32))
