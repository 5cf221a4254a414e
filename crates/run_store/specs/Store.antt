-- The store turn on whole words.
-- Assumes nothing.
use Rattle.std.specs.Prelude.{ℕ}
use Rattle.std.specs.Int.Bits.{bit_and, bit_xor}

-- 5/13 on words: held where the enable bit is 0
unfoldable pub chosen_word : (cap held gathered inv set0 data-inv : ℕ) → ℕ
chosen_word cap held gathered inv set0 data-inv =
    bit_xor held (bit_and (bit_xor (bit_xor cap data-inv) held) (bit_xor (bit_xor gathered (bit_and gathered set0)) inv))
