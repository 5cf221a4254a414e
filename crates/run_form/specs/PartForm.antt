-- Parts of the form for 15 that the code tests by themselves: one word of a permutation, one pair of a read round, a part's numbers, and what follows from them.
-- Assumes nothing.
use Rattle.std.specs.Prelude.{Bool, true, false, ◌&&◌, ◌||◌, List, ℕ, ◌+◌, ◌/◌, ◌%◌, ◌^◌, leb, ltb, eqb}
use Rattle.run_machine.specs.Part.{stages_at, last_at, end_at}
use Rattle.run_machine.specs.Run.{entries_form, locations_form, lanes_form, reads_form, stores_form}

-- "every entry below 8192": the two of a word of a permutation, where there are so many positions
abbrev pub halves_form : (slots x : ℕ) → Bool
halves_form slots x = ltb (x % 2 ^ 16) slots && ltb (x / 2 ^ 16) slots

-- "words read (mask not 0) .. inside both lent states", which have s and t words
abbrev pub read_form : (word mask s t : ℕ) → Bool
read_form word mask s t = eqb mask 0 || (ltb (word % 2 ^ 31) s && ltb (word % 2 ^ 31) t)

-- "parts of 1..=255 stages end to end, word 1 one on the last, else zero"
unfoldable pub part_numbers_form : ℕ → List ℕ → ℕ → ℕ → Bool
part_numbers_form n W e o =
    leb (o + n) e && leb 1 (stages_at W o) && leb (stages_at W o) 255 && leb (end_at n W o) e
    && eqb (last_at W o) (elim (eqb (end_at n W o) e) [ true ↦ 1 | false ↦ 0 ])

unfoldable pub body_form : ℕ → List ℕ → ℕ → ℕ → ℕ → Bool
body_form n W s t o = stores_form n W s t o && locations_form n W o && lanes_form n W o && reads_form n W s t o && entries_form n W o
