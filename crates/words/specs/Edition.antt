-- The two editions, named by their numbers of lanes, and the length of a part's script, over the number of lanes n: document 01, "The script of a
-- part", and 10/13 of document 02. A header of n words, 2n words a round, a section for each stage, one for SRAM and duplicates and one for clock
-- enables.
-- Assumes nothing.
use Rattle.std.specs.Prelude.{◌≡◌, Bool, true, false, ◌||◌, ◌⊎◌, ℕ, ◌+◌, ◌*◌, eqb}

-- "256 lanes of 32 bits, 8192 slots, 13 levels"; "128 lanes, 12 levels, 4096 slots"
abbrev pub Known : ℕ → Type 0
Known n = (n ≡ 256) ⊎ (n ≡ 128)

-- whether a number names an edition: where not, it is refusal 29
unfoldable pub known : ℕ → Bool
known x = eqb x 256 || eqb x 128

-- the lanes of the edition that a number names, 0 for a number that names none
unfoldable pub lanes_for : ℕ → ℕ
lanes_for x = elim (known x) [ true ↦ x | false ↦ 0 ]

-- the levels above level 0 of an edition
unfoldable pub levels_for : ℕ → ℕ
levels_for n = elim (eqb n 128) [ true ↦ 12 | false ↦ 13 ]

-- a permutation of 32n halves, then four words for each lane
abbrev pub section_words : ℕ → ℕ
section_words n = 16 * n + 4 * n

abbrev pub part_words : ℕ → ℕ → ℕ → ℕ
part_words n rounds stages = n + 2 * n * rounds + section_words n * stages + 2 * section_words n
