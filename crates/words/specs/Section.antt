-- A section's permutation: 32n entries, two to a word, over the number of lanes n. Document 01, "The script of a part":
-- entry 32t+8k+2h+e in word 4n·k+4t+h, low half for e = 0. (4n is 1024 at 256 lanes.)
-- Assumes nothing.
use Rattle.std.specs.Prelude.{List, [], ◌∷◌, ◌++◌, ℕ, zero, suc, ◌+◌, ◌*◌, ◌/◌, ◌%◌, ◌^◌, get_or}

-- the word of entry i: t is i / 32, k is i / 8 % 4, h is i % 8 / 2; its half is e, which is i % 2
unfoldable pub word_of_entry : ℕ → ℕ → ℕ
word_of_entry n i = i / 8 % 4 * (4 * n) + (i / 32 * 4 + i % 8 / 2)

-- the entry in half e of word w
unfoldable pub entry_of : ℕ → ℕ → ℕ → ℕ
entry_of n w e = w % (4 * n) / 4 * 32 + w / (4 * n) * 8 + w % (4 * n) % 4 * 2 + e

-- a half of a word: 0 is the low half
unfoldable pub half_of : ℕ → ℕ → ℕ
half_of x zero = x % 2 ^ 16
half_of x (suc e) = x / 2 ^ 16

-- entry i of a section
unfoldable pub half_at : ℕ → List ℕ → ℕ → ℕ
half_at n s i = half_of (get_or s (word_of_entry n i) 0) (i % 2)

-- the list f 0, f 1, .. of m numbers
unfoldable pub list_of : (ℕ → ℕ) → ℕ → List ℕ
list_of f zero = []
list_of f (suc m) = list_of f m ++ (f m ∷ [])

-- a whole section, 16n words: entry i is f i
unfoldable pub section_of : ℕ → (ℕ → ℕ) → List ℕ
section_of n f = list_of (λ w. f (entry_of n w 1) * 2 ^ 16 + f (entry_of n w 0)) (16 * n)
