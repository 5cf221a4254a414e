-- Lists in the file of stored plans: host/README.md, "Stored answers". d is the file's bytes.
-- Assumes nothing.
use Rattle.std.specs.Prelude.{◌≡◌, List, [], ◌++◌, ℕ, zero, suc, ◌+◌, ◌*◌, ◌<◌, length, get_or, replicate}
use Rattle.plan_record.specs.Record.{word_at}

-- n runs from word i on, each a count and a word
unfoldable pub runs_from : List ℕ → ℕ → ℕ → List ℕ
runs_from d i zero = []
runs_from d i (suc n) = replicate (word_at d i) (word_at d (i + 1)) ++ runs_from d (i + 2) n

-- "its number of runs, then a count and a word for each run"
unfoldable pub list_at : List ℕ → ℕ → List ℕ
list_at d i = runs_from d (i + 1) (word_at d i)

-- the words are the numbers, each as "low word then high word"
abbrev pub Halves : List ℕ → List ℕ → Type 0
Halves numbers words =
    (2 * length numbers ≡ length words)
    × ((k : ℕ) → k < length numbers → get_or numbers k 0 ≡ get_or words (2 * k) 0 + 4294967296 * get_or words (2 * k + 1) 0)

-- ---- answers, from word i on

-- "q not 0": a refusal's number, part and item
abbrev pub RefusalAt : List ℕ → ℕ → ℕ → ℕ → ℕ → Type 0
RefusalAt d i number part item = (number ≡ word_at d i) × (part ≡ word_at d (i + 1)) × (item ≡ word_at d (i + 2))

-- "sizes: starts, words, state words, SRAM words"
abbrev pub SizesAt : List ℕ → ℕ → ℕ → ℕ → ℕ → ℕ → Type 0
SizesAt d i starts words state sram =
    (starts ≡ word_at d i) × (words ≡ word_at d (i + 1)) × (state ≡ word_at d (i + 2)) × (sram ≡ word_at d (i + 3))

-- the starts and the words, a list each
abbrev pub ListsAt : List ℕ → ℕ → List ℕ → List ℕ → Type 0
ListsAt d i starts words = Halves starts (list_at d i) × (words ≡ list_at d (i + (1 + 2 * word_at d i)))
