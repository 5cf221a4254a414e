-- What the words of a part mean to the run: document 01, "The script of a part", read back. n is the number of lanes, W the script's words, o the
-- word at which the part begins.
-- Assumes nothing.
use Rattle.std.specs.Prelude.{List, ℕ, ◌+◌, ◌*◌, ◌-◌, ◌/◌, ◌%◌, get_or}
use Rattle.words.specs.Section.{word_of_entry, half_of}
use Rattle.words.specs.Edition.{part_words, section_words}

abbrev pub stages_at : List ℕ → ℕ → ℕ
stages_at W o = get_or W o 0

abbrev pub last_at : List ℕ → ℕ → ℕ
last_at W o = get_or W (o + 1) 0

abbrev pub write_outs_at : List ℕ → ℕ → ℕ
write_outs_at W o = get_or W (o + 2) 0

abbrev pub start_at : List ℕ → ℕ → ℕ
start_at W o = get_or W (o + 3) 0

abbrev pub srams_at : List ℕ → ℕ → ℕ
srams_at W o = get_or W (o + 4) 0

abbrev pub rounds_at : List ℕ → ℕ → ℕ
rounds_at W o = get_or W (o + 6) 0

abbrev pub duplicates_at : List ℕ → ℕ → ℕ
duplicates_at W o = get_or W (o + 7) 0

-- "normal words (word 2 less words 4 and 7)"
unfoldable pub normal_at : List ℕ → ℕ → ℕ
normal_at W o = write_outs_at W o - (srams_at W o + duplicates_at W o)

-- where the part ends
unfoldable pub end_at : ℕ → List ℕ → ℕ → ℕ
end_at n W o = o + part_words n (rounds_at W o) (stages_at W o)

-- location l: stage·256 + w, two to a word, after the first half of the header
unfoldable pub location_in : ℕ → List ℕ → ℕ → ℕ → ℕ
location_in n W o l = half_of (get_or W (o + n / 2 + l / 2) 0) (l % 2)

-- word and mask of lane i in round r
unfoldable pub read_word_at : ℕ → List ℕ → ℕ → ℕ → ℕ → ℕ
read_word_at n W o r i = get_or W (o + n + 2 * n * r + 2 * i) 0

unfoldable pub read_mask_at : ℕ → List ℕ → ℕ → ℕ → ℕ → ℕ
read_mask_at n W o r i = get_or W (o + n + 2 * n * r + 2 * i + 1) 0

-- section k: that of stage k, then SRAM and duplicates, then clock enables
unfoldable pub section_at : ℕ → List ℕ → ℕ → ℕ → ℕ
section_at n W o k = o + n + 2 * n * rounds_at W o + section_words n * k

-- entry i of section k, and word h of its lane w
unfoldable pub entry_at : ℕ → List ℕ → ℕ → ℕ → ℕ → ℕ
entry_at n W o k i = half_of (get_or W (section_at n W o k + word_of_entry n i) 0) (i % 2)

unfoldable pub lane_word_at : ℕ → List ℕ → ℕ → ℕ → ℕ → ℕ → ℕ
lane_word_at n W o k w h = get_or W (section_at n W o k + 16 * n + 4 * w + h) 0
