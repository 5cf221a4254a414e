-- M6 and M9: locations, and the place of an entry, with what the definitions of `script` and `words` give for them. (M10 is a crate of its own, `marked_plan`.)
-- Assumes nothing.
use Rattle.std.specs.Prelude.{List, [], ◌∷◌, ℕ, zero, suc, ◌+◌, ◌%◌, take}
use Rattle.words.specs.Section.{word_of_entry, entry_of}
use Rattle.script.specs.Script.{stage_in, half_in, half_words}

-- M6: two locations in stage 0 and one in stage 1; the first two words
unfoldable pub marked_locations : ℕ → ℕ
marked_locations zero = 2
marked_locations (suc s) = 1

unfoldable pub locations_seen : List ℕ
locations_seen = take 2 (half_words (half_in (stage_in marked_locations 2) (λ l. l + 1) 3) 256)

-- M9: the word of entry 33 and its half, and the entry in the high half of that word
unfoldable pub entry_seen : List ℕ
entry_seen = word_of_entry 256 33 ∷ 33 % 2 ∷ entry_of 256 4 1 ∷ []
