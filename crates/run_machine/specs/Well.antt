-- What refusal 15 leaves of a part, as facts that the code can ask for: each is one sentence of document 01's "Form for 15".
-- n is the number of lanes, W the words, o the word at which the part begins.
-- Assumes nothing.
use Rattle.std.specs.Prelude.{◌≡◌, List, ℕ, ◌+◌, ◌*◌, ◌%◌, ◌^◌, ◌<◌, ◌≤◌, length}
use Rattle.words.specs.Sum.{sum_to}
use Rattle.words.specs.Bit.{pop}
use Rattle.words.specs.Section.{half_at}
use Rattle.words.specs.Edition.{Known, part_words}
use Rattle.run_machine.specs.Part.{stages_at, last_at, write_outs_at, start_at, srams_at, rounds_at, duplicates_at, normal_at, end_at, location_in, read_word_at, read_mask_at, entry_at}

-- the lanes of an edition, and between which numbers they are
pub record Lanes (n : ℕ) : Type 0 where
  pub edition : Known n
  pub least : 128 ≤ n
  pub most : n ≤ 256

-- the part's words lie inside W
pub record PartIn (n : ℕ) (W : List ℕ) (o : ℕ) : Type 0 where
  pub lanes : Lanes n
  pub inside : o + part_words n (rounds_at W o) (stages_at W o) ≤ length W

-- "normal words (word 2 less words 4 and 7) 0..=256"
pub record NormalRange (n : ℕ) (W : List ℕ) (o : ℕ) : Type 0 where
  pub exact : srams_at W o + duplicates_at W o ≤ write_outs_at W o
  pub few : normal_at W o ≤ n

-- the same; "locations of an existing stage"
pub record Captures (n : ℕ) (W : List ℕ) (o : ℕ) : Type 0 where
  pub exact : srams_at W o + duplicates_at W o ≤ write_outs_at W o
  pub few : normal_at W o ≤ n
  pub places : (l : ℕ) → l < normal_at W o → location_in n W o l % 256 < n

-- "lane bits at most 32"; "words read (mask not 0) .. inside both lent states", which have s and t words
pub record Reads (n : ℕ) (W : List ℕ) (o s t : ℕ) : Type 0 where
  pub lanes : (i : ℕ) → i < n → sum_to (λ r. pop (read_mask_at n W o r i)) (rounds_at W o) ≤ 32
  pub words : (r i : ℕ) → r < rounds_at W o → i < n → 0 < read_mask_at n W o r i → (read_word_at n W o r i % 2 ^ 31 < s) × (read_word_at n W o r i % 2 ^ 31 < t)

-- "every entry below 8192": of a section alone, and of all sections of a part
abbrev pub Entries : ℕ → List ℕ → Type 0
Entries n p = (i : ℕ) → i < 32 * n → half_at n p i < 32 * n

abbrev pub EntriesIn : ℕ → List ℕ → ℕ → Type 0
EntriesIn n W o = (k i : ℕ) → k < stages_at W o + 2 → i < 32 * n → entry_at n W o k i < 32 * n

-- all that a turn asks of the part at o, where the states have s and t words
pub record PartWell (n : ℕ) (W : List ℕ) (s t o : ℕ) : Type 0 where
  pub part : PartIn n W o
  pub reads : Reads n W o s t
  pub entries : EntriesIn n W o
  pub captures : Captures n W o
  pub stores : 0 < normal_at W o → (start_at W o + normal_at W o ≤ s) × (start_at W o + normal_at W o ≤ t)
  pub next : (last_at W o ≡ 1 → ⊥) → end_at n W o < length W
