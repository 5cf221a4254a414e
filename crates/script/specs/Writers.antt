-- What the writers of a part's script ask and answer, where a definition of Script.antt is not said word for word.
-- Assumes nothing.
use Rattle.std.specs.Prelude.{◌≡◌, true, false, List, [], ◌∷◌, ℕ, ◌+◌, ◌*◌, ◌-◌, ◌^◌, ◌≤◌, ◌<◌, leb, length, get_or, take, drop, replicate}
use Rattle.std.proofs.Math.Option.{none}
use Rattle.words.specs.Edition.{part_words}
use Rattle.words.specs.Section.{list_of}
use Rattle.reads.specs.Search.{longest}
use Rattle.reads.specs.ReadSection.{read_section}
use Rattle.plan_record.specs.declared.bodies.Body.{Body}
use Rattle.plan_record.specs.Record.{plan_lanes, slots_of, stages_of, locations_of, location_at, table_at}
use Rattle.plan_record.specs.Body.{BodyOf}
use Rattle.plan_gates.specs.Gates.{bad_gate}
use Rattle.plan_counts.specs.Counts.{srams, duplicates, write_outs}
use Rattle.plan_reads.specs.PartReads.{part_lanes}
use Rattle.script.specs.declared.head.Numbers.{Numbers}
use Rattle.script.specs.declared.masks.Masks.{Masks}
use Rattle.script.specs.Script.{xora_bit, xorb_bit, orb_bit, mask_word, stage_entry, stage_section}

-- b is the body of part p, and the plan passed refusals 6, 7 and 13
pub record AcceptedPart (d : List ℕ) (p : ℕ) (b : Body) : Type 0 where
  pub body : BodyOf d p b
  pub gates : bad_gate d ≡ none
  pub locations : (l : ℕ) → l < locations_of d p → location_at d p l < plan_lanes d
  pub sram : (i : ℕ) → i < slots_of d → table_at d p i < slots_of d
  pub enable : (i : ℕ) → i < slots_of d → table_at d p (34 * plan_lanes d + i) < slots_of d

-- the eight numbers and the zeros behind them: w words
unfoldable pub number_words : ℕ → Numbers → List ℕ
number_words w x =
    x.stages ∷ x.last ∷ x.writeouts ∷ x.state ∷ x.srams ∷ x.sram ∷ x.rounds ∷ x.duplicates ∷ replicate (w - 8) 0

-- 1 where a stage that ends at location e ends at or before location l
abbrev pub ends_by : ℕ → ℕ → ℕ
ends_by e l = elim (leb e l) [ true ↦ 1 | false ↦ 0 ]

-- the words of a list by their index
abbrev pub words_in : List ℕ → ℕ → ℕ
words_in l i = get_or l i 0

-- the entries of n lanes of a section, and its room
pub record SectionRoom (n : ℕ) (entries out : List ℕ) : Type 0 where
  pub lanes : n ≤ 256
  pub many : length entries ≡ 32 * n
  pub small : (i : ℕ) → i < 32 * n → get_or entries i 0 < 2 ^ 16
  pub room : length out ≡ 20 * n

-- what is answered for lane w of n holds its four words, the last of them 0
abbrev pub FourOf : (ℕ → ℕ) → (ℕ → ℕ) → (ℕ → ℕ) → ℕ → List ℕ → Type 0
FourOf a b c w x = x ≡ a w ∷ b w ∷ c w ∷ 0 ∷ []

-- the three mask bits of a position
pub record MaskBits (d : List ℕ) (p s q : ℕ) (m : Masks) : Type 0 where
  pub xora : m.xora ≡ xora_bit d p s q
  pub xorb : m.xorb ≡ xorb_bit d p s q
  pub orb : m.orb ≡ orb_bit d p s q

-- the three mask words of lane w, and 0
abbrev pub LaneMasks : List ℕ → (p s w : ℕ) → List ℕ → Type 0
LaneMasks d p s w x = FourOf (mask_word (xora_bit d p s)) (mask_word (xorb_bit d p s)) (mask_word (orb_bit d p s)) w x

-- the entries of stage s, each a position
pub record EntriesOf (d : List ℕ) (p s : ℕ) (entries : List ℕ) : Type 0 where
  pub is : entries ≡ list_of (stage_entry (plan_lanes d) d p s) (slots_of d)
  pub small : (i : ℕ) → i < slots_of d → stage_entry (plan_lanes d) d p s i < slots_of d

-- room for the sections of all stages, of which the first is there already
pub record StagesRoom (d : List ℕ) (p : ℕ) (b : Body) (table out : List ℕ) : Type 0 where
  pub some : 1 ≤ b.stages
  pub wide : 32768 ≤ length table
  pub room : length out ≡ 20 * (plan_lanes d * b.stages)
  pub first : take (20 * plan_lanes d) out ≡ stage_section (plan_lanes d) d p 0

-- the numbers that the plan fixes; the last mark and the two starts come from the blocks
pub record NumbersOf (d : List ℕ) (p : ℕ) (x : Numbers) : Type 0 where
  pub stages : x.stages ≡ stages_of d p
  pub writeouts : x.writeouts ≡ write_outs d p
  pub srams : x.srams ≡ srams d p
  pub rounds : x.rounds ≡ longest (part_lanes (plan_lanes d) d p)
  pub duplicates : x.duplicates ≡ duplicates d p

-- room for a part's script, of which the read section and the section of the first stage are there already
pub record ScriptRoom (d : List ℕ) (p : ℕ) (b : Body) (x : Numbers) (table out : List ℕ) : Type 0 where
  pub numbers : NumbersOf d p x
  pub rounds : x.rounds ≤ 32
  pub some : 1 ≤ b.stages
  pub wide : 32768 ≤ length table
  pub room : length out ≡ part_words (plan_lanes d) x.rounds b.stages
  pub reads : take (2 * (plan_lanes d * x.rounds)) (drop (plan_lanes d) out) ≡ read_section (part_lanes (plan_lanes d) d p)
  pub first : take (20 * plan_lanes d) (drop (plan_lanes d + 2 * (plan_lanes d * x.rounds)) out) ≡ stage_section (plan_lanes d) d p 0
