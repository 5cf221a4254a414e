-- The words of a part's script by section, over the number of lanes n, which is even and at least 16.
-- Assumes nothing.
use mathlib.Core.Path.{◌≡◌, ap, ◌∙◌}
use mathlib.Core.List.{List, ◌++◌}
use mathlib.Core.Logic.{⊎_elim}
use Prim.Native.Nat.{ℕ, zero, suc, ◌+◌, ◌*◌, ◌/◌, ◌%◌, ◌≤◌, ◌<◌}
use native.Mathlib.Nat.{mul-suc, mul-le-mul_left, not-suc-le-zero, eq-or-lt_of_le, le_of_suc-le-suc}
use native.Mathlib.Omega.{arith}
use lib.ListN.{get_or}
use Rattle.words.specs.Edition.{section_words}
use Rattle.reads.specs.Search.{longest}
use Rattle.reads.specs.ReadSection.{read_section}
use Rattle.plan_record.specs.Record.{stages_of}
use Rattle.plan_reads.specs.PartReads.{part_lanes}
use Rattle.script.specs.Script.{numbers, location_words, stage_section, stage_sections, sram_section, enable_section, part_script}
use Rattle.script.proofs.PartLengthLaws.{numbers_length, locations_length, reads_length, stages_length, sram_length}
use Rattle.promise_decode.proofs.LaneListLaws.{in_front_lem, behind}

-- place j of section k is before the end of the m-th
pub within : (x k m j : ℕ) → k < m → j < x → x * k + j < x * m
within x k m j h l = omega (arith, mul-le-mul_left x h, mul-suc x k)

-- the sections of the stages
stage_at : (n : ℕ) (d : List ℕ) (p m k j : ℕ) → k < m → j < section_words n
    → get_or (stage_sections n d p m) (section_words n * k + j) 0 ≡ get_or (stage_section n d p k) j 0
unfolding stage_sections
stage_at n d p zero k j h l = absurd (not-suc-le-zero h)
stage_at n d p (suc m) k j h l = ⊎_elim
    (λ e. rw e (behind (stage_sections n d p m) (stage_section n d p m) (section_words n * m) j (stages_length n d p m)))
    (λ s.
    in_front_lem (stage_sections n d p m) (stage_section n d p m) (section_words n * m) (section_words n * k + j) (stages_length n d p m) (within (section_words n) k m j s l)
    ∙ stage_at n d p m k j s l)
    (eq-or-lt_of_le (le_of_suc-le-suc h))

module _ (n : ℕ) (d : List ℕ) (p last state sram : ℕ) (many : 16 ≤ n) (even : n % 2 ≡ 0) where
  abbrev script : List ℕ
  script = part_script n d p last state sram

  -- what stands behind each section
  abbrev tables : List ℕ
  tables = sram_section n d p ++ enable_section n d p

  abbrev sections : List ℕ
  sections = stage_sections n d p (stages_of d p) ++ tables

  abbrev reads : List ℕ
  reads = read_section (part_lanes n d p) ++ sections

  -- how many words the rounds have, and the stages
  abbrev roundsWords : ℕ
  roundsWords = 2 * n * longest (part_lanes n d p)

  abbrev stagesWords : ℕ
  stagesWords = section_words n * stages_of d p

  pub at_number : (j : ℕ) → j < n / 2 → get_or script j 0 ≡ get_or (numbers n d p last state sram) j 0
  unfolding part_script
  at_number j h = in_front_lem (numbers n d p last state sram) (location_words n d p ++ reads) (n / 2) j (numbers_length n d p last state sram many) h

  past-numbers : (j : ℕ) → get_or script (n / 2 + j) 0 ≡ get_or (location_words n d p ++ reads) j 0
  unfolding part_script
  past-numbers j = behind (numbers n d p last state sram) (location_words n d p ++ reads) (n / 2) j (numbers_length n d p last state sram many)

  pub at_location : (j : ℕ) → j < n / 2 → get_or script (n / 2 + j) 0 ≡ get_or (location_words n d p) j 0
  at_location j h = past-numbers j ∙ in_front_lem (location_words n d p) reads (n / 2) j (locations_length n d p) h

  past_head : (j : ℕ) → get_or script (n + j) 0 ≡ get_or reads j 0
  past_head j =
      let e : n + j ≡ n / 2 + (n / 2 + j) = omega arith in
      ap (λ (x : ℕ). get_or script x 0) e ∙ past-numbers (n / 2 + j) ∙ behind (location_words n d p) reads (n / 2) j (locations_length n d p)

  pub at_read : (j : ℕ) → j < roundsWords → get_or script (n + j) 0 ≡ get_or (read_section (part_lanes n d p)) j 0
  at_read j h = past_head j ∙ in_front_lem (read_section (part_lanes n d p)) sections roundsWords j (reads_length n d p (omega arith)) h

  past-reads : (j : ℕ) → get_or script (n + (roundsWords + j)) 0 ≡ get_or sections j 0
  past-reads j = past_head (roundsWords + j) ∙ behind (read_section (part_lanes n d p)) sections roundsWords j (reads_length n d p (omega arith))

  pub at_stage : (k j : ℕ) → k < stages_of d p → j < section_words n → get_or script (n + (roundsWords + (section_words n * k + j))) 0 ≡ get_or (stage_section n d p k) j 0
  at_stage k j h l =
      past-reads (section_words n * k + j)
      ∙ in_front_lem (stage_sections n d p (stages_of d p)) tables stagesWords (section_words n * k + j) (stages_length n d p (stages_of d p)) (within (section_words n) k (stages_of d p) j h l)
      ∙ stage_at n d p (stages_of d p) k j h l

  past-stages : (j : ℕ) → get_or script (n + (roundsWords + (stagesWords + j))) 0 ≡ get_or tables j 0
  past-stages j = past-reads (stagesWords + j) ∙ behind (stage_sections n d p (stages_of d p)) tables stagesWords j (stages_length n d p (stages_of d p))

  pub at_sram : (j : ℕ) → j < section_words n → get_or script (n + (roundsWords + (stagesWords + j))) 0 ≡ get_or (sram_section n d p) j 0
  at_sram j h = past-stages j ∙ in_front_lem (sram_section n d p) (enable_section n d p) (section_words n) j (sram_length n d p) h

  pub at_enable : (j : ℕ) → get_or script (n + (roundsWords + (stagesWords + (section_words n + j)))) 0 ≡ get_or (enable_section n d p) j 0
  at_enable j = past-stages (section_words n + j) ∙ behind (sram_section n d p) (enable_section n d p) (section_words n) j (sram_length n d p)
