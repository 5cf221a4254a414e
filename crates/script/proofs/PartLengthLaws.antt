-- How long each section of a part's script is, and the whole: over the number of lanes n, which is even and at least 16, as that of a plan is.
-- Assumes nothing.
use mathlib.Core.Path.{◌≡◌, refl}
use mathlib.Core.List.{List, [], ◌++◌}
use mathlib.Core.Logic.{◌⊎◌, inl, inr, ⊎_elim}
use Prim.Native.Nat.{ℕ, zero, suc, ◌*◌, ◌-◌, ◌/◌, ◌%◌, ◌≤◌, ◌<◌}
use native.Mathlib.Nat.{mul-suc}
use native.Mathlib.Omega.{arith}
use lib.ListN.{length, length-append, length-replicate}
use Rattle.words.specs.Edition.{section_words, part_words}
use Rattle.words.proofs.EditionLaws.{by_edition}
use Rattle.words.specs.Section.{section_of}
use Rattle.words.proofs.SectionLaws.{length_list_of, section_length}
use Rattle.reads.specs.ReadSet.{Pair, pairs_of}
use Rattle.reads.specs.Search.{Lane, longest}
use Rattle.reads.specs.ReadSection.{rounds_from, read_section}
use Rattle.words.specs.Answer.{Answer, good, refused}
use Rattle.reads.specs.SetAnswer.{Packed, packed}
use Rattle.reads.proofs.SetAnswerLaws.{placed_packing}
use Rattle.reads.proofs.SectionWordLaws.{section_length as reads_section}
use Rattle.plan_record.specs.Record.{plan_lanes, stages_of}
use Rattle.plan_record.proofs.RecordLaws.{lanes_known}
use Rattle.plan_reads.specs.PartReads.{read_words, part_reads, packed_in, part_lanes}
use Rattle.script.specs.Script.{numbers, location_words, lane_list, stage_section, stage_sections, sram_section, enable_section, part_script}
use Rattle.script.proofs.SectionsLaws.{lanes_length}

-- the lanes of a plan
pub lanes_even : (d : List ℕ) → plan_lanes d % 2 ≡ 0
lanes_even d = by_edition (λ n. n % 2 ≡ 0) refl refl (plan_lanes d) (lanes_known d)

section_words_lem : (n : ℕ) (e a b c : ℕ → ℕ) → length (section_of n e ++ lane_list a b c n) ≡ section_words n
section_words_lem n e a b c = omega (arith, length-append (section_of n e) (lane_list a b c n), section_length n e, lanes_length a b c n)

-- the lanes of a search: as many as there are, or none
packed_wide : (n : ℕ) (ps : List Pair) → 0 < n → ((packed_in (packed n ps)).lanes ≡ []) ⊎ (length (packed_in (packed n ps)).lanes ≡ n)
packed_wide n ps h = go (packed n ps) refl
  where
    go : (o : Answer Packed) → packed n ps ≡ o → ((packed_in o).lanes ≡ []) ⊎ (length (packed_in o).lanes ≡ n)
    go (refused q) e = inl refl
    go (good x) e = inr (placed_packing n ps x e h).wide

no_reads : (ls : List Lane) (n : ℕ) → ls ≡ [] → length (read_section ls) ≡ 2 * n * longest ls
unfolding rounds_from longest
no_reads ls n e = rw e (omega arith)

module _ (n : ℕ) (d : List ℕ) (p : ℕ) where
  pub reads_length : 0 < n → length (read_section (part_lanes n d p)) ≡ 2 * n * longest (part_lanes n d p)
  unfolding part_reads
  reads_length h = ⊎_elim (no_reads (part_lanes n d p) n) (reads_section n (part_lanes n d p)) (packed_wide n (pairs_of (read_words d p)) h)

  pub numbers_length : (last state sram : ℕ) → 16 ≤ n → length (numbers n d p last state sram) ≡ n / 2
  unfolding numbers
  numbers_length last state sram h = omega (arith, length-replicate (n / 2 - 8) zero)

  pub locations_length : length (location_words n d p) ≡ n / 2
  unfolding location_words
  locations_length = length_list_of _ (n / 2)

  pub stage_length : (s : ℕ) → length (stage_section n d p s) ≡ section_words n
  unfolding stage_section
  stage_length s = section_words_lem n _ _ _ _

  pub stages_length : (s : ℕ) → length (stage_sections n d p s) ≡ section_words n * s
  unfolding stage_sections
  stages_length zero = omega arith
  stages_length (suc s) = omega (arith, length-append (stage_sections n d p s) (stage_section n d p s), stages_length s, stage_length s, mul-suc (section_words n) s)

  pub sram_length : length (sram_section n d p) ≡ section_words n
  unfolding sram_section
  sram_length = section_words_lem n _ _ _ _

  pub enable_length : length (enable_section n d p) ≡ section_words n
  unfolding enable_section
  enable_length = section_words_lem n _ _ _ _

  pub script_length : (last state sram : ℕ) → 16 ≤ n → n % 2 ≡ 0 → length (part_script n d p last state sram) ≡ part_words n (longest (part_lanes n d p)) (stages_of d p)
  unfolding part_script
  script_length last state sram h even =
      let t = sram_section n d p ++ enable_section n d p in
      let s = stage_sections n d p (stages_of d p) ++ t in
      let r = read_section (part_lanes n d p) ++ s in
      let l = location_words n d p ++ r in
      omega (
        arith,
        length-append (numbers n d p last state sram) l,
        length-append (location_words n d p) r,
        length-append (read_section (part_lanes n d p)) s,
        length-append (stage_sections n d p (stages_of d p)) t,
        length-append (sram_section n d p) (enable_section n d p),
        numbers_length last state sram h,
        locations_length,
        reads_length (omega arith),
        stages_length (stages_of d p),
        sram_length,
        enable_length,
      )
