-- What an accepted plan gives of each of its parts: refusals 5, 7, 8, 12 and 13 excluded, and its reads packed.
-- Assumes nothing.
use mathlib.Core.Path.{◌≡◌, sym, ap, subst, ◌∙◌}
use mathlib.Core.Bool.{true}
use mathlib.Core.Option.{none}
use mathlib.Core.List.{List}
use Prim.Native.Nat.{ℕ, zero, suc, ◌*◌, ◌<◌}
use native.Mathlib.Decide.{ℕ_discrete}
use native.Mathlib.Numerals.{add-one}
use native.Mathlib.Omega.{arith}
use borrow.Author.Tests.{eq-eqb, ne_eqb}
use lib.ListN.{length}
use Rattle.reads.specs.ReadSet.{pairs_of}
use Rattle.reads.specs.Search.{Lane, lanes_of}
use Rattle.words.specs.Answer.{good}
use Rattle.reads_try.specs.LaneTable.{table_of}
use Rattle.reads_try.proofs.LaneTableLaws.{table_length}
use Rattle.rounds.specs.Rounds.{table_after}
use Rattle.plan_record.specs.Record.{plan_lanes, slots_of, parts_of, stages_of, level_at}
use Rattle.plan_record.proofs.RecordLaws.{lanes_range}
use Rattle.words.specs.Pins.{empty}
use Rattle.plan_record.specs.Form.{plan_form}
use Rattle.plan_record.proofs.PlanFormLaws.{formed}
use Rattle.plan_counts.specs.Counts.{refusal7}
use Rattle.plan_counts.proofs.PartCountLaws.{counts_passed}
use Rattle.plan_blocks.specs.Blocks.{totals_fit}
use Rattle.plan_positions.specs.Positions.{refusal12}
use Rattle.plan_winners.specs.Planned.{planned}
use Rattle.plan_entries.specs.TableEntries.{refusal13}
use Rattle.plan_entries.proofs.TableEntryLaws.{sram_entry, enable_entry_lem}
use Rattle.plan_reads.specs.PartReads.{read_words, part_reads, part_packed, part_lanes, local_position}
use Rattle.plan_reads.proofs.FirstEntryLaws.{part_found, part_numbered, all_planned}
use Rattle.script.specs.Script.{pin_entry, stage_entry}
use Rattle.script.proofs.LaterEntryLaws.{entry_small}
use Rattle.promise_decode.specs.Decodable.{Decodable}
use Rattle.promise_decode.proofs.InsideLaws.{solvable, narrow, part_packing}

module _ (d : List ℕ) (p : ℕ) (form : plan_form d ≡ true) (seven : refusal7 d ≡ none) (fit : totals_fit d ≡ true) (twelve : refusal12 d ≡ none) (thirteen : refusal13 d ≡ none) (part : p < parts_of d) (found : part_reads (plan_lanes d) d p ≡ good (part_packed (plan_lanes d) d p)) where
  abbrev lanes : List Lane
  lanes = part_lanes (plan_lanes d) d p

  lanes-wide : length lanes ≡ plan_lanes d
  lanes-wide = (part_packing d fit twelve p part found).wide

  -- the pin of a slot of stage 0 has its local position
  numbered : (j : ℕ) → j < slots_of d → (level_at d p 0 j ≡ empty → ⊥) → local_position lanes (planned d (level_at d p 0 j)) < slots_of d
  numbered j h full =
      let ws = read_words d p in
      let few = narrow d fit twelve p part in
      let is : table_of lanes ≡ table_after (plan_lanes d) (lanes_of (plan_lanes d) (pairs_of ws)) = ap (table_after (plan_lanes d)) (sym (part_found d p few (solvable d) (part_packed (plan_lanes d) d p) found)) in
      let at = part_numbered d p few (solvable d) (part_packed (plan_lanes d) d p) found (table_of lanes) ws is (table_length lanes ∙ ap (λ (n : ℕ). 32 * n) lanes-wide) (omega arith) (all_planned d twelve p part) j h full in
      omega (arith, at.is, at.below)

  first_small : (i : ℕ) → i < slots_of d → stage_entry (plan_lanes d) d p 0 i < slots_of d
  unfolding stage_entry pin_entry
  first_small i h = by (ℕ_discrete (level_at d p 0 i) empty)
    where
      by : Dec (level_at d p 0 i ≡ empty) → stage_entry (plan_lanes d) d p 0 i < slots_of d
      by (yes e) = rw (eq-eqb _ _ e, stage_entry) (omega (arith, lanes_range d))
      by (no n) = rw (ne_eqb _ _ n, stage_entry, pin_entry) (numbered i h n)

  stage_small : (k i : ℕ) → k < stages_of d p → i < slots_of d → stage_entry (plan_lanes d) d p k i < slots_of d
  stage_small zero i h l = first_small i l
  stage_small (suc k) i h l = subst (λ (t : ℕ). stage_entry (plan_lanes d) d p t i < slots_of d) (add-one k) (entry_small d p k i)

  pub decodable : Decodable d p
  decodable = record {
    location = (counts_passed d seven p part).location;
    locations = (counts_passed d seven p part).locations;
    some_stages = ((formed d form).part p part).some_stages;
    stages = ((formed d form).part p part).stages;
    entry = λ k i h l. omega (arith, stage_small k i h l, lanes_range d);
    sram = λ i h. sram_entry d thirteen p i part h;
    enable = λ i h. enable_entry_lem d thirteen p i part h;
    wide = lanes-wide;
  }
