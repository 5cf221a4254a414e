-- The marked small set: M1 to M9 by computing, M10 by the laws of `marked_plan`, since its record and script are too long to compute.
-- Assumes nothing.
use mathlib.Core.Path.{◌≡◌, refl, sym, ap, ◌∙◌}
use mathlib.Core.List.{List, [], ◌∷◌, ◌++◌}
use Prim.Native.Nat.{ℕ}
use Rattle.words.specs.Bit.{pop_in}
use Rattle.words.specs.Sum.{sum_to}
use Rattle.words.specs.Section.{word_of_entry, entry_of, list_of}
use Rattle.reads.specs.ReadSet.{total, pairs_from, pair_form, broken_from}
use Rattle.reads.specs.Search.{pieces_in, insert_piece, ordered, joined, first_room, try_from, first_win, stop_word, longest}
use Rattle.reads.specs.Packing.{weigh, wide_mask}
use Rattle.reads.specs.Local.{mask_in, later, local_at, round_from, lane_round_from, local_of}
use Rattle.reads.specs.SetAnswer.{searched, packed, read_set, set_fitted, set_answer}
use Rattle.plan_record.specs.Record.{word_at, parts_before}
use Rattle.plan_counts.specs.Counts.{activations_of, is_in, different, duplicates_in}
use Rattle.plan_blocks.specs.Blocks.{least_to, block_for, costs_after, block_in, comes_before, taken_before, state_of}
use Rattle.marked_plan.specs.GatePlan.{bytes_of}
use Rattle.marked_plan.proofs.GateRunLaws.{answer_one, answer_three}
use Rattle.marked.specs.Reads.{alike, positions, seen, tries_seen}
use Rattle.marked.specs.Plans.{duplicate_words, stages_in, four_parts, blocks_of_parts, starts_of_parts}
use Rattle.marked.specs.Scripts.{marked_locations, locations_seen, entry_seen}
use Rattle.marked.specs.Marked.{Example, computed, gate_runs, marked, given, told, MarkedRight}

computed_right : given computed ≡ told computed
unfolding computed given told alike positions seen tries_seen pop_in total pairs_from pair_form broken_from pieces_in insert_piece ordered joined first_room try_from first_win longest mask_in
    later local_at round_from lane_round_from local_of stop_word weigh wide_mask searched packed read_set set_fitted set_answer sum_to list_of word_of_entry entry_of marked_locations locations_seen entry_seen activations_of is_in different
    duplicates_in duplicate_words bytes_of word_at parts_before state_of least_to block_for costs_after block_in comes_before taken_before stages_in four_parts blocks_of_parts starts_of_parts
computed_right = refl

gates_right : given gate_runs ≡ told gate_runs
unfolding gate_runs given told
gates_right = rw (answer_one, answer_three)

given_both : (a b : List Example) → given (a ++ b) ≡ given a ++ given b
unfolding given
given_both [] b = refl
given_both (e ∷ a) b = ap (λ (r : List (List ℕ)). e.got ∷ r) (given_both a b)

told_both : (a b : List Example) → told (a ++ b) ≡ told a ++ told b
unfolding told
told_both [] b = refl
told_both (e ∷ a) b = ap (λ (r : List (List ℕ)). e.said ∷ r) (told_both a b)

pub marked_right : MarkedRight
unfolding marked
marked_right = given_both computed gate_runs ∙ rw (computed_right, gates_right) (sym (told_both computed gate_runs))
