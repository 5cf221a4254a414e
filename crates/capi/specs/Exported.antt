-- What each exported function hands out and leaves, whatever it is given: its numbers, the one that it returns first, then what each slice that it
-- writes holds, in the order of the parameters. Each takes the slices as they were, and the number of the edition last; a plan names its own. Document
-- 01, "Numbered refusals": number and place, or 0.
-- Assumes nothing.
use Rattle.std.proofs.Math.Option.{Option, none, some}
use Rattle.std.specs.Prelude.{List, [], ◌∷◌, ℕ, length}
use Rattle.words.specs.Answer.{handed}
use Rattle.reads.specs.Search.{longest}
use Rattle.words.specs.Edition.{levels_for}
use Rattle.reads.specs.SetAnswer.{Packed, result_after, set_room_after}
use Rattle.rounds.specs.RoundsAnswer.{rounds_answer as rounds}
use Rattle.plan_record.specs.Record.{plan_lanes}
use Rattle.listing.specs.Listing.{listed, text_after}
use Rattle.values.specs.Values.{Bits, value_answer as valued, bits_after, value_room_after as planRoomAfter}
use Rattle.run_machine.specs.Run.{Ran, run_answer as ranAs, new_after, run_room_after}
use Rattle.flatten.specs.Flatten.{Sizes, sizing, building, laid, piece_sizes, build_room_after as builtRoomAfter}
use Rattle.script_assembly.specs.Assembly.{script_words, script_starts}
use Rattle.aiger.specs.Reading.{Read, read_aiger}
use Rattle.aiger.specs.Writing.{write_aiger}
use Rattle.aiger.specs.AigerAnswer.{fitting, gate_list_after as gatesAfter, holding, file_after as aigerAfter}
use Rattle.repair_nodes.specs.RepairAnswer.{Repair, placed, cleared, slots_after, count_list_after, repair_room_after}
use Rattle.reads.specs.ReadSet.{pairs_of}
use Rattle.joins_sets.specs.Join.{joining, join_after}
use Rattle.locals.specs.LocalAnswer.{local_answer}

-- ---- the numbers of a good answer, after 0

-- of a read set how many rounds, and the piece size that won
abbrev pub rounds_and_size : Packed → List ℕ
rounds_and_size x = longest x.lanes ∷ x.size ∷ []

-- of a text its length
abbrev pub text_length : List ℕ → List ℕ
text_length t = length t ∷ []

-- of a pin its bit
abbrev pub own_bit : Bits → List ℕ
own_bit x = x.own ∷ []

-- of a run the turns left
abbrev pub turn_count : Ran → List ℕ
turn_count x = x.left ∷ []

-- of a plan starts, words, state words and SRAM words
abbrev pub plan_size : Sizes → List ℕ
plan_size x = x.starts ∷ x.words ∷ x.state ∷ x.sram ∷ []

-- of a repair the entries of the new count list
abbrev pub entry_count : Repair → List ℕ
entry_count x = length x.counts ∷ []

-- of gates read gates, inputs, latches and outputs
abbrev pub gate_counts : Read → List ℕ
gate_counts x = x.header.gates ∷ x.header.inputs ∷ x.header.latches ∷ x.header.outputs ∷ []

-- of a join its pairs
abbrev pub pair_count : List ℕ → List ℕ
pair_count s = length (pairs_of s) ∷ []

-- of a bit its local position; of one that the set does not ask for 0xFFFFFFFF, which is none
abbrev pub no_position : ℕ
no_position = 4294967295

abbrev pub bit_position : Option ℕ → List ℕ
bit_position (some p) = p ∷ []
bit_position none = no_position ∷ []

-- ---- the functions

unfoldable pub after_read_rounds : (set room out : List ℕ) (edition : ℕ) → List (List ℕ)
after_read_rounds set room out edition =
    let o = rounds edition set (length out) (length room) in
    handed 2 rounds_and_size o ∷ set_room_after room ∷ result_after o out ∷ []

unfoldable pub after_local_position : (set room : List ℕ) (word bit edition : ℕ) → List (List ℕ)
after_local_position set room word bit edition = handed 2 bit_position (local_answer edition set (length room) word bit) ∷ set_room_after room ∷ []

unfoldable pub after_list : (records room out : List ℕ) (edition : ℕ) → List (List ℕ)
after_list records room out edition =
    let o = listed edition records (length out) (length room) in
    handed 2 text_length o ∷ set_room_after room ∷ text_after o out ∷ []

unfoldable pub after_value : (plan room old new bits : List ℕ) (part pin : ℕ) → List (List ℕ)
after_value plan room old new bits part pin =
    let o = valued plan part old new (length room) (length bits) pin in
    handed 2 own_bit o ∷ planRoomAfter plan room ∷ bits_after o bits ∷ []

unfoldable pub after_run : (words starts turns old new room : List ℕ) (edition : ℕ) → List (List ℕ)
after_run words starts turns old new room edition =
    let o = ranAs edition (levels_for edition) words starts turns old new (length room) in
    handed 2 turn_count o ∷ new_after o new ∷ run_room_after starts room ∷ []

unfoldable pub after_plan_sizes : (plan room : List ℕ) → List (List ℕ)
after_plan_sizes plan room = handed 4 plan_size (sizing (plan_lanes plan) plan (length room)) ∷ builtRoomAfter plan room ∷ []

unfoldable pub after_build : (plan room starts words pieces : List ℕ) → List (List ℕ)
after_build plan room starts words pieces =
    let n = plan_lanes plan in
    let o = building n plan (length room) (length starts) (length words) (length pieces) in
    handed 4 plan_size o
    ∷ builtRoomAfter plan room ∷ laid o (script_starts n plan) starts ∷ laid o (script_words n plan) words ∷ laid o (piece_sizes n plan) pieces ∷ []

unfoldable pub after_place_bit : (gates levels counts slots after room : List ℕ) (level slot node edition : ℕ) → List (List ℕ)
after_place_bit gates levels counts slots after room level slot node edition =
    let o = placed edition gates levels counts slots (length after) (length room) level slot node in
    handed 2 entry_count o ∷ slots_after o slots ∷ count_list_after o after ∷ repair_room_after counts room ∷ []

unfoldable pub after_purge_bit : (counts slots after room : List ℕ) (level slot edition : ℕ) → List (List ℕ)
after_purge_bit counts slots after room level slot edition =
    let o = cleared edition counts slots (length after) (length room) level slot in
    handed 2 entry_count o ∷ slots_after o slots ∷ count_list_after o after ∷ repair_room_after counts room ∷ []

unfoldable pub after_read_aiger : (bytes out : List ℕ) → List (List ℕ)
after_read_aiger bytes out =
    let o = fitting (length out) (read_aiger bytes) in
    handed 4 gate_counts o ∷ gatesAfter o out ∷ []

unfoldable pub after_write_aiger : (gates out : List ℕ) → List (List ℕ)
after_write_aiger gates out =
    let o = holding (length out) (write_aiger gates) in
    handed 2 text_length o ∷ aigerAfter o out ∷ []

unfoldable pub after_join : (a b out : List ℕ) → List (List ℕ)
after_join a b out =
    let o = joining a b (length out) in
    handed 2 pair_count o ∷ join_after o out ∷ []
