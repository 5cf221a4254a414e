-- The paper's numbers of the answer, and what the functions over a list of slots ask.
-- Assumes nothing.
use Rattle.std.specs.Prelude.{◌≡◌, true, false, List, [], ℕ, ◌+◌, ◌-◌, ◌%◌, ◌^◌, ◌≤◌, ◌<◌, length}
use Rattle.pinmap.specs.PinMap.{capacity}
use Rattle.repair_nodes.specs.Stage.{Spot, emptied}
use Rattle.repair_nodes.specs.CountList.{counts_of, nodes_of, count_in, entries_right, counted_nodes, counts_more, counts_less, short}
use Rattle.words.specs.Answer.{Answer, refused, nowhere, result_of}
use Rattle.repair_nodes.specs.RepairAnswer.{Repair, repair_fitted, slots_after, count_list_after}
use Rattle.repair_tally.specs.Tally.{MapHolds, SpotsAskable}
use Rattle.repair_list.specs.Relist.{AllInside}
use Rattle.words.specs.declared.refusals.Refusal.{Refusal}
use Rattle.std.specs.declared.result.Result.{Result}

-- the entries of the new count list, or the refusal
abbrev pub repaired_of : Answer Repair → Result ℕ Refusal
repaired_of o = result_of (λ (x : Repair). length x.counts) o

-- an answer, with what the lent slots and the lent list then hold
pub record Ended (o : Answer Repair) (r : Result ℕ Refusal) (s s₁ out out₁ : List ℕ) : Type 0 where
  pub answer : r ≡ repaired_of o
  pub slots : s₁ ≡ slots_after o s
  pub list : out₁ ≡ count_list_after o out

-- the outcome of spots that are placed, and of spots that are cleared, with H levels above level 0: 14; 34, then 14
abbrev pub placed_spots : ℕ → List ℕ → List ℕ → ℕ → List Spot → Answer Repair
placed_spots H counts s a es = repair_fitted H s a es (counts_more (counts_of counts) (counted_nodes H es))

unfoldable pub cleared_spots : ℕ → List ℕ → List ℕ → ℕ → List Spot → Answer Repair
cleared_spots H counts s a es =
    elim (short (counts_of counts) (counted_nodes H es)) [
      | true ↦ refused (nowhere 34)
      | false ↦ repair_fitted H s a (emptied es) (counts_less (counts_of counts) (counted_nodes H es))
    ]

-- a count list in form, entered into a map that has room for the nodes of a stage
pub record Entered (counts map : List ℕ) : Type 0 where
  pub even : length counts % 2 ≡ 0
  pub formed : entries_right [] (counts_of counts) ≡ true
  pub words : (y : ℕ) → count_in (counts_of counts) y < 2 ^ 32
  pub held : MapHolds map (nodes_of (counts_of counts)) (count_in (counts_of counts)) (length (counts_of counts))
  pub room : length (counts_of counts) + 16384 ≤ capacity map

-- a list of spots that can be counted, and stored where the stage is whole
pub record Spotted (H : ℕ) (spots slots : List ℕ) : Type 0 where
  pub levels : H ≤ 13
  pub few : length spots ≤ 32768
  pub askable : SpotsAskable spots
  pub inside : 2 ^ (H + 1) - 1 ≤ length slots → AllInside spots slots
