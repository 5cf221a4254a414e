-- What the functions over a subtree answer and ask: the judgement of a node, and the list of slots in lent words.
-- Assumes nothing.
use Rattle.std.specs.Prelude.{⊤, ◌≡◌, Ok, Err, Bool, true, false, List, ℕ, ◌+◌, ◌*◌, ◌-◌, ◌≤◌, ◌<◌, length}
use Rattle.std.proofs.lemmas.List.Edits.{sets}
use Rattle.words.specs.Answer.{nowhere}
use Rattle.words.specs.declared.refusals.Refusal.{Refusal}
use Rattle.repair_nodes.specs.Stage.{Spot, spot_words}
use Rattle.repair_nodes.specs.Placing.{node_level, placing, Judged}
use Rattle.repair_nodes.specs.Clearing.{clearing}
use Rattle.repair_subtree.specs.declared.places.Place.{Place}
use Rattle.std.specs.declared.result.Result.{Result}
use Rattle.repair_subtree.specs.declared.Misplaced.{Misplaced}
use Rattle.repair_subtree.specs.declared.Misplaced.TheVariants.{WrongLevel, Gateless}

-- 25 before 26
abbrev pub judgement_of : Bool → Bool → Result ⊤ Misplaced
judgement_of true n = Err WrongLevel
judgement_of false true = Err Gateless
judgement_of false false = Ok tt

-- as a refusal
abbrev pub refusal_of : Misplaced → Refusal
refusal_of WrongLevel = nowhere 25
refusal_of Gateless = nowhere 26

-- of two fan-ins
abbrev pub worse_of : Result ⊤ Misplaced → Result ⊤ Misplaced → Result ⊤ Misplaced
worse_of (Err WrongLevel) b = Err WrongLevel
worse_of (Err Gateless) (Err WrongLevel) = Err WrongLevel
worse_of (Err Gateless) (Err Gateless) = Err Gateless
worse_of (Err Gateless) (Ok u) = Err Gateless
worse_of (Ok u) b = b

-- the slot below a place, on its own side or on the other
pub record FirstBelow (h m q : ℕ) (p : Place) : Type 0 where
  pub level : p.level ≡ h - 1
  pub width : p.width ≡ 2 * m
  pub index : p.index ≡ q + m

pub record SecondBelow (h m q : ℕ) (p : Place) : Type 0 where
  pub level : p.level ≡ h - 1
  pub width : p.width ≡ 2 * m
  pub index : p.index ≡ q + 2 * m

-- a list of n spots in lent words, before and after more were added: k is their number then
pub record Added (before : List ℕ) (n : ℕ) (es : List Spot) (after : List ℕ) (k : ℕ) : Type 0 where
  pub count : k ≡ n + length es
  pub words : after ≡ sets before (2 * n) (spot_words es)
  pub size : length after ≡ length before

-- what one more spot asks
pub record SpotPuttable (list : List ℕ) (n q : ℕ) : Type 0 where
  pub room : 2 * n + 1 < length list
  pub index : q < 16384

-- what listing a judged node asks, at a place whose subtree is inside a stage, with room on the list
pub record Listable (gates levels list : List ℕ) (n h m q x : ℕ) : Type 0 where
  pub judged : Judged gates levels h x
  pub room : 2 * (n + length (placing gates levels h m q x)) ≤ length list

-- the node is below its place, or at its level
pub record Carried (gates levels list : List ℕ) (n h m q x : ℕ) : Type 0 where
  pub listable : Listable gates levels list n h m q x
  pub under : node_level levels x < h

pub record Split (gates levels list : List ℕ) (n h m q x : ℕ) : Type 0 where
  pub listable : Listable gates levels list n h m q x
  pub level : node_level levels x ≡ h

-- what listing the slots that clearing reaches asks
pub record Reachable (slots list : List ℕ) (n h m q : ℕ) : Type 0 where
  pub room : 2 * (n + length (clearing slots h m q)) ≤ length list
