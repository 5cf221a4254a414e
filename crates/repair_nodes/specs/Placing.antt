-- Placing a node: document 02, 7/13, and `place_bit` of src/pe.rs. "A node placed above its level is carried down the same slot; at its level the gate is split
-- to two slots, and carrying and splitting call on each other as the level falls."
-- Word x of `levels` is pin x's level; a pin past the end has none.
-- Assumes nothing.
use Rattle.std.specs.Prelude.{◌≡◌, Bool, true, false, not, ◌&&◌, ◌||◌, List, [], ◌∷◌, ◌++◌, ℕ, zero, suc, ◌+◌, ◌*◌, ◌/◌, leb, ltb, eqb, length, get_or}
use Rattle.std.proofs.Math.Option.{none, some}
use Rattle.gatelist.specs.ListWords.{list_first, list_second, bad_list, gate_in}
use Rattle.repair_nodes.specs.Stage.{Spot, spot}

abbrev pub node_level : List ℕ → ℕ → ℕ
node_level levels x = get_or levels x 0

-- the fan-in pins of pin x's gate, 0 where it has none
unfoldable pub first_pin : List ℕ → ℕ → ℕ
first_pin gates x = elim (gate_in gates x) [ some g ↦ list_first gates g / 2 | none ↦ 0 ]

unfoldable pub second_pin : List ℕ → ℕ → ℕ
second_pin gates x = elim (gate_in gates x) [ some g ↦ list_second gates g / 2 | none ↦ 0 ]

-- node x at index q of level h, which has m slots: the slots and their nodes, in the order in which the Rust writes them
unfoldable pub placing : List ℕ → List ℕ → ℕ → ℕ → ℕ → ℕ → List Spot
placing gates levels zero m q x = spot q x ∷ []
placing gates levels (suc h) m q x =
    spot q x
    ∷ elim (eqb (node_level levels x) (suc h)) [
      | true ↦ placing gates levels h (2 * m) (q + m) (first_pin gates x) ++ placing gates levels h (2 * m) (q + 2 * m) (second_pin gates x)
      | false ↦ placing gates levels h (2 * m) (q + m) x
    ]

-- 25: "no level, level above the place or fan-in level not below its gate's": a node that is reached at level h has a level, and none above h
unfoldable pub level_right : List ℕ → ℕ → ℕ → Bool
level_right levels h x = ltb x (length levels) && leb (node_level levels x) h

unfoldable pub bad_level : List ℕ → List ℕ → ℕ → ℕ → Bool
bad_level gates levels zero x = not (level_right levels 0 x)
bad_level gates levels (suc h) x =
    not (level_right levels (suc h) x)
    || elim (eqb (node_level levels x) (suc h)) [
      | true ↦ elim (gate_in gates x) [ none ↦ false | some g ↦ bad_level gates levels h (first_pin gates x) || bad_level gates levels h (second_pin gates x) ]
      | false ↦ bad_level gates levels h x
    ]

-- 26: "node at its level, 1 or up, isn't a gate"
unfoldable pub no_gate : List ℕ → List ℕ → ℕ → ℕ → Bool
no_gate gates levels zero x = false
no_gate gates levels (suc h) x =
    elim (eqb (node_level levels x) (suc h)) [
      | true ↦ elim (gate_in gates x) [ none ↦ true | some g ↦ no_gate gates levels h (first_pin gates x) || no_gate gates levels h (second_pin gates x) ]
      | false ↦ no_gate gates levels h x
    ]

-- neither 6, 25 nor 26
pub record Judged (gates levels : List ℕ) (h x : ℕ) : Type 0 where
  pub gates_right : bad_list gates ≡ none
  pub levels-right : bad_level gates levels h x ≡ false
  pub all-gates : no_gate gates levels h x ≡ false
