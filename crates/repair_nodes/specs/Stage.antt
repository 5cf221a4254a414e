-- The slots of one stage, by index from 1 up. Document 01, "Positions and counts": with H levels above level 0, level h has 2^(H−h) slots, and slot j of it
-- has index 2^(H−h) + j. So below the slot at index q of a level of m slots, slot a is at q + m and slot b at q + 2m, on a level of 2m slots.
-- Assumes nothing.
use Rattle.std.specs.Prelude.{Bool, false, ◌&&◌, ◌||◌, List, [], ◌∷◌, ℕ, zero, suc, ◌+◌, ◌*◌, ◌-◌, ◌/◌, ◌^◌, ◌≤◌, ◌<◌, eqb, get_or, set}
use Rattle.std.proofs.Math.Option.{Option, none, some}
use Rattle.words.specs.Pins.{is_pin, empty}
use Rattle.gatelist.specs.ListWords.{list_first, list_second, gate_in}
use Rattle.repair_nodes.specs.Pairs.{items_of_two, pair_words}

-- how many slots level h has, and the index of its slot j
abbrev pub width : ℕ → ℕ → ℕ
width H h = 2 ^ (H - h)

abbrev pub index_of : ℕ → ℕ → ℕ → ℕ
index_of H h j = width H h + j

-- what stands at index q; a slot that is not there is empty
abbrev pub slot_in : List ℕ → ℕ → ℕ
slot_in s q = get_or s (q - 1) empty

-- an index, and the node that is put there
pub record Spot : Type 0 where
  pub at : ℕ
  pub node : ℕ

abbrev pub spot : ℕ → ℕ → Spot
spot q x = record { at = q; node = x }

-- the slots after many puts, one after another
unfoldable pub spots_stored : List ℕ → List Spot → List ℕ
spots_stored s [] = s
spots_stored s (e ∷ es) = spots_stored (set s (e.at - 1) e.node) es

-- the same places, emptied
unfoldable pub emptied : List Spot → List Spot
emptied [] = []
emptied (e ∷ es) = spot e.at empty ∷ emptied es

-- as words: index, node, index, node ..
abbrev pub spot_words : List Spot → List ℕ
spot_words es = pair_words (λ (e : Spot). e.at) (λ (e : Spot). e.node) es

abbrev pub spots_of : List ℕ → List Spot
spots_of ws = items_of_two spot ws

-- the slot at index q of level h, which has m slots, and all below it are inside a stage of L slots
pub record Rooted (L h m q : ℕ) : Type 0 where
  pub wide : 0 < m
  pub low : m ≤ q
  pub high : q < 2 * m
  pub fits : 2 * m * 2 ^ h ≤ L + 1

-- "24 subtree not empty": the slot at index q of level h, which has m slots, and all below it are empty
unfoldable pub empty_below : List ℕ → ℕ → ℕ → ℕ → Bool
empty_below s zero m q = eqb (slot_in s q) empty
empty_below s (suc h) m q = eqb (slot_in s q) empty && empty_below s h (2 * m) (q + m) && empty_below s h (2 * m) (q + 2 * m)

-- refusal 9 of document 01, as crate `plan_slots` has it, over a stage's slots and a gate list: "slot pin out of range, or neither empty, a, nor the right gate"
unfoldable pub list_feeds : List ℕ → Option ℕ → ℕ → ℕ → Bool
list_feeds gates none a b = false
list_feeds gates (some g) a b = eqb (list_first gates g / 2) a && eqb (list_second gates g / 2) b

-- slot x passes with slots a and b below it
unfoldable pub stands_right : List ℕ → ℕ → ℕ → ℕ → Bool
stands_right gates x a b = eqb x empty || (is_pin x && (eqb x a || list_feeds gates (gate_in gates x) a b))

abbrev pub stage_slot_right : List ℕ → List ℕ → ℕ → ℕ → Bool
stage_slot_right gates s m q = stands_right gates (slot_in s q) (slot_in s (q + m)) (slot_in s (q + 2 * m))

-- the slot at index q of level h and all below it pass
unfoldable pub right_below : List ℕ → List ℕ → ℕ → ℕ → ℕ → Bool
right_below gates s zero m q = eqb (slot_in s q) empty || is_pin (slot_in s q)
right_below gates s (suc h) m q =
    stage_slot_right gates s m q && right_below gates s h (2 * m) (q + m) && right_below gates s h (2 * m) (q + 2 * m)
