-- What a placing and a clearing get: the slots that change and the new count list, or a numbered refusal. Document 02, 7/13: "5 place, node or count list out of
-- form, 6, 24 subtree not empty, 25 no level, level above the place or fan-in level not below its gate's, 26 node at its level, 1 or up, isn't a gate; for
-- clearing, 34 ..; in that order, then 14 (also a count past 2^32−1), before any slot changes". 32 comes before all, then 29 (10/13): n is the number that is
-- given for an edition, H are levels above level 0.
-- Assumes nothing.
use Rattle.std.specs.Prelude.{Bool, true, false, ◌&&◌, List, ℕ, ◌+◌, ◌*◌, ◌-◌, ◌/◌, ◌^◌, leb, ltb, length, replicate}
use Rattle.std.proofs.Math.Option.{none, some}
use Rattle.std.proofs.lemmas.List.Edits.{sets}
use Rattle.words.specs.Answer.{Answer, good, refused, at_item, nowhere}
use Rattle.words.specs.Edition.{known, levels_for}
use Rattle.words.specs.Pins.{is_pin}
use Rattle.gatelist.specs.ListWords.{bad_list}
use Rattle.repair_nodes.specs.Stage.{Spot, width, index_of, spots_stored, emptied, empty_below}
use Rattle.repair_nodes.specs.Placing.{placing, bad_level, no_gate}
use Rattle.repair_nodes.specs.Clearing.{clearing}
use Rattle.repair_nodes.specs.CountList.{Count, counts_of, counts_right, count_words, counted_nodes, counts_more, counts_less, all_counts, short}

-- the slots that change, each with what it then holds, and the new count list
pub record Repair : Type 0 where
  pub spots : List Spot
  pub counts : List Count

abbrev pub repaired : List Spot → List Count → Answer Repair
repaired es cs = good (record { spots = es; counts = cs })

-- "Working room": 65536 words, and 4 for each whole or half entry of the count list
unfoldable pub repair_room_words : List ℕ → ℕ
repair_room_words counts = 65536 + 4 * ((length counts + 1) / 2)

-- a place: level h at most H, slot j of the 2^(H−h)
unfoldable pub place_right : ℕ → ℕ → ℕ → Bool
place_right H h j = leb h H && ltb j (width H h)

-- 14: the lent slots and the lent list have room, and every count is a word
unfoldable pub repair_fitted : ℕ → List ℕ → ℕ → List Spot → List Count → Answer Repair
repair_fitted H s a es cs = elim (leb (2 ^ (H + 1) - 1) (length s) && leb (2 * length cs) a && all_counts cs) [ false ↦ refused (nowhere 14) | true ↦ repaired es cs ]

-- placing node x at slot j of level h: 24, 25, 26, then 14
unfoldable pub placed_at : ℕ → List ℕ → List ℕ → List ℕ → List ℕ → ℕ → ℕ → ℕ → ℕ → Answer Repair
placed_at H gates levels counts s a h j x =
    elim (empty_below s h (width H h) (index_of H h j)) [
      | false ↦ refused (nowhere 24)
      | true ↦ elim (bad_level gates levels h x) [
        | true ↦ refused (nowhere 25)
        | false ↦ elim (no_gate gates levels h x) [
          | true ↦ refused (nowhere 26)
          | false ↦
              repair_fitted H s a
              (placing gates levels h (width H h) (index_of H h j) x)
              (counts_more (counts_of counts) (counted_nodes H (placing gates levels h (width H h) (index_of H h j) x)))
        ]
      ]
    ]

-- 5 and 6 come before
unfoldable pub placed_form : ℕ → List ℕ → List ℕ → List ℕ → List ℕ → ℕ → ℕ → ℕ → ℕ → Answer Repair
placed_form H gates levels counts s a h j x =
    elim (place_right H h j && is_pin x && counts_right counts) [
      | false ↦ refused (nowhere 5)
      | true ↦ elim (bad_list gates) [ some g ↦ refused (at_item 6 g) | none ↦ placed_at H gates levels counts s a h j x ]
    ]

-- and 32 and 29 before these: the lent list has a words, the lent room r
unfoldable pub placed : ℕ → List ℕ → List ℕ → List ℕ → List ℕ → ℕ → ℕ → ℕ → ℕ → ℕ → Answer Repair
placed n gates levels counts s a r h j x =
    elim (leb (repair_room_words counts) r) [
      | false ↦ refused (nowhere 32)
      | true ↦ elim (known n) [ false ↦ refused (nowhere 29) | true ↦ placed_form (levels_for n) gates levels counts s a h j x ]
    ]

-- clearing slot j of level h: 34, then 14
unfoldable pub cleared_at : ℕ → List ℕ → List ℕ → ℕ → ℕ → ℕ → Answer Repair
cleared_at H counts s a h j =
    elim (short (counts_of counts) (counted_nodes H (clearing s h (width H h) (index_of H h j)))) [
      | true ↦ refused (nowhere 34)
      | false ↦
          repair_fitted H s a
          (emptied (clearing s h (width H h) (index_of H h j)))
          (counts_less (counts_of counts) (counted_nodes H (clearing s h (width H h) (index_of H h j))))
    ]

unfoldable pub cleared_form : ℕ → List ℕ → List ℕ → ℕ → ℕ → ℕ → Answer Repair
cleared_form H counts s a h j = elim (place_right H h j && counts_right counts) [ false ↦ refused (nowhere 5) | true ↦ cleared_at H counts s a h j ]

unfoldable pub cleared : ℕ → List ℕ → List ℕ → ℕ → ℕ → ℕ → ℕ → Answer Repair
cleared n counts s a r h j =
    elim (leb (repair_room_words counts) r) [
      | false ↦ refused (nowhere 32)
      | true ↦ elim (known n) [ false ↦ refused (nowhere 29) | true ↦ cleared_form (levels_for n) counts s a h j ]
    ]

-- what the lent slots, the lent list and the lent room then hold: a refusal changes neither of the first two, and a room that is too short stays
unfoldable pub slots_after : Answer Repair → List ℕ → List ℕ
slots_after (good x) s = spots_stored s x.spots
slots_after (refused q) s = s

unfoldable pub count_list_after : Answer Repair → List ℕ → List ℕ
count_list_after (good x) out = sets out 0 (count_words x.counts)
count_list_after (refused q) out = out

unfoldable pub repair_room_after : List ℕ → List ℕ → List ℕ
repair_room_after counts room = elim (leb (repair_room_words counts) (length room)) [ false ↦ room | true ↦ replicate (length room) 0 ]
