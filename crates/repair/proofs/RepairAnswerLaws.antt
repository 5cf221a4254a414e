-- Each way through a placing or a clearing has its outcome, in the order of the refusals.
-- Assumes nothing.
use mathlib.Core.Path.{◌≡◌, refl, ap}
use mathlib.Core.Bool.{Bool, true, false, ◌&&◌}
use mathlib.Core.Option.{none, some}
use mathlib.Core.List.{List}
use Prim.Native.Nat.{ℕ, ◌+◌, ◌*◌, ◌/◌, ◌≤◌, ◌<◌}
use borrow.Author.Tests.{le-leb, lt-leb}
use lib.Dec.{ltb}
use lib.ListN.{length, replicate}
use Rattle.words.specs.Pins.{is_pin}
use Rattle.gatelist.specs.ListWords.{bad_list}
use Rattle.repair_nodes.specs.Stage.{Spot, width, index_of, empty_below}
use Rattle.repair_nodes.specs.Placing.{placing, bad_level, no_gate}
use Rattle.repair_nodes.specs.Clearing.{clearing}
use Rattle.repair_nodes.specs.CountList.{counts_right}
use Rattle.words.specs.Answer.{refused, at_item, nowhere}
use Rattle.words.specs.Edition.{known, levels_for}
use Rattle.repair_nodes.specs.RepairAnswer.{repair_room_words, place_right, placed_at, placed_form, placed, cleared_at, cleared_form, cleared, repair_room_after}
use Rattle.repair_settle.specs.Settle.{placed_spots, cleared_spots}

-- ---- the room

pub room_short : (counts room : List ℕ) → length room < repair_room_words counts → repair_room_after counts room ≡ room
unfolding repair_room_after
room_short counts room h = rw (lt-leb (repair_room_words counts) (length room) h, repair_room_after)

pub room_clear : (counts room : List ℕ) → repair_room_words counts ≤ length room → repair_room_after counts room ≡ replicate (length room) 0
unfolding repair_room_after
room_clear counts room h = rw (le-leb (repair_room_words counts) (length room) h, repair_room_after)

pub room_is : (counts : List ℕ) → repair_room_words counts ≡ 65536 + 4 * ((length counts + 1) / 2)
unfolding repair_room_words
room_is counts = refl

-- ---- a place

pub place_high : (H h j : ℕ) → H < h → place_right H h j ≡ false
unfolding place_right
place_high H h j l = ap (λ (a : Bool). a && ltb j (width H h)) (lt-leb h H l)

-- ---- placing

module _ (H : ℕ) (gates levels counts s : List ℕ) (a h j x : ℕ) where
  abbrev P : List Spot
  P = placing gates levels h (width H h) (index_of H h j) x

  pub is_24 : empty_below s h (width H h) (index_of H h j) ≡ false → placed_at H gates levels counts s a h j x ≡ refused (nowhere 24)
  unfolding placed_at
  is_24 e = rw (e, placed_at)

  module _ (empty : empty_below s h (width H h) (index_of H h j) ≡ true) where
    pub is_25 : bad_level gates levels h x ≡ true → placed_at H gates levels counts s a h j x ≡ refused (nowhere 25)
    unfolding placed_at
    is_25 e = rw (empty, e, placed_at)

    module _ (right : bad_level gates levels h x ≡ false) where
      pub is_26 : no_gate gates levels h x ≡ true → placed_at H gates levels counts s a h j x ≡ refused (nowhere 26)
      unfolding placed_at
      is_26 e = rw (empty, right, e, placed_at)

      pub is_placed : no_gate gates levels h x ≡ false → placed_at H gates levels counts s a h j x ≡ placed_spots H counts s a P
      unfolding placed_at
      is_placed e = rw (empty, right, e, placed_at)

  pub place_5 : (place_right H h j && is_pin x && counts_right counts) ≡ false → placed_form H gates levels counts s a h j x ≡ refused (nowhere 5)
  unfolding placed_form
  place_5 e = rw (e, placed_form)

  module _ (form : (place_right H h j && is_pin x && counts_right counts) ≡ true) where
    pub place_6 : (g : ℕ) → bad_list gates ≡ some g → placed_form H gates levels counts s a h j x ≡ refused (at_item 6 g)
    unfolding placed_form
    place_6 g e = rw (form, e, placed_form)

    pub place_on : bad_list gates ≡ none → placed_form H gates levels counts s a h j x ≡ placed_at H gates levels counts s a h j x
    unfolding placed_form
    place_on e = rw (form, e, placed_form)

module _ (n : ℕ) (gates levels counts s : List ℕ) (a h j x r : ℕ) where
  pub place_32 : r < repair_room_words counts → placed n gates levels counts s a r h j x ≡ refused (nowhere 32)
  unfolding placed
  place_32 l = rw (lt-leb (repair_room_words counts) r l, placed)

  module _ (room : repair_room_words counts ≤ r) where
    pub place_29 : known n ≡ false → placed n gates levels counts s a r h j x ≡ refused (nowhere 29)
    unfolding placed
    place_29 e = rw (le-leb (repair_room_words counts) r room, e, placed)

    pub place_known : known n ≡ true → placed n gates levels counts s a r h j x ≡ placed_form (levels_for n) gates levels counts s a h j x
    unfolding placed
    place_known e = rw (le-leb (repair_room_words counts) r room, e, placed)

-- ---- clearing

module _ (H : ℕ) (counts s : List ℕ) (a h j : ℕ) where
  pub is_cleared : cleared_at H counts s a h j ≡ cleared_spots H counts s a (clearing s h (width H h) (index_of H h j))
  unfolding cleared_at cleared_spots
  is_cleared = refl

  pub clear_5 : (place_right H h j && counts_right counts) ≡ false → cleared_form H counts s a h j ≡ refused (nowhere 5)
  unfolding cleared_form
  clear_5 e = rw (e, cleared_form)

  pub clear_on : (place_right H h j && counts_right counts) ≡ true → cleared_form H counts s a h j ≡ cleared_at H counts s a h j
  unfolding cleared_form
  clear_on e = rw (e, cleared_form)

module _ (n : ℕ) (counts s : List ℕ) (a h j r : ℕ) where
  pub clear_32 : r < repair_room_words counts → cleared n counts s a r h j ≡ refused (nowhere 32)
  unfolding cleared
  clear_32 l = rw (lt-leb (repair_room_words counts) r l, cleared)

  module _ (room : repair_room_words counts ≤ r) where
    pub clear_29 : known n ≡ false → cleared n counts s a r h j ≡ refused (nowhere 29)
    unfolding cleared
    clear_29 e = rw (le-leb (repair_room_words counts) r room, e, cleared)

    pub clear_known : known n ≡ true → cleared n counts s a r h j ≡ cleared_form (levels_for n) counts s a h j
    unfolding cleared
    clear_known e = rw (le-leb (repair_room_words counts) r room, e, cleared)
