-- Refusal 12 in the code's terms: the entry that the table of a part has for a pin gives its planned position, and the part table says which
-- words are normal ones of earlier major stages. The room's first words are the pins' table, so that the part table stays as it is.
-- Assumes nothing.
use mathlib.Core.Path.{◌≡◌, refl, sym, ap, ap₂, ◌∙◌}
use mathlib.Core.Bool.{Bool, true, false}
use mathlib.Core.Option.{Option, none, some}
use mathlib.Core.List.{List, ◌++◌}
use Prim.Native.Nat.{ℕ, ◌+◌, ◌-◌, ◌/◌, ◌^◌, ◌≤◌, ◌<◌}
use native.Mathlib.Omega.{arith}
use borrow.Author.Tests.{eq-eqb, ne_eqb, eqb-true, eqb-false}
use lib.Dec.{ltb, eqb}
use lib.ListN.{length, get_or, take, drop, replicate, take-append-drop, length-append, length-drop}
use lib.Seq.{sets, sets-eq, length-take-le, take_at, drop_at, get_or-append-add, get_or-drop}
use Rattle.std.specs.Prelude.{Some, None}
use Rattle.std.specs.declared.option.Option as opt
use Rattle.words.specs.Found.{item_of}
use Rattle.pinmap.specs.PinMap.{look}
use Rattle.plan_record.specs.declared.bodies.Body.{Body}
use Rattle.plan_record.specs.Record.{slots_of, parts_before, parts_of, level_at}
use Rattle.words.specs.Pins.{empty}
use Rattle.plan_record.specs.Body.{BodyOf}
use Rattle.words.specs.Tests.{all_below, some_below}
use Rattle.words.proofs.TestLaws.{not_both, all_at, some_at, not_at}
use Rattle.plan_record.proofs.PlanFormLaws.{Formed, formed}
use Rattle.plan_blocks.specs.Blocks.{state_words}
use Rattle.plan_rows.specs.Rows.{cell}
use Rattle.plan_blocks.specs.TableFill.{Tallied}
use Rattle.plan_blocks.specs.PartTable.{rank_of, Counted, Allotted, Tabled}
use Rattle.plan_slots.specs.Slots.{reads_pin}
use Rattle.plan_slots.specs.Puts.{filled, read_puts, read_pin, first_pins, read_pins, AllPins}
use Rattle.plan_slots.proofs.PutLaws.{reads_hold, reads_look, filled_length}
use Rattle.plan_slots.proofs.ListedLaws.{Among, listed_among, FromSlot, listed_from}
use Rattle.plan_winners.specs.declared.Planned as code
use Rattle.plan_positions.specs.Positions.{major_of, normal_word, position_right, twelve_right}
use Rattle.plan_winners.specs.Planned.{Planned}
use Rattle.plan_winners.specs.Winners.{winner, planned_by, position_of, winner_puts}
use Rattle.plan_positions.specs.Places.{bad_slot, holds_word, Ranked, position_right_in, planned_table, WinnerHeld, ListHeld, listed_pin_right, TableSearchable, SlotsReady, Judgeable, PartReady}
use Rattle.plan_winners.proofs.WinnerLaws.{by_none, planned_winner, renewals_length, winners_look, listed}
use Rattle.plan_positions.proofs.MajorLaws.{MajorAt, major_at}
use Rattle.plan_positions.proofs.StateOrderLaws.{ranked, normal_is}

-- ---- a position is right

pub place_in : (d : List ℕ) (s : ℕ) (o : Option Planned) → position_right d s o ≡ position_right_in d (parts_before d s) o
unfolding position_right position_right_in
place_in d s none = refl
place_in d s (some x) = refl

module _ (d : List ℕ) (n : ℕ) where
  pub place_none : (w : ℕ) → w ≡ 0 → false ≡ position_right_in d n (planned_by d w)
  unfolding position_right_in
  place_none w h = rw (h, by_none)

  in-state : (y : Planned) → y.staged ≡ 0 → position_right_in d n (some y) ≡ ltb (y.place / 32) (state_words d)
  unfolding position_right_in
  in-state y h = rw (eq-eqb y.staged 0 h, position_right_in)

  in-normal : (y : Planned) → (y.staged ≡ 0 → ⊥) → position_right_in d n (some y) ≡ normal_word d n (y.place / 32)
  unfolding position_right_in
  in-normal y h = rw (ne_eqb y.staged 0 h, position_right_in)

-- ---- a slot is right

module _ (d : List ℕ) (p j : ℕ) where
  pub slot_empty : level_at d p 0 j ≡ empty → true ≡ twelve_right d p j
  unfolding twelve_right
  slot_empty h = rw (eq-eqb _ _ h)

  pub slot_held : (level_at d p 0 j ≡ empty → ⊥)
      → position_right_in d (parts_before d (major_of d p)) (planned_by d (winner d (level_at d p 0 j))) ≡ twelve_right d p j
  unfolding twelve_right
  slot_held h = rw (ne_eqb _ _ h, planned_winner d (level_at d p 0 j), place_in d (major_of d p))

  pub slot_read : j < slots_of d → reads_pin d p (level_at d p 0 j) ≡ true
  unfolding reads_pin
  slot_read l = some_at (λ k. eqb (level_at d p 0 k) (level_at d p 0 j)) (slots_of d) j l (eq-eqb (level_at d p 0 j) _ refl)

-- ---- what the table of a part has for a pin

module _ (d : List ℕ) (p x m : ℕ) (wide : 16384 ≤ m) (pin : x ≡ empty → ⊥) where
  pub planned_look : reads_pin d p x ≡ true → look (planned_table d p m) x ≡ some (winner d x)
  planned_look h = winners_look d (filled m (read_puts d p)) (read_puts d p) x (reads_hold d p m wide) (rw h at (reads_look d p x m wide pin)) pin

pub planned_length : (d : List ℕ) (p m : ℕ) → length (planned_table d p m) ≡ m
planned_length d p m = renewals_length (filled m (read_puts d p)) (winner_puts d) ∙ filled_length m (read_puts d p)

-- ---- the same as the code reads it

-- entry w, which gives position x; v is its word
module _ (d room : List ℕ) (state n : ℕ) (ready : TableSearchable d room state n) (w : ℕ) (x : code.Planned) (by : planned_by d w ≡ some (position_of x))
    (v : ℕ) (word : v ≡ x.place.0 / 32) where
  pub unstaged_right : x.staged ≡ 0 → ltb v state ≡ position_right_in d n (planned_by d w)
  unstaged_right h = ap₂ ltb word ready.size ∙ sym (ap (position_right_in d n) by ∙ in-state d n (position_of x) h)

  pub staged_right : (r : Bool) → (x.staged ≡ 0 → ⊥) → r ≡ some_below (holds_word room v) n → r ≡ position_right_in d n (planned_by d w)
  staged_right r h e = e ∙ ready.finds v ∙ ap (normal_word d n) word ∙ sym (ap (position_right_in d n) by ∙ in-normal d n (position_of x) h)

-- pin x, whose entry the table has
module _ (d room : List ℕ) (n x : ℕ) (held : WinnerHeld d room x) where
  pub pin_value_lem : (f : opt.Option ℕ) (w : ℕ) (r : Bool) → f ≡ item_of (look (take 32768 room) x) → f ≡ Some w → r ≡ position_right_in d n (planned_by d w)
      → r ≡ position_right_in d n (planned_by d (winner d x))
  pin_value_lem f w r a v e =
      let k : Some w ≡ Some (winner d x) = sym v ∙ (a ∙ ap item_of held.found) in
      let g : w ≡ winner d x = cc in
      e ∙ ap (λ (y : ℕ). position_right_in d n (planned_by d y)) g

  pub pin_missing : (f : opt.Option ℕ) → f ≡ item_of (look (take 32768 room) x) → f ≡ None → ⊥
  pin_missing f a v =
      let k : None ≡ Some (winner d x) = sym v ∙ (a ∙ ap item_of held.found) in
      let z : ◌≡◌ {A = ℕ} 0 1 = cc in
      omega arith

-- the pins of a part whose table is there: slot j's is x, and all of them, listed
module _ (d : List ℕ) (p : ℕ) (b : Body) (room : List ℕ) (state n : ℕ) (ready : SlotsReady d p b room state n) where
  pub slot_there : (j x : ℕ) → j < slots_of d → x ≡ level_at d p 0 j → (x ≡ empty → ⊥) → x < 2 ^ 32 → WinnerHeld d room x
  slot_there j x l read full s = record {
    small = omega (arith, full);
    found = ap (λ (t : List ℕ). look t x) ready.table ∙ planned_look d p x 32768 (omega arith) full (ap (reads_pin d p) read ∙ slot_read d p j l);
  }

  pub slot_by : (j x : ℕ) (r : Bool) → x ≡ level_at d p 0 j → (x ≡ empty → ⊥) → r ≡ position_right_in d n (planned_by d (winner d x)) → r ≡ twelve_right d p j
  slot_by j x r read full e =
      e ∙ (ap₂ (λ (m v : ℕ). position_right_in d m (planned_by d (winner d v))) ready.earlier read ∙ slot_held d p j (λ z. full (read ∙ z)))

  module _ (list : List ℕ) (is : list ≡ read_pins d p) where
    pub list_held : AllPins list → ListHeld d room list
    unfolding read_pins
    list_held small i l =
        let f : FromSlot (read_pin d p) (slots_of d) (get_or (first_pins (read_pin d p) (slots_of d)) i 0) = listed_from (read_pin d p) (slots_of d) i (rw is at l) in
        let e : get_or list i 0 ≡ read_pin d p f.slot = ap (λ (t : List ℕ). get_or t i 0) is ∙ f.is in
        slot_there f.slot (get_or list i 0) f.below e (λ z. f.full (sym e ∙ z)) (omega (arith, small i l))

    -- where they all are right, each slot is
    all_right : all_below (listed_pin_right d n list) (length list) ≡ true → (j : ℕ) → j < slots_of d → twelve_right d p j ≡ true
    unfolding read_pins
    all_right right j l = go (eqb (read_pin d p j) empty) refl
      where
        go : (t : Bool) → eqb (read_pin d p j) empty ≡ t → twelve_right d p j ≡ true
        go true e = sym (slot_empty d p j (eqb-true _ _ e))
        go false e =
            let a : Among (read_pin d p) (slots_of d) (read_pin d p j) = listed_among (read_pin d p) (slots_of d) j l (eqb-false _ _ e) in
            let x : get_or list a.at 0 ≡ read_pin d p j = ap (λ (t : List ℕ). get_or t a.at 0) is ∙ a.is in
            let k : a.at < length list = omega (arith, a.inside, ap length is) in
            sym (slot_by j (get_or list a.at 0) true x (λ z. eqb-false _ _ e (sym x ∙ z)) (sym (all_at (listed_pin_right d n list) (length list) a.at right k)))

    pub list_fine : all_below (listed_pin_right d n list) (length list) ≡ true → None ≡ item_of (bad_slot d p)
    list_fine right = ap item_of (go (bad_slot d p) refl)
      where
        go : (o : Option ℕ) → bad_slot d p ≡ o → none ≡ o
        go none e = refl
        go (some k) e =
            let (below, wrong, before) = not_at (twelve_right d p) (slots_of d) k e in
            absurd (not_both _ (all_right right k below) wrong)

-- the list from the start of lent words
module _ (d : List ℕ) (p : ℕ) (list : List ℕ) (m : ℕ) (list' : List ℕ) (wide : 8192 ≤ length list) (count : (m ≡ length (read_pins d p)) × (m ≤ 8192)) (holds : list' ≡ sets list 0 (read_pins d p)) where
  pub list_front : take m list' ≡ read_pins d p
  list_front =
      ap (take m) (holds ∙ sets-eq (read_pins d p) list 0 (omega (arith, count.0, count.1)))
      ∙ take_at (read_pins d p) (drop (0 + length (read_pins d p)) list) m (sym count.0)

  pub list_size : m ≡ length (take m list')
  list_size = count.0 ∙ sym (ap length list_front)

  pub list_small : AllPins (read_pins d p) → AllPins (take m list')
  list_small h = rw list_front h

-- ---- what the size of the state asks for

pub tallied : (d room : List ℕ) → Judgeable d room → Tallied d room
tallied d room j = record { ready = record { form = j.form; inside = j.wide }; counted = j.table.counted }

-- ---- the part table stays where the first words of the room change

tabled_kept : (d room other : List ℕ) → ((p k : ℕ) → get_or other (cell p k) 0 ≡ get_or room (cell p k) 0) → Tabled d room → Tabled d other
tabled_kept d room other e t = record {
  counted = λ p l. let c : Counted d room p = t.counted p l in record {
    body-low = e p 0 ∙ c.body-low;
    body-high = e p 1 ∙ c.body-high;
    locations = e p 2 ∙ c.locations;
    sram-count = e p 3 ∙ c.sram-count;
    duplicate-words = e p 4 ∙ c.duplicate-words;
    write-outs = e p 5 ∙ c.write-outs;
  };
  allotted = λ s i l h. let a : Allotted d room s i = t.allotted s i l h in record {
    block = e (parts_before d s + i) 6 ∙ a.block;
    state-start = e (parts_before d s + i) 7 ∙ a.state-start;
    sram-start = e (parts_before d s + i) 8 ∙ a.sram-start;
    ranked = e (rank_of d s i) 9 ∙ a.ranked;
  };
}

module _ (first room : List ℕ) (size : length first ≡ 32768) where
  row_kept : (p k : ℕ) → get_or (first ++ drop 32768 room) (cell p k) 0 ≡ get_or room (cell p k) 0
  row_kept p k =
      let e : cell p k ≡ length first + (cell p k - 32768) = omega arith in
      let g : 32768 + (cell p k - 32768) ≡ cell p k = omega arith in
      ap (λ (x : ℕ). get_or (first ++ drop 32768 room) x 0) e
      ∙ (get_or-append-add first (drop 32768 room) (cell p k - 32768) 0 ∙ (get_or-drop 32768 room (cell p k - 32768) 0 ∙ ap (λ (x : ℕ). get_or room x 0) g))

  pub first_kept : take 32768 (first ++ drop 32768 room) ≡ first
  first_kept = take_at first (drop 32768 room) 32768 size

  pub rest_kept : drop 32768 (first ++ drop 32768 room) ≡ drop 32768 room
  rest_kept = drop_at first (drop 32768 room) 32768 size

  room-length : 32768 ≤ length room → length (first ++ drop 32768 room) ≡ length room
  room-length l = length-append first (drop 32768 room) ∙ omega (arith, length-drop 32768 room)

-- ---- what a part is judged by

module _ (d : List ℕ) (p : ℕ) (b : Body) (room : List ℕ) (state : ℕ) (ready : PartReady d p b room state) where
  pub part_stages : 0 < b.stages
  part_stages = omega (arith, ready.body.stages, ((formed d ready.plan.form).part p ready.part).some_stages)

  pub part_wide : 32768 ≤ length room
  part_wide = omega (arith, ready.plan.wide)

  -- the room with the table of the part in its first words
  module _ (first other : List ℕ) (is : first ≡ planned_table d p (length (take 32768 room))) (now : other ≡ first ++ drop 32768 room) where
    first_is : first ≡ planned_table d p 32768
    first_is = is ∙ ap (planned_table d p) (length-take-le 32768 room part_wide)

    first-size : length first ≡ 32768
    first-size = ap length first_is ∙ planned_length d p 32768

    other-long : length other ≡ length room
    other-long = ap length now ∙ room-length first room first-size part_wide

    pub part_front : 32768 ≡ length (take 32768 other)
    part_front = sym (length-take-le 32768 other (omega (arith, other-long, part_wide)))

    pub part_slots : (n : ℕ) → n ≡ parts_before d (major_of d p) → SlotsReady d p b other state n
    part_slots n earlier =
        let f : Formed d = formed d ready.plan.form in
        let m : MajorAt d p (major_of d p) = major_at d p ready.part in
        let t : Tabled d other = rw now (tabled_kept d room (first ++ drop 32768 room) (row_kept first room first-size) ready.plan.table) in
        let r : Ranked other (parts_before d (major_of d p)) = ranked d other t (major_of d p) (omega arith) f.sizes.headed.parts (omega (arith, ready.plan.wide, other-long)) in
        record {
          body = ready.body;
          stages = part_stages;
          earlier = earlier;
          searched = record {
            lists = listed d ready.plan.form;
            size = ready.size;
            rows = rw earlier r;
            finds = λ w. rw earlier (normal_is d other t (major_of d p) (omega arith) w);
          };
          wide = omega (arith, part_wide, other-long);
          table = rw now (first_kept first room first-size) ∙ first_is;
        }

    -- cleared again, the room is as it was
    pub part_cleared : (zeros : List ℕ) → zeros ≡ replicate (length (take 32768 other)) 0 → zeros ++ drop 32768 other ≡ room
    part_cleared zeros z =
        let f : take 32768 other ≡ first = rw now (first_kept first room first-size) in
        let g : drop 32768 other ≡ drop 32768 room = rw now (rest_kept first room first-size) in
        let w : zeros ≡ take 32768 room =
        z ∙ (ap (λ (l : List ℕ). replicate (length l) 0) f ∙ (ap (λ (n : ℕ). replicate n 0) first-size ∙ sym ready.plan.clear))
        in
        rw (w, g) (take-append-drop 32768 room)

pub part_ready : (d room₀ room : List ℕ) (p : ℕ) (b : Body) (state : ℕ) → Judgeable d room₀ → room ≡ room₀ → BodyOf d p b → p < parts_of d → state ≡ state_words d
    → PartReady d p b room state
part_ready d room₀ room p b state j e body l size = record { plan = rw e j; body = body; part = l; size = size }
