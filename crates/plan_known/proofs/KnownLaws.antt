-- The table of state bits: one slot more, and what it finds. THE LAW (`known_look`): for every pin it finds what the definition says.
-- Assumes nothing.
use mathlib.Core.Path.{◌≡◌, refl, sym, ap, ◌∙◌}
use mathlib.Core.Bool.{Bool, true, false, ◌&&◌, ◌||◌, or-true, or-false}
use mathlib.Core.Option.{Option, none, some}
use mathlib.Core.List.{List, [], ◌++◌, append-nil}
use Prim.Native.Nat.{ℕ, zero, suc, ◌+◌, ◌-◌, ◌≤◌, ◌<◌}
use native.Mathlib.Numerals.{add-one}
use native.Mathlib.Omega.{arith}
use borrow.Author.Tests.{eq-eqb, ne_eqb, eqb-true, eqb-false, lt-ltb, le-ltb}
use lib.Dec.{ltb, eqb}
use lib.ListN.{length, take, drop, replicate, take-append-drop, length-append, length-drop, drop_of_length-le}
use lib.Seq.{length-take-le, take_all, take_at, drop_at}
use Rattle.words.proofs.ListLaws.{zeros_front}
use Rattle.std.specs.Prelude.{Some, None}
use Rattle.std.specs.declared.option.Option as code
use Rattle.words.specs.Found.{item_of}
use Rattle.pinmap.specs.PinMap.{Entry, entry, look, put_in, last_put, last_from, after_puts}
use Rattle.pinmap.proofs.PinMapLaws.{replaced_same, replaced_other}
use Rattle.pinmap.proofs.HoldsLaws.{last_snoc, puts_look}
use Rattle.plan_record.specs.declared.bodies.Body.{Body}
use Rattle.plan_record.specs.Record.{slots_of, parts_of, level_at}
use Rattle.plan_record.proofs.RecordLaws.{lanes_range}
use Rattle.words.specs.Pins.{empty}
use Rattle.plan_record.specs.Body.{BodyOf}
use Rattle.words.specs.Tests.{some_below}
use Rattle.plan_slots.specs.Slots.{reads_pin}
use Rattle.plan_slots.specs.Puts.{filled}
use Rattle.plan_slots.proofs.PutLaws.{puts_after, puts_length}
use Rattle.plan_winners.specs.Planned.{planned}
use Rattle.plan_winners.specs.Winners.{winner, planned_by}
use Rattle.plan_positions.specs.Places.{planned_table}
use Rattle.plan_positions.specs.Input.{planned_bit, input}
use Rattle.plan_winners.proofs.WinnerLaws.{by_none, planned_winner}
use Rattle.plan_positions.proofs.PlannedLaws.{slot_read, planned_look, planned_length}
use Rattle.plan_known.specs.Known.{held_bit, found_put, found_below, bit_puts, known_puts, Clear, WinnersTabled}
use Rattle.plan_known.proofs.PlannedBitLaws.{bit_none, planned_lt}

-- ---- the entry of one pin

pub nothing_put : (t : List ℕ) (x : ℕ) (o : Option ℕ) → o ≡ none → t ≡ after_puts t (found_put x o)
unfolding found_put after_puts
nothing_put t x o h = sym (ap (λ (q : Option ℕ). after_puts t (found_put x q)) h)

pub found_one : (t : List ℕ) (x v : ℕ) (o : Option ℕ) → o ≡ some v → put_in t x v ≡ after_puts t (found_put x o)
unfolding found_put after_puts
found_one t x v o h = sym (ap (λ (q : Option ℕ). after_puts t (found_put x q)) h)

module _ (d old new t : List ℕ) (x w : ℕ) where
  pub put_none : w ≡ 0 → t ≡ after_puts t (found_put x (planned_bit old new (planned_by d w)))
  put_none h = nothing_put t x _ (ap (λ (v : ℕ). planned_bit old new (planned_by d v)) h ∙ (ap (planned_bit old new) (by_none d) ∙ bit_none old new))

  pub put_bit : (u : List ℕ) (r : ℕ) → some r ≡ planned_bit old new (planned_by d w) → u ≡ put_in t x r
      → u ≡ after_puts t (found_put x (planned_bit old new (planned_by d w)))
  put_bit u r h e = e ∙ found_one t x r _ (sym h)

-- ---- the entries of n slots

module _ (pin : ℕ → ℕ) (f : ℕ → Option ℕ) where
  put_length : (x : ℕ) (o : Option ℕ) → length (found_put x o) ≤ 1
  unfolding found_put
  put_length x none = omega arith
  put_length x (some v) = omega arith

  pub found_length : (n : ℕ) → length (found_below pin f n) ≤ n
  unfolding found_below
  found_length zero = omega arith
  found_length (suc n) = rw length-append (omega (arith, found_length n, put_length (pin n) (f (pin n))))

  pub found_more : (t : List ℕ) (n : ℕ) → after_puts (after_puts t (found_below pin f n)) (found_put (pin n) (f (pin n))) ≡ after_puts t (found_below pin f (n + 1))
  unfolding found_below
  found_more t n = rw add-one (sym (puts_after t (found_below pin f n) (found_put (pin n) (f (pin n)))))

  pub found_start : (t : List ℕ) → t ≡ after_puts t (found_below pin f 0)
  unfolding found_below after_puts
  found_start t = refl

  -- the last entry of pin x: the one that f gives, where a slot has it
  module _ (x : ℕ) where
    last-absent : (es : List Entry) (y : ℕ) (o : Option ℕ) → (y ≡ x → ⊥) → last_put (es ++ found_put y o) x ≡ last_put es x
    unfolding found_put
    last-absent es y none k = rw append-nil
    last-absent es y (some v) k = last_snoc none es (entry y v) x ∙ replaced_other (entry y v) x _ (λ z. k (sym z))

    last_here : (es : List Entry) (y : ℕ) (o : Option ℕ) (b : Bool) → y ≡ x → last_put es x ≡ elim b [ true ↦ o | false ↦ none ] → last_put (es ++ found_put y o) x ≡ o
    unfolding found_put
    last_here es y none true e r = rw append-nil r
    last_here es y none false e r = rw append-nil r
    last_here es y (some v) b e r = last_snoc none es (entry y v) x ∙ replaced_same (entry y v) x _ (sym e)

    pub found_last : (n : ℕ) → last_put (found_below pin f n) x ≡ elim (some_below (λ i. eqb (pin i) x) n) [ true ↦ f x | false ↦ none ]
    unfolding found_below some_below last_from
    found_last zero = refl
    found_last (suc n) = go (eqb (pin n) x) refl (found_last n)
      where
        go : (b : Bool) → eqb (pin n) x ≡ b → last_put (found_below pin f n) x ≡ elim (some_below (λ i. eqb (pin i) x) n) [ true ↦ f x | false ↦ none ]
            → last_put (found_below pin f n ++ found_put (pin n) (f (pin n))) x ≡ elim (some_below (λ i. eqb (pin i) x) n || eqb (pin n) x) [ true ↦ f x | false ↦ none ]
        go true e r =
            let s : pin n ≡ x = eqb-true _ _ e in
            rw (e, or-true (some_below (λ i. eqb (pin i) x) n))
            (ap (λ (o : Option ℕ). last_put (found_below pin f n ++ found_put (pin n) o) x) (ap f s)
            ∙ last_here (found_below pin f n) (pin n) (f x) (some_below (λ i. eqb (pin i) x) n) s r)
        go false e r =
            rw (e, or-false (some_below (λ i. eqb (pin i) x) n)) (last-absent (found_below pin f n) (pin n) (f (pin n)) (eqb-false _ _ e) ∙ r)

-- ---- what the table finds

module _ (d : List ℕ) (p : ℕ) (old new : List ℕ) where
  held_empty : (x : ℕ) → x ≡ empty → held_bit d old new x ≡ none
  unfolding held_bit
  held_empty x h = rw (eq-eqb _ _ h, held_bit)

  held-pin : (x : ℕ) → (x ≡ empty → ⊥) → held_bit d old new x ≡ planned_bit old new (planned d x)
  unfolding held_bit
  held-pin x h = rw (ne_eqb _ _ h, held_bit)

  held-lt : (x v : ℕ) → held_bit d old new x ≡ some v → v < 2
  unfolding held_bit
  held-lt x v h = go (eqb x empty) h
    where
      go : (b : Bool) → elim b [ true ↦ none | false ↦ planned_bit old new (planned d x) ] ≡ some v → v < 2
      go true e = let z : ◌≡◌ {A = ℕ} 0 1 = cc in absurd (omega arith)
      go false e = planned_lt old new (planned d x) v e

  module _ (n : ℕ) (wide : 16384 ≤ n) (x : ℕ) where
    pub known_finds : look (filled n (known_puts d p old new)) x ≡ elim (ltb p (parts_of d) && reads_pin d p x) [ true ↦ held_bit d old new x | false ↦ none ]
    unfolding known_puts reads_pin last_from
    known_finds = go (ltb p (parts_of d))
      where
        go : (b : Bool) → look (filled n (elim b [ true ↦ bit_puts d p old new (slots_of d) | false ↦ [] ])) x
            ≡ elim (b && some_below (λ j. eqb (level_at d p 0 j) x) (slots_of d)) [ true ↦ held_bit d old new x | false ↦ none ]
        go true =
            puts_look n (bit_puts d p old new (slots_of d)) x (omega (arith, found_length (level_at d p 0) (held_bit d old new) (slots_of d), lanes_range d))
            ∙ found_last (level_at d p 0) (held_bit d old new) x (slots_of d)
        go false = puts_look n [] x (omega arith)

    pub known_bit : (v : ℕ) → look (filled n (known_puts d p old new)) x ≡ some v → v < 2
    known_bit v h = go (ltb p (parts_of d) && reads_pin d p x) (sym known_finds ∙ h)
      where
        go : (b : Bool) → elim b [ true ↦ held_bit d old new x | false ↦ none ] ≡ some v → v < 2
        go true e = held-lt x v e
        go false e = let z : ◌≡◌ {A = ℕ} 0 1 = cc in absurd (omega arith)

    pub known_look : (x ≡ empty → ⊥) → look (filled n (known_puts d p old new)) x ≡ input d p old new x
    unfolding input
    known_look k =
        known_finds
        ∙ ap (λ (o : Option ℕ). elim (ltb p (parts_of d) && reads_pin d p x) [ true ↦ o | false ↦ none ]) (held-pin x k)

  pub puts_part : p < parts_of d → bit_puts d p old new (slots_of d) ≡ known_puts d p old new
  unfolding known_puts
  puts_part l = rw (lt-ltb _ _ l, known_puts)

  pub puts_past : parts_of d ≤ p → [] ≡ known_puts d p old new
  unfolding known_puts
  puts_past l = rw (le-ltb _ _ l, known_puts)

-- ---- one slot more, as the code reads it: x is the pin of slot j, t the words with the winners

module _ (d : List ℕ) (p : ℕ) (b : Body) (old new room : List ℕ) (ready : WinnersTabled d p b room) (j x : ℕ) (l : j < slots_of d) (read : x ≡ level_at d p 0 j) where
  pub bit_empty : x ≡ empty
      → room ≡ after_puts (take 32768 room) (found_put (level_at d p 0 j) (held_bit d old new (level_at d p 0 j))) ++ drop 32768 room
  bit_empty h =
      sym (take-append-drop 32768 room)
      ∙ ap (λ (a : List ℕ). a ++ drop 32768 room) (nothing_put (take 32768 room) (level_at d p 0 j) _ (held_empty d p old new _ (sym read ∙ h)))

  module _ (held : x ≡ empty → ⊥) (t : List ℕ) (part : t ≡ drop 32768 room) where
    slot-look : look t x ≡ some (winner d x)
    slot-look =
        ap (λ (a : List ℕ). look a x) (part ∙ ready.winners)
        ∙ planned_look d p x (length (drop 32768 room)) (omega (arith, length-drop 32768 room, ready.wide)) held (ap (reads_pin d p) read ∙ slot_read d p j l)

    pub bit_value : (f : code.Option ℕ) (w : ℕ) (u : List ℕ) → f ≡ item_of (look t x) → f ≡ Some w
        → u ≡ after_puts (take 32768 room) (found_put x (planned_bit old new (planned_by d w)))
        → u ++ drop 32768 room ≡ after_puts (take 32768 room) (found_put (level_at d p 0 j) (held_bit d old new (level_at d p 0 j))) ++ drop 32768 room
    bit_value f w u a v e =
        let k : Some w ≡ Some (winner d x) = sym v ∙ (a ∙ ap item_of slot-look) in
        let g : w ≡ winner d x = cc in
        let o : planned_bit old new (planned_by d w) ≡ held_bit d old new x =
        ap (λ (y : ℕ). planned_bit old new (planned_by d y)) g ∙ (ap (planned_bit old new) (sym (planned_winner d x)) ∙ sym (held-pin d p old new x held))
        in
        let q : found_put x (planned_bit old new (planned_by d w)) ≡ found_put (level_at d p 0 j) (held_bit d old new (level_at d p 0 j)) =
        ap (found_put x) o ∙ ap (λ (y : ℕ). found_put y (held_bit d old new y)) read
        in
        ap (λ (c : List ℕ). c ++ drop 32768 room) (e ∙ ap (after_puts (take 32768 room)) q)

    pub bit_missing : (f : code.Option ℕ) → f ≡ item_of (look t x) → f ≡ None → ⊥
    bit_missing f a v =
        let k : None ≡ Some (winner d x) = sym v ∙ (a ∙ ap item_of slot-look) in
        let z : ◌≡◌ {A = ℕ} 0 1 = cc in
        omega arith

pub rest_is : (room : List ℕ) (n : ℕ) → take (length room - n) (drop n room) ≡ drop n room
rest_is room n = take_all (length room - n) (drop n room) (omega (arith, length-drop n room))

-- ---- the room while the table is filled

pub clear_front : (room : List ℕ) → Clear room → take 32768 room ≡ replicate 32768 0
clear_front room c = ap (take 32768) c.is ∙ zeros_front (length room) 32768 (omega (arith, c.wide))

pub fill_kept : (d : List ℕ) (p : ℕ) (room ys : List ℕ) → Clear room → ys ≡ planned_table d p (length (take (length room - 32768) (drop 32768 room)))
    → length (take 32768 room ++ (ys ++ drop (length room - 32768) (drop 32768 room))) ≡ length room
fill_kept d p room ys c e =
    let n : length (take 32768 room) ≡ 32768 = length-take-le 32768 room (omega (arith, c.wide)) in
    let k : drop (length room - 32768) (drop 32768 room) ≡ [] = drop_of_length-le (drop 32768 room) {i = length room - 32768} (omega (arith, length-drop 32768 room)) in
    let z : ys ++ drop (length room - 32768) (drop 32768 room) ≡ ys = ap (λ (a : List ℕ). ys ++ a) k ∙ append-nil ys in
    let m : length ys ≡ length (take (length room - 32768) (drop 32768 room)) = ap length e ∙ planned_length d p _ in
    let r : length (take (length room - 32768) (drop 32768 room)) ≡ length room - 32768 = ap length (rest_is room 32768) ∙ length-drop 32768 room in
    ap (λ (a : List ℕ). length (take 32768 room ++ a)) z ∙ (length-append (take 32768 room) ys ∙ omega (arith, n, m, r, c.wide))

module _ (d : List ℕ) (p : ℕ) (b : Body) (old new : List ℕ) where
  pub fill_first : (room ys : List ℕ) → BodyOf d p b → 0 < b.stages → Clear room
      → ys ≡ planned_table d p (length (take (length room - 32768) (drop 32768 room)))
      → WinnersTabled d p b (take 32768 room ++ (ys ++ drop (length room - 32768) (drop 32768 room)))
      × (take 32768 (take 32768 room ++ (ys ++ drop (length room - 32768) (drop 32768 room))) ≡ filled 32768 (bit_puts d p old new 0))
  fill_first room ys body stages c e =
      let n : length (take 32768 room) ≡ 32768 = length-take-le 32768 room (omega (arith, c.wide)) in
      let k : drop (length room - 32768) (drop 32768 room) ≡ [] = drop_of_length-le (drop 32768 room) {i = length room - 32768} (omega (arith, length-drop 32768 room)) in
      let z : ys ++ drop (length room - 32768) (drop 32768 room) ≡ ys = ap (λ (a : List ℕ). ys ++ a) k ∙ append-nil ys in
      let m : length ys ≡ length (take (length room - 32768) (drop 32768 room)) = ap length e ∙ planned_length d p _ in
      let r : length (take (length room - 32768) (drop 32768 room)) ≡ length room - 32768 = ap length (rest_is room 32768) ∙ length-drop 32768 room in
      let t : take 32768 (take 32768 room ++ ys) ≡ take 32768 room = take_at (take 32768 room) ys 32768 n in
      let u : drop 32768 (take 32768 room ++ ys) ≡ ys = drop_at (take 32768 room) ys 32768 n in
      rw z (
        record {
          body = body;
          stages = stages;
          wide = rw length-append (omega (arith, n, m, r, c.wide));
          winners = u ∙ (e ∙ ap (planned_table d p) (sym (ap length u ∙ m)));
        },
        t ∙ (clear_front room c ∙ found_start (level_at d p 0) (held_bit d old new) (replicate 32768 0)),
      )

  pub fill_next : (room u : List ℕ) (j : ℕ) → WinnersTabled d p b room → take 32768 room ≡ filled 32768 (bit_puts d p old new j)
      → u ≡ after_puts (take 32768 room) (found_put (level_at d p 0 j) (held_bit d old new (level_at d p 0 j))) ++ drop 32768 room
      → (length u ≡ length room) × WinnersTabled d p b u × (take 32768 u ≡ filled 32768 (bit_puts d p old new (j + 1)))
  fill_next room u j r h e =
      let q = found_put (level_at d p 0 j) (held_bit d old new (level_at d p 0 j)) in
      let n : length (after_puts (take 32768 room) q) ≡ 32768 = puts_length (take 32768 room) q ∙ length-take-le 32768 room (omega (arith, r.wide)) in
      let t : take 32768 u ≡ after_puts (take 32768 room) q = ap (take 32768) e ∙ take_at (after_puts (take 32768 room) q) (drop 32768 room) 32768 n in
      let v : drop 32768 u ≡ drop 32768 room = ap (drop 32768) e ∙ drop_at (after_puts (take 32768 room) q) (drop 32768 room) 32768 n in
      let s : length u ≡ length room = ap length e ∙ (length-append (after_puts (take 32768 room) q) (drop 32768 room) ∙ omega (arith, n, length-drop 32768 room, r.wide)) in (
        s,
        record { body = r.body; stages = r.stages; wide = omega (arith, s, r.wide); winners = v ∙ (r.winners ∙ ap (λ (a : List ℕ). planned_table d p (length a)) (sym v)) },
        t ∙ (ap (λ (a : List ℕ). after_puts a q) h ∙ found_more (level_at d p 0) (held_bit d old new) (replicate 32768 0) j),
      )

module _ (d : List ℕ) (p : ℕ) (old new : List ℕ) where
  pub fill_read : (t : List ℕ) → p < parts_of d → t ≡ filled 32768 (bit_puts d p old new (slots_of d)) → t ≡ filled 32768 (known_puts d p old new)
  fill_read t l e = e ∙ ap (filled 32768) (puts_part d p old new l)

  zeros_filled : (n : ℕ) → replicate n 0 ≡ filled n []
  unfolding after_puts
  zeros_filled n = refl

  pub fill_past : (room : List ℕ) → parts_of d ≤ p → Clear room → take 32768 room ≡ filled 32768 (known_puts d p old new)
  fill_past room l c = clear_front room c ∙ (zeros_filled 32768 ∙ ap (filled 32768) (puts_past d p old new l))
