-- The bits of the listed pins. They ask for the same set as those of all slots, since a bit that is asked for again adds nothing; and each slot's is
-- among them, so that what holds of each of them holds of each slot's.
-- Assumes nothing.
use mathlib.Core.Path.{◌≡◌, refl, sym, ap, ◌∙◌}
use mathlib.Core.Bool.{Bool, true, false}
use mathlib.Core.Option.{Option, none, some}
use mathlib.Core.List.{List, [], ◌∷◌, ◌++◌, map, map-append, append-nil}
use Prim.Native.Nat.{ℕ, zero, suc, ◌+◌, ◌-◌, ◌^◌, ◌≤◌, ◌<◌}
use native.Mathlib.Nat.{not-suc-le-zero}
use native.Mathlib.Numerals.{add-one}
use native.Mathlib.Omega.{arith}
use borrow.Author.Tests.{eq-eqb, ne_eqb, eqb-true, eqb-false}
use lib.Dec.{eqb}
use lib.ListN.{length, get_or, set, take, drop, length-append, length-drop, length-map}
use lib.Seq.{sets, sets-eq, length-take-le, take-length, drop-length, take-suc, drop-cons, append_snoc, drop_at, get_or_at, set_at}
use Rattle.reads.specs.Asked.{ask, read_set_of}
use Rattle.reads_asked.specs.Rising.{Settable}
use Rattle.reads_asked.proofs.AskLaws.{set_snoc, set-again}
use Rattle.reads_asked.proofs.FrontStoreLaws.{take-front}
use Rattle.reads_asked.proofs.AskedFormLaws.{set_length_le}
use Rattle.words.specs.Pins.{empty}
use Rattle.plan_record.specs.Record.{slots_of}
use Rattle.plan_slots.specs.Puts.{read_pin, first_pins, read_pins, AllPins}
use Rattle.plan_slots.proofs.ListedLaws.{Step, vacant, again, fresh, step, Among, listed_among, FromSlot, listed_from}
use Rattle.plan_winners.specs.Planned.{Planned, planned}
use Rattle.plan_positions.proofs.PlannedLaws.{list_front}
use Rattle.plan_reads.specs.PartReads.{asked_by, asked_to, read_words}
use Rattle.plan_reads.specs.ReadsReady.{planned_number, bits_of, part_bits, Narrow, AllNarrow, Won, AllWon, ListWon, AllPlanned, SetRoom}
use Rattle.plan_reads.proofs.AskedLaws.{slot_asks, narrow_append}
use Rattle.plan_reads.proofs.FirstEntryLaws.{asked_in}

-- ---- each pin's bit in its place

-- the first i have their bits
pub record Asking (d keys₀ keys : List ℕ) (i : ℕ) : Type 0 where
  pub so_far : i ≤ length keys₀
  pub is : keys ≡ bits_of d (take i keys₀) ++ drop i keys₀
  pub narrow : AllNarrow (bits_of d (take i keys₀))

pub asking_start : (d keys : List ℕ) → Asking d keys keys 0
asking_start d keys = record { so_far = omega arith; is = refl; narrow = λ i l. absurd (omega arith) }

one_narrow : (q : ℕ) → Narrow q → AllNarrow (q ∷ [])
one_narrow q h zero l = h
one_narrow q h (suc i) l = absurd (omega arith)

module _ (d keys₀ keys : List ℕ) (i : ℕ) (a : Asking d keys₀ keys i) where
  front-size : length (bits_of d (take i keys₀)) ≡ i
  front-size = length-map (take i keys₀) (λ x. planned_number (planned d x)) ∙ length-take-le i keys₀ a.so_far

  pub asking_length : length keys ≡ length keys₀
  asking_length =
      ap length a.is ∙ (length-append (bits_of d (take i keys₀)) (drop i keys₀) ∙ omega (arith, front-size, length-drop i keys₀, a.so_far))

  module _ (here : i < length keys) where
    h : i < length keys₀
    h = omega (arith, asking_length)

    split : keys ≡ bits_of d (take i keys₀) ++ (get_or keys₀ i 0 ∷ drop (suc i) keys₀)
    split = a.is ∙ ap (λ (l : List ℕ). bits_of d (take i keys₀) ++ l) (drop-cons keys₀ i 0 h)

    kept : get_or keys i 0 ≡ get_or keys₀ i 0
    kept = ap (λ (l : List ℕ). get_or l i 0) split ∙ get_or_at (bits_of d (take i keys₀)) (get_or keys₀ i 0) (drop (suc i) keys₀) 0 i front-size

    pub asking_pin : (pins : List ℕ) → ListWon d pins keys₀ → (get_or keys i 0 < 2 ^ 32 - 1) × Won d pins (get_or keys i 0)
    asking_pin pins won = rw kept (won i h)

    pub asking_more : (q : ℕ) (keys' : List ℕ) → (q ≡ planned_number (planned d (get_or keys i 0))) × Narrow q → keys' ≡ set keys i q → Asking d keys₀ keys' (i + 1)
    asking_more q keys' (e, n) k =
        let bits : bits_of d (take (suc i) keys₀) ≡ bits_of d (take i keys₀) ++ (q ∷ []) =
        ap (bits_of d) (take-suc keys₀ i 0 h)
        ∙ (map-append (λ x. planned_number (planned d x)) (take i keys₀) (get_or keys₀ i 0 ∷ [])
        ∙ ap (λ (v : ℕ). bits_of d (take i keys₀) ++ (v ∷ [])) (sym (e ∙ ap (λ (x : ℕ). planned_number (planned d x)) kept)))
        in
        let put : keys' ≡ bits_of d (take i keys₀) ++ (q ∷ drop (suc i) keys₀) =
        k ∙ (ap (λ (l : List ℕ). set l i q) split ∙ set_at (bits_of d (take i keys₀)) (get_or keys₀ i 0) (drop (suc i) keys₀) q i front-size)
        in
        rw add-one
        (record {
          so_far = omega (arith, h);
          is = put ∙ (sym (append_snoc (bits_of d (take i keys₀)) q (drop (suc i) keys₀)) ∙ ap (λ (l : List ℕ). l ++ drop (suc i) keys₀) (sym bits));
          narrow = rw bits (narrow_append (bits_of d (take i keys₀)) (q ∷ []) a.narrow (one_narrow q n));
        })

  pub asking_all : length keys ≤ i → (keys ≡ bits_of d keys₀) × AllNarrow (bits_of d keys₀)
  asking_all h =
      let e : i ≡ length keys₀ = omega (arith, asking_length, a.so_far) in
      let all : take i keys₀ ≡ keys₀ = rw e (take-length keys₀) in
      let none_left : drop i keys₀ ≡ [] = rw e (drop-length keys₀) in
      (a.is ∙ (rw (all, none_left) (append-nil (bits_of d keys₀))), rw all at a.narrow)

-- ---- the list in the keys, then the bits in its place

store_front : (l vs : List ℕ) → length vs ≤ length l → sets l 0 vs ≡ vs ++ drop (length vs) l
store_front l vs h =
    let z : 0 + length vs ≡ length vs = omega arith in
    sets-eq vs l 0 (omega arith) ∙ ap (λ (m : ℕ). vs ++ drop m l) z

module _ (d : List ℕ) (p : ℕ) (keys : List ℕ) (n : ℕ) (list : List ℕ) (wide : 8192 ≤ length keys) (count : (n ≡ length (read_pins d p)) × (n ≤ 8192)) (holds : list ≡ sets keys 0 (read_pins d p)) where
  fits : length (read_pins d p) ≤ length keys
  fits = omega (arith, count.0, count.1)

  front : take n list ≡ read_pins d p
  front = list_front d p keys n list wide count holds

  pub list_won : (table : List ℕ) → AllWon d p table → AllPins (read_pins d p) → ListWon d table (take n list)
  unfolding read_pins
  list_won table won small =
      rw front
      (λ i l. (
        small i l,
        (let f : FromSlot (read_pin d p) (slots_of d) (get_or (first_pins (read_pin d p) (slots_of d)) i 0) = listed_from (read_pin d p) (slots_of d) i l in
            rw f.is (won f.slot f.below f.full)),
      ))

  pub bits_count : n ≡ length (part_bits d p)
  unfolding part_bits
  bits_count = count.0 ∙ sym (length-map (read_pins d p) (λ x. planned_number (planned d x)))

  pub bits_back : (ks : List ℕ) → ks ≡ bits_of d (take n list) → ks ++ drop n list ≡ sets keys 0 (part_bits d p)
  unfolding part_bits
  bits_back ks e =
      let same : length (part_bits d p) ≡ length (read_pins d p) = length-map (read_pins d p) (λ x. planned_number (planned d x)) in
      let rest : drop n list ≡ drop (length (read_pins d p)) keys =
      ap (λ (l : List ℕ). drop n l) (holds ∙ store_front keys (read_pins d p) fits)
      ∙ drop_at (read_pins d p) (drop (length (read_pins d p)) keys) n (sym count.0)
      in
      let bits : ks ≡ part_bits d p = e ∙ ap (bits_of d) front in
      rw (bits, rest, ← same) (sym (store_front keys (part_bits d p) (omega (arith, fits))))

  pub bits_narrow : AllNarrow (bits_of d (take n list)) → AllNarrow (part_bits d p)
  unfolding part_bits
  bits_narrow h = rw front at h

-- ---- the same set

module _ (d : List ℕ) (p : ℕ) (all : AllPlanned d p) where
  asks_none : (j : ℕ) → read_pin d p j ≡ empty → slot_asks d p j ≡ []
  unfolding asked_by
  asks_none j e = rw (eq-eqb _ _ e, asked_by)

  record Asks (j : ℕ) : Type 0 where
    pub position : Planned
    pub is : planned d (read_pin d p j) ≡ some position
    pub one : slot_asks d p j ≡ planned_number (planned d (read_pin d p j)) ∷ []

  asks-one : (j : ℕ) → j < slots_of d → (read_pin d p j ≡ empty → ⊥) → Asks j
  unfolding asked_by
  asks-one j l k = go (planned d (read_pin d p j)) refl
    where
      go : (o : Option Planned) → planned d (read_pin d p j) ≡ o → Asks j
      go none e = absurd (all j l k e)
      go (some y) e = record { position = y; is = e; one = rw (ne_eqb _ _ k, e, asked_by) }

  -- one slot more: s is the set of those before it
  same_step : (n : ℕ) → n < slots_of d → read_set_of (bits_of d (first_pins (read_pin d p) n)) ≡ read_set_of (asked_to d p n) → Step (read_pin d p) n
      → read_set_of (bits_of d (first_pins (read_pin d p) (suc n))) ≡ read_set_of (asked_to d p n ++ slot_asks d p n)
  same_step n h r (vacant k e) =
      ap (λ (l : List ℕ). read_set_of (bits_of d l)) e
      ∙ (r ∙ sym (ap (λ (l : List ℕ). read_set_of (asked_to d p n ++ l)) (asks_none n k) ∙ ap read_set_of (append-nil (asked_to d p n))))
  same_step n h r (again i l s k e) =
      let a : Asks i = asks-one i (omega arith) (λ z. k (sym s ∙ z)) in
      let b : Asks n = asks-one n h k in
      let q : ℕ = planned_number (planned d (read_pin d p n)) in
      let (at, inside, is) = asked_in d p n i a.position l (λ z. k (sym s ∙ z)) a.is in
      let there : get_or (asked_to d p n) at 0 ≡ q = is ∙ (sym (ap planned_number a.is) ∙ ap (λ (x : ℕ). planned_number (planned d x)) s) in
      ap (λ (l : List ℕ). read_set_of (bits_of d l)) e
      ∙ (r ∙ sym (ap (λ (l : List ℕ). read_set_of (asked_to d p n ++ l)) b.one ∙ (set_snoc (asked_to d p n) q ∙ set-again (asked_to d p n) q at inside there)))
  same_step n h r (fresh k e) =
      let b : Asks n = asks-one n h k in
      let q : ℕ = planned_number (planned d (read_pin d p n)) in
      ap (λ (l : List ℕ). read_set_of (bits_of d l)) e
      ∙ (ap read_set_of (map-append (λ x. planned_number (planned d x)) (first_pins (read_pin d p) n) (read_pin d p n ∷ []))
      ∙ (set_snoc (bits_of d (first_pins (read_pin d p) n)) q
      ∙ (ap (ask q) r ∙ sym (ap (λ (l : List ℕ). read_set_of (asked_to d p n ++ l)) b.one ∙ set_snoc (asked_to d p n) q))))

  same-to : (n : ℕ) → n ≤ slots_of d → read_set_of (bits_of d (first_pins (read_pin d p) n)) ≡ read_set_of (asked_to d p n)
  unfolding asked_to first_pins
  same-to zero h = refl
  same-to (suc n) h = same_step n h (same-to n (omega arith)) (step (read_pin d p) n)

  -- THE SAME SET
  pub same_set : read_set_of (part_bits d p) ≡ read_words d p
  unfolding read_words part_bits read_pins
  same_set = same-to (slots_of d) (omega arith)

  -- ---- narrow bits

  map_at : (f : ℕ → ℕ) (l : List ℕ) (i : ℕ) → i < length l → get_or (map f l) i 0 ≡ f (get_or l i 0)
  map_at f [] i h = absurd (not-suc-le-zero h)
  map_at f (x ∷ l) zero h = refl
  map_at f (x ∷ l) (suc i) h = map_at f l i (omega arith)

  module _ (narrow : AllNarrow (part_bits d p)) where
    slot-bit : (j : ℕ) → j < slots_of d → (read_pin d p j ≡ empty → ⊥) → Narrow (planned_number (planned d (read_pin d p j)))
    unfolding part_bits read_pins
    slot-bit j l k =
        let a : Among (read_pin d p) (slots_of d) (read_pin d p j) = listed_among (read_pin d p) (slots_of d) j l k in
        let pins : List ℕ = first_pins (read_pin d p) (slots_of d) in
        let e : get_or (bits_of d pins) a.at 0 ≡ planned_number (planned d (read_pin d p j)) =
        map_at (λ x. planned_number (planned d x)) pins a.at a.inside ∙ ap (λ (x : ℕ). planned_number (planned d x)) a.is
        in
        rw e at (narrow a.at (omega (arith, a.inside, length-map pins (λ x. planned_number (planned d x)))))

    slot-narrow : (j : ℕ) → j < slots_of d → AllNarrow (slot_asks d p j)
    slot-narrow j l = go (eqb (read_pin d p j) empty) refl
      where
        go : (b : Bool) → eqb (read_pin d p j) empty ≡ b → AllNarrow (slot_asks d p j)
        go true e = rw (asks_none j (eqb-true _ _ e)) (λ i h. absurd (omega arith))
        go false e = rw (asks-one j l (eqb-false _ _ e)).one (one_narrow _ (slot-bit j l (eqb-false _ _ e)))

    narrow-to : (n : ℕ) → n ≤ slots_of d → AllNarrow (asked_to d p n)
    unfolding asked_to
    narrow-to zero h = λ i l. absurd (omega arith)
    narrow-to (suc n) h = narrow_append (asked_to d p n) (slot_asks d p n) (narrow-to n (omega arith)) (slot-narrow n h)

    pub asked_narrow : AllNarrow (asked_to d p (slots_of d))
    asked_narrow = narrow-to (slots_of d) (omega arith)

-- ---- the read set

module _ (d : List ℕ) (p : ℕ) (keys scratch set₀ : List ℕ) (n : ℕ) (keys' : List ℕ) (room : SetRoom (length keys) (length scratch) (length set₀)) (count : (n ≡ length (part_bits d p)) × (n ≤ 8192)) (holds : keys' ≡ sets keys 0 (part_bits d p)) (narrow : AllNarrow (part_bits d p)) where
  pub asked_front : take n keys' ≡ part_bits d p
  asked_front = rw (holds, count.0) (take-front keys (part_bits d p) (omega (arith, room.keys-room)))

  pub asked_size : n ≡ length (take n keys')
  asked_size = count.0 ∙ sym (ap length asked_front)

  pub asked_settable : (ks : List ℕ) → ks ≡ take n keys' → Settable ks scratch set₀
  asked_settable ks e =
      let q : ks ≡ part_bits d p = e ∙ asked_front in
      rw q
      (record {
        small = λ i l. (narrow i l).small;
        scratch-room = omega (arith, room.scratch-room);
        room = omega (arith, room.set_room);
      })

  module _ (all : AllPlanned d p) (ks : List ℕ) (r : ℕ) (set' : List ℕ) (e : ks ≡ take n keys') (c : r ≡ length (read_set_of ks)) (h : set' ≡ sets set₀ 0 (read_set_of ks)) where
    words : read_set_of ks ≡ read_words d p
    words = ap read_set_of (e ∙ asked_front) ∙ same_set d p all

    pub asked_count : (r ≡ length (read_words d p)) × (r ≤ 16384)
    asked_count = (c ∙ ap length words, omega (arith, set_length_le ks, ap length (e ∙ asked_front), count.0, count.1, c))

    pub asked_set : (set' ≡ sets set₀ 0 (read_words d p)) × AllNarrow (asked_to d p (slots_of d))
    asked_set = (h ∙ ap (sets set₀ 0) words, asked_narrow d p all narrow)
