-- The pins that a part reads, each once: each pin of a slot is among them, each of them is a slot's, and the table and the list go on together slot by
-- slot. A pin that was put before is found with 0, so that its put would change nothing.
-- Assumes nothing.
use mathlib.Core.Path.{◌≡◌, refl, sym, ap, subst, ◌∙◌}
use mathlib.Core.Bool.{Bool, true, false}
use mathlib.Core.List.{List, [], ◌∷◌, ◌++◌, append-nil}
use mathlib.Core.Logic.{⊎_elim}
use mathlib.Core.Option.{some}
use Prim.Native.Nat.{ℕ, zero, suc, ◌+◌, ◌*◌, ◌^◌, ◌≤◌, ◌<◌}
use native.Mathlib.Omega.{arith}
use native.Mathlib.Numerals.{add-one}
use borrow.Author.Tests.{eq-eqb, ne_eqb, eqb-true, eqb-false}
use lib.Dec.{eqb}
use lib.ListN.{length, get_or, set, replicate, length-append, length-replicate, get_or-append}
use lib.Seq.{sets, length-sets, set-get_or, get_or-append-add}
use Rattle.words.proofs.ListLaws.{sets_append}
use Rattle.words.proofs.BitLaws.{lt_or_ge}
use Rattle.pinmap.specs.declared.Slot.{Slot}
use Rattle.pinmap.specs.declared.Slot.TheVariants.{Free, Taken, Nowhere}
use Rattle.std.specs.Prelude.{Some, None}
use Rattle.std.specs.declared.option.Option as code
use Rattle.words.specs.Found.{item_of}
use Rattle.pinmap.specs.PinMap.{value_at, slot_of, look_at, look, put_at, put_in, after_puts}
use Rattle.words.specs.Pins.{empty}
use Rattle.words.specs.Tests.{some_below}
use Rattle.plan_record.specs.Record.{slots_of}
use Rattle.plan_record.proofs.RecordLaws.{lanes_range}
use Rattle.words.proofs.TestLaws.{some_found, some_not_none}
use Rattle.plan_slots.specs.Puts.{held_at, held_below, read_puts, new_pin, first_pins, read_pin, read_pins, AllPins, filled, FilledWith, found_if}
use Rattle.plan_slots.proofs.PutLaws.{held_none, held_one, held_length, filled_holds, last_put_found, fill_start, fill_more, fill_end}

-- ---- a put of what is found changes nothing

pub put_same : (t : List ℕ) (x v : ℕ) → look t x ≡ some v → put_in t x v ≡ t
unfolding look_at put_at
put_same t x v h = go (slot_of t x) h
  where
    go : (s : Slot) → look_at t s ≡ some v → put_at t x v s ≡ t
    go (Free i) e = absurd (some_not_none (sym e))
    go (Taken i) e =
        let w : value_at t i ≡ v = cc in
        rw (← w) (set-get_or t (2 * i + 1) 0)
    go Nowhere e = refl

-- ---- one slot more

module _ (pin : ℕ → ℕ) where
  new-empty : (n : ℕ) → pin n ≡ empty → new_pin pin n ≡ []
  unfolding new_pin
  new-empty n e = rw (eq-eqb _ _ e, new_pin)

  new-seen : (n : ℕ) → (pin n ≡ empty → ⊥) → some_below (λ i. eqb (pin i) (pin n)) n ≡ true → new_pin pin n ≡ []
  unfolding new_pin
  new-seen n k s = rw (ne_eqb _ _ k, s, new_pin)

  new-one : (n : ℕ) → (pin n ≡ empty → ⊥) → some_below (λ i. eqb (pin i) (pin n)) n ≡ false → new_pin pin n ≡ pin n ∷ []
  unfolding new_pin
  new-one n k s = rw (ne_eqb _ _ k, s, new_pin)

  -- a slot is empty, or has the pin of an earlier one, or a new pin
  pub data Step (n : ℕ) : Type 0 where
    vacant : pin n ≡ empty → first_pins pin (suc n) ≡ first_pins pin n → Step n
    again : (i : ℕ) → i < n → pin i ≡ pin n → (pin n ≡ empty → ⊥) → first_pins pin (suc n) ≡ first_pins pin n → Step n
    fresh : (pin n ≡ empty → ⊥) → first_pins pin (suc n) ≡ first_pins pin n ++ (pin n ∷ []) → Step n

  pub step : (n : ℕ) → Step n
  unfolding first_pins
  step n = go (eqb (pin n) empty) refl (some_below (λ i. eqb (pin i) (pin n)) n) refl
    where
      none-new : new_pin pin n ≡ [] → first_pins pin n ++ new_pin pin n ≡ first_pins pin n
      none-new e = ap (λ (l : List ℕ). first_pins pin n ++ l) e ∙ append-nil (first_pins pin n)

      go : (b : Bool) → eqb (pin n) empty ≡ b → (s : Bool) → some_below (λ i. eqb (pin i) (pin n)) n ≡ s → Step n
      go true e s f = vacant (eqb-true _ _ e) (none-new (new-empty n (eqb-true _ _ e)))
      go false e true f =
          let (i, l, h) = some_found (λ i. eqb (pin i) (pin n)) n f in
          again i l (eqb-true _ _ h) (eqb-false _ _ e) (none-new (new-seen n (eqb-false _ _ e) f))
      go false e false f = fresh (eqb-false _ _ e) (ap (λ (l : List ℕ). first_pins pin n ++ l) (new-one n (eqb-false _ _ e) f))

  -- ---- each pin of a slot is listed

  pub record Among (n x : ℕ) : Type 0 where
    pub at : ℕ
    pub inside : at < length (first_pins pin n)
    pub is : get_or (first_pins pin n) at 0 ≡ x

  among-on : (n x : ℕ) → Among n x → Step n → Among (suc n) x
  among-on n x a (vacant k e) = record { at = a.at; inside = rw e a.inside; is = rw e a.is }
  among-on n x a (again i l h k e) = record { at = a.at; inside = rw e a.inside; is = rw e a.is }
  among-on n x a (fresh k e) = record {
    at = a.at;
    inside = rw (e, length-append) (omega (arith, a.inside));
    is = rw e (get_or-append (first_pins pin n) (pin n ∷ []) 0 a.at a.inside ∙ a.is);
  }

  -- the last slot's pin, where those of the earlier ones are listed
  among-last : (n : ℕ) → ((i : ℕ) → i < n → (pin i ≡ empty → ⊥) → Among n (pin i)) → (pin n ≡ empty → ⊥) → Step n → Among (suc n) (pin n)
  among-last n r k (vacant f e) = absurd (k f)
  among-last n r k (again i h s f e) = rw (← s) (among-on n (pin i) (r i h (λ z. f (sym s ∙ z))) (again i h s f e))
  among-last n r k (fresh f e) = record {
    at = length (first_pins pin n) + 0;
    inside = rw (e, length-append) (omega arith);
    is = rw e (get_or-append-add (first_pins pin n) (pin n ∷ []) 0 0);
  }

  pub listed_among : (n j : ℕ) → j < n → (pin j ≡ empty → ⊥) → Among n (pin j)
  listed_among zero j l k = absurd (omega arith)
  listed_among (suc n) j l k =
      ⊎_elim (λ h. among-on n (pin j) (listed_among n j h k) (step n))
      (λ h. let e : n ≡ j = omega arith in
      subst (λ (x : ℕ). Among (suc n) (pin x)) e (among-last n (λ i g f. listed_among n i g f) (λ z. k (ap pin (sym e) ∙ z)) (step n)))
      (lt_or_ge j n)

  -- ---- and each that is listed is a slot's

  pub record FromSlot (n x : ℕ) : Type 0 where
    pub slot : ℕ
    pub below : slot < n
    pub full : pin slot ≡ empty → ⊥
    pub is : x ≡ pin slot

  from_on : (n x : ℕ) → FromSlot n x → FromSlot (suc n) x
  from_on n x f = record { slot = f.slot; below = omega (arith, f.below); full = f.full; is = f.is }

  from_step : (n i : ℕ) → ((k : ℕ) → k < length (first_pins pin n) → FromSlot n (get_or (first_pins pin n) k 0)) → i < length (first_pins pin (suc n)) → Step n
      → FromSlot (suc n) (get_or (first_pins pin (suc n)) i 0)
  from_step n i r l (vacant f e) = rw e (from_on n _ (r i (rw e at l)))
  from_step n i r l (again j h s f e) = rw e (from_on n _ (r i (rw e at l)))
  from_step n i r l (fresh f e) = rw e (⊎_elim before after (lt_or_ge i (length (first_pins pin n))))
    where
      m : i < length (first_pins pin n) + 1
      m = omega (arith, l, ap length e, length-append (first_pins pin n) (pin n ∷ []))

      before : i < length (first_pins pin n) → FromSlot (suc n) (get_or (first_pins pin n ++ (pin n ∷ [])) i 0)
      before h = rw (get_or-append (first_pins pin n) (pin n ∷ []) 0 i h) (from_on n _ (r i h))

      after : length (first_pins pin n) ≤ i → FromSlot (suc n) (get_or (first_pins pin n ++ (pin n ∷ [])) i 0)
      after h =
          let q : i ≡ length (first_pins pin n) + 0 = omega (arith, m) in
          rw (q, get_or-append-add (first_pins pin n) (pin n ∷ []) 0 0) (record { slot = n; below = omega arith; full = f; is = refl })

  pub listed_from : (n i : ℕ) → i < length (first_pins pin n) → FromSlot n (get_or (first_pins pin n) i 0)
  unfolding first_pins
  listed_from zero i l = absurd (omega arith)
  listed_from (suc n) i l = from_step n i (λ k h. listed_from n k h) l (step n)

-- ---- what a look tells of a slot

value_seen : (b : Bool) (v : ℕ) → Some v ≡ item_of (found_if b 0) → b ≡ true
value_seen true v e = refl
value_seen false v e = let z : ◌≡◌ {A = ℕ} 0 1 = cc in absurd (omega arith)

missing_new : (b : Bool) → None ≡ item_of (found_if b 0) → b ≡ false
missing_new true e = let z : ◌≡◌ {A = ℕ} 0 1 = cc in absurd (omega arith)
missing_new false e = refl

-- what one slot does to the table, the list and the number of pins
abbrev pub Listed : List ℕ → ℕ → List ℕ → List ℕ → ℕ → ℕ → List ℕ → List ℕ → ℕ → Type 0
Listed d p t l n j t' l' r =
    (r ≡ n + length (new_pin (read_pin d p) j))
    × ((t' ≡ after_puts t (held_at (read_pin d p j) 0)) × ((l' ≡ sets l n (new_pin (read_pin d p) j)) × AllPins (new_pin (read_pin d p) j)))

module _ (d : List ℕ) (p : ℕ) (t l : List ℕ) (n j x : ℕ) (read : x ≡ read_pin d p j) where
  pub slot_empty : x ≡ empty → Listed d p t l n j t l n
  slot_empty e =
      let k : read_pin d p j ≡ empty = sym read ∙ e in
      let new : new_pin (read_pin d p) j ≡ [] = new-empty (read_pin d p) j k in
      rw new (omega arith, (held_none t _ 0 k, (refl, λ i h. absurd (omega arith))))

  module _ (full : x ≡ empty → ⊥) (below : j < slots_of d) (f : FilledWith (held_below (read_pin d p) (λ k. 0) j) t) (r : code.Option ℕ) (told : r ≡ item_of (look t x)) where
    abbrev seen : Bool
    seen = some_below (λ i. eqb (read_pin d p i) (read_pin d p j)) j

    there : read_pin d p j ≡ empty → ⊥
    there e = full (read ∙ e)

    slot-look : look t (read_pin d p j) ≡ found_if seen 0
    slot-look =
        ap (λ (u : List ℕ). look u (read_pin d p j)) f.is
        ∙ ((filled_holds (length t) (held_below (read_pin d p) (λ k. 0) j) (omega (arith, f.wide, held_length (read_pin d p) (λ k. 0) j, lanes_range d))).finds (read_pin d p j)
        ∙ last_put_found (read_pin d p) 0 j (read_pin d p j) there)

    tells : r ≡ item_of (found_if seen 0)
    tells = told ∙ (ap (λ (y : ℕ). item_of (look t y)) read ∙ ap item_of slot-look)

    pub slot_again : (v : ℕ) → r ≡ Some v → Listed d p t l n j t l n
    slot_again v e =
        let s : seen ≡ true = value_seen seen v (sym e ∙ tells) in
        let new : new_pin (read_pin d p) j ≡ [] = new-seen (read_pin d p) j there s in
        let same : put_in t (read_pin d p j) 0 ≡ t = put_same t _ 0 (slot-look ∙ ap (λ (b : Bool). found_if b 0) s) in
        rw new (omega arith, (sym same ∙ held_one t _ 0 there, (refl, λ i h. absurd (omega arith))))

    pub slot_new : (t' l' : List ℕ) → r ≡ None → t' ≡ put_in t x 0 → l' ≡ set l n x → x < 2 ^ 32 → Listed d p t l n j t' l' (n + 1)
    slot_new t' l' e a b small =
        let s : seen ≡ false = missing_new seen (sym e ∙ tells) in
        let new : new_pin (read_pin d p) j ≡ x ∷ [] = new-one (read_pin d p) j there s ∙ ap (λ (y : ℕ). y ∷ []) (sym read) in
        rw new (omega arith, (a ∙ (ap (λ (y : ℕ). put_in t y 0) read ∙ held_one t _ 0 there), (b, one)))
      where
        one : AllPins (x ∷ [])
        one zero h = omega (arith, full)
        one (suc i) h = absurd (omega arith)

-- ---- all slots

pub pins_append : (a b : List ℕ) → AllPins a → AllPins b → AllPins (a ++ b)
pins_append [] b f g i l = g i l
pins_append (x ∷ a) b f g zero l = f zero (omega arith)
pins_append (x ∷ a) b f g (suc i) l = pins_append a b (λ k m. f (suc k) (omega arith)) g i (omega arith)

new_most : (pin : ℕ → ℕ) (n : ℕ) → length (new_pin pin n) ≤ 1
unfolding new_pin
new_most pin n = go (eqb (pin n) empty) (some_below (λ i. eqb (pin i) (pin n)) n)
  where
    go : (b s : Bool) → length {A = ℕ} (elim b [ true ↦ [] | false ↦ elim s [ true ↦ [] | false ↦ pin n ∷ [] ] ]) ≤ 1
    go true s = omega arith
    go false true = omega arith
    go false false = omega arith

-- the first j slots are put and listed
pub record Listing (d : List ℕ) (p : ℕ) (t₀ l₀ t l : List ℕ) (n j : ℕ) : Type 0 where
  pub so_far : j ≤ slots_of d
  pub size : length t ≡ length t₀
  pub puts : t ≡ filled (length t) (held_below (read_pin d p) (λ k. 0) j)
  pub count : n ≡ length (first_pins (read_pin d p) j)
  pub few : n ≤ j
  pub holds : l ≡ sets l₀ 0 (first_pins (read_pin d p) j)
  pub pins : AllPins (first_pins (read_pin d p) j)

pub listing_start : (d : List ℕ) (p : ℕ) (t l : List ℕ) (m : ℕ) → t ≡ replicate m 0 → Listing d p t l t l 0 0
unfolding first_pins
listing_start d p t l m h = record {
  so_far = omega arith;
  size = refl;
  puts = fill_start (read_pin d p) (λ k. 0) t m h;
  count = refl;
  few = omega arith;
  holds = refl;
  pins = λ i k. absurd (omega arith);
}

module _ (d : List ℕ) (p : ℕ) (t₀ l₀ t l : List ℕ) (n j : ℕ) (a : Listing d p t₀ l₀ t l n j) where
  pub listing_length : length l ≡ length l₀
  listing_length = ap length a.holds ∙ length-sets l₀ 0 (first_pins (read_pin d p) j)

  pub listing_filled : (m : ℕ) → t₀ ≡ replicate m 0 → 32768 ≤ m → FilledWith (held_below (read_pin d p) (λ k. 0) j) t
  listing_filled m z h = record { wide = omega (arith, a.size, ap length z, length-replicate {A = ℕ} m 0); is = a.puts }

  pub listing_more : (t' l' : List ℕ) (r : ℕ) → j < slots_of d → Listed d p t l n j t' l' r → Listing d p t₀ l₀ t' l' r (j + 1)
  unfolding first_pins
  listing_more t' l' r h (c, (u, (k, f))) =
      let e : first_pins (read_pin d p) (j + 1) ≡ first_pins (read_pin d p) j ++ new_pin (read_pin d p) j = rw (add-one, first_pins) in
      let at : n ≡ 0 + length (first_pins (read_pin d p) j) = omega (arith, a.count) in
      let (size, is) = fill_more (read_pin d p) (λ k. 0) t t' j a.puts u in
      record {
        so_far = omega arith;
        size = size ∙ a.size;
        puts = is;
        count = c ∙ rw (e, length-append, a.count);
        few = omega (arith, new_most (read_pin d p) j, a.few);
        holds = k ∙ rw (e, sets_append l₀ 0 (first_pins (read_pin d p) j) (new_pin (read_pin d p) j), ← a.holds, ← at);
        pins = rw e (pins_append (first_pins (read_pin d p) j) (new_pin (read_pin d p) j) a.pins f);
      }

  pub listing_all : (m : ℕ) → t₀ ≡ replicate m 0 → slots_of d ≤ j
      → ((n ≡ length (read_pins d p)) × (n ≤ slots_of d)) × ((t ≡ filled m (read_puts d p)) × ((l ≡ sets l₀ 0 (read_pins d p)) × AllPins (read_pins d p)))
  unfolding read_pins read_puts
  listing_all m z h =
      let e : j ≡ slots_of d = omega (arith, a.so_far) in (
        (rw e at a.count, omega (arith, a.few)),
        (fill_end (read_pin d p) (λ k. 0) t₀ t m (slots_of d) j z a.size a.puts e, (rw e at a.holds, rw e at a.pins)),
      )
