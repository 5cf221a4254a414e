-- What the entries put in order leave for a pin is the number of the entry that wins for it, and that entry gives its planned position.
-- Assumes nothing.
use mathlib.Core.Path.{◌≡◌, refl, sym, ap, ap₂, ◌∙◌}
use mathlib.Core.Bool.{Bool, true, false, not, ◌&&◌, and-false}
use mathlib.Core.Option.{Option, none, some}
use mathlib.Core.List.{List, [], ◌∷◌, ◌++◌}
use Prim.Native.Nat.{ℕ, zero, suc, ◌+◌, ◌-◌, ◌≤◌, ◌<◌}
use native.Mathlib.Numerals.{add-one}
use native.Mathlib.Omega.{arith}
use borrow.Author.Tests.{eq-eqb, ne_eqb, eqb-true, eqb-false, lt-ltb, le-ltb}
use lib.Dec.{eqb}
use lib.ListN.{length}
use Rattle.pinmap.specs.PinMap.{look, put_there, Entry, entry, replaced, last_from, renewed, after_renewals, Holds}
use Rattle.pinmap.proofs.PinMapLaws.{replaced_same, replaced_other, there_length}
use Rattle.pinmap.proofs.HoldsLaws.{renewed_none, renewed_all}
use Rattle.plan_record.specs.Record.{layout_of, layout_pin, positions_of, position_pin, position_state, position_staged}
use Rattle.words.specs.Pins.{empty}
use Rattle.plan_record.specs.Form.{plan_form}
use Rattle.words.proofs.TestLaws.{and_true}
use Rattle.plan_record.proofs.PlanFormLaws.{formed}
use Rattle.plan_winners.specs.Planned.{last_below, in_layout, in_positions, planned}
use Rattle.plan_winners.specs.Winners.{layout_number, position_number, numbered, winner, planned_by, chosen_put, chosen_puts, in_use, has_mark, layout_puts, marked_puts, winner_puts, ListsInRange}

-- ---- the last that a test holds of

pub last_found : (f : ℕ → Bool) (n i : ℕ) → last_below f n ≡ some i → (i < n) × (f i ≡ true)
unfolding last_below
last_found f zero i h = let z : ◌≡◌ {A = ℕ} 0 1 = cc in absurd (omega arith)
last_found f (suc n) i h = go (f n) refl h (last_found f n i)
  where
    go : (b : Bool) → f n ≡ b → elim b [ true ↦ some n | false ↦ last_below f n ] ≡ some i → (last_below f n ≡ some i → (i < n) × (f i ≡ true)) → (i < suc n) × (f i ≡ true)
    go true e k r = let s : n ≡ i = cc in (omega arith, ap f (sym s) ∙ e)
    go false e k r = let (l, t) = r k in (omega arith, t)

pub last_ext : (f g : ℕ → Bool) (n : ℕ) → ((i : ℕ) → i < n → f i ≡ g i) → last_below f n ≡ last_below g n
unfolding last_below
last_ext f g zero h = refl
last_ext f g (suc n) h = go (f n) refl (last_ext f g n (λ i l. h i (omega arith)))
  where
    go : (b : Bool) → f n ≡ b → last_below f n ≡ last_below g n → last_below f (suc n) ≡ last_below g (suc n)
    go true e r = let k : g n ≡ true = sym (h n (omega arith)) ∙ e in rw (e, k, last_below)
    go false e r = let k : g n ≡ false = sym (h n (omega arith)) ∙ e in rw (e, k, last_below) r

-- ---- a winner gives the planned position

pub by_none : (d : List ℕ) → planned_by d 0 ≡ none
unfolding planned_by
by_none d = refl

pub by_layout : (d : List ℕ) (w : ℕ) → 0 < w → w ≤ layout_of d → planned_by d w ≡ some (record { staged = 0; place = w - 1 })
unfolding planned_by
by_layout d zero p l = absurd (omega arith)
by_layout d (suc i) p l =
    let e : suc i - 1 ≡ i = omega arith in
    rw (lt-ltb i (layout_of d) (omega arith), planned_by, e)

pub by_position : (d : List ℕ) (w i : ℕ) → w ≡ position_number d i → planned_by d w ≡ some (record { staged = position_staged d i; place = position_state d i })
unfolding planned_by
by_position d zero i h = absurd (omega arith)
by_position d (suc j) i h =
    let e : j - layout_of d ≡ i = omega arith in
    rw (le-ltb j (layout_of d) (omega arith), planned_by, e)

in_layout_found : (d : List ℕ) (x i : ℕ) → in_layout d x ≡ some i → i < layout_of d
unfolding in_layout
in_layout_found d x i h = (last_found _ (layout_of d) i h).0

in_positions_found : (d : List ℕ) (k x i : ℕ) → in_positions d k x ≡ some i → position_staged d i ≡ k
unfolding in_positions
in_positions_found d k x i h = eqb-true _ _ (and_true _ _ (last_found _ (positions_of d) i h).1).0

pub planned_winner : (d : List ℕ) (x : ℕ) → planned d x ≡ planned_by d (winner d x)
unfolding planned winner
planned_winner d x = go (in_positions d 0 x) refl (in_layout d x) refl (in_positions d 1 x) refl
  where
    go : (a : Option ℕ) → in_positions d 0 x ≡ a → (b : Option ℕ) → in_layout d x ≡ b → (e : Option ℕ) → in_positions d 1 x ≡ e
        → planned d x ≡ planned_by d (winner d x)
    go (some i) p b q e r =
        let m : position_staged d i ≡ 0 = in_positions_found d 0 x i p in
        rw (p, planned, winner, by_position d (position_number d i) i refl, m)
    go none p (some i) q e r =
        let s : layout_number i - 1 ≡ i = omega arith in
        rw (p, q, planned, winner, by_layout d (layout_number i) (omega arith) (omega (arith, in_layout_found d x i q)), s)
    go none p none q (some i) r =
        let m : position_staged d i ≡ 1 = in_positions_found d 1 x i r in
        rw (p, q, r, planned, winner, by_position d (position_number d i) i refl, m)
    go none p none q none r = rw (p, q, r, planned, winner, by_none)

-- ---- renewals one after the other

pub renewals_append : (t : List ℕ) (es fs : List Entry) → after_renewals t (es ++ fs) ≡ after_renewals (after_renewals t es) fs
unfolding after_renewals
renewals_append t [] fs = refl
renewals_append t (e ∷ es) fs = renewals_append (put_there t e.pin e.value) es fs

pub renewals_length : (t : List ℕ) (es : List Entry) → length (after_renewals t es) ≡ length t
unfolding after_renewals
renewals_length t [] = refl
renewals_length t (e ∷ es) = renewals_length (put_there t e.pin e.value) es ∙ there_length t e.pin e.value

-- one entry of a list, and the next
pub chosen_out : (t : List ℕ) (b : Bool) (x w : ℕ) → b ≡ false → t ≡ after_renewals t (chosen_put b x w)
unfolding chosen_put after_renewals
chosen_out t b x w h = rw (h, chosen_put, after_renewals)

pub chosen_in : (t : List ℕ) (b : Bool) (x w : ℕ) → b ≡ true → put_there t x w ≡ after_renewals t (chosen_put b x w)
unfolding chosen_put after_renewals
chosen_in t b x w h = rw (h, chosen_put, after_renewals)

pub chosen_none : (t : List ℕ) (chosen : ℕ → Bool) (pin number : ℕ → ℕ) → t ≡ after_renewals t (chosen_puts chosen pin number 0)
unfolding chosen_puts after_renewals
chosen_none t chosen pin number = refl

pub chosen_more : (t u : List ℕ) (chosen : ℕ → Bool) (pin number : ℕ → ℕ) (n : ℕ) → u ≡ after_renewals t (chosen_puts chosen pin number n)
    → after_renewals u (chosen_put (chosen n) (pin n) (number n)) ≡ after_renewals t (chosen_puts chosen pin number (n + 1))
unfolding chosen_puts
chosen_more t u chosen pin number n h = rw (h, add-one, chosen_puts, renewals_append)

-- entry i of the layout, read as x
module _ (d t : List ℕ) (i x : ℕ) (read : x ≡ layout_pin d i) where
  pub layout_empty : x ≡ empty → t ≡ after_renewals t (chosen_put (in_use d i) (layout_pin d i) (layout_number i))
  layout_empty h = chosen_out t (in_use d i) (layout_pin d i) (layout_number i) (ap not (eq-eqb _ _ (sym read ∙ h)))

  pub layout_put : (u : List ℕ) → (x ≡ empty → ⊥) → u ≡ put_there t x (1 + i) → u ≡ after_renewals t (chosen_put (in_use d i) (layout_pin d i) (layout_number i))
  layout_put u h e =
      let used = ap not (ne_eqb _ _ (λ z. h (read ∙ z))) in
      e ∙ ap (λ (y : ℕ). put_there t y (1 + i)) read ∙ chosen_in t (in_use d i) (layout_pin d i) (layout_number i) used

-- entry i of the positions, whose mark is read as m
module _ (d t : List ℕ) (i k m : ℕ) (read : m ≡ position_staged d i) where
  pub position_other : (m ≡ k → ⊥) → t ≡ after_renewals t (chosen_put (has_mark d k i) (position_pin d i) (position_number d i))
  position_other h = chosen_out t (has_mark d k i) (position_pin d i) (position_number d i) (ne_eqb _ _ (λ z. h (read ∙ z)))

  pub position_put : (u : List ℕ) (x first : ℕ) → m ≡ k → x ≡ position_pin d i → first ≡ 1 + layout_of d → u ≡ put_there t x (first + i)
      → u ≡ after_renewals t (chosen_put (has_mark d k i) (position_pin d i) (position_number d i))
  position_put u x first h w f e =
      let chosen = eq-eqb _ _ (sym read ∙ h) in
      e ∙ ap₂ (λ (y z : ℕ). put_there t y (z + i)) w f ∙ chosen_in t (has_mark d k i) (position_pin d i) (position_number d i) chosen

-- all three lists
pub winners_put : (d t a b e : List ℕ) → a ≡ after_renewals t (marked_puts d 1 (positions_of d)) → b ≡ after_renewals a (layout_puts d (layout_of d))
    → e ≡ after_renewals b (marked_puts d 0 (positions_of d)) → e ≡ after_renewals t (winner_puts d)
unfolding winner_puts
winners_put d t a b e p q r = rw (renewals_append t (marked_puts d 1 (positions_of d)), renewals_append (after_renewals t (marked_puts d 1 (positions_of d)))) (rw (q, p) at r)

-- ---- what is left for a pin

last_append : (o : Option ℕ) (es fs : List Entry) (x : ℕ) → last_from o (es ++ fs) x ≡ last_from (last_from o es x) fs x
unfolding last_from
last_append o [] fs x = refl
last_append o (e ∷ es) fs x = last_append (replaced e x o) es fs x

module _ (chosen : ℕ → Bool) (pin number : ℕ → ℕ) (x : ℕ) where
  -- of the first n entries the last one for pin x
  abbrev found : ℕ → Option ℕ
  found n = last_below (λ i. chosen i && eqb (pin i) x) n

  pub chosen_last : (n w : ℕ) → last_from (some w) (chosen_puts chosen pin number n) x ≡ some (numbered number (found n) w)
  unfolding chosen_puts chosen_put last_from last_below
  chosen_last zero w = refl
  chosen_last (suc n) w = last_append (some w) (chosen_puts chosen pin number n) _ x ∙ (ap (λ (o : Option ℕ). last_from o (chosen_put (chosen n) (pin n) (number n)) x) (chosen_last n w) ∙ one (chosen n) refl (eqb (pin n) x) refl)
    where
      one : (b : Bool) → chosen n ≡ b → (e : Bool) → eqb (pin n) x ≡ e
          → last_from (some (numbered number (found n) w)) (chosen_put (chosen n) (pin n) (number n)) x ≡ some (numbered number (found (suc n)) w)
      one true p true q = rw (p, q, last_below, chosen_put, last_from) (replaced_same (entry (pin n) (number n)) x _ (sym (eqb-true _ _ q)))
      one true p false q = rw (p, q, last_below, chosen_put, last_from) (replaced_other (entry (pin n) (number n)) x _ (λ s. eqb-false _ _ q (sym s)))
      one false p e q = rw (p, last_below, chosen_put, last_from)

marked_found : (d : List ℕ) (k x : ℕ) → last_below (λ i. has_mark d k i && eqb (position_pin d i) x) (positions_of d) ≡ in_positions d k x
unfolding in_positions
marked_found d k x = refl

used_found : (d : List ℕ) (x : ℕ) → (x ≡ empty → ⊥) → last_below (λ i. in_use d i && eqb (layout_pin d i) x) (layout_of d) ≡ in_layout d x
unfolding in_layout
used_found d x n = last_ext _ _ (layout_of d) (λ i l. same i (eqb (layout_pin d i) x) refl)
  where
    same : (i : ℕ) (b : Bool) → eqb (layout_pin d i) x ≡ b → (in_use d i && eqb (layout_pin d i) x) ≡ eqb (layout_pin d i) x
    same i true e =
        let k : layout_pin d i ≡ empty → ⊥ = λ z. n (sym (eqb-true _ _ e) ∙ z) in
        rw (e, ne_eqb (layout_pin d i) empty k)
    same i false e = rw e (and-false (in_use d i))

pub winner_last : (d : List ℕ) (x : ℕ) → (x ≡ empty → ⊥) → last_from (some 0) (winner_puts d) x ≡ some (winner d x)
unfolding winner_puts winner
winner_last d x n =
    last_append (some 0) (marked_puts d 1 (positions_of d)) _ x
    ∙ (ap (λ (o : Option ℕ). last_from o (layout_puts d (layout_of d) ++ marked_puts d 0 (positions_of d)) x) staged
    ∙ (last_append (some w) (layout_puts d (layout_of d)) _ x ∙ (ap (λ (o : Option ℕ). last_from o (marked_puts d 0 (positions_of d)) x) laid ∙ unstaged)))
  where
    w : ℕ
    w = numbered (position_number d) (in_positions d 1 x) 0

    v : ℕ
    v = numbered layout_number (in_layout d x) w

    staged : last_from (some 0) (marked_puts d 1 (positions_of d)) x ≡ some w
    staged = chosen_last (has_mark d 1) (position_pin d) (position_number d) x (positions_of d) 0 ∙ ap (λ (o : Option ℕ). some (numbered (position_number d) o 0)) (marked_found d 1 x)

    laid : last_from (some w) (layout_puts d (layout_of d)) x ≡ some v
    laid = chosen_last (in_use d) (layout_pin d) layout_number x (layout_of d) w ∙ ap (λ (o : Option ℕ). some (numbered layout_number o w)) (used_found d x n)

    unstaged : last_from (some v) (marked_puts d 0 (positions_of d)) x ≡ some (numbered (position_number d) (in_positions d 0 x) v)
    unstaged = chosen_last (has_mark d 0) (position_pin d) (position_number d) x (positions_of d) v ∙ ap (λ (o : Option ℕ). some (numbered (position_number d) o v)) (marked_found d 0 x)

-- a table whose pins all had 0 has the winner of each
pub winners_look : (d t : List ℕ) (puts : List Entry) (x : ℕ) → Holds t puts → look t x ≡ some 0 → (x ≡ empty → ⊥) → look (after_renewals t (winner_puts d)) x ≡ some (winner d x)
unfolding renewed
winners_look d t puts x h z n =
    (renewed_all t puts [] (winner_puts d) (renewed_none t puts h)).finds x
    ∙ (ap (λ (o : Option ℕ). renewed o (winner_puts d) x) (sym (h.finds x) ∙ z) ∙ winner_last d x n)

-- ---- a plan in form has its lists

pub listed : (d : List ℕ) → plan_form d ≡ true → ListsInRange d
listed d h = let f = formed d h in record { layout = f.head.layout; positions = f.head.positions; pins = λ i l. (f.position i l).pin }
