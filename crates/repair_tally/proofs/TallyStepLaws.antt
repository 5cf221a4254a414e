-- The ways through a list, item by item in the code's terms, and each step by what the map has.
-- Assumes nothing.
use mathlib.Core.Path.{◌≡◌, refl, sym, ap, ap₂, ◌∙◌}
use mathlib.Core.Bool.{Bool, true, false, ◌&&◌, and-false}
use mathlib.Core.Option.{Option, none, some}
use mathlib.Core.List.{List, [], ◌∷◌, ◌++◌}
use Prim.Native.Nat.{ℕ, ◌+◌, ◌*◌, ◌-◌, ◌%◌, ◌^◌, ◌≤◌, ◌<◌}
use native.Mathlib.Numerals.{add-one}
use native.Mathlib.Omega.{arith}
use borrow.Author.Tests.{lt-ltb, le-ltb, le-leb, lt-leb, eq-eqb, ne_eqb}
use lib.Dec.{ltb}
use lib.Pow.{pow_mono}
use lib.ListN.{length, get_or, take, drop, set, length-set, length-append}
use lib.Seq.{take-suc-set, length-take-le}
use Rattle.std.specs.Prelude.{Some, None, Ok}
use Rattle.std.specs.declared.option.Option as code
use Rattle.pinmap.specs.PinMap.{look, look_at, slot_of, put_in, put_answer, answer_at}
use Rattle.pinmap.specs.declared.Slot.{Slot}
use Rattle.pinmap.specs.declared.Slot.TheVariants.{Free, Taken, Nowhere}
use Rattle.words.specs.Pins.{is_pin}
use Rattle.words.proofs.TestLaws.{not_both}
use Rattle.repair_nodes.specs.Stage.{spot, spots_of}
use Rattle.repair_nodes.specs.CountList.{counted, counts_of, counted_nodes}
use Rattle.repair_nodes.proofs.TwoWordLaws.{pairs_drop, pairs_end}
use Rattle.repair_tally.specs.Tally.{through, entering, entering_all, Raised, raised, raising, lowering, Told, ToldNew}

-- ---- ways

module _ {S A : Type 0} (step : S → A → Option S) (s : S) where
  pub through_end : through step s [] ≡ some s
  unfolding through
  through_end = refl

  pub through_on : (a : A) (l : List A) (t : S) → step s a ≡ some t → through step s (a ∷ l) ≡ through step t l
  unfolding through
  through_on a l t e = rw (e, through)

  pub through_none : (a : A) (l : List A) → step s a ≡ none → through step s (a ∷ l) ≡ none
  unfolding through
  through_none a l e = rw (e, through)

-- ---- a put over what was found has its place

pub put_over : (t : List ℕ) (x v : ℕ) → look t x ≡ some v → put_answer t x ≡ Ok tt
unfolding look_at answer_at
put_over t x v e = go (slot_of t x) e
  where
    go : (s : Slot) → look_at t s ≡ some v → answer_at s ≡ Ok tt
    go (Free i) e = let z : ◌≡◌ {A = ℕ} 0 1 = cc in absurd (omega arith)
    go (Taken i) e = refl
    go Nowhere e = let z : ◌≡◌ {A = ℕ} 0 1 = cc in absurd (omega arith)

-- ---- entering

module _ (t : List ℕ) (x n : ℕ) where
  pub enter_no_pin : 1073741824 < x → entering t (counted x n) ≡ none
  unfolding entering
  enter_no_pin h = rw (lt-leb x 1073741824 h, entering)

  pub enter_zero : n ≡ 0 → entering t (counted x n) ≡ none
  unfolding entering
  enter_zero e =
      let f : (is_pin x && ltb 0 n) ≡ false = ap (λ (b : Bool). is_pin x && b) (le-ltb 0 n (omega arith)) ∙ and-false (is_pin x) in
      rw (f, entering)

  right : x ≤ 1073741824 → 0 < n → (is_pin x && ltb 0 n) ≡ true
  right h k = ap₂ (λ (a : Bool) (b : Bool). a && b) (le-leb x 1073741824 h) (lt-ltb 0 n k)

  pub enter_twice : (v : ℕ) → x ≤ 1073741824 → 0 < n → look t x ≡ some v → entering t (counted x n) ≡ none
  unfolding entering
  enter_twice v h k e = rw (right h k, e, entering)

  pub enter_new : x ≤ 1073741824 → 0 < n → look t x ≡ none → entering t (counted x n) ≡ some (put_in t x n)
  unfolding entering
  enter_new h k e = rw (right h k, e, entering)

pub all_odd : (t ws : List ℕ) → (length ws % 2 ≡ 0 → ⊥) → entering_all t ws ≡ none
unfolding entering_all
all_odd t ws h = rw (ne_eqb (length ws % 2) 0 h, entering_all)

pub all_even : (t ws : List ℕ) → length ws % 2 ≡ 0 → entering_all t ws ≡ through entering t (counts_of ws)
unfolding entering_all
all_even t ws h = rw (eq-eqb (length ws % 2) 0 h, entering_all)

-- ---- raising

module _ (t fresh : List ℕ) (n x : ℕ) where
  pub raise_there : (v : ℕ) → look t x ≡ some v → v < 4294967295 → n ≤ length fresh
      → ToldNew (raising (raised t (take n fresh)) x) (Some n) (put_in t x (v + 1)) fresh
  unfolding raising
  raise_there v e h l = (rw (e, lt-ltb v 4294967295 h, raising), l)

  pub raise_over : (v : ℕ) → look t x ≡ some v → 4294967295 ≤ v → raising (raised t (take n fresh)) x ≡ none
  unfolding raising
  raise_over v e h = rw (e, le-ltb v 4294967295 h, raising)

  pub raise_new : look t x ≡ none → n < length fresh
      → ToldNew (raising (raised t (take n fresh)) x) (Some (n + 1)) (put_in t x 1) (set fresh n x)
  unfolding raising
  raise_new e l =
      let k : take (n + 1) (set fresh n x) ≡ take n fresh ++ (x ∷ []) = rw add-one (take-suc-set fresh n x l) in
      let m : length (set fresh n x) ≡ length fresh = length-set fresh n x in
      (rw (e, raising) (ap (λ (w : List ℕ). some (raised (put_in t x 1) w)) (sym k)), omega arith)

-- ---- lowering

module _ (t : List ℕ) (x : ℕ) where
  pub lower_missing : look t x ≡ none → lowering t x ≡ none
  unfolding lowering
  lower_missing e = rw (e, lowering)

  pub lower_zero : (v : ℕ) → look t x ≡ some v → v ≤ 0 → lowering t x ≡ none
  unfolding lowering
  lower_zero v e h = rw (e, le-ltb 0 v h, lowering)

  pub lower_there : (v : ℕ) → look t x ≡ some v → 0 < v → lowering t x ≡ some (put_in t x (v - 1))
  unfolding lowering
  lower_there v e h = rw (e, lt-ltb 0 v h, lowering)

-- ---- the slots of level 0

pub slots_most : (H : ℕ) → H ≤ 13 → 2 ^ H ≤ 8192
slots_most H l = pow_mono l

pub slots_shifted : (H : ℕ) → H ≤ 13 → 1 * 2 ^ H % 2 ^ 64 ≡ 2 ^ H
slots_shifted H l = let m : 2 ^ H ≤ 8192 = slots_most H l in omega arith

-- ---- the nodes of a list of slots, from slot k on

abbrev pub nodes_from : ℕ → List ℕ → ℕ → List ℕ
nodes_from H spots k = counted_nodes H (spots_of (drop (2 * k) spots))

module _ (H : ℕ) (spots : List ℕ) (k : ℕ) (l : 2 * k + 1 < length spots) where
  pub nodes_counted : get_or spots (2 * k) 0 < 2 ^ H → nodes_from H spots k ≡ get_or spots (2 * k + 1) 0 ∷ nodes_from H spots (k + 1)
  unfolding counted_nodes
  nodes_counted h = rw (pairs_drop spot spots k l, lt-ltb (get_or spots (2 * k) 0) (2 ^ H) h, counted_nodes)

  pub nodes_skipped : 2 ^ H ≤ get_or spots (2 * k) 0 → nodes_from H spots k ≡ nodes_from H spots (k + 1)
  unfolding counted_nodes
  nodes_skipped h = rw (pairs_drop spot spots k l, le-ltb (get_or spots (2 * k) 0) (2 ^ H) h, counted_nodes)

pub nodes_end : (H : ℕ) (spots : List ℕ) (k : ℕ) → length spots ≤ 2 * k + 1 → nodes_from H spots k ≡ []
unfolding counted_nodes
nodes_end H spots k l = rw (pairs_end spot spots k l)

-- ---- a way through the nodes from slot k on, and through the entries from entry i on

module _ {S : Type 0} (step : S → ℕ → Option S) (H : ℕ) (s : S) (spots : List ℕ) (k : ℕ) where
  pub way_end : length spots ≤ 2 * k + 1 → through step s (nodes_from H spots k) ≡ some s
  way_end l = ap (through step s) (nodes_end H spots k l) ∙ through_end step s

  module _ (l : 2 * k + 1 < length spots) where
    pub way_on : (t : S) → get_or spots (2 * k) 0 < 2 ^ H → step s (get_or spots (2 * k + 1) 0) ≡ some t
        → through step s (nodes_from H spots k) ≡ through step t (nodes_from H spots (k + 1))
    way_on t h e = ap (through step s) (nodes_counted H spots k l h) ∙ through_on step s (get_or spots (2 * k + 1) 0) (nodes_from H spots (k + 1)) t e

    pub way_stop : get_or spots (2 * k) 0 < 2 ^ H → step s (get_or spots (2 * k + 1) 0) ≡ none → through step s (nodes_from H spots k) ≡ none
    way_stop h e = ap (through step s) (nodes_counted H spots k l h) ∙ through_none step s (get_or spots (2 * k + 1) 0) (nodes_from H spots (k + 1)) e

    pub way_skip : 2 ^ H ≤ get_or spots (2 * k) 0 → through step s (nodes_from H spots k) ≡ through step s (nodes_from H spots (k + 1))
    way_skip h = ap (through step s) (nodes_skipped H spots k l h)

module _ (t ws : List ℕ) (i : ℕ) where
  pub check_end : length ws ≤ 2 * i + 1 → through entering t (counts_of (drop (2 * i) ws)) ≡ some t
  check_end l = ap (through entering t) (pairs_end counted ws i l) ∙ through_end entering t

  module _ (l : 2 * i + 1 < length ws) where
    pub check_on : (u : List ℕ) → entering t (counted (get_or ws (2 * i) 0) (get_or ws (2 * i + 1) 0)) ≡ some u
        → through entering t (counts_of (drop (2 * i) ws)) ≡ through entering u (counts_of (drop (2 * (i + 1)) ws))
    check_on u e =
        ap (through entering t) (pairs_drop counted ws i l)
        ∙ through_on entering t (counted (get_or ws (2 * i) 0) (get_or ws (2 * i + 1) 0)) (counts_of (drop (2 * (i + 1)) ws)) u e

    pub check_stop : entering t (counted (get_or ws (2 * i) 0) (get_or ws (2 * i + 1) 0)) ≡ none → through entering t (counts_of (drop (2 * i) ws)) ≡ none
    check_stop e =
        ap (through entering t) (pairs_drop counted ws i l)
        ∙ through_none entering t (counted (get_or ws (2 * i) 0) (get_or ws (2 * i + 1) 0)) (counts_of (drop (2 * (i + 1)) ws)) e

-- ---- what was told

pub told_true : (o : Option (List ℕ)) (r : Bool) (t : List ℕ) → Told o r t → r ≡ true → o ≡ some t
told_true o true t h e = h
told_true o false t h e = absurd (not_both false e refl)

pub told_false : (o : Option (List ℕ)) (r : Bool) (t : List ℕ) → Told o r t → r ≡ false → o ≡ none
told_false o true t h e = absurd (not_both true refl e)
told_false o false t h e = h

pub told_new : (o : Option Raised) (r : code.Option ℕ) (t fresh : List ℕ) (n : ℕ) → ToldNew o r t fresh → r ≡ Some n
    → (o ≡ some (raised t (take n fresh))) × (n ≤ length fresh)
told_new o (Some m) t fresh n h e = let k : m ≡ n = cc in rw k at h
told_new o None t fresh n h e = let z : ◌≡◌ {A = ℕ} 0 1 = cc in absurd (omega arith)

pub told_over : (o : Option Raised) (r : code.Option ℕ) (t fresh : List ℕ) → ToldNew o r t fresh → r ≡ None → o ≡ none
told_over o (Some m) t fresh h e = let z : ◌≡◌ {A = ℕ} 0 1 = cc in absurd (omega arith)
told_over o None t fresh h e = h

-- one node more is one new node at most
new_size : (r s : Raised) (x : ℕ) → raising r x ≡ some s → length s.new ≤ length r.new + 1
unfolding raising
new_size r s x = go (look r.map x)
  where
    inner : (v : ℕ) (b : Bool) → (elim b [ false ↦ none | true ↦ some (raised (put_in r.map x (v + 1)) r.new) ]) ≡ some s → length s.new ≤ length r.new + 1
    inner v false e = let z : ◌≡◌ {A = ℕ} 0 1 = cc in absurd (omega arith)
    inner v true e = let k : raised (put_in r.map x (v + 1)) r.new ≡ s = cc in rw (← k) (omega arith)

    go : (o : Option ℕ)
        → (elim o [ none ↦ some (raised (put_in r.map x 1) (r.new ++ (x ∷ []))) | some v ↦ elim (ltb v 4294967295) [ false ↦ none | true ↦ some (raised (put_in r.map x (v + 1)) r.new) ] ]) ≡ some s
        → length s.new ≤ length r.new + 1
    go none e =
        let k : raised (put_in r.map x 1) (r.new ++ (x ∷ [])) ≡ s = cc in
        let n : length (r.new ++ (x ∷ [])) ≡ length r.new + 1 = length-append r.new (x ∷ []) in
        rw (← k) (omega arith)
    go (some v) e = inner v (ltb v 4294967295) e

pub new_most : (t u f g : List ℕ) (n m x : ℕ) → raising (raised t (take n f)) x ≡ some (raised u (take m g)) → n ≤ length f → m ≤ length g → m ≤ n + 1
new_most t u f g n m x e l k =
    let a : length (take m g) ≤ length (take n f) + 1 = new_size (raised t (take n f)) (raised u (take m g)) x e in
    let b : length (take n f) ≡ n = length-take-le n f l in
    let c : length (take m g) ≡ m = length-take-le m g k in
    omega arith
