-- Laws of the map. What a put does to a table is one record (`Changed`), whether the slot was free or taken: THE MAP LAW (`map-law`)
-- follows from it. Then how many slots are taken, and when a put is refused.
-- Assumes nothing.
use mathlib.Core.Path.{◌≡◌, refl, sym, ap, ◌∙◌}
use mathlib.Core.Bool.{Bool, true, false}
use mathlib.Core.Option.{Option, none, some}
use mathlib.Core.List.{List, [], ◌∷◌}
use Prim.Native.Nat.{ℕ, zero, suc, ◌+◌, ◌*◌, ◌<◌}
use native.Mathlib.Nat.{not-suc-le-zero}
use native.Mathlib.Omega.{arith}
use lib.Dec.{eqb}
use lib.ListN.{length, set, length-set}
use lib.Seq.{get_or-set_same, get_or-set_other}
use borrow.Author.Tests.{eqb-true, eqb-false, eq-eqb, ne_eqb}
use Rattle.pinmap.specs.declared.Slot.{Slot}
use Rattle.pinmap.specs.declared.Slot.TheVariants.{Free, Taken, Nowhere}
use Rattle.std.specs.Prelude.{Ok}
use Rattle.pinmap.specs.PinMap.{capacity, key_at, value_at, slot_of, look_at, look, put_at, put_in, answer_at, put_answer, put_there_at, put_there, used_to, used, Findable, Entry, entry, replaced, last_from, renewed}
use Rattle.pinmap.proofs.ProbeLaws.{slot_free, slot_taken, slot_nowhere, slot_kept, slot_given}

-- ---- a table whose slot i has pin p and value v now, where the slot was free or p's

pub record Changed (t u : List ℕ) (p i v : ℕ) : Type 0 where
  pub size : capacity u ≡ capacity t
  pub key : key_at u i ≡ p + 1
  pub value : value_at u i ≡ v
  pub kept : (j : ℕ) → (key_at t j ≡ 0 → ⊥) → key_at u j ≡ key_at t j
  pub keys : (j : ℕ) → (j ≡ i → ⊥) → key_at u j ≡ key_at t j
  pub values : (j : ℕ) → (j ≡ i → ⊥) → value_at u j ≡ value_at t j

-- ---- one word of a table stored

module _ (t : List ℕ) (i v : ℕ) where
  key-stored : i < capacity t → key_at (set t (2 * i) v) i ≡ v
  key-stored h = get_or-set_same t (2 * i) v 0 (omega arith)

  key-beside : (j : ℕ) → (j ≡ i → ⊥) → key_at (set t (2 * i) v) j ≡ key_at t j
  key-beside j n = get_or-set_other t (2 * i) (2 * j) v 0 (λ e. n (omega arith))

  key-value : (j : ℕ) → key_at (set t (2 * i + 1) v) j ≡ key_at t j
  key-value j = get_or-set_other t (2 * i + 1) (2 * j) v 0 (λ e. omega arith)

  value-stored : i < capacity t → value_at (set t (2 * i + 1) v) i ≡ v
  value-stored h = get_or-set_same t (2 * i + 1) v 0 (omega arith)

  value-beside : (j : ℕ) → (j ≡ i → ⊥) → value_at (set t (2 * i + 1) v) j ≡ value_at t j
  value-beside j n = get_or-set_other t (2 * i + 1) (2 * j + 1) v 0 (λ e. n (omega arith))

  value-key : (j : ℕ) → value_at (set t (2 * i) v) j ≡ value_at t j
  value-key j = get_or-set_other t (2 * i) (2 * j + 1) v 0 (λ e. omega arith)

changed_free : (t : List ℕ) (p i v : ℕ) → i < capacity t → key_at t i ≡ 0 → Changed t (set (set t (2 * i) (p + 1)) (2 * i + 1) v) p i v
changed_free t p i v h z =
    let u = set t (2 * i) (p + 1) in
    let l : i < capacity u = simp length-set h in
    let other : (j : ℕ) → (j ≡ i → ⊥) → key_at (set u (2 * i + 1) v) j ≡ key_at t j = λ j n. key-value u i v j ∙ key-beside t i (p + 1) j n in
    record {
      size = simp length-set;
      key = key-value u i v i ∙ key-stored t i (p + 1) h;
      value = value-stored u i v l;
      kept = λ j n. other j (λ e. n (rw e z));
      keys = other;
      values = λ j n. value-beside u i v j n ∙ value-key t i (p + 1) j;
    }

changed_taken : (t : List ℕ) (p i v : ℕ) → i < capacity t → key_at t i ≡ p + 1 → Changed t (set t (2 * i + 1) v) p i v
changed_taken t p i v h k =
    record {
      size = simp length-set;
      key = key-value t i v i ∙ k;
      value = value-stored t i v h;
      kept = λ j n. key-value t i v j;
      keys = λ j n. key-value t i v j;
      values = value-beside t i v;
    }

-- ---- THE MAP LAW

free_taken : (s : Slot) (i k : ℕ) → s ≡ Free i → s ≡ Taken k → ⊥
free_taken s i k a b = let z : ◌≡◌ {A = ℕ} 0 1 = cc in omega arith

nowhere_taken : (s : Slot) (k : ℕ) → s ≡ Nowhere → s ≡ Taken k → ⊥
nowhere_taken s k a b = let z : ◌≡◌ {A = ℕ} 0 1 = cc in omega arith

-- what is not taken is not found
pub look_none : (t : List ℕ) (q : ℕ) → ((k : ℕ) → slot_of t q ≡ Taken k → ⊥) → look t q ≡ none
unfolding look_at
look_none t q n = go (slot_of t q) refl
  where
    go : (s : Slot) → slot_of t q ≡ s → look_at t s ≡ none
    go (Free i) e = refl
    go (Taken i) e = absurd (n i e)
    go Nowhere e = refl

module _ (t u : List ℕ) (p i v : ℕ) (good : Findable t) (c : Changed t u p i v) (found : slot_of u p ≡ Taken i) where
  changed-good : Findable u
  unfolding Findable
  changed-good j q h k = go (eqb j i) refl
    where
      go : (x : Bool) → eqb j i ≡ x → slot_of u q ≡ Taken j
      go true e =
          let same : j ≡ i = eqb-true j i e in
          let pin : q ≡ p = omega (arith, (rw same at k), c.key) in
          rw (pin, same) found
      go false e =
          slot_kept t u c.size c.kept q j (good j q (rw c.size at h) (sym (c.keys j (eqb-false j i e)) ∙ k))

  -- another pin's slot is another one
  apart : (q k : ℕ) → (q ≡ p → ⊥) → key_at u k ≡ q + 1 → k ≡ i → ⊥
  apart q k n e same = n (omega (arith, (rw same at e), c.key))

  same-look : (q : ℕ) → (q ≡ p → ⊥) → look u q ≡ look t q
  unfolding Findable look_at
  same-look q n = go (slot_of t q) refl
    where
      there : (k : ℕ) → slot_of t q ≡ Taken k → look u q ≡ look t q
      there k e =
          let key : key_at t k ≡ q + 1 = (slot_taken t q k e).1 in
          let stays : key_at u k ≡ key_at t k = c.kept k (λ (z : key_at t k ≡ 0). omega (arith, key, z)) in
          rw (e, slot_kept t u c.size c.kept q k e, c.values k (apart q k n (stays ∙ key)))

      back : (k : ℕ) → slot_of u q ≡ Taken k → slot_of t q ≡ Taken k
      back k e =
          let at : (k < capacity u) × (key_at u k ≡ q + 1) = slot_taken u q k e in
          good k q (rw c.size at at.0) (sym (c.keys k (apart q k n at.1)) ∙ at.1)

      absent : ((k : ℕ) → slot_of t q ≡ Taken k → ⊥) → look u q ≡ look t q
      absent m = look_none u q (λ k e. m k (back k e)) ∙ sym (look_none t q m)

      go : (s : Slot) → slot_of t q ≡ s → look u q ≡ look t q
      go (Free j) e = absent (λ k f. free_taken (slot_of t q) j k e f)
      go (Taken k) e = there k e
      go Nowhere e = absent (λ k f. nowhere_taken (slot_of t q) k e f)

  changed-look : (q : ℕ) → look u q ≡ replaced (entry p v) q (look t q)
  unfolding look_at
  changed-look q = go (eqb q p) refl
    where
      go : (x : Bool) → eqb q p ≡ x → look u q ≡ elim x [ true ↦ some v | false ↦ look t q ]
      go true e = rw (eqb-true q p e, found, c.value)
      go false e = same-look q (eqb-false q p e)

stored : (t : List ℕ) (p v : ℕ) → put_answer t p ≡ Ok tt → (i : ℕ) × Changed t (put_in t p v) p i v × (slot_of (put_in t p v) p ≡ Taken i)
unfolding put_at answer_at
stored t p v h = go (slot_of t p) refl h
  where
    go : (s : Slot) → slot_of t p ≡ s → answer_at s ≡ Ok tt → (i : ℕ) × Changed t (put_at t p v s) p i v × (slot_of (put_at t p v s) p ≡ Taken i)
    go (Free i) e a =
        let at : (i < capacity t) × (key_at t i ≡ 0) = slot_free t p i e in
        let c = changed_free t p i v at.0 at.1 in
        (i, c, slot_given t (put_at t p v (Free i)) c.size c.kept p i c.key e)
    go (Taken i) e a =
        let at : (i < capacity t) × (key_at t i ≡ p + 1) = slot_taken t p i e in
        let c = changed_taken t p i v at.0 at.1 in
        (i, c, slot_kept t (put_at t p v (Taken i)) c.size c.kept p i e)
    go Nowhere e a = let z : ◌≡◌ {A = ℕ} 0 1 = cc in absurd (omega arith)

-- After a put that is stored, its value is found for its pin, and for every other pin what was found before.
pub map_law : (t : List ℕ) (p v : ℕ) → Findable t → put_answer t p ≡ Ok tt
    → Findable (put_in t p v) × ((q : ℕ) → look (put_in t p v) q ≡ elim (eqb q p) [ true ↦ some v | false ↦ look t q ])
map_law t p v good h =
    let (i, c, found) = stored t p v h in
    (changed-good t (put_in t p v) p i v good c found, changed-look t (put_in t p v) p i v good c found)

pub put_length : (t : List ℕ) (p v : ℕ) → length (put_in t p v) ≡ length t
unfolding put_at
put_length t p v = go (slot_of t p)
  where
    go : (s : Slot) → length (put_at t p v s) ≡ length t
    go (Free i) = simp length-set
    go (Taken i) = simp length-set
    go Nowhere = refl

pub there_length : (t : List ℕ) (p v : ℕ) → length (put_there t p v) ≡ length t
unfolding put_there_at
there_length t p v = go (slot_of t p)
  where
    go : (s : Slot) → length (put_there_at t v s) ≡ length t
    go (Free i) = refl
    go (Taken i) = simp length-set
    go Nowhere = refl

-- ---- a put where the pin is there

pub replaced_same : (e : Entry) (q : ℕ) (o : Option ℕ) → q ≡ e.pin → replaced e q o ≡ some e.value
replaced_same e q o h = rw (eq-eqb q e.pin h, replaced)

pub replaced_other : (e : Entry) (q : ℕ) (o : Option ℕ) → (q ≡ e.pin → ⊥) → replaced e q o ≡ o
replaced_other e q o n = rw (ne_eqb q e.pin n, replaced)

-- one renewal is a replacement, unless nothing was there
renew_some : (p v q w : ℕ) → renewed (some w) (entry p v ∷ []) q ≡ replaced (entry p v) q (some w)
unfolding renewed last_from
renew_some p v q w = refl

renew_other : (p v q : ℕ) (o : Option ℕ) → (q ≡ p → ⊥) → renewed o (entry p v ∷ []) q ≡ o
unfolding renewed last_from
renew_other p v q none n = refl
renew_other p v q (some w) n = renew_some p v q w ∙ replaced_other (entry p v) q (some w) n

-- nothing is renewed where the pin is not there
renew_none : (t : List ℕ) (p v q : ℕ) → look t p ≡ none → look t q ≡ renewed (look t q) (entry p v ∷ []) q
unfolding renewed
renew_none t p v q h = go (eqb q p) refl
  where
    go : (x : Bool) → eqb q p ≡ x → look t q ≡ renewed (look t q) (entry p v ∷ []) q
    go true e = rw (eqb-true q p e, h)
    go false e = sym (renew_other p v q (look t q) (eqb-false q p e))

renew_there : (t : List ℕ) (p v q w : ℕ) → look t p ≡ some w → replaced (entry p v) q (look t q) ≡ renewed (look t q) (entry p v ∷ []) q
renew_there t p v q w h = go (eqb q p) refl
  where
    go : (x : Bool) → eqb q p ≡ x → replaced (entry p v) q (look t q) ≡ renewed (look t q) (entry p v ∷ []) q
    go true e = rw (eqb-true q p e, h, renew_some)
    go false e = replaced_other (entry p v) q (look t q) (eqb-false q p e) ∙ sym (renew_other p v q (look t q) (eqb-false q p e))

-- After a put where the pin is there, the pins that are found are those of before, and just this one's value is new.
pub there_law : (t : List ℕ) (p v : ℕ) → Findable t → Findable (put_there t p v) × ((q : ℕ) → look (put_there t p v) q ≡ renewed (look t q) (entry p v ∷ []) q)
unfolding put_there_at look_at
there_law t p v good = go (slot_of t p) refl
  where
    go : (s : Slot) → slot_of t p ≡ s → Findable (put_there_at t v s) × ((q : ℕ) → look (put_there_at t v s) q ≡ renewed (look t q) (entry p v ∷ []) q)
    go (Free i) e = (good, λ q. renew_none t p v q (rw e))
    go (Taken i) e =
        let at : (i < capacity t) × (key_at t i ≡ p + 1) = slot_taken t p i e in
        let c = changed_taken t p i v at.0 at.1 in
        let u = set t (2 * i + 1) v in
        let found = slot_kept t u c.size c.kept p i e in
        (changed-good t u p i v good c found, λ q. changed-look t u p i v good c found q ∙ renew_there t p v q (value_at t i) (rw e))
    go Nowhere e = (good, λ q. renew_none t p v q (rw e))

-- ---- how many slots are taken

module _ (t : List ℕ) (n : ℕ) where
  pub used_free_step : key_at t n ≡ 0 → used_to t (suc n) ≡ used_to t n
  unfolding used_to
  used_free_step e = rw (eq-eqb (key_at t n) 0 e, used_to)

  used-taken-step : (key_at t n ≡ 0 → ⊥) → used_to t (suc n) ≡ suc (used_to t n)
  unfolding used_to
  used-taken-step e = rw (ne_eqb (key_at t n) 0 e, used_to)

used_step : (t u : List ℕ) (n d : ℕ) → key_at u n ≡ key_at t n → used_to u n ≡ d + used_to t n → used_to u (suc n) ≡ d + used_to t (suc n)
used_step t u n d e h = go (eqb (key_at t n) 0) refl
  where
    go : (x : Bool) → eqb (key_at t n) 0 ≡ x → used_to u (suc n) ≡ d + used_to t (suc n)
    go true z =
        let f : key_at t n ≡ 0 = eqb-true (key_at t n) 0 z in
        rw (used_free_step u n (e ∙ f), used_free_step t n f) h
    go false z =
        let f : key_at t n ≡ 0 → ⊥ = eqb-false (key_at t n) 0 z in
        rw (used-taken-step u n (λ g. f (sym e ∙ g)), used-taken-step t n f) (omega (arith, h))

used_same : (t u : List ℕ) (n : ℕ) → ((j : ℕ) → j < n → key_at u j ≡ key_at t j) → used_to u n ≡ used_to t n
unfolding used_to
used_same t u zero e = refl
used_same t u (suc n) e =
    omega (arith, used_step t u n 0 (e n (omega arith)) (omega (arith, used_same t u n (λ j h. e j (omega arith)))))

used_more : (t u : List ℕ) (i n : ℕ) → i < n → key_at t i ≡ 0 → (key_at u i ≡ 0 → ⊥) → ((j : ℕ) → (j ≡ i → ⊥) → key_at u j ≡ key_at t j)
    → used_to u n ≡ 1 + used_to t n
used_more t u i zero h z k e = absurd (not-suc-le-zero h)
used_more t u i (suc n) h z k e = go (eqb i n) refl (λ (l : i < n). used_more t u i n l z k e)
  where
    go : (x : Bool) → eqb i n ≡ x → (i < n → used_to u n ≡ 1 + used_to t n) → used_to u (suc n) ≡ 1 + used_to t (suc n)
    go true same ih =
        let s : i ≡ n = eqb-true i n same in
        let f : key_at t n ≡ 0 = rw s at z in
        let g : key_at u n ≡ 0 → ⊥ = rw s at k in
        let b : used_to u n ≡ used_to t n = used_same t u n (λ j l. e j (λ (m : j ≡ i). omega arith)) in
        omega (arith, used-taken-step u n g, used_free_step t n f)
    go false other ih =
        let s : i ≡ n → ⊥ = eqb-false i n other in
        used_step t u n 1 (e n (λ m. s (sym m))) (ih (omega arith))

used_all : (t : List ℕ) (n : ℕ) → ((j : ℕ) → j < n → key_at t j ≡ 0 → ⊥) → used_to t n ≡ n
unfolding used_to
used_all t zero e = refl
used_all t (suc n) e = used-taken-step t n (e n (omega arith)) ∙ ap suc (used_all t n (λ j h. e j (omega arith)))

-- A put of a new pin takes one slot more, a put of a pin that is there none.
pub used_new : (t : List ℕ) (p v : ℕ) → put_answer t p ≡ Ok tt → look t p ≡ none → used (put_in t p v) ≡ 1 + used t
unfolding put_at answer_at look_at
used_new t p v h o = go (slot_of t p) refl h o
  where
    go : (s : Slot) → slot_of t p ≡ s → answer_at s ≡ Ok tt → look_at t s ≡ none → used (put_at t p v s) ≡ 1 + used t
    go (Free i) e a l =
        let at : (i < capacity t) × (key_at t i ≡ 0) = slot_free t p i e in
        let c = changed_free t p i v at.0 at.1 in
        let k = c.key in
        rw c.size (used_more t _ i (capacity t) at.0 at.1 (λ z. omega (arith, k, z)) c.keys)
    go (Taken i) e a l = let z : ◌≡◌ {A = ℕ} 0 1 = cc in absurd (omega arith)
    go Nowhere e a l = let z : ◌≡◌ {A = ℕ} 0 1 = cc in absurd (omega arith)

used_value : (t : List ℕ) (i v : ℕ) → used (set t (2 * i + 1) v) ≡ used t
used_value t i v =
    let e : capacity (set t (2 * i + 1) v) ≡ capacity t = simp length-set in
    rw e (used_same t (set t (2 * i + 1) v) (capacity t) (λ j h. key-value t i v j))

pub used_there : (t : List ℕ) (p v w : ℕ) → look t p ≡ some w → used (put_in t p v) ≡ used t
unfolding put_at look_at
used_there t p v w o = go (slot_of t p) o
  where
    go : (s : Slot) → look_at t s ≡ some w → used (put_at t p v s) ≡ used t
    go (Free i) l = let z : ◌≡◌ {A = ℕ} 0 1 = cc in absurd (omega arith)
    go (Taken i) l = used_value t i v
    go Nowhere l = refl

pub used_renewed : (t : List ℕ) (p v : ℕ) → used (put_there t p v) ≡ used t
unfolding put_there_at
used_renewed t p v = go (slot_of t p)
  where
    go : (s : Slot) → used (put_there_at t v s) ≡ used t
    go (Free i) = refl
    go (Taken i) = used_value t i v
    go Nowhere = refl

-- ---- a put is refused exactly where every slot is taken by other pins

-- so a put is stored where not all slots are taken
pub room_stored : (t : List ℕ) (p : ℕ) → used t < capacity t → put_answer t p ≡ Ok tt
unfolding answer_at
room_stored t p h = go (slot_of t p) refl
  where
    go : (s : Slot) → slot_of t p ≡ s → answer_at s ≡ Ok tt
    go (Free i) e = refl
    go (Taken i) e = refl
    go Nowhere e =
        let all : used t ≡ capacity t = used_all t (capacity t) (λ j l. (slot_nowhere t p e j l).0) in
        absurd (omega arith)
