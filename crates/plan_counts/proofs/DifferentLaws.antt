-- How many different numbers a list has does not depend on its order, and in an ascending list it is the number of steps. Dividing keeps
-- a list ascending, so one sorted list of activations gives both counts; their difference is the number of extra activations.
-- Assumes nothing.
use mathlib.Core.Path.{◌≡◌, refl, sym, ap, ◌∙◌}
use mathlib.Core.Bool.{Bool, true, false, ◌||◌}
use mathlib.Core.List.{List, [], ◌∷◌, map}
use Prim.Native.Nat.{ℕ, zero, suc, ◌+◌, ◌-◌, ◌/◌, ◌^◌, ◌≤◌}
use native.Mathlib.Nat.{not-suc-le-zero}
use native.Mathlib.Omega.{arith}
use lib.Dec.{leb, eqb}
use borrow.Author.Tests.{leb-true, leb-false, eqb-true, eqb-false, eq-eqb, ne_eqb}
use Rattle.sort.specs.Sorted.{insert, sort_of, Ascending}
use Rattle.sort.proofs.SortLaws.{AtMost, ascending_nil, ascending_cons, ascending_head, ascending_tail, at_most_cons, at_most_less, insert_here, insert_on, sort_ascending}
use Rattle.plan_counts.specs.Counts.{is_in, different, duplicates_in}
use Rattle.plan_counts.specs.Neighbours.{steps, extra, extras}

-- ---- one element more

different_old : (x : ℕ) (l : List ℕ) → is_in x l ≡ true → different (x ∷ l) ≡ different l
unfolding different
different_old x l h = rw (h, different)

different_new : (x : ℕ) (l : List ℕ) → is_in x l ≡ false → different (x ∷ l) ≡ suc (different l)
unfolding different
different_new x l h = rw (h, different)

different_cons : (x : ℕ) (a b : List ℕ) → is_in x a ≡ is_in x b → different a ≡ different b → different (x ∷ a) ≡ different (x ∷ b)
different_cons x a b h e = go (is_in x a) refl
  where
    go : (t : Bool) → is_in x a ≡ t → different (x ∷ a) ≡ different (x ∷ b)
    go true g = different_old x a g ∙ e ∙ sym (different_old x b (sym h ∙ g))
    go false g = different_new x a g ∙ ap suc e ∙ sym (different_new x b (sym h ∙ g))

-- ---- two neighbours may change places

or_swap : (a b c : Bool) → (a || (b || c)) ≡ (b || (a || c))
or_swap true true c = refl
or_swap true false c = refl
or_swap false true c = refl
or_swap false false c = refl

in_swap : (v x y : ℕ) (l : List ℕ) → is_in v (x ∷ (y ∷ l)) ≡ is_in v (y ∷ (x ∷ l))
unfolding is_in
in_swap v x y l = or_swap (eqb x v) (eqb y v) (is_in v l)

in_other : (x y : ℕ) (l : List ℕ) → (y ≡ x → ⊥) → is_in x (y ∷ l) ≡ is_in x l
unfolding is_in
in_other x y l h = rw (ne_eqb y x h)

different_swap : (x y : ℕ) (l : List ℕ) → different (x ∷ (y ∷ l)) ≡ different (y ∷ (x ∷ l))
different_swap x y l = go (eqb x y) refl (is_in x l) refl (is_in y l) refl
  where
    go : (t : Bool) → eqb x y ≡ t → (p : Bool) → is_in x l ≡ p → (q : Bool) → is_in y l ≡ q → different (x ∷ (y ∷ l)) ≡ different (y ∷ (x ∷ l))
    go true e p a q b = let s : x ≡ y = eqb-true x y e in rw s
    go false e p a q b =
        let n : x ≡ y → ⊥ = eqb-false x y e in
        let x-in : is_in x (y ∷ l) ≡ is_in x l = in_other x y l (λ s. n (sym s)) in
        let y-in : is_in y (x ∷ l) ≡ is_in y l = in_other y x l n in
        cases p a q b x-in y-in
      where
        cases : (p : Bool) → is_in x l ≡ p → (q : Bool) → is_in y l ≡ q → is_in x (y ∷ l) ≡ is_in x l → is_in y (x ∷ l) ≡ is_in y l → different (x ∷ (y ∷ l)) ≡ different (y ∷ (x ∷ l))
        cases true a true b xi yi = different_old x (y ∷ l) (xi ∙ a) ∙ different_old y l b ∙ sym (different_old y (x ∷ l) (yi ∙ b) ∙ different_old x l a)
        cases true a false b xi yi = different_old x (y ∷ l) (xi ∙ a) ∙ different_new y l b ∙ sym (different_new y (x ∷ l) (yi ∙ b) ∙ ap suc (different_old x l a))
        cases false a true b xi yi = different_new x (y ∷ l) (xi ∙ a) ∙ ap suc (different_old y l b) ∙ sym (different_old y (x ∷ l) (yi ∙ b) ∙ different_new x l a)
        cases false a false b xi yi = different_new x (y ∷ l) (xi ∙ a) ∙ ap suc (different_new y l b) ∙ sym (different_new y (x ∷ l) (yi ∙ b) ∙ ap suc (different_new x l a))

-- ---- so sorting changes nothing, whatever number of each element is looked at

module _ (f : ℕ → ℕ) where
  insert-in : (v x : ℕ) (l : List ℕ) → is_in v (map f (insert x l)) ≡ is_in v (f x ∷ map f l)
  unfolding insert is_in
  insert-in v x [] = refl
  insert-in v x (y ∷ ys) = go (leb x y) refl (insert-in v x ys)
    where
      go : (b : Bool) → leb x y ≡ b → is_in v (map f (insert x ys)) ≡ is_in v (f x ∷ map f ys) → is_in v (map f (insert x (y ∷ ys))) ≡ is_in v (f x ∷ (f y ∷ map f ys))
      go true e r = rw (insert_here x y ys (leb-true x y e)) refl
      go false e r = rw (insert_on x y ys (leb-false x y e)) (ap (λ (t : Bool). eqb (f y) v || t) r ∙ in_swap v (f y) (f x) (map f ys))

  insert-different : (x : ℕ) (l : List ℕ) → different (map f (insert x l)) ≡ different (f x ∷ map f l)
  unfolding insert
  insert-different x [] = refl
  insert-different x (y ∷ ys) = go (leb x y) refl (insert-different x ys)
    where
      go : (b : Bool) → leb x y ≡ b → different (map f (insert x ys)) ≡ different (f x ∷ map f ys) → different (map f (insert x (y ∷ ys))) ≡ different (f x ∷ (f y ∷ map f ys))
      go true e r = rw (insert_here x y ys (leb-true x y e)) refl
      go false e r =
          rw (insert_on x y ys (leb-false x y e))
          (different_cons (f y) (map f (insert x ys)) (f x ∷ map f ys) (insert-in (f y) x ys) r ∙ different_swap (f y) (f x) (map f ys))

  sort-in : (v : ℕ) (l : List ℕ) → is_in v (map f (sort_of l)) ≡ is_in v (map f l)
  unfolding sort_of is_in
  sort-in v [] = refl
  sort-in v (x ∷ xs) = insert-in v x (sort_of xs) ∙ ap (λ (t : Bool). eqb (f x) v || t) (sort-in v xs)

  pub sort_different : (l : List ℕ) → different (map f (sort_of l)) ≡ different (map f l)
  unfolding sort_of
  sort_different [] = refl
  sort_different (x ∷ xs) =
      insert-different x (sort_of xs) ∙ different_cons (f x) (map f (sort_of xs)) (map f xs) (sort-in (f x) xs) (sort_different xs)

-- ---- in an ascending list the different numbers are the steps

step_same : (x y : ℕ) (l : List ℕ) → y ≡ x → steps (x ∷ (y ∷ l)) ≡ steps (y ∷ l)
unfolding steps
step_same x y l h = rw (eq-eqb y x h, steps)

step_other : (x y : ℕ) (l : List ℕ) → (y ≡ x → ⊥) → steps (x ∷ (y ∷ l)) ≡ suc (steps (y ∷ l))
unfolding steps
step_other x y l h = rw (ne_eqb y x h, steps)

above_not_in : (x : ℕ) (l : List ℕ) → AtMost (suc x) l → is_in x l ≡ false
unfolding is_in
above_not_in x [] m = refl
above_not_in x (y ∷ ys) m =
    let h : suc x ≤ y = m zero (omega arith) in
    in_other x y ys (λ e. omega arith) ∙ above_not_in x ys (λ i g. m (suc i) (omega arith))

pub different_steps : (l : List ℕ) → Ascending l → different l ≡ steps l
unfolding different steps is_in
different_steps [] a = refl
different_steps (x ∷ []) a = refl
different_steps (x ∷ (y ∷ ys)) a = go (eqb y x) refl (different_steps (y ∷ ys) (ascending_tail x (y ∷ ys) a))
  where
    go : (b : Bool) → eqb y x ≡ b → different (y ∷ ys) ≡ steps (y ∷ ys) → different (x ∷ (y ∷ ys)) ≡ steps (x ∷ (y ∷ ys))
    go true e r =
        let here : is_in x (y ∷ ys) ≡ true = rw e in
        different_old x (y ∷ ys) here ∙ r ∙ sym (step_same x y ys (eqb-true y x e))
    go false e r =
        let n : y ≡ x → ⊥ = eqb-false y x e in
        let h : x ≤ y = ascending_head x (y ∷ ys) a zero (omega arith) in
        let less : suc x ≤ y = omega arith in
        let m : AtMost (suc x) ys = at_most_less (suc x) y ys less (ascending_head y ys (ascending_tail x (y ∷ ys) a)) in
        different_new x (y ∷ ys) (above_not_in x (y ∷ ys) (at_most_cons (suc x) y ys less m)) ∙ ap suc r ∙ sym (step_other x y ys n)

map-at_most : (f : ℕ → ℕ) → ((x y : ℕ) → x ≤ y → f x ≤ f y) → (x : ℕ) (l : List ℕ) → AtMost x l → AtMost (f x) (map f l)
map-at_most f r x [] m = λ i h. absurd (not-suc-le-zero h)
map-at_most f r x (y ∷ ys) m = at_most_cons (f x) (f y) (map f ys) (r x y (m zero (omega arith))) (map-at_most f r x ys (λ i g. m (suc i) (omega arith)))

pub map-ascending : (f : ℕ → ℕ) → ((x y : ℕ) → x ≤ y → f x ≤ f y) → (l : List ℕ) → Ascending l → Ascending (map f l)
map-ascending f r [] a = ascending_nil
map-ascending f r (x ∷ xs) a =
    ascending_cons (f x) (map f xs) (map-at_most f r x xs (ascending_head x xs a)) (map-ascending f r xs (ascending_tail x xs a))

-- so both counts are taken over one sorted list
pub different_sorted : (f : ℕ → ℕ) → ((x y : ℕ) → x ≤ y → f x ≤ f y) → (l : List ℕ) → different (map f l) ≡ steps (map f (sort_of l))
different_sorted f r l = sym (sort_different f l) ∙ different_steps (map f (sort_of l)) (map-ascending f r (sort_of l) (sort_ascending l))

-- ---- and the activations are as many as the pins and the extras

pins_rise : (x y : ℕ) → x ≤ y → x / 2 ^ 33 ≤ y / 2 ^ 33
pins_rise x y h = omega arith

pub extra_same : (x y : ℕ) → y ≡ x → extra x y ≡ 0
unfolding extra
extra_same x y h = rw (eq-eqb y x h, extra)

pub extra_yes : (x y : ℕ) → (y ≡ x → ⊥) → y / 2 ^ 33 ≡ x / 2 ^ 33 → extra x y ≡ 1
unfolding extra
extra_yes x y h e = rw (ne_eqb y x h, eq-eqb (y / 2 ^ 33) (x / 2 ^ 33) e, extra)

pub extra_no : (x y : ℕ) → (y ≡ x → ⊥) → (y / 2 ^ 33 ≡ x / 2 ^ 33 → ⊥) → extra x y ≡ 0
unfolding extra
extra_no x y h e = rw (ne_eqb y x h, ne_eqb (y / 2 ^ 33) (x / 2 ^ 33) e, extra)

steps_split : (l : List ℕ) → steps l ≡ steps (map (λ a. a / 2 ^ 33) l) + extras l
unfolding steps extras
steps_split [] = refl
steps_split (x ∷ []) = refl
steps_split (x ∷ (y ∷ ys)) = go (eqb y x) refl (eqb (y / 2 ^ 33) (x / 2 ^ 33)) refl (steps_split (y ∷ ys))
  where
    go : (b : Bool) → eqb y x ≡ b → (t : Bool) → eqb (y / 2 ^ 33) (x / 2 ^ 33) ≡ t
        → steps (y ∷ ys) ≡ steps (y / 2 ^ 33 ∷ map (λ a. a / 2 ^ 33) ys) + extras (y ∷ ys)
        → steps (x ∷ (y ∷ ys)) ≡ steps (x / 2 ^ 33 ∷ (y / 2 ^ 33 ∷ map (λ a. a / 2 ^ 33) ys)) + (extra x y + extras (y ∷ ys))
    go true e t f r =
        let s : y ≡ x = eqb-true y x e in
        omega (arith, step_same x y ys s, step_same (x / 2 ^ 33) (y / 2 ^ 33) (map (λ a. a / 2 ^ 33) ys) (ap (λ a. a / 2 ^ 33) s), extra_same x y s)
    go false e true f r =
        let n : y ≡ x → ⊥ = eqb-false y x e in
        let s : y / 2 ^ 33 ≡ x / 2 ^ 33 = eqb-true (y / 2 ^ 33) (x / 2 ^ 33) f in
        omega (arith, step_other x y ys n, step_same (x / 2 ^ 33) (y / 2 ^ 33) (map (λ a. a / 2 ^ 33) ys) s, extra_yes x y n s)
    go false e false f r =
        let n : y ≡ x → ⊥ = eqb-false y x e in
        let m : y / 2 ^ 33 ≡ x / 2 ^ 33 → ⊥ = eqb-false (y / 2 ^ 33) (x / 2 ^ 33) f in
        omega (arith, step_other x y ys n, step_other (x / 2 ^ 33) (y / 2 ^ 33) (map (λ a. a / 2 ^ 33) ys) m, extra_no x y n m)

map_self : (l : List ℕ) → map (λ a. a) l ≡ l
map_self [] = refl
map_self (x ∷ xs) = ap (λ (t : List ℕ). x ∷ t) (map_self xs)

pub activations_steps : (l : List ℕ) → different l ≡ steps (sort_of l)
activations_steps l = ap different (sym (map_self l)) ∙ different_sorted (λ a. a) (λ x y h. h) l ∙ ap steps (map_self (sort_of l))

pub pins_steps : (l : List ℕ) → different (map (λ a. a / 2 ^ 33) l) ≡ steps (map (λ a. a / 2 ^ 33) (sort_of l))
pins_steps l = different_sorted (λ a. a / 2 ^ 33) pins_rise l

pub different_split : (l : List ℕ) → different l ≡ different (map (λ a. a / 2 ^ 33) l) + extras (sort_of l)
different_split l =
    activations_steps l ∙ steps_split (sort_of l) ∙ ap (λ (n : ℕ). n + extras (sort_of l)) (sym (pins_steps l))

-- DUPLICATE WORDS: the extras of the sorted activations, over 32, rounded up
pub duplicates_sorted : (l : List ℕ) → duplicates_in l ≡ (extras (sort_of l) + 31) / 32
unfolding duplicates_in
duplicates_sorted l =
    let e : different l - different (map (λ a. a / 2 ^ 33) l) ≡ extras (sort_of l) = omega (arith, different_split l) in
    ap (λ (n : ℕ). (n + 31) / 32) e
