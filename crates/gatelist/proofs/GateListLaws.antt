-- Laws of a gate list over three functions and a count. A gate found by its pin has that pin. Where refusal 6 is excluded pins ascend strictly from above 0,
-- fan-in pins are below their gate's, and a pin has one gate at most.
-- Assumes nothing.
use Rattle.std.proofs.Common.{◌≡◌, ℕ, ◌+◌, ◌/◌, ◌<◌, ◌≤◌, true, false, not, ◌&&◌, eqb, ltb, refl, ap, add-one, arith, ltb-true, lt-ltb, eq-eqb, ne_eqb, eqb-true}
use mathlib.Core.Option.{none, some}
use borrow.Author.Tests.{not-false}
use Rattle.sort.specs.HalfSearch.{Monotone, Between, least}
use Rattle.sort.proofs.HalfSearchLaws.{monotone_steps, least_between, search_found}
use Rattle.words.proofs.TestLaws.{not_both, and_true, true_and, not_at, not_none, none_not, not_is}
use Rattle.gatelist.specs.GateList.{before_over, right_over, bad_over, gate_over}

-- ---- refusal 6, gate by gate

pub before_first : (pin : ℕ → ℕ) → before_over pin 0 ≡ 0
unfolding before_over
before_first pin = refl

pub before_next : (pin : ℕ → ℕ) (g : ℕ) → before_over pin (g + 1) ≡ pin g
unfolding before_over
before_next pin g = rw add-one

module _ (pin first second : ℕ → ℕ) (g : ℕ) where
  -- a gate is right or not by its three tests, of the numbers as they are read
  pub right_read : (b p f s : ℕ) → b ≡ before_over pin g → p ≡ pin g → f ≡ first g → s ≡ second g → (ltb b p && ltb (f / 2) p && ltb (s / 2) p) ≡ right_over pin first second g
  unfolding right_over
  right_read b p f s hb hp hf hs = rw (hb, hp, hf, hs)

  pub record Right : Type 0 where
    pub above : before_over pin g < pin g
    pub first_below : first g / 2 < pin g
    pub second_below : second g / 2 < pin g

  pub right_parts : right_over pin first second g ≡ true → Right
  unfolding right_over
  right_parts h =
      let a = ltb (before_over pin g) (pin g) in
      let b = ltb (first g / 2) (pin g) in
      let (ab, c) = and_true (a && b) (ltb (second g / 2) (pin g)) h in
      let (l, m) = and_true a b ab in
      record { above = ltb-true _ _ l; first_below = ltb-true _ _ m; second_below = ltb-true _ _ c }

-- ---- a gate by its pin

module _ (pin : ℕ → ℕ) (n x : ℕ) where
  pub gate_at_lem : (g : ℕ) → gate_over pin n x ≡ some g → (g < n) × (pin g ≡ x)
  unfolding gate_over
  gate_at_lem g h =
      let (l, e, p) = not_at (λ g. not (eqb (pin g) x)) n g h in
      (l, eqb-true _ _ (not-false _ e))

  pub none_gate : ((g : ℕ) → g < n → pin g ≡ x → ⊥) → gate_over pin n x ≡ none
  unfolding gate_over
  none_gate h = none_not (λ g. not (eqb (pin g) x)) n (λ g l. ap not (ne_eqb _ _ (h g l)))

-- ---- where refusal 6 is excluded

module _ (pin first second : ℕ → ℕ) (n : ℕ) (good : bad_over pin first second n ≡ none) where
  pub right_at : (g : ℕ) → g < n → Right pin first second g
  unfolding bad_over
  right_at g l = right_parts pin first second g (not_none (right_over pin first second) n good g l)

  step : (g : ℕ) → g + 1 < n → pin g < pin (g + 1)
  step g l = rw (before_next pin g) at (right_at (g + 1) l).above

  pub pins_monotone : Monotone pin n
  pins_monotone = monotone_steps pin n (λ g l. omega (arith, step g l))

  pub pins_ascend : (i j : ℕ) → i < j → j < n → pin i < pin j
  pins_ascend i j h l =
      let s : pin i < pin (i + 1) = step i (omega arith) in
      let m : pin (i + 1) ≤ pin j = pins_monotone (i + 1) j (omega arith) l in
      omega arith

  pub gate_is : (x g : ℕ) → g < n → pin g ≡ x → gate_over pin n x ≡ some g
  unfolding gate_over
  gate_is x g l e =
      not_is (λ g. not (eqb (pin g) x)) n g l
      (ap not (eq-eqb _ _ e))
      (λ j k. ap not (ne_eqb _ _ (λ (q : pin j ≡ x). let s = pins_ascend j g k l in omega arith)))

  -- fan-ins of a gate found by its pin are below that pin
  pub first_falls : (x g : ℕ) → gate_over pin n x ≡ some g → first g / 2 < x
  first_falls x g h = let (l, e) = gate_at_lem pin n x g h in omega (arith, (right_at g l).first_below)

  pub second_falls : (x g : ℕ) → gate_over pin n x ≡ some g → second g / 2 < x
  second_falls x g h = let (l, e) = gate_at_lem pin n x g h in omega (arith, (right_at g l).second_below)

  -- ---- the search by halves ends at the pin's gate, where it has one

  -- the code's test of a gate, and what it says where it fails at the search's end
  pub has_gate : (x g : ℕ) → (ltb g n && eqb (pin g) x) ≡ true → gate_over pin n x ≡ some g
  has_gate x g h =
      let (l, e) = and_true (ltb g n) (eqb (pin g) x) h in
      gate_is x g (ltb-true _ _ l) (eqb-true _ _ e)

  pub least_gate : (x g : ℕ) → g ≡ least pin n x → (ltb g n && eqb (pin g) x) ≡ false → gate_over pin n x ≡ none
  least_gate x g e f =
      none_gate pin n x
      (λ i l p.
      let b : Between pin n x g g = rw e (least_between pin n x pins_monotone) in
      let (k, q) = search_found pin n x g i pins_monotone b l p in
      not_both _ (true_and _ _ (lt-ltb g n k) (eq-eqb (pin g) x q)) f)
