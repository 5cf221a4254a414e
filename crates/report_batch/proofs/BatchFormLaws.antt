-- The form of a batch, test by test. The parts that are left to count are those of the words not yet seen.
-- Assumes nothing.
use mathlib.Core.Path.{◌≡◌, refl, sym}
use mathlib.Core.Bool.{Bool, true, false, ◌&&◌}
use mathlib.Core.List.{List}
use Prim.Native.Nat.{ℕ, ◌+◌, ◌*◌, ◌≤◌, ◌<◌}
use native.Mathlib.Omega.{arith}
use borrow.Author.Tests.{leb-true, eq-eqb, ne_eqb, eqb-true, eqb-false}
use lib.Dec.{leb, eqb}
use Rattle.words.specs.Sum.{sum_to}
use Rattle.words.proofs.SumLaws.{sum_more, sum_le}
use Rattle.words.proofs.EditionLaws.{known_number, known_most}
use Rattle.words.proofs.TestLaws.{and_true}
use Rattle.report.specs.Batch.{batch_at, refused_below, most_parts, edition_right, totals_right, batch_form}

-- ---- the parts that were fed

module _ (b : List ℕ) where
  abbrev pub Counted : Bool
  Counted = eqb (batch_at b 0) (batch_at b 1 + refused_below b 40)

  pub parts_over : (fed parts : ℕ) → fed ≡ batch_at b 0 → parts ≡ batch_at b 1 → fed < parts → false ≡ Counted
  parts_over fed parts ef ep h = sym (ne_eqb (batch_at b 0) (batch_at b 1 + refused_below b 40) (λ e. absurd (omega arith)))

  -- what is left when the numbers below k are counted
  abbrev pub Left : ℕ → ℕ → Type 0
  Left left k = (k ≤ 40) × (left + (batch_at b 1 + refused_below b k) ≡ batch_at b 0)

  pub left_start : (fed parts : ℕ) → fed ≡ batch_at b 0 → parts ≡ batch_at b 1 → parts ≤ fed → (left : ℕ) → left + parts ≡ fed → Left left 0
  unfolding sum_to
  left_start fed parts ef ep h left e = (omega arith, omega arith)

  pub left_over : (left k count : ℕ) → Left left k → k < 40 → count ≡ batch_at b (8 + k) → left < count → false ≡ Counted
  left_over left k count l h ec over =
      let more = sum_more (λ i. batch_at b (8 + i)) k in
      let all = sum_le (λ i. batch_at b (8 + i)) (k + 1) 40 (omega arith) in
      sym (ne_eqb (batch_at b 0) (batch_at b 1 + refused_below b 40) (λ e. absurd (omega (arith, l.1, more, all, ec))))

  pub left_next : (left k count : ℕ) → Left left k → k < 40 → count ≡ batch_at b (8 + k) → count ≤ left → (rest : ℕ) → rest + count ≡ left → Left rest (k + 1)
  left_next left k count l h ec fits rest e =
      let more = sum_more (λ i. batch_at b (8 + i)) k in
      (omega arith, omega (arith, l.1, more, ec, e))

  pub left_end : (left k : ℕ) → Left left k → 40 ≤ k → eqb left 0 ≡ Counted
  left_end left k l h = go (eqb left 0) refl
    where
      last : left + (batch_at b 1 + refused_below b 40) ≡ batch_at b 0
      last =
          let e : k ≡ 40 = omega (arith, l.0) in
          rw e at l.1

      go : (t : Bool) → eqb left 0 ≡ t → t ≡ Counted
      go true t = sym (eq-eqb (batch_at b 0) (batch_at b 1 + refused_below b 40) (omega (arith, last, eqb-true left 0 t)))
      go false t =
          let some_left : left ≡ 0 → ⊥ = eqb-false left 0 t in
          sym (ne_eqb (batch_at b 0) (batch_at b 1 + refused_below b 40) (λ e. some_left (omega (arith, last))))

  -- ---- the edition

  named_lanes : edition_right b ≡ true → batch_at b 7 ≤ 256
  named_lanes e = go (eqb (batch_at b 0) 0) refl
    where
      go : (t : Bool) → eqb (batch_at b 0) 0 ≡ t → batch_at b 7 ≤ 256
      go true t = let z : batch_at b 7 ≡ 0 = eqb-true (batch_at b 7) 0 (rw (t, edition_right) at e) in omega arith
      go false t = known_most (batch_at b 7) (known_number (batch_at b 7) (rw (t, edition_right) at e))

  -- ---- all of it

  abbrev pub Parts : Bool
  Parts = leb (batch_at b 0) most_parts && Counted && edition_right b

  pub parts_in : Parts ≡ true → (batch_at b 7 ≤ 256) × (batch_at b 1 ≤ 100000)
  parts_in e =
      let both = and_true (leb (batch_at b 0) most_parts && Counted) (edition_right b) e in
      let two = and_true (leb (batch_at b 0) most_parts) Counted both.0 in
      (named_lanes both.1, omega (arith, leb-true (batch_at b 0) most_parts two.0, eqb-true (batch_at b 0) (batch_at b 1 + refused_below b 40) two.1))

  pub form_is : (t : Bool) → Parts ≡ t → (t && totals_right (batch_at b 7 * batch_at b 1) b) ≡ batch_form b
  unfolding batch_form
  form_is t e = rw (← e)
