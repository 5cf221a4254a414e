-- The major stage of a part, and its state start: part i of major stage s has major stage s.
-- Assumes nothing.
use mathlib.Core.Path.{◌≡◌, refl, ap, ◌∙◌}
use mathlib.Core.Bool.{Bool, true, false}
use mathlib.Core.List.{List}
use mathlib.Core.Logic.{⊎_elim}
use Prim.Native.Nat.{ℕ, zero, suc, ◌+◌, ◌-◌, ◌≤◌, ◌<◌}
use native.Mathlib.Numerals.{add-one}
use native.Mathlib.Omega.{arith}
use borrow.Author.Tests.{le-leb, lt-leb, leb-true, leb-false}
use lib.Dec.{leb}
use Rattle.words.specs.Sum.{sum_to}
use Rattle.words.proofs.BitLaws.{lt_or_ge}
use Rattle.plan_record.specs.Record.{majors_of, count_at, parts_before, parts_of}
use Rattle.plan_blocks.specs.Blocks.{state_start}
use Rattle.plan_blocks.proofs.StateStartLaws.{parts_mono, parts_next, part_split}
use Rattle.plan_positions.specs.Positions.{major_to, major_of, part_state_start}
use Rattle.plan_positions.specs.Places.{latest}

module _ (d : List ℕ) where
  pub major_here : (p n : ℕ) → parts_before d n ≤ p → major_to d p (suc n) ≡ n
  unfolding major_to
  major_here p n h = rw (le-leb _ _ h, major_to)

  pub major_on : (p n : ℕ) → p < parts_before d n → major_to d p (suc n) ≡ major_to d p n
  unfolding major_to
  major_on p n h = rw (lt-leb _ _ h, major_to)

  major-to : (s i n : ℕ) → s < n → i < count_at d s → major_to d (parts_before d s + i) n ≡ s
  major-to s i zero l h = absurd (omega arith)
  major-to s i (suc n) l h =
      ⊎_elim
      (λ (u : s < n). major_on _ n (omega (arith, parts_next d s, parts_mono d (s + 1) n (omega arith))) ∙ major-to s i n u h)
      (λ (u : n ≤ s). let e : n ≡ s = omega arith in major_here _ n (omega (arith, ap (parts_before d) e)) ∙ e)
      (lt_or_ge s n)

  pub major_is : (s i : ℕ) → s < majors_of d → i < count_at d s → major_of d (parts_before d s + i) ≡ s
  major_is s i l h = major-to s i (majors_of d) l h

  pub start_is : (s i : ℕ) → s < majors_of d → i < count_at d s → part_state_start d (parts_before d s + i) ≡ state_start d s i
  unfolding part_state_start
  start_is s i l h =
      let e : parts_before d s + i - parts_before d s ≡ i = omega arith in
      rw (major_is s i l h, e)

  -- a part's own major stage is one of the plan's, begins with the part or before it, and ends after it
  pub record MajorAt (p s : ℕ) : Type 0 where
    pub within : s < majors_of d
    pub begins : parts_before d s ≤ p
    pub ends : p < parts_before d (s + 1)

  pub major_at : (p : ℕ) → p < parts_of d → MajorAt p (major_of d p)
  major_at p l =
      let (s, i, a, b, e) = part_split d (majors_of d) p l in
      let m : major_of d p ≡ s = ap (major_of d) e ∙ major_is s i a b in
      record {
        within = omega arith;
        begins = omega (arith, ap (parts_before d) m);
        ends = omega (arith, ap (λ (x : ℕ). parts_before d (x + 1)) m, parts_next d s);
      }

  -- ---- the first part of a major stage, carried over the major stages

  pub earlier_none : (p : ℕ) → (◌≡◌ {A = ℕ} 0 (parts_before d (major_to d p 0))) × (◌≡◌ {A = ℕ} 0 (parts_before d 0))
  unfolding major_to parts_before sum_to
  earlier_none p = (refl, refl)

  pub earlier_more : (p s first next : ℕ) → first ≡ parts_before d (major_to d p s) → next ≡ parts_before d s
      → latest p first next ≡ parts_before d (major_to d p (s + 1))
  unfolding latest
  earlier_more p s first next e g = go (leb next p) refl
    where
      go : (b : Bool) → leb next p ≡ b → latest p first next ≡ parts_before d (major_to d p (s + 1))
      go true t = rw (t, latest, add-one, major_here p s (omega (arith, leb-true next p t))) g
      go false t = rw (t, latest, add-one, major_on p s (omega (arith, leb-false next p t))) e

pub latest_next : (p first next : ℕ) → next ≤ p → next ≡ latest p first next
unfolding latest
latest_next p first next h = rw (le-leb _ _ h, latest)

pub latest_first : (p first next : ℕ) → p < next → first ≡ latest p first next
unfolding latest
latest_first p first next h = rw (lt-leb _ _ h, latest)
