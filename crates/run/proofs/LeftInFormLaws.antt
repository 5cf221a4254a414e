-- What refusal 15 leaves of a block, and that every turn keeps it.
-- Assumes nothing.
use mathlib.Core.Path.{◌≡◌, refl, sym, ap, ◌∙◌}
use mathlib.Core.Bool.{Bool, true, false, ◌||◌, ◌&&◌}
use mathlib.Core.List.{List}
use mathlib.Core.Logic.{⊎_elim}
use Prim.Native.Nat.{ℕ, zero, suc, ◌+◌, ◌≤◌, ◌<◌}
use native.Mathlib.Nat.{add-zero, mul-le-mul_left}
use native.Mathlib.Omega.{arith}
use borrow.Author.Tests.{leb-true, ltb-true, eqb-true, eqb-false}
use lib.Dec.{leb, ltb, eqb}
use lib.ListN.{length, get_or}
use Rattle.words.specs.Edition.{levels_for}
use Rattle.words.proofs.BitLaws.{lt_or_ge}
use Rattle.words.proofs.TestLaws.{not_both, and_true, or_cases, all_at}
use Rattle.run_machine.specs.Part.{stages_at, last_at, end_at}
use Rattle.run_machine.specs.Turn.{Phase, to_read, to_stage, to_store, finished, going, Block, begins, ended, after_read, after_stage, after_store, turned}
use Rattle.run_machine.specs.Run.{part_form, parts_form, empty_block, block_form}
use Rattle.run_machine.specs.Well.{Lanes, PartWell}
use Rattle.run_machine.proofs.PartWellLaws.{InForm, in_form, parts_well, parts_next}
use Rattle.run.specs.LeftInForm.{Parts, LeftInForm}

-- ---- the parts from word o to word e

module _ (n : ℕ) (W : List ℕ) (s t e o : ℕ) (p : Parts n W s t e o) where
  pub parts_first : InForm n W s t o e
  unfolding parts_form
  parts_first = from p.f p.form
    where
      from : (f : ℕ) → parts_form n W s t e f o ≡ true → InForm n W s t o e
      from zero h = absurd (not_both false h refl)
      from (suc f) h = in_form n W s t o e (and_true (part_form n W s t e o) _ h).0

  module _ (within : e ≤ length W) where
    pub part_well : PartWell n W s t o
    part_well = parts_well n W s t e p.lanes within p.f o p.form

    pub parts_rest : (last_at W o ≡ 1 → ⊥) → Parts n W s t e (end_at n W o)
    parts_rest d = let next = parts_next n W s t e p.lanes within p.f o p.form d in record { lanes = p.lanes; f = next.0; form = next.1 }

-- the words of a part are more than its turns
pub part_turns : (n : ℕ) → Lanes n → (W : List ℕ) (o : ℕ) → o + stages_at W o + 2 ≤ end_at n W o
unfolding end_at
part_turns n lanes W o = omega (arith, lanes.least, mul-le-mul_left {m = 1} {n = n} (stages_at W o) (omega (arith, lanes.least)))

-- ---- a block that begins, or is finished

-- a phase before or after the stages
abbrev is_stage : Phase → Bool
is_stage to_read = false
is_stage to_stage = true
is_stage to_store = false
is_stage finished = false

not_to_stage : (f : Phase) → is_stage f ≡ false → f ≡ to_stage → ⊥
not_to_stage f n e = not_both (is_stage f) (ap is_stage e) n

module _ (n : ℕ) (W : List ℕ) (s t lo hi : ℕ) where
  pub finished_good : (o : ℕ) → lo ≤ hi → hi ≤ length W → LeftInForm n W s t lo hi (ended o)
  unfolding ended going
  finished_good o order within = record {
    order = order;
    within = within;
    from = λ h. absurd (not_both false h refl);
    parts = λ h. absurd (not_both false h refl);
    stage = λ h. absurd (not_to_stage finished refl h);
    few = omega arith;
  }

  -- at word o, where its parts are in form unless it is empty
  pub begins_good : (o : ℕ) → lo ≤ hi → hi ≤ length W → lo ≤ o → ((stages_at W o ≡ 0 → ⊥) → Parts n W s t hi o) → LeftInForm n W s t lo hi (begins W o)
  unfolding begins ended
  begins_good o order within from parts = go (eqb (stages_at W o) 0) refl
    where
      go : (b : Bool) → eqb (stages_at W o) 0 ≡ b → LeftInForm n W s t lo hi (begins W o)
      go true e = rw (e, begins) (finished_good o order within)
      go false e = rw (e, begins) (record { order = order; within = within; from = λ h. from; parts = λ h. parts (eqb-false _ _ e); stage = λ h. absurd (not_to_stage to_read refl h); few = omega arith })

pub record BlockAt (n : ℕ) (W : List ℕ) (s t o e : ℕ) : Type 0 where
  pub order : o < e
  pub within : e ≤ length W
  pub parts : (stages_at W o ≡ 0 → ⊥) → Parts n W s t e o

module _ (n : ℕ) (lanes : Lanes n) (W : List ℕ) (s t o e : ℕ) where
  empty_stages : empty_block n W o e ≡ true → stages_at W o ≡ 0
  unfolding empty_block
  empty_stages h = ap (λ (i : ℕ). get_or W i 0) (sym (add-zero o)) ∙ eqb-true (get_or W (o + 0) 0) 0 (all_at (λ i. eqb (get_or W (o + i) 0) (elim (eqb i 1) [ true ↦ 1 | false ↦ 0 ])) n 0 (and_true (eqb e (o + n)) _ h).1 (omega (arith, lanes.least)))

  pub block_at_lem : block_form n W s t o e ≡ true → BlockAt n W s t o e
  unfolding block_form
  block_at_lem h =
      let (h₁, h₂) = and_true (ltb o e && leb e (length W)) (empty_block n W o e || parts_form n W s t e (length W) o) h in
      let (a, b) = and_true (ltb o e) (leb e (length W)) h₁ in
      record {
        order = ltb-true _ _ a;
        within = leb-true _ _ b;
        parts = λ some. record { lanes = lanes; f = length W; form = ⊎_elim (λ q. absurd (some (empty_stages q))) (λ q. q) (or_cases (empty_block n W o e) _ h₂) };
      }

-- ---- a turn keeps it

not_stage : (x : Bool) → x ≡ true → ◌≡◌ {A = Phase} (elim x [ true ↦ to_store | false ↦ to_stage ]) to_stage → ⊥
not_stage true q h = not_to_stage to_store refl h
not_stage false q h = not_both false q refl

module _ (n : ℕ) (W : List ℕ) (s t lo hi : ℕ) (old new : List ℕ) where
  module _ (b : Block) (g : LeftInForm n W s t lo hi b) where
    read-good : b.phase ≡ to_read → LeftInForm n W s t lo hi (after_read n W old new b)
    unfolding after_read going
    read-good e = record {
      order = g.order;
      within = g.within;
      from = λ h. g.from (ap going e);
      parts = λ h. g.parts (ap going e);
      stage = λ h. omega (arith, (parts_first n W s t hi b.part (g.parts (ap going e))).some);
      few = omega arith;
    }

    stage-good : b.phase ≡ to_stage → LeftInForm n W s t lo hi (after_stage n (levels_for n) W b)
    unfolding after_stage going
    stage-good e = go (eqb (b.stage + 1) (stages_at W b.part)) refl
      where
        first : InForm n W s t b.part hi
        first = parts_first n W s t hi b.part (g.parts (ap going e))

        less : b.stage < stages_at W b.part
        less = g.stage e

        go : (x : Bool) → eqb (b.stage + 1) (stages_at W b.part) ≡ x → LeftInForm n W s t lo hi (after_stage n (levels_for n) W b)
        go true q = record {
          order = g.order;
          within = g.within;
          from = λ h. g.from (ap going e);
          parts = λ h. g.parts (ap going e);
          stage = λ h. absurd (not_stage (eqb (b.stage + 1) (stages_at W b.part)) q h);
          few = omega (arith, first.few, less);
        }
        go false q = record {
          order = g.order;
          within = g.within;
          from = λ h. g.from (ap going e);
          parts = λ h. g.parts (ap going e);
          stage = λ h. lt_of (eqb-false (b.stage + 1) (stages_at W b.part) q);
          few = omega (arith, first.few, less);
        }
          where
            lt_of : (b.stage + 1 ≡ stages_at W b.part → ⊥) → b.stage + 1 < stages_at W b.part
            lt_of other = ⊎_elim (λ l. l) (λ l. absurd (other (omega (arith, less)))) (lt_or_ge (b.stage + 1) (stages_at W b.part))

    store-good : b.phase ≡ to_store → LeftInForm n W s t lo hi (after_store n W b)
    unfolding after_store ended going
    store-good e = go (eqb (last_at W b.part) 1) refl
      where
        parts : Parts n W s t hi b.part
        parts = g.parts (ap going e)

        go : (x : Bool) → eqb (last_at W b.part) 1 ≡ x → LeftInForm n W s t lo hi (after_store n W b)
        go true q = rw (q, after_store) (finished_good n W s t lo hi b.part g.order g.within)
        go false q = rw (q, after_store)
            (begins_good n W s t lo hi (end_at n W b.part) g.order g.within (omega (arith, g.from (ap going e), part_turns n parts.lanes W b.part))
            (λ some. parts_rest n W s t hi b.part parts g.within (eqb-false _ _ q)))

  pub turned_good : (f : Phase) (b : Block) → LeftInForm n W s t lo hi b → b.phase ≡ f → LeftInForm n W s t lo hi (turned n (levels_for n) W old f b new)
  unfolding turned
  turned_good to_read b g e = read-good b g e
  turned_good to_stage b g e = stage-good b g e
  turned_good to_store b g e = store-good b g e
  turned_good finished b g e = g
