-- What refusal 15 leaves of the blocks: two starts or more, each block between two of them, empty or with its parts in form.
-- Assumes nothing.
use mathlib.Core.Path.{◌≡◌, refl, sym, ap, ◌∙◌}
use mathlib.Core.Bool.{Bool, true, false, ◌&&◌, ◌||◌}
use mathlib.Core.Option.{Option, none, some}
use mathlib.Core.List.{List}
use mathlib.Core.Logic.{◌⊎◌, inl, inr, ⊎_elim}
use Prim.Native.Nat.{ℕ, ◌+◌, ◌-◌, ◌≤◌, ◌<◌}
use native.Mathlib.Nat.{add-zero}
use native.Mathlib.Omega.{arith}
use borrow.Author.Tests.{leb-true, ltb-true, eqb-true}
use lib.Dec.{leb, ltb, eqb}
use lib.ListN.{length, get_or}
use Rattle.words.specs.Tests.{all_below, first_not}
use Rattle.words.proofs.TestLaws.{and_true, or_cases, all_at, not_none, some_not_none}
use Rattle.run_machine.specs.Part.{stages_at}
use Rattle.run_machine.specs.Run.{parts_form, empty_block, block_form, bad_block}

-- ---- a block, from word o to word e

module _ (n : ℕ) (W : List ℕ) (s t o e : ℕ) where
  empty_stages : o < e → empty_block n W o e ≡ true → stages_at W o ≡ 0
  unfolding empty_block
  empty_stages l h =
      let (size, words) = and_true (eqb e (o + n)) (all_below (λ i. eqb (get_or W (o + i) 0) (elim (eqb i 1) [ true ↦ 1 | false ↦ 0 ])) n) h in
      let long = eqb-true e (o + n) size in
      let at = all_at (λ i. eqb (get_or W (o + i) 0) (elim (eqb i 1) [ true ↦ 1 | false ↦ 0 ])) n 0 words (omega arith) in
      ap (λ (i : ℕ). get_or W i 0) (sym (add-zero o)) ∙ eqb-true _ _ at

  pub record BlockIn : Type 0 where
    pub order : o < e
    pub within : e ≤ length W
    pub parts : (stages_at W o ≡ 0) ⊎ (parts_form n W s t e (length W) o ≡ true)

  pub block_in : block_form n W s t o e ≡ true → BlockIn
  unfolding block_form
  block_in h =
      let (bounds, form) = and_true (ltb o e && leb e (length W)) (empty_block n W o e || parts_form n W s t e (length W) o) h in
      let (a, b) = and_true (ltb o e) (leb e (length W)) bounds in
      let order = ltb-true o e a in
      record {
        order = order;
        within = leb-true _ _ b;
        parts = ⊎_elim (λ q. inl (empty_stages order q)) (λ q. inr q) (or_cases (empty_block n W o e) (parts_form n W s t e (length W) o) form);
      }

-- ---- the blocks of a run

module _ (n : ℕ) (W starts : List ℕ) (s t : ℕ) where
  abbrev in_block : ℕ → Bool
  in_block i = block_form n W s t (get_or starts i 0) (get_or starts (i + 1) 0)

  pub record BlocksIn : Type 0 where
    pub two : 2 ≤ length starts
    pub each : (b : ℕ) → b < length starts - 1 → block_form n W s t (get_or starts b 0) (get_or starts (b + 1) 0) ≡ true

  pub blocks_in_lem : bad_block n W starts s t ≡ none → BlocksIn
  unfolding bad_block
  blocks_in_lem h = go (leb 2 (length starts)) refl h
    where
      go : (c : Bool) → leb 2 (length starts) ≡ c → ◌≡◌ {A = Option ℕ} (elim c [ false ↦ some 0 | true ↦ first_not in_block (length starts - 1) ]) none → BlocksIn
      go true q k = record { two = leb-true _ _ q; each = λ b l. not_none in_block (length starts - 1) k b l }
      go false q k = absurd (some_not_none k)
