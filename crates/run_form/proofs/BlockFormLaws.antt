-- The form of a part and of a block as the code tests it: one law for each way through, and the parts one after the other.
-- Assumes nothing.
use mathlib.Core.Path.{◌≡◌, refl, sym, ap, ◌∙◌}
use mathlib.Core.Bool.{Bool, true, false, ◌&&◌}
use mathlib.Core.List.{List}
use Prim.Native.Nat.{ℕ, zero, suc, ◌+◌, ◌-◌, ◌≤◌, ◌<◌}
use native.Mathlib.Omega.{arith}
use borrow.Author.Tests.{leb-true, le-leb, lt-leb, lt-ltb, le-ltb, eq-eqb, ne_eqb}
use lib.Dec.{leb, eqb}
use lib.ListN.{length, get_or}
use Rattle.words.specs.Tests.{all_below}
use Rattle.words.proofs.TestLaws.{and_true}
use Rattle.run_machine.specs.Part.{stages_at, last_at, end_at}
use Rattle.run_machine.specs.Run.{entries_form, locations_form, lanes_form, reads_form, stores_form, part_form, parts_form, empty_block, block_form}
use Rattle.run_form.specs.PartForm.{part_numbers_form, body_form}
use Rattle.run_machine.proofs.PartWellLaws.{in_form}

-- word 1 of a part
pub part_mark_last : (x y : ℕ) → x ≡ y → ◌≡◌ {A = ℕ} 1 (elim (eqb x y) [ true ↦ 1 | false ↦ 0 ])
part_mark_last x y h = rw (eq-eqb x y h)

pub part_mark_more : (x y : ℕ) → (x ≡ y → ⊥) → ◌≡◌ {A = ℕ} 0 (elim (eqb x y) [ true ↦ 1 | false ↦ 0 ])
part_mark_more x y h = rw (ne_eqb x y h)

-- ---- a part's numbers

module _ (n : ℕ) (W : List ℕ) (e o : ℕ) where
  pub head_short : e < o + n → false ≡ part_numbers_form n W e o
  unfolding part_numbers_form
  head_short h = rw (lt-leb (o + n) e h, part_numbers_form)

  module _ (fits : o + n ≤ e) where
    pub head_none : stages_at W o < 1 → false ≡ part_numbers_form n W e o
    unfolding part_numbers_form
    head_none h = rw (le-leb (o + n) e fits, lt-leb 1 (stages_at W o) h, part_numbers_form)

    module _ (some : 1 ≤ stages_at W o) where
      pub head_many : 255 < stages_at W o → false ≡ part_numbers_form n W e o
      unfolding part_numbers_form
      head_many h = rw (le-leb (o + n) e fits, le-leb 1 (stages_at W o) some, lt-leb (stages_at W o) 255 h, part_numbers_form)

      module _ (few : stages_at W o ≤ 255) (x : ℕ) (is : x ≡ end_at n W o) where
        pub head_long : e < x → leb x e ≡ part_numbers_form n W e o
        unfolding part_numbers_form
        head_long h = rw (← is, le-leb (o + n) e fits, le-leb 1 (stages_at W o) some, le-leb (stages_at W o) 255 few, lt-leb x e h, part_numbers_form)

        pub head_last : x ≤ e → (m : ℕ) → m ≡ elim (eqb x e) [ true ↦ 1 | false ↦ 0 ] → eqb (last_at W o) m ≡ part_numbers_form n W e o
        unfolding part_numbers_form
        head_last h m q = rw (← is, le-leb (o + n) e fits, le-leb 1 (stages_at W o) some, le-leb (stages_at W o) 255 few, le-leb x e h, part_numbers_form, q)

  pub head_ends : part_numbers_form n W e o ≡ true → (o + n ≤ e) × (end_at n W o ≤ e)
  unfolding part_numbers_form
  head_ends h =
      let c₁ = leb (o + n) e in
      let c₂ = leb 1 (stages_at W o) in
      let c₃ = leb (stages_at W o) 255 in
      let c₄ = leb (end_at n W o) e in
      let (h₄, last) = and_true (c₁ && c₂ && c₃ && c₄) (eqb (last_at W o) (elim (eqb (end_at n W o) e) [ true ↦ 1 | false ↦ 0 ])) h in
      let (h₃, ends) = and_true (c₁ && c₂ && c₃) c₄ h₄ in
      let (h₂, few) = and_true (c₁ && c₂) c₃ h₃ in
      (leb-true _ _ (and_true c₁ c₂ h₂).0, leb-true _ _ ends)

-- ---- `&&` as the code goes through it: the second test is asked where the first passes

pub and_then : (x a b v : Bool) → x ≡ a → x ≡ true → v ≡ b → v ≡ (a && b)
and_then x a b v e t q = rw (← e, t) q

pub and_else : (x a b v : Bool) → x ≡ a → x ≡ false → v ≡ x → v ≡ (a && b)
and_else x a b v e f q = rw (← e, f) (q ∙ f)

-- ---- a part

pub part_split : (n : ℕ) (W : List ℕ) (s t e o : ℕ) → (part_numbers_form n W e o && body_form n W s t o) ≡ part_form n W s t e o
unfolding part_numbers_form body_form part_form
part_split n W s t e o = by (part_numbers_form n W e o) (stores_form n W s t o) (locations_form n W o) (lanes_form n W o) (reads_form n W s t o) (entries_form n W o)
  where
    by : (h a b c d f : Bool) → (h && (a && b && c && d && f)) ≡ (h && a && b && c && d && f)
    by true a b c d f = refl
    by false a b c d f = refl

pub part_bad : (n : ℕ) (W : List ℕ) (s t e o : ℕ) → part_numbers_form n W e o ≡ false → false ≡ part_form n W s t e o
part_bad n W s t e o h = ap (λ (x : Bool). x && body_form n W s t o) (sym h) ∙ part_split n W s t e o

pub part_rest : (n : ℕ) (W : List ℕ) (s t e o : ℕ) (r : Bool) → part_numbers_form n W e o ≡ true → r ≡ body_form n W s t o → r ≡ part_form n W s t e o
part_rest n W s t e o r h q = q ∙ ap (λ (x : Bool). x && body_form n W s t o) (sym h) ∙ part_split n W s t e o

-- ---- the parts: o is where the next one begins, and f are enough for those that are left

module _ (n : ℕ) (W : List ℕ) (s t e : ℕ) where
  parts_none : (f o : ℕ) → part_form n W s t e o ≡ false → false ≡ parts_form n W s t e f o
  unfolding parts_form
  parts_none zero o h = refl
  parts_none (suc f) o h = rw (h, parts_form)

  parts-end : (f o : ℕ) → part_form n W s t e o ≡ true → end_at n W o ≡ e → true ≡ parts_form n W s t e (suc f) o
  unfolding parts_form
  parts-end f o h d = rw (h, eq-eqb (end_at n W o) e d, parts_form)

  parts-on : (f o : ℕ) → part_form n W s t e o ≡ true → (end_at n W o ≡ e → ⊥) → parts_form n W s t e f (end_at n W o) ≡ parts_form n W s t e (suc f) o
  unfolding parts_form
  parts-on f o h d = rw (h, ne_eqb (end_at n W o) e d, parts_form)

  pub record PartsGoing (at o : ℕ) : Type 0 where
    pub f : ℕ
    pub within : o ≤ e
    pub enough : e - o ≤ f
    pub same : parts_form n W s t e f o ≡ parts_form n W s t e (length W) at

  pub parts_start : (at : ℕ) → at ≤ e → e ≤ length W → PartsGoing at at
  parts_start at h l = record { f = length W; within = h; enough = omega arith; same = refl }

  pub parts_stop : (at o : ℕ) → PartsGoing at o → part_form n W s t e o ≡ false → false ≡ parts_form n W s t e (length W) at
  parts_stop at o g h = parts_none g.f o h ∙ g.same

  module _ (lanes : 0 < n) (at o : ℕ) (g : PartsGoing at o) (h : part_form n W s t e o ≡ true) where
    pub part_fits : (o + n ≤ e) × (end_at n W o ≤ e)
    part_fits = let a = in_form n W s t o e h in (a.header, a.ends)

    pub parts_last : end_at n W o ≡ e → true ≡ parts_form n W s t e (length W) at
    parts_last d = from g.f g.enough g.same
      where
        from : (f : ℕ) → e - o ≤ f → parts_form n W s t e f o ≡ parts_form n W s t e (length W) at → true ≡ parts_form n W s t e (length W) at
        from zero k q = absurd (omega (arith, part_fits.0))
        from (suc f) k q = parts-end f o h d ∙ q

    pub parts_more : (end_at n W o ≡ e → ⊥) → PartsGoing at (end_at n W o)
    unfolding end_at
    parts_more d = from g.f g.enough g.same
      where
        from : (f : ℕ) → e - o ≤ f → parts_form n W s t e f o ≡ parts_form n W s t e (length W) at → PartsGoing at (end_at n W o)
        from zero k q = absurd (omega (arith, part_fits.0))
        from (suc f) k q = record { f = f; within = part_fits.1; enough = omega (arith, part_fits.0); same = parts-on f o h d ∙ q }

-- ---- a block

module _ (n : ℕ) (W : List ℕ) (s t o e : ℕ) where
  pub empty_other : (e ≡ o + n → ⊥) → false ≡ empty_block n W o e
  unfolding empty_block
  empty_other h = rw (ne_eqb e (o + n) h, empty_block)

  pub empty_as : (r : Bool) → e ≡ o + n → all_below (λ i. eqb (get_or W (o + i) 0) (elim (eqb i 1) [ true ↦ 1 | false ↦ 0 ])) n ≡ r → r ≡ empty_block n W o e
  unfolding empty_block
  empty_as r h q = sym q ∙ rw (eq-eqb e (o + n) h, empty_block)

  pub block_none : e ≤ o → false ≡ block_form n W s t o e
  unfolding block_form
  block_none h = rw (le-ltb o e h, block_form)

  pub block_outside : o < e → length W < e → false ≡ block_form n W s t o e
  unfolding block_form
  block_outside h l = rw (lt-ltb o e h, lt-leb e (length W) l, block_form)

  pub block_empty : o < e → e ≤ length W → empty_block n W o e ≡ true → true ≡ block_form n W s t o e
  unfolding block_form
  block_empty h l q = rw (lt-ltb o e h, le-leb e (length W) l, q, block_form)

  pub block_parts_lem : (r : Bool) → o < e → e ≤ length W → empty_block n W o e ≡ false → r ≡ parts_form n W s t e (length W) o → r ≡ block_form n W s t o e
  unfolding block_form
  block_parts_lem r h l q p = p ∙ rw (lt-ltb o e h, le-leb e (length W) l, q, block_form)
