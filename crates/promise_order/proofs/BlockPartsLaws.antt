-- The parts of a block in form: they stand end to end up to one that is the last, so that it does not matter how many parts a definition allows
-- for, as long as it allows for these.
-- Assumes nothing.
use mathlib.Core.Path.{◌≡◌, refl, sym, ap, ◌∙◌, subst}
use mathlib.Core.Bool.{Bool, true, false}
use mathlib.Core.List.{List, [], ◌∷◌}
use mathlib.Core.Logic.{◌⊎◌, inl, inr, ⊎_elim}
use mathlib.Core.Option.{none}
use Prim.Native.Nat.{ℕ, zero, suc, ◌+◌, ◌-◌, ◌≤◌, ◌<◌}
use native.Mathlib.Nat.{add-zero}
use native.Mathlib.Omega.{arith}
use borrow.Author.Tests.{eq-eqb, ne_eqb}
use lib.Dec.{eqb}
use lib.ListN.{length, get_or}
use Rattle.words.proofs.TestLaws.{and_true, not_both}
use Rattle.run_machine.specs.Part.{stages_at, last_at, end_at}
use Rattle.run_machine.specs.Run.{turns_from, turns_after, part_form, parts_form, bad_block}
use Rattle.run_machine.proofs.PartWellLaws.{in_form}
use Rattle.run_machine.proofs.BlockInLaws.{block_in, blocks_in_lem}
use Rattle.promise_order.specs.Order.{parts_from, Stores}
use Rattle.promise_order.proofs.StoreTurnLaws.{stores_below}

-- ---- what the form says of one part: t is the number of words of the new state

pub record PartsFormed (W : List ℕ) (t o : ℕ) : Type 0 where
  pub stages : 1 ≤ stages_at W o
  pub inside : (w : ℕ) → Stores W o w → w < t

-- ---- parts end to end, the last of them among the first f

abbrev pub Chain : ℕ → List ℕ → ℕ → ℕ → ℕ → Type 0
Chain n W t zero o = ⊥
Chain n W t (suc f) o = PartsFormed W t o × ((last_at W o ≡ 1) ⊎ ((last_at W o ≡ 0) × Chain n W t f (end_at n W o)))

parts_chain : (n : ℕ) (W : List ℕ) (s t e f o : ℕ) → parts_form n W s t e f o ≡ true → Chain n W t f o
unfolding parts_form
parts_chain n W s t e zero o h = absurd (not_both false h refl)
parts_chain n W s t e (suc f) o h =
    let (first, rest) = and_true (part_form n W s t e o) (elim (eqb (end_at n W o) e) [ true ↦ true | false ↦ parts_form n W s t e f (end_at n W o) ]) h in
    let p = in_form n W s t o e first in
    (record { stages = p.some; inside = λ w st. stores_below W o w t st (λ any. (p.stores.inside any).1) }, go (eqb (end_at n W o) e) p.last rest (parts_chain n W s t e f (end_at n W o)))
  where
    go : (b : Bool) → last_at W o ≡ elim b [ true ↦ 1 | false ↦ 0 ] → elim b [ true ↦ true | false ↦ parts_form n W s t e f (end_at n W o) ] ≡ true
        → (parts_form n W s t e f (end_at n W o) ≡ true → Chain n W t f (end_at n W o)) → (last_at W o ≡ 1) ⊎ ((last_at W o ≡ 0) × Chain n W t f (end_at n W o))
    go true l k r = inl l
    go false l k r = inr (l, r k)

-- every block of a run in form
pub form_chain : (n : ℕ) (W starts : List ℕ) (s t b : ℕ) → bad_block n W starts s t ≡ none → b < length starts - 1
    → (stages_at W (get_or starts b 0) ≡ 0) ⊎ Chain n W t (length W) (get_or starts b 0)
form_chain n W starts s t b h l =
    let o = get_or starts b 0 in
    let e = get_or starts (b + 1) 0 in
    ⊎_elim (λ q. inl q) (λ q. inr (parts_chain n W s t e (length W) o q)) (block_in n W s t o e ((blocks_in_lem n W starts s t h).each b l)).parts

-- ---- the list of the parts

module _ (n : ℕ) (W : List ℕ) (t : ℕ) where
  parts_last : (f o : ℕ) → last_at W o ≡ 1 → parts_from n W (suc f) o ≡ o ∷ []
  unfolding parts_from
  parts_last f o e = rw (eq-eqb (last_at W o) 1 e, parts_from)

  parts_more : (f o : ℕ) → last_at W o ≡ 0 → parts_from n W (suc f) o ≡ o ∷ parts_from n W f (end_at n W o)
  unfolding parts_from
  parts_more f o e = rw (ne_eqb (last_at W o) 1 (λ k. omega arith), parts_from)

  -- the first is at o
  pub part_first_lem : (f o : ℕ) → Chain n W t f o → (0 < length (parts_from n W f o)) × (o ≡ get_or (parts_from n W f o) 0 0)
  unfolding parts_from
  part_first_lem zero o c = absurd c
  part_first_lem (suc f) o c = (omega arith, refl)

  -- the i-th of the parts `os`, f at most: where it is the last there are no others, and else the next is at its end
  pub record Ith (os : List ℕ) (f i : ℕ) : Type 0 where
    pub fuel : ℕ
    pub fewer : fuel ≤ f
    pub chain : Chain n W t fuel (get_or os i 0)
    pub ends : last_at W (get_or os i 0) ≡ 1 → length os ≡ suc i
    pub goes : last_at W (get_or os i 0) ≡ 0 → (suc i < length os) × (end_at n W (get_or os i 0) ≡ get_or os (suc i) 0)

  pub ith_part : (f o i : ℕ) → Chain n W t f o → i < length (parts_from n W f o) → Ith (parts_from n W f o) f i
  ith_part zero o i c l = absurd c
  ith_part (suc f) o i c l = ⊎_elim
      (λ e. let q = parts_last f o e in subst (λ os. Ith os (suc f) i) (sym q) (only i e (subst (λ os. i < length os) q l)))
      (λ e. let q = parts_more f o e.0 in subst (λ os. Ith os (suc f) i) (sym q) (more i e.0 e.1 (λ j. ith_part f (end_at n W o) j e.1) (subst (λ os. i < length os) q l)))
      c.1
    where
      only : (i : ℕ) → last_at W o ≡ 1 → i < 1 → Ith (o ∷ []) (suc f) i
      only zero e l = record { fuel = suc f; fewer = omega arith; chain = c; ends = λ _. refl; goes = λ k. absurd (omega arith) }
      only (suc i) e l = absurd (omega arith)

      more : (i : ℕ) → last_at W o ≡ 0 → Chain n W t f (end_at n W o)
          → ((j : ℕ) → j < length (parts_from n W f (end_at n W o)) → Ith (parts_from n W f (end_at n W o)) f j)
          → i < suc (length (parts_from n W f (end_at n W o))) → Ith (o ∷ parts_from n W f (end_at n W o)) (suc f) i
      more zero e r later l =
          let p = part_first_lem f (end_at n W o) r in
          record { fuel = suc f; fewer = omega arith; chain = c; ends = λ k. absurd (omega arith); goes = λ _. (omega (arith, p.0), p.1) }
      more (suc i) e r later l =
          let p = later i (omega arith) in
          record {
            fuel = p.fuel;
            fewer = omega (arith, p.fewer);
            chain = p.chain;
            ends = λ k. ap suc (p.ends k);
            goes = λ k. let g = p.goes k in (omega (arith, g.0), g.1);
          }

  -- ---- the turns of the parts

  pub from_last : (f o : ℕ) → last_at W o ≡ 1 → turns_from n W (suc f) o ≡ stages_at W o + 2
  unfolding turns_from
  from_last f o e = rw (eq-eqb (last_at W o) 1 e, turns_from, add-zero)

  pub from_more : (f o : ℕ) → last_at W o ≡ 0 → turns_from n W (suc f) o ≡ stages_at W o + 2 + turns_from n W f (end_at n W o)
  unfolding turns_from
  from_more f o e = rw (ne_eqb (last_at W o) 1 (λ k. omega arith), turns_from)

  pub after_last : (o : ℕ) → last_at W o ≡ 1 → turns_after n W o ≡ 0
  unfolding turns_after
  after_last o e = rw (eq-eqb (last_at W o) 1 e, turns_after)

  pub after_more : (o : ℕ) → last_at W o ≡ 0 → turns_after n W o ≡ turns_from n W (length W) (end_at n W o)
  unfolding turns_after
  after_more o e = rw (ne_eqb (last_at W o) 1 (λ k. omega arith), turns_after)

  -- to allow for more parts adds no turns
  turns-fuel : (f g o : ℕ) → Chain n W t f o → f ≤ g → turns_from n W g o ≡ turns_from n W f o
  turns-fuel zero g o c l = absurd c
  turns-fuel (suc f) zero o c l = absurd (omega arith)
  turns-fuel (suc f) (suc g) o c l = ⊎_elim
      (λ e. from_last g o e ∙ sym (from_last f o e))
      (λ e. from_more g o e.0 ∙ ap (λ (x : ℕ). stages_at W o + 2 + x) (turns-fuel f g (end_at n W o) e.1 (omega arith)) ∙ sym (from_more f o e.0))
      c.1

  -- a part's own turns, then those of the parts after it
  pub turns_split : (f o : ℕ) → Chain n W t f o → f ≤ length W → turns_from n W (length W) o ≡ stages_at W o + 2 + turns_after n W o
  turns_split zero o c l = absurd c
  turns_split (suc f) o c l = turns-fuel (suc f) (length W) o c l ∙ ⊎_elim
      (λ e. from_last f o e ∙ omega (arith, after_last o e))
      (λ e. from_more f o e.0 ∙ ap (λ (x : ℕ). stages_at W o + 2 + x) (sym (turns-fuel f (length W) (end_at n W o) e.1 (omega arith)) ∙ sym (after_more o e.0)))
      c.1
