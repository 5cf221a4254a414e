-- Which answer two sets have; what a good answer says of both sets; 02's laws "wherever no join in them is refused".
-- Assumes nothing.
use mathlib.Core.Path.{◌≡◌, refl, sym, ap, ◌∙◌}
use mathlib.Core.Bool.{Bool, true, false}
use mathlib.Core.Option.{Option, none, some}
use mathlib.Core.List.{List}
use Prim.Native.Nat.{ℕ, ◌/◌, ◌≤◌, ◌<◌}
use native.Mathlib.Omega.{arith}
use borrow.Author.Tests.{leb-true, le-leb, lt-leb}
use lib.Dec.{leb}
use lib.ListN.{length}
use Rattle.words.specs.Answer.{Answer, good, refused, at_item, nowhere}
use Rattle.words.specs.declared.refusals.Refusal.{Refusal}
use Rattle.reads.specs.ReadSet.{pairs_of, broken}
use Rattle.reads_try.proofs.SetPairLaws.{pairs_length}
use Rattle.reads_asked.proofs.AskedFormLaws.{rising_even}
use Rattle.joins_sets.specs.Join.{join, set_refusal, join_fitted, joining}
use Rattle.joins_sets.proofs.JoinPutLaws.{join_longer}
use Rattle.joins_sets.proofs.JoinKeptLaws.{InForm, formed_set}
use Rattle.joins_sets.proofs.JoinLaws.{join_form, join_comm, join_assoc}

-- ---- a set by itself

module _ (s : List ℕ) where
  pub set-many : 16384 < length s → set_refusal s ≡ some (nowhere 1)
  unfolding set_refusal
  set-many h = rw (lt-leb (length (pairs_of s)) 8192 (omega (arith, pairs_length 0 s)), set_refusal)

  pub set-bad : (i : ℕ) → length s ≤ 16384 → broken (pairs_of s) ≡ some i → set_refusal s ≡ some (at_item 2 i)
  unfolding set_refusal
  set-bad i h e = rw (le-leb (length (pairs_of s)) 8192 (omega (arith, pairs_length 0 s)), e, set_refusal)

  pub set_fine : length s ≤ 16384 → broken (pairs_of s) ≡ none → set_refusal s ≡ none
  unfolding set_refusal
  set_fine h e = rw (le-leb (length (pairs_of s)) 8192 (omega (arith, pairs_length 0 s)), e, set_refusal)

-- a set that is not refused
pub record FineSet (s : List ℕ) : Type 0 where
  pub few : length (pairs_of s) ≤ 8192
  pub form : InForm s

pub fine_set : (s : List ℕ) → set_refusal s ≡ none → FineSet s
unfolding set_refusal
fine_set s e = by (leb (length (pairs_of s)) 8192) refl (broken (pairs_of s)) refl e
  where
    never : {A : Type 0} (q : Refusal) → some q ≡ none → A
    never q f = let z : ◌≡◌ {A = ℕ} 0 1 = cc in absurd (omega arith)

    by : (t : Bool) → leb (length (pairs_of s)) 8192 ≡ t → (o : Option ℕ) → broken (pairs_of s) ≡ o
        → ◌≡◌ {A = Option Refusal} (elim t [ false ↦ some (nowhere 1) | true ↦ elim o [ some i ↦ some (at_item 2 i) | none ↦ none ] ]) none → FineSet s
    by false t o g f = never (nowhere 1) f
    by true t (some i) g f = never (at_item 2 i) f
    by true t none g f = record { few = leb-true (length (pairs_of s)) 8192 t; form = g }

-- ---- both, and their join

module _ (a b : List ℕ) (o : ℕ) where
  pub first_refused : (q : Refusal) → set_refusal a ≡ some q → joining a b o ≡ refused q
  unfolding joining
  first_refused q e = rw (e, joining)

  pub second_refused : (q : Refusal) → set_refusal a ≡ none → set_refusal b ≡ some q → joining a b o ≡ refused q
  unfolding joining
  second_refused q e f = rw (e, f, joining)

  module _ (e : set_refusal a ≡ none) (f : set_refusal b ≡ none) where
    both-fine : joining a b o ≡ join_fitted o (join a b)
    unfolding joining
    both-fine = rw (e, f, joining)

    pub join_many : (n : ℕ) → n ≡ length (join a b) → 16384 < n → joining a b o ≡ refused (nowhere 1)
    unfolding join_fitted
    join_many n g h = both-fine ∙ rw (lt-leb (length (pairs_of (join a b))) 8192 (omega (arith, pairs_length 0 (join a b))), join_fitted)

    module _ (n : ℕ) (g : n ≡ length (join a b)) (few : n ≤ 16384) where
      join-few : leb (length (pairs_of (join a b))) 8192 ≡ true
      join-few = le-leb (length (pairs_of (join a b))) 8192 (omega (arith, pairs_length 0 (join a b)))

      pub join_short : o < n → joining a b o ≡ refused (nowhere 14)
      unfolding join_fitted
      join_short h = let k : o < length (join a b) = omega arith in both-fine ∙ rw (join-few, lt-leb (length (join a b)) o k, join_fitted)

      pub join_good : n ≤ o → joining a b o ≡ good (join a b)
      unfolding join_fitted
      join_good h = let k : length (join a b) ≤ o = omega arith in both-fine ∙ rw (join-few, le-leb (length (join a b)) o k, join_fitted)

      -- whole pairs
      pub join_pairs : n / 2 ≡ length (pairs_of (join a b))
      join_pairs =
          let form = join_form a b (fine_set a e).form (fine_set b f).form in
          omega (arith, pairs_length 0 (join a b), rising_even 0 (join a b) (formed_set (join a b) form).rising)

-- ---- what a join that is not refused says

pub record GoodJoin (a b : List ℕ) (o : ℕ) (s : List ℕ) : Type 0 where
  pub first : set_refusal a ≡ none
  pub second : set_refusal b ≡ none
  pub is : s ≡ join a b
  pub few : length s ≤ 16384
  pub room : length s ≤ o

pub good_join : (a b : List ℕ) (o : ℕ) (s : List ℕ) → joining a b o ≡ good s → GoodJoin a b o s
unfolding joining join_fitted
good_join a b o s e = by (set_refusal a) refl (set_refusal b) refl (leb (length (pairs_of (join a b))) 8192) refl (leb (length (join a b)) o) refl e
  where
    never : {A : Type 0} (q : Refusal) → refused q ≡ good s → A
    never q f = let z : ◌≡◌ {A = ℕ} 0 1 = cc in absurd (omega arith)

    by : (x : Option Refusal) → set_refusal a ≡ x → (y : Option Refusal) → set_refusal b ≡ y → (t : Bool) → leb (length (pairs_of (join a b))) 8192 ≡ t
        → (u : Bool) → leb (length (join a b)) o ≡ u
        → ◌≡◌ {A = Answer (List ℕ)} (elim x [
          | some q ↦ refused q
          | none ↦ elim y [
            | some q ↦ refused q
            | none ↦ elim t [ false ↦ refused (nowhere 1) | true ↦ elim u [ false ↦ refused (nowhere 14) | true ↦ good (join a b) ] ]
          ]
        ]) (good s)
        → GoodJoin a b o s
    by (some q) x y yh t th u uh f = never q f
    by none x (some q) yh t th u uh f = never q f
    by none x none yh false th u uh f = never (nowhere 1) f
    by none x none yh true th false uh f = never (nowhere 14) f
    by none x none yh true th true uh f =
        let same : s ≡ join a b = cc in
        record {
          first = x;
          second = yh;
          is = same;
          few = omega (arith, ap length same, leb-true (length (pairs_of (join a b))) 8192 th, pairs_length 0 (join a b));
          room = omega (arith, ap length same, leb-true (length (join a b)) o uh);
        }

-- "Order and grouping don't change the set" where no join is refused: the other order is not refused either
pub good_order : (a b : List ℕ) (o : ℕ) (s : List ℕ) → joining a b o ≡ good s → joining b a o ≡ good s
good_order a b o s e =
    let g = good_join a b o s e in
    let turned : join b a ≡ s = join_comm b a (fine_set b g.second).form (fine_set a g.first).form ∙ sym g.is in
    let fits : length s ≡ length (join b a) = sym (ap length turned) in
    join_good b a o g.second g.first (length s) fits g.few g.room ∙ ap good turned

pub good_grouping : (a b c : List ℕ) (o₁ o₂ o₃ o₄ : ℕ) (ab bc s t : List ℕ)
    → joining a b o₁ ≡ good ab → joining ab c o₂ ≡ good s → joining b c o₃ ≡ good bc → joining a bc o₄ ≡ good t → s ≡ t
good_grouping a b c o₁ o₂ o₃ o₄ ab bc s t e f g h =
    let E = good_join a b o₁ ab e in
    let F = good_join ab c o₂ s f in
    let G = good_join b c o₃ bc g in
    let H = good_join a bc o₄ t h in
    F.is ∙ ap (λ (x : List ℕ). join x c) E.is
    ∙ join_assoc a b c (fine_set a E.first).form (fine_set b E.second).form (fine_set c F.second).form
    ∙ sym (H.is ∙ ap (join a) G.is)

-- and the other grouping is not refused either, where its results are as long as the last one
pub good_regrouping : (a b c : List ℕ) (o₁ o₂ : ℕ) (ab s : List ℕ) → joining a b o₁ ≡ good ab → joining ab c o₂ ≡ good s
    → (joining b c o₂ ≡ good (join b c)) × (joining a (join b c) o₂ ≡ good s)
good_regrouping a b c o₁ o₂ ab s e f =
    let E = good_join a b o₁ ab e in
    let F = good_join ab c o₂ s f in
    let p = (fine_set a E.first).form in
    let q = (fine_set b E.second).form in
    let r = (fine_set c F.second).form in
    let same : join a (join b c) ≡ s = sym (F.is ∙ ap (λ (x : List ℕ). join x c) E.is ∙ join_assoc a b c p q r) in
    let longer : length (join b c) ≤ length s = omega (arith, join_longer a (join b c), ap length same) in
    let few : length (join b c) ≤ 16384 = omega (arith, F.few) in
    let fine : set_refusal (join b c) ≡ none = set_fine (join b c) few (join_form b c q r) in
    let fits : length s ≡ length (join a (join b c)) = sym (ap length same) in (
      join_good b c o₂ E.second F.second (length (join b c)) refl few (omega (arith, F.room)),
      join_good a (join b c) o₂ E.first fine (length s) fits F.few F.room ∙ ap good same,
    )
