-- Sets in order with no mask 0, as those in form and those of positions are: two that have the same masks are the same; so a join's order and grouping
-- don't matter.
-- Assumes nothing.
use mathlib.Core.Path.{◌≡◌, refl, sym, ap, ◌∙◌}
use mathlib.Core.Bool.{Bool, true, false, ◌&&◌, and-eq-true_iff}
use mathlib.Core.Option.{Option, none, some}
use mathlib.Core.List.{List, [], ◌∷◌}
use Prim.Native.Nat.{ℕ, ◌+◌, ◌%◌, ◌^◌, ◌≤◌, ◌<◌}
use native.Mathlib.Omega.{arith}
use borrow.Author.Tests.{leb-true, ltb-true, le-leb, lt-ltb}
use lib.Bits.{bit_or, or_comm}
use lib.Dec.{leb, ltb}
use lib.Pow.{pow_pos}
use Rattle.reads.specs.ReadSet.{pairs_from, pairs_of, pair_form, broken_from, broken}
use Rattle.reads.specs.Asked.{read_set_of}
use Rattle.reads_asked.specs.Rising.{Rising}
use Rattle.reads_asked.proofs.AskedFormLaws.{EachPair, set_rising, set-each, with_positive}
use Rattle.joins_sets.specs.Join.{join}
use Rattle.joins_sets.proofs.JoinPutLaws.{rising_join, each_join}
use Rattle.joins_sets.proofs.JoinMaskLaws.{or_assoc, or_positive, mask_of, join_mask, Some, same_masks}

-- ---- the form that refusal 2 asks

-- "a set in form"
abbrev pub InForm : List ℕ → Type 0
InForm s = broken (pairs_of s) ≡ none

-- what it says of one pair
abbrev pub Right : ℕ → ℕ → Type 0
Right w m = (w % 2 ^ 31 < 2 ^ 27) × (0 < m)

-- and of the whole: ascending words, and each pair right
pub record FormedSet (low : ℕ) (s : List ℕ) : Type 0 where
  pub rising : Rising low s
  pub right : EachPair Right s

record PairFormed (low w m i : ℕ) (ws : List ℕ) : Type 0 where
  above : low ≤ w
  right : Right w m
  rest : broken_from (w + 1) (pairs_from (i + 1) ws) ≡ none

never_some : {A : Type 0} (i : ℕ) → some i ≡ none → A
never_some i e = let z : ◌≡◌ {A = ℕ} 0 1 = cc in absurd (omega arith)

pair_formed : (low w m i : ℕ) (ws : List ℕ) → broken_from low (pairs_from i (w ∷ m ∷ ws)) ≡ none → PairFormed low w m i ws
unfolding broken_from pairs_from pair_form
pair_formed low w m i ws e = by (leb low w && (ltb (w % 2 ^ 31) (2 ^ 27) && ltb 0 m)) refl e
  where
    by : (t : Bool) → leb low w && (ltb (w % 2 ^ 31) (2 ^ 27) && ltb 0 m) ≡ t
        → ◌≡◌ {A = Option ℕ} (elim t [ true ↦ broken_from (w + 1) (pairs_from (i + 1) ws) | false ↦ some i ]) none → PairFormed low w m i ws
    by false t e = never_some i e
    by true t e =
        let a = (and-eq-true_iff (leb low w) (ltb (w % 2 ^ 31) (2 ^ 27) && ltb 0 m)).0 t in
        let b = (and-eq-true_iff (ltb (w % 2 ^ 31) (2 ^ 27)) (ltb 0 m)).0 a.1 in
        record { above = leb-true low w a.0; right = (ltb-true (w % 2 ^ 31) (2 ^ 27) b.0, ltb-true 0 m b.1); rest = e }

half_formed : (low w i : ℕ) → broken_from low (pairs_from i (w ∷ [])) ≡ none → ⊥
unfolding broken_from pairs_from pair_form
half_formed low w i e = by (leb low w) (ltb (w % 2 ^ 31) (2 ^ 27)) e
  where
    by : (a b : Bool) → ◌≡◌ {A = Option ℕ} (elim (a && (b && false)) [ true ↦ none | false ↦ some i ]) none → ⊥
    by true true e = never_some i e
    by true false e = never_some i e
    by false b e = never_some i e

formed_from : (low i : ℕ) (s : List ℕ) → broken_from low (pairs_from i s) ≡ none → FormedSet low s
unfolding Rising EachPair
formed_from low i [] e = record { rising = tt; right = tt }
formed_from low i (w ∷ []) e = absurd (half_formed low w i e)
formed_from low i (w ∷ m ∷ ws) e =
    let p = pair_formed low w m i ws e in
    let r = formed_from (w + 1) (i + 1) ws p.rest in
    record { rising = (p.above, r.rising); right = (p.right, r.right) }

pub unbroken_from : (low i : ℕ) (s : List ℕ) → FormedSet low s → broken_from low (pairs_from i s) ≡ none
unfolding Rising EachPair broken_from pairs_from pair_form
unbroken_from low i [] f = refl
unbroken_from low i (w ∷ []) f = absurd f.rising
unbroken_from low i (w ∷ m ∷ ws) f =
    let a : leb low w ≡ true = le-leb low w f.rising.0 in
    let b : ltb (w % 2 ^ 31) (2 ^ 27) ≡ true = lt-ltb (w % 2 ^ 31) (2 ^ 27) f.right.0.0 in
    let c : ltb 0 m ≡ true = lt-ltb 0 m f.right.0.1 in
    rw (a, b, c, broken_from) (unbroken_from (w + 1) (i + 1) ws (record { rising = f.rising.1; right = f.right.1 }))

pub formed_set : (s : List ℕ) → InForm s → FormedSet 0 s
formed_set s e = formed_from 0 0 s e

-- ---- sets in order with no mask 0: those in form, and those of positions

pub record Kept (s : List ℕ) : Type 0 where
  pub rising : Rising 0 s
  pub masks : EachPair Some s

each_some : (s : List ℕ) → EachPair Right s → EachPair Some s
unfolding EachPair
each_some [] e = tt
each_some (w ∷ []) e = absurd e
each_some (w ∷ m ∷ ws) e = (e.0.1, each_some ws e.1)

pub kept : (s : List ℕ) → InForm s → Kept s
kept s e = let f = formed_set s e in record { rising = f.rising; masks = each_some s f.right }

pub kept_none : Kept []
unfolding Rising EachPair
kept_none = record { rising = tt; masks = tt }

pub kept_join : {a b : List ℕ} → Kept a → Kept b → Kept (join a b)
kept_join {a} {b} p q = record { rising = rising_join 0 a b p.rising q.rising; masks = each_join Some (λ w m n x y. or_positive n m y) a b p.masks q.masks }

pub kept_set : (qs : List ℕ) → Kept (read_set_of qs)
kept_set qs = record {
  rising = set_rising qs;
  masks = set-each Some qs (λ i l. record { alone = pow_pos _; joins = λ w m e g. with_positive m _ });
}

pub kept_same : {a b : List ℕ} → Kept a → Kept b → ((x : ℕ) → mask_of x a ≡ mask_of x b) → a ≡ b
kept_same {a} {b} p q h = same_masks 0 0 a b p.rising q.rising p.masks q.masks h

module _ {a b : List ℕ} (p : Kept a) (q : Kept b) where
  pub masks_both : (x : ℕ) → mask_of x (join a b) ≡ bit_or (mask_of x a) (mask_of x b)
  masks_both x = join_mask x 0 a b p.rising q.rising

pub kept_comm : {a b : List ℕ} → Kept a → Kept b → join a b ≡ join b a
kept_comm {a} {b} p q =
    kept_same (kept_join p q) (kept_join q p) (λ x. masks_both p q x ∙ or_comm (mask_of x a) (mask_of x b) ∙ sym (masks_both q p x))

pub kept_assoc : {a b c : List ℕ} → Kept a → Kept b → Kept c → join (join a b) c ≡ join a (join b c)
kept_assoc {a} {b} {c} p q r =
    kept_same (kept_join (kept_join p q) r) (kept_join p (kept_join q r))
    (λ x. masks_both (kept_join p q) r x ∙ ap (λ (k : ℕ). bit_or k (mask_of x c)) (masks_both p q x) ∙ or_assoc (mask_of x a) (mask_of x b) (mask_of x c)
    ∙ sym (masks_both p (kept_join q r) x ∙ ap (bit_or (mask_of x a)) (masks_both q r x)))
