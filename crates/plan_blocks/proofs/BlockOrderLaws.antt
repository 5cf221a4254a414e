-- The order "block by block, in a block in the order in which its parts were put there", and what the parts before a part take.
-- Assumes nothing.
use mathlib.Core.Path.{◌≡◌, refl, sym, ap, ap₂, ◌∙◌}
use mathlib.Core.Bool.{Bool, true, false, ◌&&◌, ◌||◌}
use mathlib.Core.Logic.{◌⊎◌, inl, inr, ⊎_elim}
use Prim.Native.Nat.{ℕ, zero, suc, ◌+◌, ◌-◌, ◌≤◌, ◌<◌}
use native.Mathlib.Nat.{add-zero, zero-add, one-mul}
use native.Mathlib.Omega.{arith}
use borrow.Author.Tests.{eq-eqb, ne_eqb, lt-ltb, le-ltb, eqb-true, ltb-true}
use lib.Dec.{eqb, ltb}
use Rattle.words.specs.Sum.{sum_to}
use Rattle.words.proofs.SumLaws.{sum_ext}
use Rattle.words.specs.Tests.{some_below}
use Rattle.words.proofs.TestLaws.{not_both, not_true_false, some_found, some_none}
use Rattle.plan_blocks.specs.Blocks.{comes_before, taken_before}
use Rattle.plan_blocks.specs.Sums.{where_true, in_block}
use Rattle.plan_blocks.proofs.TotalLaws.{three_ways, same_or, given_le, given_true, given_false, sum_zero, sum_const, sum_add, sum_mono, sum_split, sum_swap, sum_only, sum_meets}

-- ---- the order

-- part j comes before part i, in words
abbrev pub Before : (ℕ → ℕ) → ℕ → ℕ → Type 0
Before block i j = (block j < block i) ⊎ ((block j ≡ block i) × (j < i))

module _ (block : ℕ → ℕ) where
  pub before_is : (i j : ℕ) → comes_before block i j ≡ true → Before block i j
  unfolding comes_before
  before_is i j h = go (ltb (block j) (block i)) refl (eqb (block j) (block i)) refl (ltb j i) refl
    where
      go : (a : Bool) → ltb (block j) (block i) ≡ a → (b : Bool) → eqb (block j) (block i) ≡ b → (e : Bool) → ltb j i ≡ e → Before block i j
      go true p b q e r = inl (ltb-true _ _ p)
      go false p true q true r = inr (eqb-true _ _ q, ltb-true _ _ r)
      go false p true q false r = absurd (not_both _ h (rw (p, q, r)))
      go false p false q e r = absurd (not_both _ h (rw (p, q)))

  pub is_before : (i j : ℕ) → Before block i j → comes_before block i j ≡ true
  unfolding comes_before
  is_before i j (inl l) = rw (lt-ltb _ _ l)
  is_before i j (inr (e, l)) = rw (le-ltb (block j) (block i) (omega arith), eq-eqb _ _ e, lt-ltb _ _ l)

  pub before_self : (i : ℕ) → comes_before block i i ≡ false
  before_self i = go (comes_before block i i) refl
    where
      go : (b : Bool) → comes_before block i i ≡ b → b ≡ false
      go true e = absurd (⊎_elim (λ l. omega arith) (λ l. omega (arith, l.1)) (before_is i i e))
      go false e = refl

  -- of two parts one comes before the other
  pub before_either : (i j : ℕ) → (i ≡ j → ⊥) → (comes_before block i j ≡ true) ⊎ (comes_before block j i ≡ true)
  before_either i j h =
      ⊎_elim (λ l. inr (is_before j i (inl l)))
      (λ r.
      ⊎_elim
      (λ e.
      ⊎_elim (λ l. inr (is_before j i (inr (e, l))))
      (λ s. ⊎_elim (λ q. absurd (h q)) (λ l. inl (is_before i j (inr (sym e, l)))) s)
      (three_ways i j))
      (λ l. inl (is_before i j (inl l)))
      r)
      (three_ways (block i) (block j))

  pub before_trans : (i j k : ℕ) → comes_before block j i ≡ true → comes_before block i k ≡ true → comes_before block j k ≡ true
  before_trans i j k p q =
      is_before j k
      (⊎_elim
      (λ l. ⊎_elim (λ m. inl (omega arith)) (λ m. inl (omega (arith, m.0))) (before_is i k q))
      (λ l. ⊎_elim (λ m. inl (omega (arith, l.0))) (λ m. inr (omega (arith, l.0, m.0), omega (arith, l.1, m.1))) (before_is i k q))
      (before_is j i p))

  pub before_not : (i j : ℕ) → comes_before block j i ≡ true → comes_before block i j ≡ true → ⊥
  before_not i j p q = not_both _ (before_trans i j j p q) (before_self j)

-- ---- what the parts before a part take

module _ (block words : ℕ → ℕ) (c : ℕ) where
  -- with itself
  pub taken_with : (i : ℕ) → i < c
      → taken_before block words c i + words i ≡ sum_to (λ j. where_true (comes_before block i j) (words j) + where_true (eqb j i) (words j)) c
  unfolding taken_before
  taken_with i l =
      sym (sum_add (λ j. where_true (comes_before block i j) (words j)) (λ j. where_true (eqb j i) (words j)) c ∙ ap (λ (x : ℕ). taken_before block words c i + x) (sum_only words c i l))

  -- a part that comes before part j ends at or before its start
  pub taken_next : (i j : ℕ) → i < c → comes_before block j i ≡ true → taken_before block words c i + words i ≤ taken_before block words c j
  unfolding taken_before
  taken_next i j l h = rw (taken_with i l) (sum_mono _ _ c each)
    where
      each : (k : ℕ) → k < c → where_true (comes_before block i k) (words k) + where_true (eqb k i) (words k) ≤ where_true (comes_before block j k) (words k)
      each k u = go (comes_before block i k) refl (eqb k i) refl
        where
          go : (a : Bool) → comes_before block i k ≡ a → (b : Bool) → eqb k i ≡ b → where_true a (words k) + where_true b (words k) ≤ where_true (comes_before block j k) (words k)
          go true p true q = absurd (not_both _ p (ap (comes_before block i) (eqb-true k i q) ∙ before_self block i))
          go true p false q = omega (arith, given_true _ (words k) (before_trans block i j k h p))
          go false p true q = omega (arith, given_true _ (words k) (ap (comes_before block j) (eqb-true k i q) ∙ h))
          go false p false q = omega arith

  -- all of it is inside what the parts take together
  pub taken_in : (i : ℕ) → i < c → taken_before block words c i + words i ≤ sum_to words c
  taken_in i l = rw (taken_with i l) (sum_mono _ _ c each)
    where
      each : (k : ℕ) → k < c → where_true (comes_before block i k) (words k) + where_true (eqb k i) (words k) ≤ words k
      each k u = go (comes_before block i k) refl (eqb k i) refl
        where
          go : (a : Bool) → comes_before block i k ≡ a → (b : Bool) → eqb k i ≡ b → where_true a (words k) + where_true b (words k) ≤ words k
          go true p true q = absurd (not_both _ p (ap (comes_before block i) (eqb-true k i q) ∙ before_self block i))
          go true p false q = omega arith
          go false p true q = omega arith
          go false p false q = omega arith

  -- two parts have nothing in common
  pub taken_apart : (i j : ℕ) → i < c → j < c → (i ≡ j → ⊥)
      → (taken_before block words c i + words i ≤ taken_before block words c j) ⊎ (taken_before block words c j + words j ≤ taken_before block words c i)
  taken_apart i j l m h = ⊎_elim (λ b. inr (taken_next j i m b)) (λ b. inl (taken_next i j l b)) (before_either block i j h)

-- ---- what the parts before a part take, block by block: all of the lower blocks, and the part's own block up to it

module _ (block words : ℕ → ℕ) (c : ℕ) where
  lower-blocks : (x : ℕ) → sum_to (λ j. where_true (ltb (block j) x) (words j)) c ≡ sum_to (λ b. in_block block words b c) x
  unfolding in_block
  lower-blocks x =
      sum_ext _ _ c (λ j l. sym (sum_meets (words j) (block j) x))
      ∙ sum_swap (λ j b. where_true (eqb (block j) b) (words j)) c x

  own_block : (x i m : ℕ) → i + m ≡ c → sum_to (λ j. where_true (eqb (block j) x && ltb j i) (words j)) c ≡ in_block block words x i
  unfolding in_block
  own_block x i m e =
      ap (sum_to f) (sym e)
      ∙ sum_split f i m
      ∙ ap₂ ◌+◌ (sum_ext f (λ j. where_true (eqb (block j) x) (words j)) i (λ j l. below j (lt-ltb j i l)))
      (sum_zero (λ j. f (i + j)) m (λ j l. above (i + j) (le-ltb (i + j) i (omega arith))))
      ∙ add-zero _
    where
      f : ℕ → ℕ
      f j = where_true (eqb (block j) x && ltb j i) (words j)

      below : (j : ℕ) → ltb j i ≡ true → where_true (eqb (block j) x && ltb j i) (words j) ≡ where_true (eqb (block j) x) (words j)
      below j l = rw l (go (eqb (block j) x))
        where
          go : (b : Bool) → where_true (b && true) (words j) ≡ where_true b (words j)
          go true = refl
          go false = refl

      above : (j : ℕ) → ltb j i ≡ false → where_true (eqb (block j) x && ltb j i) (words j) ≡ 0
      above j l = rw l (go (eqb (block j) x))
        where
          go : (b : Bool) → where_true (b && false) (words j) ≡ 0
          go true = refl
          go false = refl

  pub taken_blocks : (i : ℕ) → i ≤ c → taken_before block words c i ≡ sum_to (λ b. in_block block words b c) (block i) + in_block block words (block i) i
  unfolding taken_before comes_before
  taken_blocks i l =
      sum_ext _ (λ j. where_true (ltb (block j) (block i)) (words j) + where_true (eqb (block j) (block i) && ltb j i) (words j)) c (λ j u. each j)
      ∙ sum_add _ _ c
      ∙ ap₂ ◌+◌ (lower-blocks (block i)) (own_block (block i) i (c - i) (omega arith))
    where
      each : (j : ℕ) → where_true (ltb (block j) (block i) || (eqb (block j) (block i) && ltb j i)) (words j)
          ≡ where_true (ltb (block j) (block i)) (words j) + where_true (eqb (block j) (block i) && ltb j i) (words j)
      each j = go (ltb (block j) (block i)) refl
        where
          go : (a : Bool) → ltb (block j) (block i) ≡ a → where_true (a || (eqb (block j) (block i) && ltb j i)) (words j) ≡ where_true a (words j) + where_true (eqb (block j) (block i) && ltb j i) (words j)
          go true p = let e : eqb (block j) (block i) ≡ false = ne_eqb _ _ (λ (q : block j ≡ block i). omega (arith, ltb-true (block j) (block i) p)) in rw e (sym (add-zero (words j)))
          go false p = sym (zero-add _)

-- ---- numbers below c that are all different and below c are all the numbers below c

module _ (f : ℕ → ℕ) (c : ℕ) (below : (i : ℕ) → i < c → f i < c) (apart : (i j : ℕ) → i < c → j < c → f i ≡ f j → i ≡ j) where
  met-once : (b n : ℕ) → n ≤ c → sum_to (λ i. where_true (eqb (f i) b) 1) n ≤ 1
  unfolding sum_to
  met-once b zero l = omega arith
  met-once b (suc n) l = go (eqb (f n) b) refl (met-once b n (omega arith))
    where
      go : (a : Bool) → eqb (f n) b ≡ a → sum_to (λ i. where_true (eqb (f i) b) 1) n ≤ 1 → sum_to (λ i. where_true (eqb (f i) b) 1) n + where_true (eqb (f n) b) 1 ≤ 1
      go true e r =
          omega (
            arith,
            sum_zero (λ i. where_true (eqb (f i) b) 1) n
                (λ i u. given_false (eqb (f i) b) 1 (ne_eqb (f i) b (λ q. omega (arith, apart i n (omega arith) l (q ∙ sym (eqb-true (f n) b e)))))),
            given_le (eqb (f n) b) 1,
          )
      go false e r = omega (arith, given_false (eqb (f n) b) 1 e)

  met_all : sum_to (λ b. sum_to (λ i. where_true (eqb (f i) b) 1) c) c ≡ c
  met_all =
      sym (sum_swap (λ i b. where_true (eqb (f i) b) 1) c c)
      ∙ sum_ext _ (λ i. 1) c (λ i l. sum_meets 1 (f i) c ∙ given_true _ 1 (lt-ltb _ _ (below i l)))
      ∙ sum_const 1 c
      ∙ one-mul c

  pub all_met : (k : ℕ) → k < c → (i : ℕ) × (i < c) × (f i ≡ k)
  all_met k l = go (some_below (λ i. eqb (f i) k) c) refl
    where
      go : (a : Bool) → some_below (λ i. eqb (f i) k) c ≡ a → (i : ℕ) × (i < c) × (f i ≡ k)
      go true e = let (i, u, q) = some_found _ c e in (i, u, eqb-true _ _ q)
      go false e =
          let none : sum_to (λ i. where_true (eqb (f i) k) 1) c ≡ 0 = sum_zero _ c (λ i u. given_false (eqb (f i) k) 1 (some_none (λ x. eqb (f x) k) c i e u)) in
          let each : (b : ℕ) → b < c → sum_to (λ i. where_true (eqb (f i) b) 1) c + where_true (eqb b k) 1 ≤ 1 =
          λ b u.
          ⊎_elim (λ (h : b ≡ k). omega (arith, ap (λ (x : ℕ). sum_to (λ i. where_true (eqb (f i) x) 1) c) h, none, given_le (eqb b k) 1))
          (λ (h : b ≡ k → ⊥). omega (arith, met-once b c (omega arith), given_false (eqb b k) 1 (ne_eqb b k h)))
          (same_or b k)
          in
          absurd
          (omega (
            arith,
            sum_mono (λ b. sum_to (λ i. where_true (eqb (f i) b) 1) c + where_true (eqb b k) 1) (λ b. 1) c each,
            sum_add (λ b. sum_to (λ i. where_true (eqb (f i) b) 1) c) (λ b. where_true (eqb b k) 1) c,
            met_all,
            sum_only (λ b. 1) c k l,
            sum_const 1 c,
          ))

-- ---- ranks: how many parts come before a part

abbrev pub rank : (ℕ → ℕ) → ℕ → ℕ → ℕ
rank block c i = taken_before block (λ j. 1) c i

module _ (block : ℕ → ℕ) (c : ℕ) where
  pub rank_lt : (i : ℕ) → i < c → rank block c i < c
  rank_lt i l = omega (arith, taken_in block (λ j. 1) c i l, sum_const 1 c)

  pub rank_apart : (i j : ℕ) → i < c → j < c → rank block c i ≡ rank block c j → i ≡ j
  rank_apart i j l m e =
      ⊎_elim (λ q. q) (λ q. ⊎_elim (λ u. absurd (omega (arith, e))) (λ u. absurd (omega (arith, e))) (taken_apart block (λ j. 1) c i j l m q)) (same_or i j)

  -- every rank below c is taken
  pub rank_taken : (k : ℕ) → k < c → (i : ℕ) × (i < c) × (rank block c i ≡ k)
  rank_taken = all_met (rank block c) c rank_lt rank_apart

  -- a part of a lower rank comes before
  pub rank_before : (i j : ℕ) → i < c → j < c → rank block c i < rank block c j → comes_before block j i ≡ true
  rank_before i j l m h =
      ⊎_elim (λ b. absurd (omega (arith, taken_next block (λ j. 1) c j i m b))) (λ b. b)
      (before_either block i j (λ e. omega (arith, ap (rank block c) e)))

  module _ (words : ℕ → ℕ) where
    -- in the order of the ranks what they take ascends
    pub rank_order : (i j : ℕ) → i < c → j < c → rank block c i < rank block c j → taken_before block words c i + words i ≤ taken_before block words c j
    rank_order i j l m h = taken_next block words c i j l (rank_before i j l m h)

    -- with nothing between two parts, before the first or after the last
    pub rank_next : (i j : ℕ) → i < c → j < c → rank block c j ≡ rank block c i + 1 → taken_before block words c j ≡ taken_before block words c i + words i
    unfolding taken_before
    rank_next i j l m h = sum_ext _ _ c each ∙ sym (taken_with block words c i l)
      where
        first : comes_before block j i ≡ true
        first = rank_before i j l m (omega arith)

        each : (k : ℕ) → k < c → where_true (comes_before block j k) (words k) ≡ where_true (comes_before block i k) (words k) + where_true (eqb k i) (words k)
        each k u =
            ⊎_elim
            (λ q.
            omega (
              arith,
              given_true (comes_before block j k) (words k) (ap (comes_before block j) q ∙ first),
              given_false (comes_before block i k) (words k) (ap (comes_before block i) q ∙ before_self block i),
              given_true (eqb k i) (words k) (eq-eqb k i q),
            ))
            (λ q.
            ⊎_elim
            (λ b.
            let no : comes_before block i k ≡ false = not_true_false _ (λ t. before_not block i k b t) in
            let nor : comes_before block j k ≡ false =
            not_true_false _ (λ t. omega (arith, taken_next block (λ x. 1) c i k l b, taken_next block (λ x. 1) c k j u t))
            in
            omega (arith, given_false _ (words k) no, given_false _ (words k) nor, given_false (eqb k i) (words k) (ne_eqb k i q)))
            (λ b.
            omega (
              arith,
              given_true _ (words k) b,
              given_true _ (words k) (before_trans block i j k first b),
              given_false (eqb k i) (words k) (ne_eqb k i q),
            ))
            (before_either block k i q))
            (same_or k i)

    pub rank_first : (i : ℕ) → i < c → rank block c i ≡ 0 → taken_before block words c i ≡ 0
    unfolding taken_before
    rank_first i l h =
        sum_zero _ c
        (λ k u. given_false (comes_before block i k) (words k) (not_true_false _ (λ t. omega (arith, taken_next block (λ x. 1) c k i u t))))

    pub rank_last : (i : ℕ) → i < c → rank block c i + 1 ≡ c → taken_before block words c i + words i ≡ sum_to words c
    rank_last i l h = taken_with block words c i l ∙ sum_ext _ _ c each
      where
        each : (k : ℕ) → k < c → where_true (comes_before block i k) (words k) + where_true (eqb k i) (words k) ≡ words k
        each k u =
            ⊎_elim
            (λ q.
            omega (
              arith,
              given_false (comes_before block i k) (words k) (ap (comes_before block i) q ∙ before_self block i),
              given_true (eqb k i) (words k) (eq-eqb k i q),
            ))
            (λ q.
            ⊎_elim (λ b. absurd (omega (arith, taken_next block (λ x. 1) c i k l b, rank_lt k u)))
            (λ b. omega (arith, given_true (comes_before block i k) (words k) b, given_false (eqb k i) (words k) (ne_eqb k i q)))
            (before_either block k i q))
            (same_or k i)

-- ---- the same parts, blocks and words

pub taken_ext : (block block' words words' : ℕ → ℕ) (c i : ℕ) → i < c → ((j : ℕ) → j < c → block j ≡ block' j) → ((j : ℕ) → j < c → words j ≡ words' j)
    → taken_before block words c i ≡ taken_before block' words' c i
unfolding taken_before comes_before
taken_ext block block' words words' c i l h g =
    sum_ext _ _ c
    (λ j u.
    ap₂ (λ (x y : ℕ). where_true (ltb x y || (eqb x y && ltb j i)) (words j)) (h j u) (h i l)
    ∙ ap (λ (w : ℕ). where_true (ltb (block' j) (block' i) || (eqb (block' j) (block' i) && ltb j i)) w) (g j u))
