-- The block of least cost is the first least, each part's block is one of the blocks, and a block's cost is the sum of its parts' costs.
-- Assumes nothing.
use mathlib.Core.Path.{◌≡◌, refl, sym, ap, ap₂, ◌∙◌}
use mathlib.Core.Logic.{◌⊎◌, inl, inr, ⊎_elim}
use mathlib.Core.List.{List}
use Prim.Native.Nat.{ℕ, zero, suc, ◌+◌, ◌-◌, ◌≤◌, ◌<◌}
use native.Mathlib.Nat.{add-zero, zero-add}
use native.Mathlib.Numerals.{add-one}
use native.Mathlib.Omega.{arith}
use borrow.Author.Tests.{eq-eqb, ne_eqb, lt-ltb, le-ltb}
use lib.Dec.{eqb}
use lib.ListN.{length, get_or, set, replicate, length-set, length-replicate, get_or-replicate}
use lib.Seq.{get_or-set_same, get_or-set_other}
use Rattle.words.specs.Sum.{sum_to}
use Rattle.words.specs.Section.{list_of}
use Rattle.words.proofs.SumLaws.{sum_more, sum_le, sum_ext}
use Rattle.words.proofs.SectionLaws.{length_list_of, get_d_list_of, list_of-is, list_of_ext}
use Rattle.words.proofs.BitLaws.{lt_or_ge}
use Rattle.plan_blocks.specs.Blocks.{least_to, block_for, costs_after, block_in}
use Rattle.plan_blocks.specs.Sums.{where_true, in_block}
use Rattle.plan_blocks.proofs.TotalLaws.{same_or, given_le, given_true, given_false, sum_mono, sum-most, sum_swap, sum_meets}

-- ---- the first least

pub record FirstLeast (costs : List ℕ) (n b : ℕ) : Type 0 where
  pub within : b ≤ n
  pub least : (k : ℕ) → k ≤ n → get_or costs b 0 ≤ get_or costs k 0
  pub first : (k : ℕ) → k < b → get_or costs b 0 < get_or costs k 0

least_new : (costs : List ℕ) (n : ℕ) → get_or costs (suc n) 0 < get_or costs (least_to costs n) 0 → least_to costs (suc n) ≡ suc n
unfolding least_to
least_new costs n h = rw (lt-ltb _ _ h, least_to)

least_old : (costs : List ℕ) (n : ℕ) → get_or costs (least_to costs n) 0 ≤ get_or costs (suc n) 0 → least_to costs (suc n) ≡ least_to costs n
unfolding least_to
least_old costs n h = rw (le-ltb _ _ h, least_to)

pub least_is : (costs : List ℕ) (n : ℕ) → FirstLeast costs n (least_to costs n)
unfolding least_to
least_is costs zero = record {
  within = omega arith;
  least = λ k l. let e : k ≡ 0 = omega arith in rw e (omega arith);
  first = λ k l. absurd (omega arith);
}
least_is costs (suc n) = ⊎_elim (new (least_is costs n)) (old (least_is costs n)) (lt_or_ge (get_or costs (suc n) 0) (get_or costs (least_to costs n) 0))
  where
    last : (k : ℕ) → k ≤ suc n → (k ≤ n) ⊎ (k ≡ suc n)
    last k l = ⊎_elim (λ g. inl (omega arith)) (λ g. inr (omega arith)) (lt_or_ge k (suc n))

    new : FirstLeast costs n (least_to costs n) → get_or costs (suc n) 0 < get_or costs (least_to costs n) 0 → FirstLeast costs (suc n) (least_to costs (suc n))
    new r h =
        rw (least_new costs n h)
        (record {
          within = omega arith;
          least = λ k l. ⊎_elim (λ g. omega (arith, r.least k g)) (λ e. rw e (omega arith)) (last k l);
          first = λ k l. omega (arith, r.least k (omega arith));
        })

    old : FirstLeast costs n (least_to costs n) → get_or costs (least_to costs n) 0 ≤ get_or costs (suc n) 0 → FirstLeast costs (suc n) (least_to costs (suc n))
    old r h =
        rw (least_old costs n h)
        (record {
          within = omega (arith, r.within);
          least = λ k l. ⊎_elim (λ g. r.least k g) (λ e. rw e h) (last k l);
          first = λ k l. r.first k l;
        })

-- in the code's terms: the best of the first i costs, then of one more
pub least_start : (costs : List ℕ) → least_to costs (1 - 1) ≡ 0
unfolding least_to
least_start costs = refl

pub least_here : (costs : List ℕ) (best i : ℕ) → 0 < i → best ≡ least_to costs (i - 1) → get_or costs i 0 < get_or costs best 0 → i ≡ least_to costs (i + 1 - 1)
least_here costs best zero p e h = absurd (omega arith)
least_here costs best (suc n) p e h =
    let q : suc n + 1 - 1 ≡ suc n = omega arith in
    let r : suc n - 1 ≡ n = omega arith in
    let f : best ≡ least_to costs n = e ∙ ap (least_to costs) r in
    sym (ap (least_to costs) q ∙ least_new costs n (rw f at h))

pub least_kept : (costs : List ℕ) (best i : ℕ) → 0 < i → best ≡ least_to costs (i - 1) → get_or costs best 0 ≤ get_or costs i 0 → best ≡ least_to costs (i + 1 - 1)
least_kept costs best zero p e h = absurd (omega arith)
least_kept costs best (suc n) p e h =
    let q : suc n + 1 - 1 ≡ suc n = omega arith in
    let r : suc n - 1 ≡ n = omega arith in
    let f : best ≡ least_to costs n = e ∙ ap (least_to costs) r in
    f ∙ sym (ap (least_to costs) q ∙ least_old costs n (rw f at h))

-- ---- the block of a part

pub for_early : (B : ℕ) (costs : List ℕ) (i : ℕ) → i < B → block_for B costs i ≡ i
unfolding block_for
for_early B costs i h = rw (lt-ltb _ _ h, block_for)

pub for_later : (B : ℕ) (costs : List ℕ) (i : ℕ) → B ≤ i → block_for B costs i ≡ least_to costs (B - 1)
unfolding block_for
for_later B costs i h = rw (le-ltb _ _ h, block_for)

pub for_lt : (B : ℕ) (costs : List ℕ) (i : ℕ) → 0 < B → block_for B costs i < B
for_lt B costs i p =
    ⊎_elim (λ l. omega (arith, for_early B costs i l))
    (λ l. omega (arith, for_later B costs i l, (least_is costs (B - 1)).within))
    (lt_or_ge i B)

-- a block's part of a sum
module _ (block words : ℕ → ℕ) where
  pub in_more : (b n : ℕ) → in_block block words b (n + 1) ≡ in_block block words b n + where_true (eqb (block n) b) (words n)
  unfolding in_block
  in_more b n = sum_more (λ j. where_true (eqb (block j) b) (words j)) n

  pub in_none : (b : ℕ) → in_block block words b 0 ≡ 0
  unfolding in_block sum_to
  in_none b = refl

  pub in_here : (n : ℕ) → in_block block words (block n) (n + 1) ≡ in_block block words (block n) n + words n
  in_here n = in_more (block n) n ∙ ap (λ (x : ℕ). in_block block words (block n) n + x) (given_true _ (words n) (eq-eqb (block n) (block n) refl))

  pub in_other : (b n : ℕ) → (b ≡ block n → ⊥) → in_block block words b (n + 1) ≡ in_block block words b n
  in_other b n h = in_more b n ∙ ap (λ (x : ℕ). in_block block words b n + x) (given_false _ (words n) (ne_eqb (block n) b (λ e. h (sym e)))) ∙ add-zero _

  pub in_grows : (b m n : ℕ) → m ≤ n → in_block block words b m ≤ in_block block words b n
  unfolding in_block
  in_grows b m n l = sum_le (λ j. where_true (eqb (block j) b) (words j)) m n l

  pub in_most : (b n : ℕ) → in_block block words b n ≤ sum_to words n
  unfolding in_block
  in_most b n = sum_mono _ words n (λ j l. given_le (eqb (block j) b) (words j))

  -- all blocks together
  pub in_total : (B n : ℕ) → ((j : ℕ) → j < n → block j < B) → sum_to (λ b. in_block block words b n) B ≡ sum_to words n
  unfolding in_block
  in_total B n h =
      sym (sum_swap (λ j b. where_true (eqb (block j) b) (words j)) n B)
      ∙ sum_ext _ words n (λ j l. sum_meets (words j) (block j) B ∙ given_true _ (words j) (lt-ltb _ _ (h j l)))

pub in_ext : (block block' words words' : ℕ → ℕ) (b n : ℕ) → ((j : ℕ) → j < n → block j ≡ block' j) → ((j : ℕ) → j < n → words j ≡ words' j)
    → in_block block words b n ≡ in_block block' words' b n
unfolding in_block
in_ext block block' words words' b n h g = sum_ext _ _ n (λ j l. ap₂ (λ (x y : ℕ). where_true (eqb x b) y) (h j l) (g j l))

-- the sums of the blocks, as a list: one part more
pub sums_none : (block words : ℕ → ℕ) (B : ℕ) → replicate B 0 ≡ list_of (λ b. 0 + in_block block words b 0) B
sums_none block words B =
    list_of-is _ B (replicate B 0) (length-replicate B 0) (λ b l. get_or-replicate B b 0 0 l ∙ omega (arith, in_none block words b))

pub sums_start : (block words : ℕ → ℕ) (sums : List ℕ) → sums ≡ list_of (λ b. get_or sums b 0 + in_block block words b 0) (length sums)
sums_start block words sums = list_of-is _ _ sums refl (λ b l. omega (arith, in_none block words b))

pub sums_plain : (g : ℕ → ℕ) (B : ℕ) → list_of (λ b. 0 + g b) B ≡ list_of g B
sums_plain g B = list_of_ext _ g B (λ b l. zero-add (g b))

module _ (block words first : ℕ → ℕ) (B n : ℕ) (sums : List ℕ) (is : sums ≡ list_of (λ b. first b + in_block block words b n) B) (l : block n < B) where
  pub sums_at : get_or sums (block n) 0 ≡ first (block n) + in_block block words (block n) n
  sums_at = ap (λ (s : List ℕ). get_or s (block n) 0) is ∙ get_d_list_of _ B (block n) l

  pub sums_more : set sums (block n) (get_or sums (block n) 0 + words n) ≡ list_of (λ b. first b + in_block block words b (n + 1)) B
  sums_more =
      list_of-is _ B _ (length-set sums _ _ ∙ long)
      (λ b u. ⊎_elim (λ e. here b e) (λ e. get_or-set_other sums (block n) b _ 0 e ∙ other b u e) (same_or b (block n)))
    where
      long : length sums ≡ B
      long = ap length is ∙ length_list_of _ B

      here : (b : ℕ) → b ≡ block n → get_or (set sums (block n) (get_or sums (block n) 0 + words n)) b 0 ≡ first b + in_block block words b (n + 1)
      here b e =
          rw e
          (get_or-set_same sums (block n) _ 0 (omega (arith, long))
          ∙ omega (arith, sums_at, in_here block words n))

      other : (b : ℕ) → b < B → (b ≡ block n → ⊥) → get_or sums b 0 ≡ first b + in_block block words b (n + 1)
      other b u e = ap (λ (s : List ℕ). get_or s b 0) is ∙ get_d_list_of _ B b u ∙ ap (λ (x : ℕ). first b + x) (sym (in_other block words b n e))

-- ---- costs

pub costs_none : (B : ℕ) (f : ℕ → ℕ) → costs_after B f 0 ≡ replicate B 0
unfolding costs_after
costs_none B f = refl

module _ (B : ℕ) (f : ℕ → ℕ) (p : 0 < B) where
  pub in_lt : (i : ℕ) → block_in B f i < B
  unfolding block_in
  in_lt i = for_lt B (costs_after B f i) i p

  -- the cost of a block is what its parts cost
  pub costs_are : (i : ℕ) → costs_after B f i ≡ list_of (λ b. 0 + in_block (block_in B f) (λ j. f j + 3) b i) B
  unfolding costs_after block_in
  costs_are zero = sums_none (block_in B f) (λ j. f j + 3) B
  costs_are (suc i) = rw (← add-one i) (sums_more (block_in B f) (λ j. f j + 3) (λ b. 0) B i (costs_after B f i) (costs_are i) (in_lt i))

  pub costs_small : (i b : ℕ) → b < B → i ≤ 4096 → ((j : ℕ) → j < i → f j ≤ 255) → get_or (costs_after B f i) b 0 ≤ 1056768
  costs_small i b l u h =
      omega (
        arith,
        ap (λ (s : List ℕ). get_or s b 0) (costs_are i) ∙ get_d_list_of _ B b l,
        in_most (block_in B f) (λ j. f j + 3) b i,
        sum-most 258 (λ j. f j + 3) i (λ j k. omega (arith, h j k)),
      )
