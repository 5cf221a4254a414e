-- The costs and the part counts of the first n block records: of one record, of all where one changes, and of records without parts.
-- Assumes nothing.
use mathlib.Core.Path.{◌≡◌, refl, sym, ap, ◌∙◌}
use mathlib.Core.Logic.{⊎_elim}
use mathlib.Core.List.{List}
use Prim.Native.Nat.{ℕ, ◌+◌, ◌≤◌, ◌<◌}
use native.Mathlib.Omega.{arith}
use lib.ListN.{length, get_or, set, replicate, length-set, length-replicate, get_or-replicate}
use lib.Seq.{get_or-set_same, get_or-set_other}
use Rattle.words.specs.Section.{list_of}
use Rattle.words.proofs.SectionLaws.{length_list_of, get_d_list_of, list_of-is}
use Rattle.plan_blocks.specs.declared.costs.BlockCost.{BlockCost}
use Rattle.plan_blocks.specs.TableFill.{added, blank, costs_of, block_part_counts, with_part}
use Rattle.plan_blocks.proofs.TotalLaws.{same_or}

-- one number of each record: a record changes, and records without parts
module _ (f : BlockCost → ℕ) (n : ℕ) where
  numbers-put : (l : List BlockCost) (b : ℕ) (x : BlockCost) → b < length l → b < n
      → list_of (λ k. f (get_or (set l b x) k blank)) n ≡ set (list_of (λ k. f (get_or l k blank)) n) b (f x)
  numbers-put l b x u v =
      sym
      (list_of-is (λ k. f (get_or (set l b x) k blank)) n (set (list_of (λ j. f (get_or l j blank)) n) b (f x)) (length-set (list_of (λ j. f (get_or l j blank)) n) b (f x) ∙ length_list_of _ n)
      (λ k w.
      ⊎_elim (λ e. rw e (get_or-set_same (list_of (λ j. f (get_or l j blank)) n) b (f x) 0 (omega (arith, length_list_of (λ j. f (get_or l j blank)) n)) ∙ ap f (sym (get_or-set_same l b x blank u))))
      (λ e. get_or-set_other (list_of (λ j. f (get_or l j blank)) n) b k (f x) 0 e ∙ get_d_list_of (λ j. f (get_or l j blank)) n k w ∙ ap f (sym (get_or-set_other l b k x blank e)))
      (same_or k b)))

  numbers-blank : f blank ≡ 0 → (N : ℕ) → n ≤ N → list_of (λ k. f (get_or (replicate N blank) k blank)) n ≡ replicate n 0
  numbers-blank e N u =
      sym (list_of-is _ n _ (length-replicate n 0) (λ k w. get_or-replicate n k 0 0 w ∙ sym (ap f (get_or-replicate N k blank blank (omega arith)) ∙ e)))

pub counts_length : (n : ℕ) (l : List BlockCost) → length (block_part_counts n l) ≡ n
unfolding block_part_counts
counts_length n l = length_list_of _ n

module _ (n : ℕ) (l : List BlockCost) (b : ℕ) (v : b < n) where
  pub cost_at : (get_or l b blank).cost ≡ get_or (costs_of n l) b 0
  unfolding costs_of
  cost_at = sym (get_d_list_of _ n b v)

  pub count_at : (get_or l b blank).parts ≡ get_or (block_part_counts n l) b 0
  unfolding block_part_counts
  count_at = sym (get_d_list_of _ n b v)

  module _ (u : b < length l) (w : ℕ) where
    pub costs_put : costs_of n (with_part l b w) ≡ added (costs_of n l) b w
    unfolding costs_of
    costs_put = numbers-put (λ (x : BlockCost). x.cost) n l b _ u v ∙ ap (λ (c : ℕ). set (costs_of n l) b (c + w)) cost_at

    pub counts_put : block_part_counts n (with_part l b w) ≡ added (block_part_counts n l) b 1
    unfolding block_part_counts
    counts_put = numbers-put (λ (x : BlockCost). x.parts) n l b _ u v ∙ ap (λ (c : ℕ). set (block_part_counts n l) b (c + 1)) count_at

pub blank_costs : (N n : ℕ) → n ≤ N → costs_of n (replicate N blank) ≡ replicate n 0
unfolding costs_of
blank_costs N n u = numbers-blank (λ (x : BlockCost). x.cost) n refl N u

pub blank_counts : (N n : ℕ) → n ≤ N → block_part_counts n (replicate N blank) ≡ replicate n 0
unfolding block_part_counts
blank_counts N n u = numbers-blank (λ (x : BlockCost). x.parts) n refl N u
