-- M8 of any record: blocks and starts depend only on the stages and the words of the four parts, and these are M8's.
-- Assumes nothing.
use mathlib.Core.Path.{◌≡◌, refl, ap, ◌∙◌}
use mathlib.Core.List.{List, [], ◌∷◌}
use Prim.Native.Nat.{ℕ, zero, suc, ◌+◌, ◌<◌}
use native.Mathlib.Omega.{arith}
use Rattle.words.specs.Sum.{sum_to}
use Rattle.words.specs.Section.{list_of}
use Rattle.words.proofs.SectionLaws.{list_of_ext}
use Rattle.plan_record.specs.Record.{parts_before, stages_of}
use Rattle.plan_counts.specs.Counts.{write_outs}
use Rattle.plan_blocks.specs.Blocks.{least_to, block_for, costs_after, block_in, block_of, comes_before, taken_before, state_of, state_start}
use Rattle.plan_blocks.proofs.BlockOrderLaws.{taken_ext}
use Rattle.marked.specs.Plans.{stages_in, FourPartRecord, EightRight}

costs_alike : (B : ℕ) (f g : ℕ → ℕ) (i : ℕ) → ((j : ℕ) → j < i → f j ≡ g j) → costs_after B f i ≡ costs_after B g i
unfolding costs_after
costs_alike B f g zero h = refl
costs_alike B f g (suc i) h = rw (costs_alike B f g i (λ j l. h j (omega arith)), h i (omega arith), costs_after)

block_alike : (B : ℕ) (f g : ℕ → ℕ) (i : ℕ) → ((j : ℕ) → j < i → f j ≡ g j) → block_in B f i ≡ block_in B g i
unfolding block_in
block_alike B f g i h = ap (λ (c : List ℕ). block_for B c i) (costs_alike B f g i h)

none_yet : (d : List ℕ) (j : ℕ) → parts_before d 0 + j ≡ j
unfolding parts_before sum_to
none_yet d j = omega arith

module _ (d : List ℕ) (r : FourPartRecord d) where
  block_is : (i : ℕ) → i < 4 → block_of d 0 i ≡ block_in 2 stages_in i
  unfolding block_of
  block_is i l =
      rw r.blocks
      (block_alike 2 (λ j. stages_of d (parts_before d 0 + j)) stages_in i (λ j k. ap (stages_of d) (none_yet d j) ∙ r.stages j (omega arith)))

  first_word : state_of d 0 ≡ 2
  unfolding state_of parts_before sum_to
  first_word = rw r.inputs

  start_is : (i : ℕ) → i < 4 → state_start d 0 i ≡ 2 + taken_before (block_in 2 stages_in) (λ j. 1) 4 i
  unfolding state_start
  start_is i l =
      let taken =
      taken_ext (block_of d 0) (block_in 2 stages_in) (λ j. write_outs d (parts_before d 0 + j)) (λ j. 1) 4 i l block_is
      (λ j k. ap (write_outs d) (none_yet d j) ∙ r.words j k) in
      rw (first_word, r.parts) (ap (λ (x : ℕ). 2 + x) taken)

blocks_seen : list_of (block_in 2 stages_in) 4 ≡ 0 ∷ 1 ∷ 1 ∷ 0 ∷ []
unfolding list_of least_to block_for costs_after block_in stages_in
blocks_seen = refl

starts_seen : list_of (λ i. 2 + taken_before (block_in 2 stages_in) (λ j. 1) 4 i) 4 ≡ 2 ∷ 4 ∷ 5 ∷ 3 ∷ []
unfolding list_of least_to block_for costs_after block_in comes_before taken_before sum_to stages_in
starts_seen = refl

pub eight_right : EightRight
eight_right d r = (
  list_of_ext (block_of d 0) (block_in 2 stages_in) 4 (block_is d r) ∙ blocks_seen,
  list_of_ext (state_start d 0) (λ i. 2 + taken_before (block_in 2 stages_in) (λ j. 1) 4 i) 4 (start_is d r) ∙ starts_seen,
)
