-- M7 and M8: activations, and parts on blocks, with what the definitions of `plan_counts` and `plan_blocks` give for them.
-- Assumes nothing.
use Rattle.std.specs.Prelude.{◌≡◌, List, [], ◌∷◌, ◌++◌, ℕ, zero, suc, ◌+◌, ◌<◌}
use Rattle.words.specs.Section.{list_of}
use Rattle.plan_record.specs.declared.bodies.Endpoint.TheVariants.{Output, Staged, Register}
use Rattle.plan_counts.specs.Counts.{activations_of, duplicates_in, write_outs}
use Rattle.plan_record.specs.Record.{blocks_of, layout_of, count_at, stages_of}
use Rattle.plan_blocks.specs.Blocks.{block_in, block_of, taken_before, state_of, state_start}
use Rattle.marked_plan.specs.GatePlan.{bytes_of}

-- M7: output 10, staged 5, a register with d = 10 and en = 1, output 11
unfoldable pub duplicate_words : List ℕ
duplicate_words =
    duplicates_in
    (activations_of (Output (record { 0 = 10 })) ++ (activations_of (Staged (record { 0 = 5 }))
    ++ (activations_of (Register (record { 0 = 10 }) (record { 0 = 1 })) ++ activations_of (Output (record { 0 = 11 })))))
    ∷ []

-- M8: the stages of parts 0 to 3
unfoldable pub stages_in : ℕ → ℕ
stages_in zero = 4
stages_in (suc zero) = 2
stages_in (suc (suc i)) = 1

-- two blocks, one major stage, an input layout of 40, four parts: the head of such a record, which is what the first state word and the blocks are taken from
unfoldable pub four_parts : List ℕ
four_parts = bytes_of (2 ∷ 1 ∷ 0 ∷ 40 ∷ 0 ∷ 256 ∷ 0 ∷ 0 ∷ 0 ∷ 4 ∷ [])

unfoldable pub blocks_of_parts : List ℕ
blocks_of_parts = list_of (block_in (blocks_of four_parts) stages_in) (count_at four_parts 0)

-- with one word each
unfoldable pub starts_of_parts : List ℕ
starts_of_parts =
    list_of (λ i. state_of four_parts 0 + taken_before (block_in (blocks_of four_parts) stages_in) (λ j. 1) (count_at four_parts 0) i) (count_at four_parts 0)

-- the same of any record with such parts: what M8 says of it, by part
pub record FourPartRecord (d : List ℕ) : Type 0 where
  pub blocks : blocks_of d ≡ 2
  pub inputs : layout_of d ≡ 40
  pub parts : count_at d 0 ≡ 4
  pub stages : (i : ℕ) → i < 4 → stages_of d i ≡ stages_in i
  pub words : (i : ℕ) → i < 4 → write_outs d i ≡ 1

abbrev pub EightRight : Type 0
EightRight = (d : List ℕ) → FourPartRecord d → (list_of (block_of d 0) 4 ≡ 0 ∷ 1 ∷ 1 ∷ 0 ∷ []) × (list_of (state_start d 0) 4 ≡ 2 ∷ 4 ∷ 5 ∷ 3 ∷ [])
