-- How many words the assembled script has: its parts', and those of its empty blocks. The number of lanes is even and at least 16.
-- Assumes nothing.
use mathlib.Core.Path.{◌≡◌, refl, sym, ap, ◌∙◌}
use mathlib.Core.Logic.{⊎_elim}
use mathlib.Core.List.{List}
use Prim.Native.Nat.{ℕ, zero, suc, ◌+◌, ◌*◌, ◌-◌, ◌%◌, ◌≤◌, ◌<◌}
use native.Mathlib.Nat.{mul-suc, mul-add}
use native.Mathlib.Omega.{arith}
use lib.ListN.{length, get_or, replicate, length-append, length-replicate}
use Rattle.words.specs.Sum.{sum_to}
use Rattle.words.proofs.BitLaws.{lt_or_ge}
use Rattle.plan_record.specs.Record.{blocks_of, majors_of, count_at, parts_before, parts_of}
use Rattle.plan_blocks.specs.Blocks.{block_of}
use Rattle.plan_blocks.specs.Sums.{in_block}
use Rattle.plan_blocks.proofs.TotalLaws.{sum_split}
use Rattle.plan_blocks.proofs.LeastCostLaws.{in_total}
use Rattle.script.proofs.PartLengthLaws.{script_length}
use Rattle.script_assembly.specs.Assembly.{words_of_part, block_words, stage_words, major_words, script_words}
use Rattle.script_assembly.specs.WrittenSoFar.{last_mark, parts_words, length_of, parts_in, empty_blocks}
use Rattle.script_assembly.proofs.WriterStepLaws.{parts_all, block_none, script_is}
use Rattle.script_assembly.proofs.BlockRankLaws.{parts_sum, block_lt, parts_some, parts_no}

module _ (n : ℕ) (d : List ℕ) (wide : 16 ≤ n) (even : n % 2 ≡ 0) where
  pub part_length : (s i last : ℕ) → length (words_of_part n d s i last) ≡ length_of n d (parts_before d s + i)
  unfolding words_of_part length_of
  part_length s i last = script_length n d (parts_before d s + i) last _ _ wide even

  -- the first j parts of a block
  pub parts_length_sum : (s : ℕ) (xs : List ℕ) (j : ℕ) → length (parts_words n d s xs j) ≡ sum_to (λ k. length_of n d (parts_before d s + get_or xs k 0)) j
  unfolding parts_words sum_to
  parts_length_sum s xs zero = refl
  parts_length_sum s xs (suc j) =
      omega (
        arith,
        length-append (parts_words n d s xs j) (words_of_part n d s (get_or xs j 0) (last_mark (length xs) j)),
        parts_length_sum s xs j,
        part_length s (get_or xs j 0) (last_mark (length xs) j),
      )

  pub block_length : (s : ℕ) (xs : List ℕ) → 0 < length xs
      → length (block_words n d s xs) ≡ sum_to (λ k. length_of n d (parts_before d s + get_or xs k 0)) (length xs)
  block_length s xs h = ap length (sym (parts_all n d s xs h)) ∙ parts_length_sum s xs (length xs)

  pub empty_length : (s : ℕ) (xs : List ℕ) → length xs ≡ 0 → length (block_words n d s xs) ≡ n
  empty_length s xs h = ap length (block_none n d s xs h) ∙ omega (arith, length-replicate (n - 2) zero)

  -- a block with parts, by the numbers of its parts
  pub block_sum : (s b : ℕ) → 0 < length (parts_in d s b)
      → length (block_words n d s (parts_in d s b)) ≡ in_block (block_of d s) (λ i. length_of n d (parts_before d s + i)) b (count_at d s)
  block_sum s b h = block_length s (parts_in d s b) h ∙ parts_sum d s (λ i. length_of n d (parts_before d s + i)) b (count_at d s)

  no-parts : (s b : ℕ) → length (parts_in d s b) ≡ 0 → in_block (block_of d s) (λ i. length_of n d (parts_before d s + i)) b (count_at d s) ≡ 0
  unfolding sum_to
  no-parts s b e =
      sym (parts_sum d s (λ i. length_of n d (parts_before d s + i)) b (count_at d s))
      ∙ ap (sum_to (λ k. length_of n d (parts_before d s + get_or (parts_in d s b) k 0))) e

  -- the first b blocks of a major stage
  blocks-length : (s b : ℕ) → b ≤ blocks_of d
      → length (stage_words n d s b)
      ≡ sum_to (λ x. in_block (block_of d s) (λ i. length_of n d (parts_before d s + i)) x (count_at d s)) b + n * (b - count_at d s)
  unfolding stage_words sum_to
  blocks-length s zero l = let e : 0 - count_at d s ≡ 0 = omega arith in omega (arith, ap (λ (x : ℕ). n * x) e)
  blocks-length s (suc b) l =
      ⊎_elim
      (λ h.
      let now : suc b - count_at d s ≡ 0 = omega arith in
      let before : b - count_at d s ≡ 0 = omega arith in
      omega (
        arith,
        length-append (stage_words n d s b) (block_words n d s (parts_in d s b)),
        blocks-length s b (omega arith),
        block_sum s b (parts_some d s b l h),
        ap (λ (x : ℕ). n * x) now,
        ap (λ (x : ℕ). n * x) before,
      ))
      (λ h.
      let now : suc b - count_at d s ≡ suc (b - count_at d s) = omega arith in
      omega (
        arith,
        length-append (stage_words n d s b) (block_words n d s (parts_in d s b)),
        blocks-length s b (omega arith),
        empty_length s (parts_in d s b) (parts_no d s b l h),
        no-parts s b (parts_no d s b l h),
        ap (λ (x : ℕ). n * x) now ∙ mul-suc n (b - count_at d s),
      ))
      (lt_or_ge b (count_at d s))

  pub stage_length : (s : ℕ) → 0 < blocks_of d
      → length (stage_words n d s (blocks_of d)) ≡ sum_to (λ i. length_of n d (parts_before d s + i)) (count_at d s) + n * (blocks_of d - count_at d s)
  stage_length s h =
      blocks-length s (blocks_of d) (omega arith)
      ∙ ap (λ (x : ℕ). x + n * (blocks_of d - count_at d s))
      (in_total (block_of d s) (λ i. length_of n d (parts_before d s + i)) (blocks_of d) (count_at d s) (λ i u. block_lt d s h i))

  pub major_length : (s : ℕ) → 0 < blocks_of d → length (major_words n d s) ≡ sum_to (length_of n d) (parts_before d s) + n * empty_blocks d s
  unfolding major_words empty_blocks sum_to parts_before
  major_length zero h = omega arith
  major_length (suc s) h =
      omega (
        arith,
        length-append (major_words n d s) (stage_words n d s (blocks_of d)),
        major_length s h,
        stage_length s h,
        sum_split (length_of n d) (parts_before d s) (count_at d s),
        mul-add n (empty_blocks d s) (blocks_of d - count_at d s),
      )

  pub words_length : length (script_words n d) ≡ length (major_words n d (majors_of d)) + 8 * n
  words_length =
      ap length (script_is n d) ∙ length-append (major_words n d (majors_of d)) (replicate (8 * n) 0) ∙ ap (λ (x : ℕ). length (major_words n d (majors_of d)) + x) (length-replicate (8 * n) zero)

  pub words_sum : 0 < blocks_of d → length (script_words n d) ≡ sum_to (length_of n d) (parts_of d) + n * empty_blocks d (majors_of d) + 8 * n
  words_sum h = omega (arith, words_length, major_length (majors_of d) h)
