-- Where the script of each part stands in the assembled words, and the words of an empty block.
-- Assumes nothing.
use mathlib.Core.Path.{◌≡◌, refl, sym, ap, ◌∙◌}
use mathlib.Core.List.{List, ◌∷◌}
use Prim.Native.Nat.{ℕ, zero, suc, ◌+◌, ◌-◌, ◌%◌, ◌≤◌, ◌<◌}
use native.Mathlib.Nat.{add-zero}
use native.Mathlib.Omega.{arith}
use lib.ListN.{length, get_or, replicate, length-append, length-replicate, get_or-append}
use Rattle.plan_record.specs.Record.{blocks_of, majors_of, parts_before}
use Rattle.script_assembly.specs.Assembly.{words_of_part, block_words, stage_words, major_words, script_words, block_start}
use Rattle.script_assembly.specs.WrittenSoFar.{last_mark, parts_words, length_of, parts_in, part_start}
use Rattle.script_assembly.proofs.GrowLaws.{grown_next, grown_le, grown_at}
use Rattle.script_assembly.proofs.WriterStepLaws.{parts_none, parts_more, parts_all, block_none, script_is}
use Rattle.script_assembly.proofs.ScriptStartLaws.{start_more}
use Rattle.script_assembly.proofs.ScriptLengthLaws.{part_length}

module _ (n : ℕ) (d : List ℕ) where
  -- the blocks end where the script's last zeros begin
  pub block_inside : (s b : ℕ) → s < majors_of d → b ≤ blocks_of d → block_start n d s b ≤ length (major_words n d (majors_of d))
  unfolding stage_words major_words block_start
  block_inside s b l h =
      let f : ℕ → List ℕ = λ x. block_words n d s (parts_in d s x) in
      let g : ℕ → List ℕ = λ x. stage_words n d x (blocks_of d) in
      omega (
        arith,
        grown_le (stage_words n d s) f (λ x. refl) (blocks_of d) b h,
        grown_next (major_words n d) g (λ x. refl) s,
        grown_le (major_words n d) g (λ x. refl) (majors_of d) (suc s) l,
      )

  -- the words of a block
  pub block_place : (s b t : ℕ) → s < majors_of d → b < blocks_of d → t < length (block_words n d s (parts_in d s b))
      → get_or (script_words n d) (block_start n d s b + t) 0 ≡ get_or (block_words n d s (parts_in d s b)) t 0
  unfolding stage_words major_words block_start
  block_place s b t l h u =
      let f : ℕ → List ℕ = λ x. block_words n d s (parts_in d s x) in
      let g : ℕ → List ℕ = λ x. stage_words n d x (blocks_of d) in
      let in-stage : length (stage_words n d s b) + t < length (stage_words n d s (blocks_of d)) =
      omega (arith, grown_next (stage_words n d s) f (λ x. refl) b, grown_le (stage_words n d s) f (λ x. refl) (blocks_of d) (suc b) h)
      in
      let in_words : block_start n d s b + t < length (major_words n d (majors_of d)) =
      omega (arith, grown_next (major_words n d) g (λ x. refl) s, grown_le (major_words n d) g (λ x. refl) (majors_of d) (suc s) l)
      in
      let e : block_start n d s b + t ≡ length (major_words n d s) + (length (stage_words n d s b) + t) = omega arith in
      ap (λ (x : List ℕ). get_or x (block_start n d s b + t) 0) (script_is n d)
      ∙ get_or-append (major_words n d (majors_of d)) _ 0 (block_start n d s b + t) in_words
      ∙ ap (λ (x : ℕ). get_or (major_words n d (majors_of d)) x 0) e
      ∙ grown_at (major_words n d) g (λ x. refl) (majors_of d) s (length (stage_words n d s b) + t) l in-stage
      ∙ grown_at (stage_words n d s) f (λ x. refl) (blocks_of d) b t h u

  -- of an empty one
  pub empty_place : (s b t : ℕ) → s < majors_of d → b < blocks_of d → 2 ≤ n → length (parts_in d s b) ≡ 0 → t < n
      → get_or (script_words n d) (block_start n d s b + t) 0 ≡ get_or (0 ∷ 1 ∷ replicate (n - 2) 0) t 0
  empty_place s b t l h w e u =
      let k = block_none n d s (parts_in d s b) e in
      block_place s b t l h (omega (arith, ap length k, length-replicate (n - 2) zero)) ∙ ap (λ (x : List ℕ). get_or x t 0) k

  -- ---- the parts of a block

  pub part_first_lem : (s b : ℕ) → part_start n d s b 0 ≡ block_start n d s b
  unfolding part_start
  part_first_lem s b = ap (λ (x : List ℕ). block_start n d s b + length x) (parts_none n d s (parts_in d s b)) ∙ add-zero _

  pub part_next : (s b j : ℕ)
      → part_start n d s b (j + 1) ≡ part_start n d s b j + length (words_of_part n d s (get_or (parts_in d s b) j 0) (last_mark (length (parts_in d s b)) j))
  unfolding part_start
  part_next s b j = omega (arith, ap length (parts_more n d s (parts_in d s b) j) ∙ length-append (parts_words n d s (parts_in d s b) j) _)

  pub part_last : (s b : ℕ) → 0 < length (parts_in d s b) → part_start n d s b (length (parts_in d s b)) ≡ block_start n d s (b + 1)
  unfolding part_start
  part_last s b h = ap (λ (x : List ℕ). block_start n d s b + length x) (parts_all n d s (parts_in d s b) h) ∙ sym (start_more n d s b)

  pub part_place : (s b j t : ℕ) → s < majors_of d → b < blocks_of d → j < length (parts_in d s b)
      → t < length (words_of_part n d s (get_or (parts_in d s b) j 0) (last_mark (length (parts_in d s b)) j))
      → get_or (script_words n d) (part_start n d s b j + t) 0 ≡ get_or (words_of_part n d s (get_or (parts_in d s b) j 0) (last_mark (length (parts_in d s b)) j)) t 0
  unfolding part_start parts_words
  part_place s b j t l h v u =
      let xs : List ℕ = parts_in d s b in
      let f : ℕ → List ℕ = λ x. words_of_part n d s (get_or xs x 0) (last_mark (length xs) x) in
      let all = parts_all n d s xs (omega arith) in
      let inside : length (parts_words n d s xs j) + t < length (block_words n d s xs) =
      omega (arith, ap length all, grown_next (parts_words n d s xs) f (λ x. refl) j, grown_le (parts_words n d s xs) f (λ x. refl) (length xs) (suc j) v)
      in
      let e : part_start n d s b j + t ≡ block_start n d s b + (length (parts_words n d s xs j) + t) = omega arith in
      ap (λ (x : ℕ). get_or (script_words n d) x 0) e
      ∙ block_place s b (length (parts_words n d s xs j) + t) l h inside
      ∙ ap (λ (x : List ℕ). get_or x (length (parts_words n d s xs j) + t) 0) (sym all)
      ∙ grown_at (parts_words n d s xs) f (λ x. refl) (length xs) j t v u

module _ (n : ℕ) (d : List ℕ) (wide : 16 ≤ n) (even : n % 2 ≡ 0) where
  -- a part begins where the one before it ends
  pub part_after : (s b j : ℕ) → part_start n d s b (j + 1) ≡ part_start n d s b j + length_of n d (parts_before d s + get_or (parts_in d s b) j 0)
  part_after s b j = part_next n d s b j ∙ ap (λ (x : ℕ). part_start n d s b j + x) (part_length n d wide even s _ _)
