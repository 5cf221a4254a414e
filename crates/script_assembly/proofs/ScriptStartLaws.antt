-- The starts: as many as there are blocks in all major stages, and the end; each is where its block begins.
-- Assumes nothing.
use mathlib.Core.Path.{◌≡◌, refl, sym, ap, ◌∙◌}
use mathlib.Core.Logic.{⊎_elim}
use mathlib.Core.List.{List, [], ◌∷◌, ◌++◌}
use Prim.Native.Nat.{ℕ, zero, suc, ◌+◌, ◌*◌, ◌≤◌, ◌<◌}
use native.Mathlib.Nat.{mul-suc, add-zero}
use native.Mathlib.Numerals.{add-one}
use native.Mathlib.Omega.{arith}
use lib.ListN.{length, get_or, length-append, get_or-append}
use lib.Seq.{get_or_at}
use Rattle.words.proofs.BitLaws.{lt_or_ge}
use Rattle.plan_record.specs.Record.{blocks_of, majors_of}
use Rattle.script_assembly.specs.Assembly.{block_words, stage_words, major_words, block_start, stage_starts, major_starts, script_starts}
use Rattle.script_assembly.specs.WrittenSoFar.{parts_in}
use Rattle.script_assembly.proofs.GrowLaws.{grown_le, grown_at}

module _ (n : ℕ) (d : List ℕ) where
  -- ---- where blocks begin and end

  pub start_first : (s : ℕ) → block_start n d s 0 ≡ length (major_words n d s)
  unfolding block_start stage_words
  start_first s = add-zero (length (major_words n d s))

  pub start_more : (s b : ℕ) → block_start n d s (b + 1) ≡ block_start n d s b + length (block_words n d s (parts_in d s b))
  unfolding block_start stage_words
  start_more s b = omega (arith, ap (λ (x : ℕ). length (stage_words n d s x)) (add-one b), length-append (stage_words n d s b) (block_words n d s (parts_in d s b)))

  pub start_last : (s : ℕ) → block_start n d s (blocks_of d) ≡ length (major_words n d (s + 1))
  unfolding block_start major_words
  start_last s =
      sym (length-append (major_words n d s) (stage_words n d s (blocks_of d))) ∙ sym (ap (λ (x : ℕ). length (major_words n d x)) (add-one s))

  -- ---- the list of the starts

  pub starts_none : (s : ℕ) → stage_starts n d s 0 ≡ []
  unfolding stage_starts
  starts_none s = refl

  pub starts_more : (s b : ℕ) → stage_starts n d s (b + 1) ≡ stage_starts n d s b ++ (block_start n d s b ∷ [])
  unfolding stage_starts
  starts_more s b = rw add-one

  pub all_none : major_starts n d 0 ≡ []
  unfolding major_starts
  all_none = refl

  pub all_more : (s : ℕ) → major_starts n d (s + 1) ≡ major_starts n d s ++ stage_starts n d s (blocks_of d)
  unfolding major_starts
  all_more s = rw add-one

  pub starts_are : script_starts n d ≡ major_starts n d (majors_of d) ++ (length (major_words n d (majors_of d)) ∷ [])
  unfolding script_starts
  starts_are = refl

  pub stage_starts_lem : (s b : ℕ) → length (stage_starts n d s b) ≡ b
  unfolding stage_starts
  stage_starts_lem s zero = refl
  stage_starts_lem s (suc b) = omega (arith, length-append (stage_starts n d s b) (block_start n d s b ∷ []), stage_starts_lem s b)

  pub major_starts_lem : (s : ℕ) → length (major_starts n d s) ≡ blocks_of d * s
  unfolding major_starts
  major_starts_lem zero = omega arith
  major_starts_lem (suc s) =
      omega (arith, length-append (major_starts n d s) (stage_starts n d s (blocks_of d)), major_starts_lem s, stage_starts_lem s (blocks_of d), mul-suc (blocks_of d) s)

  pub starts_length : length (script_starts n d) ≡ blocks_of d * majors_of d + 1
  starts_length = ap length starts_are ∙ length-append (major_starts n d (majors_of d)) (length (major_words n d (majors_of d)) ∷ []) ∙ ap (λ (x : ℕ). x + 1) (major_starts_lem (majors_of d))

  stage_start : (s b : ℕ) → b < blocks_of d → get_or (stage_starts n d s (blocks_of d)) b 0 ≡ block_start n d s b
  unfolding stage_starts
  stage_start s b h =
      let e : b ≡ length (stage_starts n d s b) + 0 = omega (arith, stage_starts_lem s b) in
      ap (λ (x : ℕ). get_or (stage_starts n d s (blocks_of d)) x 0) e
      ∙ grown_at (stage_starts n d s) (λ x. block_start n d s x ∷ []) (λ x. refl) (blocks_of d) b 0 h (omega arith)

  block_start_lem : (s b : ℕ) → s < majors_of d → b < blocks_of d → get_or (script_starts n d) (blocks_of d * s + b) 0 ≡ block_start n d s b
  unfolding major_starts
  block_start_lem s b l h =
      let f : ℕ → List ℕ = λ x. stage_starts n d x (blocks_of d) in
      let e : blocks_of d * s + b ≡ length (major_starts n d s) + b = ap (λ (x : ℕ). x + b) (sym (major_starts_lem s)) in
      let u : blocks_of d * s + b < length (major_starts n d (majors_of d)) =
      omega (arith, major_starts_lem (suc s), mul-suc (blocks_of d) s, grown_le (major_starts n d) f (λ x. refl) (majors_of d) (suc s) l)
      in
      ap (λ (x : List ℕ). get_or x (blocks_of d * s + b) 0) starts_are
      ∙ get_or-append (major_starts n d (majors_of d)) _ 0 (blocks_of d * s + b) u
      ∙ ap (λ (x : ℕ). get_or (major_starts n d (majors_of d)) x 0) e
      ∙ grown_at (major_starts n d) f (λ x. refl) (majors_of d) s b l (omega (arith, stage_starts_lem s (blocks_of d)))
      ∙ stage_start s b h

  -- the start of a major stage, and the end
  pub major_start : (s : ℕ) → s ≤ majors_of d → 0 < blocks_of d → get_or (script_starts n d) (blocks_of d * s) 0 ≡ length (major_words n d s)
  major_start s l h =
      ⊎_elim (λ u. ap (λ (x : ℕ). get_or (script_starts n d) x 0) (sym (add-zero (blocks_of d * s))) ∙ block_start_lem s 0 u h ∙ start_first s)
      (λ u.
      let e : majors_of d ≡ s = omega arith in
      ap (λ (x : List ℕ). get_or x (blocks_of d * s) 0) starts_are
      ∙ get_or_at (major_starts n d (majors_of d)) _ [] 0 (blocks_of d * s) (major_starts_lem (majors_of d) ∙ ap (λ (x : ℕ). blocks_of d * x) e)
      ∙ ap (λ (x : ℕ). length (major_words n d x)) e)
      (lt_or_ge s (majors_of d))

  -- the start of each block, and of the next major stage
  pub start_at_lem : (s b : ℕ) → s < majors_of d → b ≤ blocks_of d → 0 < blocks_of d → get_or (script_starts n d) (blocks_of d * s + b) 0 ≡ block_start n d s b
  start_at_lem s b l u h =
      ⊎_elim (λ v. block_start_lem s b l v)
      (λ v.
      let e : b ≡ blocks_of d = omega arith in
      let k : blocks_of d * s + b ≡ blocks_of d * (s + 1) = omega (arith, mul-suc (blocks_of d) s, ap (λ (x : ℕ). blocks_of d * x) (add-one s)) in
      ap (λ (x : ℕ). get_or (script_starts n d) x 0) k ∙ major_start (s + 1) (omega arith) h ∙ sym (start_last s) ∙ ap (block_start n d s) (sym e))
      (lt_or_ge b (blocks_of d))
