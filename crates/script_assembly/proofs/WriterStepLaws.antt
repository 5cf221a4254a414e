-- The writer's steps: the words of a block part by part, of a major stage block by block, of a plan stage by stage.
-- Assumes nothing.
use mathlib.Core.Path.{◌≡◌, refl, sym, ap, ap₂, ◌∙◌}
use mathlib.Core.Logic.{⊎_elim}
use mathlib.Core.List.{List, [], ◌∷◌, ◌++◌, append_assoc, append-nil}
use Prim.Native.Nat.{ℕ, zero, suc, ◌+◌, ◌*◌, ◌-◌, ◌<◌}
use native.Mathlib.Numerals.{add-one}
use native.Mathlib.Omega.{arith}
use borrow.Author.Tests.{eq-eqb, ne_eqb}
use lib.ListN.{length, get_or, replicate}
use Rattle.plan_record.specs.Record.{blocks_of, majors_of}
use Rattle.plan_blocks.proofs.TotalLaws.{same_or}
use Rattle.script_assembly.specs.Assembly.{words_of_part, joined_parts, block_words, stage_words, major_words, script_words}
use Rattle.script_assembly.specs.WrittenSoFar.{last_mark, parts_words, parts_in}

-- ---- the last mark

pub mark_last : (c j : ℕ) → j + 1 ≡ c → last_mark c j ≡ 1
unfolding last_mark
mark_last c j e = rw (eq-eqb (j + 1) c e, last_mark)

pub mark_more : (c j : ℕ) → (j + 1 ≡ c → ⊥) → last_mark c j ≡ 0
unfolding last_mark
mark_more c j h = rw (ne_eqb (j + 1) c h, last_mark)

mark_suc : (c j : ℕ) → last_mark (suc c) (suc j) ≡ last_mark c j
mark_suc c j =
    ⊎_elim (λ (e : j + 1 ≡ c). mark_last (suc c) (suc j) (omega arith) ∙ sym (mark_last c j e))
    (λ (h : j + 1 ≡ c → ⊥). mark_more (suc c) (suc j) (λ e. h (omega arith)) ∙ sym (mark_more c j h))
    (same_or (j + 1) c)

-- ---- the parts of a block

module _ (n : ℕ) (d : List ℕ) (s : ℕ) where
  pub parts_none : (xs : List ℕ) → parts_words n d s xs 0 ≡ []
  unfolding parts_words
  parts_none xs = refl

  pub parts_more : (xs : List ℕ) (j : ℕ) → parts_words n d s xs (j + 1) ≡ parts_words n d s xs j ++ words_of_part n d s (get_or xs j 0) (last_mark (length xs) j)
  unfolding parts_words
  parts_more xs j = rw add-one

  -- the first part apart
  first-apart : (i j : ℕ) (is : List ℕ) (k : ℕ) → parts_words n d s (i ∷ j ∷ is) (suc k) ≡ words_of_part n d s i 0 ++ parts_words n d s (j ∷ is) k
  unfolding parts_words
  first-apart i j is zero =
      ap (words_of_part n d s i) (mark_more (length (i ∷ j ∷ is)) 0 (λ e. omega arith)) ∙ sym (append-nil (words_of_part n d s i 0))
  first-apart i j is (suc k) =
      ap₂ (λ (x : List ℕ) (m : ℕ). x ++ words_of_part n d s (get_or (j ∷ is) k 0) m) (first-apart i j is k) (mark_suc (length (j ∷ is)) k)
      ∙ append_assoc (words_of_part n d s i 0) (parts_words n d s (j ∷ is) k) _

  joined-all : (i : ℕ) (is : List ℕ) → parts_words n d s (i ∷ is) (length (i ∷ is)) ≡ joined_parts n d s (i ∷ is)
  unfolding parts_words joined_parts
  joined-all i [] = ap (words_of_part n d s i) (mark_last 1 0 refl)
  joined-all i (j ∷ is) = first-apart i j is (length (j ∷ is)) ∙ ap (λ (x : List ℕ). words_of_part n d s i 0 ++ x) (joined-all j is)

  pub parts_all : (xs : List ℕ) → 0 < length xs → parts_words n d s xs (length xs) ≡ block_words n d s xs
  unfolding block_words
  parts_all [] h = absurd (omega arith)
  parts_all (i ∷ is) h = joined-all i is

  pub block_none : (xs : List ℕ) → length xs ≡ 0 → block_words n d s xs ≡ 0 ∷ 1 ∷ replicate (n - 2) 0
  unfolding block_words
  block_none [] h = refl
  block_none (i ∷ is) h = absurd (omega arith)

  -- ---- the blocks of a major stage

  pub stage_none : stage_words n d s 0 ≡ []
  unfolding stage_words
  stage_none = refl

  pub stage_more : (b : ℕ) → stage_words n d s (b + 1) ≡ stage_words n d s b ++ block_words n d s (parts_in d s b)
  unfolding stage_words
  stage_more b = rw add-one

-- ---- the major stages

pub major_none : (n : ℕ) (d : List ℕ) → major_words n d 0 ≡ []
unfolding major_words
major_none n d = refl

pub major_more : (n : ℕ) (d : List ℕ) (s : ℕ) → major_words n d (s + 1) ≡ major_words n d s ++ stage_words n d s (blocks_of d)
unfolding major_words
major_more n d s = rw add-one

pub script_is : (n : ℕ) (d : List ℕ) → script_words n d ≡ major_words n d (majors_of d) ++ replicate (8 * n) 0
unfolding script_words
script_is n d = refl
