-- The blocks of a major stage, and the major stages, one after the other: what stands in the words and in the starts after each.
-- Assumes nothing.
use mathlib.Core.Path.{◌≡◌, refl, sym, ap, ap₂, ◌∙◌}
use mathlib.Core.List.{List, [], ◌∷◌}
use Prim.Native.Nat.{ℕ, suc, ◌+◌, ◌*◌, ◌-◌, ◌≤◌, ◌<◌}
use native.Mathlib.Nat.{mul-suc}
use native.Mathlib.Numerals.{add-one}
use native.Mathlib.Omega.{arith}
use borrow.Rule.Slice.PartMut.{put_mid, mid_len}
use lib.ListN.{length, set, take, drop, replicate, length-append, length-replicate}
use lib.Seq.{sets}
use Rattle.words.specs.Sum.{sum_to}
use Rattle.words.proofs.ListLaws.{put_sets}
use Rattle.plan_record.specs.Record.{plan_lanes, blocks_of, majors_of, parts_before}
use Rattle.plan_record.proofs.RecordLaws.{lanes_range}
use Rattle.script.proofs.PartLengthLaws.{lanes_even}
use Rattle.script_assembly.specs.Assembly.{block_words, stage_words, major_words, script_words, block_start, stage_starts, major_starts, script_starts}
use Rattle.script_assembly.specs.WrittenSoFar.{parts_in, first_rank}
use Rattle.script_assembly.proofs.GrowLaws.{grown_le}
use Rattle.script_assembly.proofs.WriterStepLaws.{stage_none, stage_more, major_none, major_more, script_is}
use Rattle.script_assembly.proofs.BlockRankLaws.{first_none, first_all}
use Rattle.script_assembly.proofs.ScriptLengthLaws.{words_length}
use Rattle.script_assembly.proofs.ScriptStartLaws.{start_first, start_more, start_last, starts_none, starts_more, all_none, all_more, starts_are, stage_starts_lem, major_starts_lem, starts_length}
use Rattle.script_layout.specs.declared.placed.Next.{Next}
use Rattle.script_layout.specs.Layout.{BlockRoom, NextOf, StageRoom, PlanRoom}
use Rattle.script_layout.proofs.ListStoreLaws.{sets-next, sets_behind, stores_length}
use Rattle.script_layout.proofs.RowLaws.{plan_formed}

-- ---- the blocks of a major stage

module _ (d room : List ℕ) (s first : ℕ) (x : Next) (m w : ℕ) (q : StageRoom d room s first x m w) where
  start_is : (b : ℕ) → block_start (plan_lanes d) d s b ≡ x.at + length (stage_words (plan_lanes d) d s b)
  unfolding block_start
  start_is b = ap (λ (n : ℕ). n + length (stage_words (plan_lanes d) d s b)) (sym q.next.at)

  -- before the first block
  pub rank_first : x.rank ≡ first_rank d s 0
  rank_first = q.next.rank ∙ sym (first_none d s)

  pub at_first : x.at ≡ block_start (plan_lanes d) d s 0
  at_first = q.next.at ∙ sym (start_first (plan_lanes d) d s)

  pub words_first : (l : List ℕ) → l ≡ sets l x.at (stage_words (plan_lanes d) d s 0)
  words_first l = sym (ap (sets l x.at) (stage_none (plan_lanes d) d s))

  pub starts_first : (l : List ℕ) → l ≡ sets l first (stage_starts (plan_lanes d) d s 0)
  starts_first l = sym (ap (sets l first) (starts_none (plan_lanes d) d s))

  module _ (b : ℕ) (u : b < blocks_of d) (rank at : ℕ) (ranked : rank ≡ first_rank d s b) (is : at ≡ block_start (plan_lanes d) d s b) where
    pub at_next : (end : ℕ) → end ≡ at + length (block_words (plan_lanes d) d s (parts_in d s b)) → end ≡ block_start (plan_lanes d) d s (b + 1)
    at_next end e = omega (arith, e, is, start_more (plan_lanes d) d s b)

    pub block_room : (room₁ : List ℕ) → room₁ ≡ room → (k : ℕ) → k ≡ w → BlockRoom d room₁ s b rank at k
    block_room room₁ same k long =
        let most : length (stage_words (plan_lanes d) d s (b + 1)) ≤ length (stage_words (plan_lanes d) d s (blocks_of d)) =
        grown_le (stage_words (plan_lanes d) d s) (λ y. block_words (plan_lanes d) d s (parts_in d s y)) (λ y. ap (stage_words (plan_lanes d) d s) (sym (add-one y)) ∙ stage_more (plan_lanes d) d s y) (blocks_of d) (b + 1) (omega arith)
        in
        rw same
        (record {
          place = record { sound = q.sound; stage = q.stage; block = u; first = ranked };
          fits = omega (arith, is, start_more (plan_lanes d) d s b, start_is (b + 1), most, q.fits, long);
        })

    pub words_next : (l l₁ l₂ : List ℕ) → l₁ ≡ sets l x.at (stage_words (plan_lanes d) d s b) → l₂ ≡ sets l₁ at (block_words (plan_lanes d) d s (parts_in d s b))
        → l₂ ≡ sets l x.at (stage_words (plan_lanes d) d s (b + 1))
    words_next l l₁ l₂ a c =
        sets-next l l₁ l₂ (stage_words (plan_lanes d) d s b) (block_words (plan_lanes d) d s (parts_in d s b)) x.at at a (is ∙ start_is b) c
        ∙ ap (sets l x.at) (sym (stage_more (plan_lanes d) d s b))

    pub starts_next : (l l₁ : List ℕ) → l₁ ≡ sets l first (stage_starts (plan_lanes d) d s b) → set l₁ (first + b) at ≡ sets l first (stage_starts (plan_lanes d) d s (b + 1))
    starts_next l l₁ a =
        ap (set l₁ (first + b)) is
        ∙ sets-next l l₁ (set l₁ (first + b) (block_start (plan_lanes d) d s b)) (stage_starts (plan_lanes d) d s b) (block_start (plan_lanes d) d s b ∷ []) first (first + b) a
        (ap (λ (n : ℕ). first + n) (sym (stage_starts_lem (plan_lanes d) d s b))) refl
        ∙ ap (sets l first) (sym (starts_more (plan_lanes d) d s b))

  -- after the last block
  pub stage_next : (b : ℕ) (y : Next) → b ≡ blocks_of d → y.rank ≡ first_rank d s b → y.at ≡ block_start (plan_lanes d) d s b → NextOf d (s + 1) y
  stage_next b y e r a = record {
    rank = r ∙ ap (first_rank d s) e ∙ first_all d s (plan_formed d room q.sound).head.some_blocks;
    at = a ∙ ap (block_start (plan_lanes d) d s) e ∙ start_last (plan_lanes d) d s;
  }

-- ---- the major stages

module _ (d room : List ℕ) (m w : ℕ) (q : PlanRoom d room m w) where
  stages-le : (s : ℕ) → s ≤ majors_of d → length (major_words (plan_lanes d) d s) ≤ length (major_words (plan_lanes d) d (majors_of d))
  stages-le s u =
      grown_le (major_words (plan_lanes d) d) (λ y. stage_words (plan_lanes d) d y (blocks_of d)) (λ y. ap (major_words (plan_lanes d) d) (sym (add-one y)) ∙ major_more (plan_lanes d) d y) (majors_of d) s u

  starts-le : (s : ℕ) → s ≤ majors_of d → blocks_of d * s ≤ blocks_of d * majors_of d
  starts-le s u =
      omega (
        arith,
        grown_le (major_starts (plan_lanes d) d) (λ y. stage_starts (plan_lanes d) d y (blocks_of d)) (λ y. ap (major_starts (plan_lanes d) d) (sym (add-one y)) ∙ all_more (plan_lanes d) d y) (majors_of d) s u,
        major_starts_lem (plan_lanes d) d s,
        major_starts_lem (plan_lanes d) d (majors_of d),
      )

  words-end : length (major_words (plan_lanes d) d (majors_of d)) + 8 * plan_lanes d ≤ w
  words-end = omega (arith, q.words, words_length (plan_lanes d) d (omega (arith, lanes_range d)) (lanes_even d))

  starts-end : blocks_of d * majors_of d + 1 ≤ m
  starts-end = omega (arith, q.starts, starts_length (plan_lanes d) d)

  -- before the first stage
  pub none_next : NextOf d 0 (record { rank = 0; at = 0 })
  unfolding parts_before sum_to
  none_next = record { rank = refl; at = sym (ap length (major_none (plan_lanes d) d)) }

  pub no_words : (l : List ℕ) → l ≡ sets l 0 (major_words (plan_lanes d) d 0)
  no_words l = sym (ap (sets l 0) (major_none (plan_lanes d) d))

  pub no_starts : (l : List ℕ) → l ≡ sets l 0 (major_starts (plan_lanes d) d 0)
  no_starts l = sym (ap (sets l 0) (all_none (plan_lanes d) d))

  module _ (s blocks : ℕ) (u : s < majors_of d) (are : blocks ≡ blocks_of d) where
    pub start_few : blocks * s + blocks < m
    start_few = omega (arith, ap (λ (n : ℕ). n * s) are, are, starts-le (suc s) u, mul-suc (blocks_of d) s, starts-end)

    module _ (x : Next) (h : NextOf d s x) where
      pub stage_room : (room₁ : List ℕ) → room₁ ≡ room → (m₁ w₁ : ℕ) → m₁ ≡ m → w₁ ≡ w → StageRoom d room₁ s (blocks * s) x m₁ w₁
      stage_room room₁ same m₁ w₁ a c =
          rw same
          (record {
            sound = q.sound;
            stage = u;
            next = h;
            first_is = ap (λ (n : ℕ). n * s) are ∙ sym (major_starts_lem (plan_lanes d) d s);
            starts = omega (arith, start_few, are, a);
            fits =
                omega (
                  arith,
                  h.at,
                  start_last (plan_lanes d) d s,
                  stages-le (s + 1) (omega arith),
                  ap length (major_more (plan_lanes d) d s),
                  length-append (major_words (plan_lanes d) d s) (stage_words (plan_lanes d) d s (blocks_of d)),
                  words-end,
                  c,
                );
          })

      pub stage_words_lem : (l l₁ l₂ : List ℕ) → l₁ ≡ sets l 0 (major_words (plan_lanes d) d s) → l₂ ≡ sets l₁ x.at (stage_words (plan_lanes d) d s (blocks_of d)) → l₂ ≡ sets l 0 (major_words (plan_lanes d) d (s + 1))
      stage_words_lem l l₁ l₂ a c =
          sets_behind l l₁ l₂ (major_words (plan_lanes d) d s) (stage_words (plan_lanes d) d s (blocks_of d)) x.at a h.at c ∙ ap (sets l 0) (sym (major_more (plan_lanes d) d s))

    pub stage_starts_stored : (l l₁ l₂ : List ℕ) → l₁ ≡ sets l 0 (major_starts (plan_lanes d) d s) → l₂ ≡ sets l₁ (blocks * s) (stage_starts (plan_lanes d) d s (blocks_of d)) → l₂ ≡ sets l 0 (major_starts (plan_lanes d) d (s + 1))
    stage_starts_stored l l₁ l₂ a c =
        sets_behind l l₁ l₂ (major_starts (plan_lanes d) d s) (stage_starts (plan_lanes d) d s (blocks_of d)) (blocks * s) a (ap (λ (n : ℕ). n * s) are ∙ sym (major_starts_lem (plan_lanes d) d s)) c
        ∙ ap (sets l 0) (sym (all_more (plan_lanes d) d s))

  -- ---- the final start, and the zero words

  pub last_in : (blocks majors : ℕ) → blocks ≡ blocks_of d → majors ≡ majors_of d → blocks * majors < m
  last_in blocks majors b k = omega (arith, starts-end, ap₂ ◌*◌ b k)

  module _ (end : ℕ) (is : end ≡ length (major_words (plan_lanes d) d (majors_of d))) where
    pub last_start : (blocks majors : ℕ) → blocks ≡ blocks_of d → majors ≡ majors_of d → (l l₁ : List ℕ) → l₁ ≡ sets l 0 (major_starts (plan_lanes d) d (majors_of d))
        → set l₁ (blocks * majors) end ≡ sets l 0 (script_starts (plan_lanes d) d)
    last_start blocks majors b k l l₁ a =
        ap₂ (set l₁) (ap₂ ◌*◌ b k) is
        ∙ sets_behind l l₁ (set l₁ (blocks_of d * majors_of d) (length (major_words (plan_lanes d) d (majors_of d)))) (major_starts (plan_lanes d) d (majors_of d)) (length (major_words (plan_lanes d) d (majors_of d)) ∷ [])
        (blocks_of d * majors_of d) a (sym (major_starts_lem (plan_lanes d) d (majors_of d))) refl
        ∙ ap (sets l 0) (sym (starts_are (plan_lanes d) d))

    -- zero words behind the end, eight for each of n lanes
    module _ (n : ℕ) (lanes : n ≡ plan_lanes d) where
      pub end_fits : end + 8 * n ≤ w
      end_fits = omega (arith, words-end, lanes)

      pub last_words : (l l₁ z : List ℕ) → length l ≡ w → l₁ ≡ sets l 0 (major_words (plan_lanes d) d (majors_of d)) → z ≡ replicate (length (take (end + 8 * n - end) (drop end l₁))) 0
          → put_mid end (end + 8 * n - end) l₁ z ≡ sets l 0 (script_words (plan_lanes d) d)
      last_words l l₁ z long a c =
          let same : length l₁ ≡ w = stores_length l l₁ 0 (major_words (plan_lanes d) d (majors_of d)) a ∙ long in
          let k : length (take (end + 8 * n - end) (drop end l₁)) ≡ 8 * plan_lanes d = mid_len end (end + 8 * n) l₁ (omega (arith, end_fits, same)) ∙ omega (arith, lanes) in
          let zeros : z ≡ replicate (8 * plan_lanes d) 0 = c ∙ ap (λ (i : ℕ). replicate i 0) k in
          let size : length z ≡ end + 8 * n - end = omega (arith, ap length zeros ∙ length-replicate {A = ℕ} (8 * plan_lanes d) 0, lanes) in
          put_sets l₁ end (end + 8 * n - end) z (omega (arith, end_fits, same)) size
          ∙ ap (sets l₁ end) zeros
          ∙ sets_behind l l₁ (sets l₁ end (replicate (8 * plan_lanes d) 0)) (major_words (plan_lanes d) d (majors_of d)) (replicate (8 * plan_lanes d) 0) end a is refl
          ∙ ap (sets l 0) (sym (script_is (plan_lanes d) d))
