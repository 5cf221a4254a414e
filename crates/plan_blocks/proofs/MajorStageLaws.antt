-- One major stage whole: sums of the blocks turned into starts give each part what the parts before it take; the four words of its rows.
-- Assumes nothing.
use mathlib.Core.Path.{◌≡◌, refl, sym, ap, ap₂, ◌∙◌, subst}
use mathlib.Core.Bool.{true}
use mathlib.Core.List.{List}
use Prim.Native.Nat.{ℕ, ◌+◌, ◌*◌, ◌-◌, ◌^◌, ◌≤◌, ◌<◌}
use native.Mathlib.Nat.{one-mul}
use native.Mathlib.Omega.{arith}
use borrow.Author.Tests.{leb-true}
use lib.Dec.{leb}
use lib.ListN.{length, get_or, take, replicate, length-replicate}
use Rattle.words.specs.Sum.{sum_to}
use Rattle.words.specs.Section.{list_of}
use Rattle.words.proofs.ListLaws.{zeros_front}
use Rattle.words.proofs.SumLaws.{sum_more, sum_le, sum_ext}
use Rattle.words.proofs.SectionLaws.{length_list_of, get_d_list_of}
use Rattle.plan_record.specs.Record.{majors_of, count_at, parts_before, parts_of, stages_of}
use Rattle.words.proofs.TestLaws.{and_true}
use Rattle.plan_record.proofs.PlanFormLaws.{formed, parts_in_lem}
use Rattle.plan_counts.specs.Counts.{srams, write_outs}
use Rattle.plan_blocks.specs.declared.firsts.Firsts.{Firsts}
use Rattle.plan_blocks.specs.Blocks.{block_in, block_of, taken_before, state_of, sram_of, state_start, sram_start, state_words, sram_words, totals_fit}
use Rattle.plan_blocks.specs.Sums.{in_block}
use Rattle.plan_rows.specs.Rows.{row_base}
use Rattle.plan_blocks.specs.PartTable.{rank_of}
use Rattle.plan_blocks.specs.TableFill.{put_cells, column, takes, block_from, start_in, placed_rows, part_counts, ranked_rows, started_rows, stage_rows, Rows, Takeable, Rankable, StagePlaceable, StageSummable, StageReady}
use Rattle.plan_blocks.proofs.TotalLaws.{sum_const}
use Rattle.plan_blocks.proofs.BlockOrderLaws.{taken_blocks, taken_ext}
use Rattle.plan_blocks.proofs.LeastCostLaws.{in_lt, in_total, in_ext}
use Rattle.plan_blocks.proofs.CellLaws.{put_long, put_here, put_word, put_ext, put_cong}
use Rattle.plan_blocks.proofs.StateStartLaws.{parts_next, state_next, state_mono, sram_next, sram_mono}

-- ---- the first n of N zeros

pub zeros_long : (N n : ℕ) → n ≤ N → n ≡ length (take n (replicate {A = ℕ} N 0))
zeros_long N n h = sym (ap length (zeros_front N n h) ∙ length-replicate n 0)

pub front_summable : (room : List ℕ) (N blocks base count from scale to first : ℕ) → blocks ≤ N → StageSummable room blocks base count from scale to first
    → StageSummable room (length (take blocks (replicate {A = ℕ} N 0))) base count from scale to first
    × (take blocks (replicate {A = ℕ} N 0) ≡ replicate (length (take blocks (replicate {A = ℕ} N 0))) 0)
front_summable room N blocks base count from scale to first h t =
    let e = zeros_long N blocks h in
    (subst (λ (n : ℕ). StageSummable room n base count from scale to first) e t, zeros_front N blocks h ∙ ap (λ (n : ℕ). replicate n 0) e)

-- ---- sums turned into starts

module _ (block words : ℕ → ℕ) (B count first : ℕ) (blocks : (i : ℕ) → i < count → block i < B) (sums starts : List ℕ)
    (sums-are : sums ≡ list_of (λ b. in_block block words b count) B)
    (starts_are : starts ≡ list_of (λ b. first + sum_to (λ k. get_or sums k 0) b) (length sums)) where
  sums-long : length sums ≡ B
  sums-long = ap length sums-are ∙ length_list_of _ B

  sums-to : (n : ℕ) → n ≤ B → sum_to (λ k. get_or sums k 0) n ≡ sum_to (λ b. in_block block words b count) n
  sums-to n l = sum_ext _ _ n (λ b u. ap (λ (s : List ℕ). get_or s b 0) sums-are ∙ get_d_list_of _ B b (omega arith))

  pub starts_long : length starts ≡ B
  starts_long = ap length starts_are ∙ length_list_of _ (length sums) ∙ sums-long

  -- all blocks together take what the parts take
  pub sums_all : sum_to (λ k. get_or sums k 0) (length sums) ≡ sum_to words count
  sums_all = ap (sum_to (λ k. get_or sums k 0)) sums-long ∙ sums-to B (omega arith) ∙ in_total block words B count blocks

  start_of : (b : ℕ) → b < B → get_or starts b 0 ≡ first + sum_to (λ k. in_block block words k count) b
  start_of b l =
      ap (λ (s : List ℕ). get_or s b 0) starts_are
      ∙ get_d_list_of _ (length sums) b (omega (arith, sums-long))
      ∙ ap (λ (x : ℕ). first + x) (sums-to b (omega arith))

  pub start_reach : (b : ℕ) → b < B → get_or starts b 0 + in_block block words b count ≤ first + sum_to words count
  start_reach b l =
      omega (
        arith,
        start_of b l,
        sum_more (λ k. in_block block words k count) b,
        sum_le (λ k. in_block block words k count) (b + 1) B (omega arith),
        in_total block words B count blocks,
      )

  pub start_is : (i : ℕ) → i < count → get_or starts (block i) 0 + in_block block words (block i) i ≡ first + taken_before block words count i
  start_is i l = omega (arith, start_of (block i) (blocks i l), taken_blocks block words count i (omega arith))

-- ---- the starts of one word

module _ (room sums₀ : List ℕ) (base count from scale to first : ℕ) (t : StageSummable room (length sums₀) base count from scale to first) where
  module _ (sums : List ℕ) (sums-are : sums ≡ list_of (λ b. in_block (column room base 6) (takes room base from scale) b count) (length sums₀)) where
    pub stage_total : first + sum_to (λ b. get_or sums b 0) (length sums) ≡ first + sum_to (takes room base from scale) count
    stage_total =
        ap (λ (x : ℕ). first + x)
        (sums_all (column room base 6) (takes room base from scale) (length sums₀) count first t.rows.block sums _ sums-are refl)

    pub stage_fits : first + sum_to (λ b. get_or sums b 0) (length sums) < 2 ^ 32
    stage_fits = omega (arith, stage_total, t.fits)

    module _ (starts : List ℕ) (starts_are : starts ≡ list_of (λ b. first + sum_to (λ k. get_or sums k 0) b) (length sums)) where
      long : length starts ≡ length sums₀
      long = starts_long (column room base 6) (takes room base from scale) (length sums₀) count first t.rows.block sums starts sums-are starts_are

      pub stage_takes : Takeable room starts base count from scale to
      stage_takes = record {
        rows = record { few = t.rows.few; parts = t.rows.parts; inside = t.rows.inside; block = λ i l. omega (arith, long, t.rows.block i l) };
        word = t.word;
        other = t.other;
        fits =
            λ b l.
            omega (
              arith,
              t.fits,
              start_reach (column room base 6) (takes room base from scale) (length sums₀) count first t.rows.block sums starts sums-are starts_are b
                  (omega (arith, long)),
            );
      }

      pub stage_starts_lem : put_cells room to (λ i. base + i) (start_in room starts base (takes room base from scale)) count ≡ started_rows room base count from scale to first
      stage_starts_lem =
          put_ext room to _ _ _ _ count (λ i l. refl)
          (start_is (column room base 6) (takes room base from scale) (length sums₀) count first t.rows.block sums starts sums-are starts_are)

-- ---- blocks and ranks

-- a word of the rows that was put
pub column_put : (room : List ℕ) (k base count : ℕ) (value : ℕ → ℕ) → k < 16 → row_base (base + count) ≤ length room → (i : ℕ) → i < count
    → column (put_cells room k (λ j. base + j) value count) base k i ≡ value i
unfolding column
column_put room k base count value u h i l = put_here room k (λ j. base + j) value count i l (omega arith) (λ j a b e. omega arith)

-- another word
pub column_kept : (room : List ℕ) (k j base count : ℕ) (row value : ℕ → ℕ) → k < 16 → j < 16 → (j ≡ k → ⊥) → (i : ℕ)
    → column (put_cells room k row value count) base j i ≡ column room base j i
unfolding column
column_kept room k j base count row value u v h i = put_word room k row value count (base + i) j u v h

module _ (d room : List ℕ) (B base count : ℕ) (t : StagePlaceable d room B base count) (placed counts : List ℕ)
    (placed-is : placed ≡ placed_rows d room B base count)
    (counts-are : counts ≡ part_counts d B base count) where
  block_lt : (i : ℕ) → i < count → block_from d B base i < B
  block_lt i l = in_lt B (λ j. stages_of d (base + j)) t.some_block i

  pub ranks_fit : 0 + sum_to (λ b. get_or counts b 0) (length counts) < 2 ^ 32
  ranks_fit =
      omega (
        arith,
        sums_all (block_from d B base) (λ i. 1) B count 0 block_lt counts _ counts-are refl,
        sum_const 1 count,
        t.few,
      )

  module _ (starts : List ℕ) (starts_are : starts ≡ list_of (λ b. 0 + sum_to (λ k. get_or counts k 0) b) (length counts)) where
    same_block : (i : ℕ) → i < count → column placed base 6 i ≡ block_from d B base i
    same_block i l =
        ap (λ (r : List ℕ). column r base 6 i) placed-is ∙ column_put room 6 base count (block_from d B base) (omega arith) t.inside i l

    rank-long : length starts ≡ B
    rank-long = starts_long (block_from d B base) (λ i. 1) B count 0 block_lt counts starts counts-are starts_are

    same_sum : (b n : ℕ) → n ≤ count → in_block (column placed base 6) (λ i. 1) b n ≡ in_block (block_from d B base) (λ i. 1) b n
    same_sum b n l = in_ext (column placed base 6) (block_from d B base) (λ i. 1) (λ i. 1) b n (λ j u. same_block j (omega arith)) (λ j u. refl)

    pub ranks_ready : Rankable placed starts base count
    ranks_ready = record {
      rows = record {
        few = t.few;
        parts = t.parts;
        inside = omega (arith, t.inside, ap length placed-is ∙ put_long room 6 _ _ count);
        block = λ i l. omega (arith, rank-long, same_block i l, block_lt i l);
      };
      below =
          λ b l.
          omega (
            arith,
            same_sum b count (omega arith),
            start_reach (block_from d B base) (λ i. 1) B count 0 block_lt counts starts counts-are starts_are b (omega (arith, rank-long)),
            sum_const 1 count,
          );
    }

    pub ranks_are : put_cells placed 9 (λ i. base + start_in placed starts base (λ j. 1) i) (λ i. base + i) count ≡ ranked_rows d room B base count
    ranks_are =
        put_ext placed 9 _ _ _ _ count (λ i l. ap (λ (x : ℕ). base + x) (each i l)) (λ i l. refl)
        ∙ ap (λ (r : List ℕ). put_cells r 9 (λ i. base + taken_before (block_from d B base) (λ j. 1) count i) (λ i. base + i) count) placed-is
      where
        each : (i : ℕ) → i < count → start_in placed starts base (λ j. 1) i ≡ taken_before (block_from d B base) (λ j. 1) count i
        each i l =
            ap (λ (x : ℕ). get_or starts x 0 + in_block (column placed base 6) (λ j. 1) x i) (same_block i l)
            ∙ omega (
              arith,
              same_sum (block_from d B base i) i (omega arith),
              start_is (block_from d B base) (λ j. 1) B count 0 block_lt counts starts counts-are starts_are i l,
            )

-- ---- a major stage of a plan

pub totals_fit_lem : (d : List ℕ) → totals_fit d ≡ true → (state_words d ≤ 2 ^ 27) × (sram_words d ≤ 2 ^ 32 - 1)
unfolding totals_fit
totals_fit_lem d h = let (a, b) = and_true (leb (state_words d) (2 ^ 27)) _ h in (leb-true _ _ a, leb-true _ _ b)

module _ (d room : List ℕ) (s blocks count : ℕ) (f : Firsts) (t : StageReady d room s blocks count f) where
  pub stage_parts : f.parts + count ≡ parts_before d (s + 1)
  stage_parts = omega (arith, t.firsts.parts, t.count-is, parts_next d s)

  stage_inside : parts_before d (s + 1) ≤ parts_of d
  stage_inside = parts_in_lem d (s + 1) (omega (arith, t.stage))

  pub stage_placeable : StagePlaceable d room blocks f.parts count
  stage_placeable =
      let g = formed d t.form in
      record {
        few = omega (arith, t.count-is, g.count s t.stage);
        parts = omega (arith, stage_parts, stage_inside, g.sizes.headed.parts);
        inside = omega (arith, stage_parts, stage_inside, t.inside);
        some_block = omega (arith, t.blocks-are, g.head.some_blocks);
        few-blocks = omega (arith, t.blocks-are, g.head.blocks);
        stages = λ i l. (g.part (f.parts + i) (omega (arith, stage_parts, stage_inside))).stages;
      }

  block_is : (i : ℕ) → block_from d blocks f.parts i ≡ block_of d s i
  unfolding block_of
  block_is i = ap₂ (λ (B base : ℕ). block_in B (λ j. stages_of d (base + j)) i) t.blocks-are t.firsts.parts

  module _ (ranked : List ℕ) (ranked-is : ranked ≡ ranked_rows d room blocks f.parts count) where
    placed : List ℕ
    placed = put_cells room 6 (λ i. f.parts + i) (block_from d blocks f.parts) count

    ranked-long : length ranked ≡ length room
    unfolding placed
    ranked-long = ap length ranked-is ∙ put_long placed 9 _ _ count ∙ put_long room 6 _ _ count

    ranked-block : (i : ℕ) → i < count → column ranked f.parts 6 i ≡ block_of d s i
    unfolding placed
    ranked-block i l =
        ap (λ (r : List ℕ). column r f.parts 6 i) ranked-is
        ∙ column_kept placed 9 6 f.parts count _ _ (omega arith) (omega arith) (λ e. omega arith) i
        ∙ column_put room 6 f.parts count _ (omega arith) stage_placeable.inside i l
        ∙ block_is i

    ranked-word : (k i : ℕ) → k < 6 → column ranked f.parts k i ≡ column room f.parts k i
    unfolding placed
    ranked-word k i l =
        ap (λ (r : List ℕ). column r f.parts k i) ranked-is
        ∙ column_kept placed 9 k f.parts count _ _ (omega arith) (omega arith) (λ e. omega arith) i
        ∙ column_kept room 6 k f.parts count _ _ (omega arith) (omega arith) (λ e. omega arith) i

    ranked-rows : Rows ranked blocks f.parts count
    ranked-rows = record {
      few = stage_placeable.few;
      parts = stage_placeable.parts;
      inside = omega (arith, ranked-long, stage_placeable.inside);
      block =
          λ i l.
          omega
          (arith, ranked-block i l, block_is i, in_lt blocks (λ j. stages_of d (f.parts + j)) stage_placeable.some_block i);
    }

    state-words : (i : ℕ) → i < count → takes ranked f.parts 5 1 i ≡ write_outs d (parts_before d s + i)
    unfolding column
    state-words i l =
        one-mul _
        ∙ ranked-word 5 i (omega arith)
        ∙ (t.counted (f.parts + i) (omega (arith, stage_parts, stage_inside))).write-outs
        ∙ ap (λ (x : ℕ). write_outs d (x + i)) t.firsts.parts

    pub state_total : f.state + sum_to (takes ranked f.parts 5 1) count ≡ state_of d (s + 1)
    state_total =
        omega (
          arith,
          t.firsts.state,
          state_next d s,
          sum_ext _ _ count state-words,
          ap (sum_to (λ j. write_outs d (parts_before d s + j))) t.count-is,
        )

    pub state_summable : StageSummable ranked blocks f.parts count 5 1 7 f.state
    state_summable = record {
      rows = ranked-rows;
      few-blocks = stage_placeable.few-blocks;
      word = omega arith;
      other = (omega arith, λ e. omega arith, λ e. omega arith);
      fits = omega (arith, state_total, state_mono d (s + 1) (majors_of d) (omega (arith, t.stage)), (totals_fit_lem d t.totals).0);
    }

    module _ (started : List ℕ) (started-is : started ≡ started_rows ranked f.parts count 5 1 7 f.state) where
      started-block : (i : ℕ) → i < count → column started f.parts 6 i ≡ block_of d s i
      started-block i l =
          ap (λ (r : List ℕ). column r f.parts 6 i) started-is
          ∙ column_kept ranked 7 6 f.parts count _ _ (omega arith) (omega arith) (λ e. omega arith) i
          ∙ ranked-block i l

      sram-words : (i : ℕ) → i < count → takes started f.parts 3 8192 i ≡ 8192 * srams d (parts_before d s + i)
      unfolding column
      sram-words i l =
          ap (λ (x : ℕ). 8192 * x)
          (ap (λ (r : List ℕ). column r f.parts 3 i) started-is
          ∙ column_kept ranked 7 3 f.parts count _ _ (omega arith) (omega arith) (λ e. omega arith) i
          ∙ ranked-word 3 i (omega arith)
          ∙ (t.counted (f.parts + i) (omega (arith, stage_parts, stage_inside))).sram-count
          ∙ ap (λ (x : ℕ). srams d (x + i)) t.firsts.parts)

      pub sram_total : f.sram + sum_to (takes started f.parts 3 8192) count ≡ sram_of d (s + 1)
      sram_total =
          omega (
            arith,
            t.firsts.sram,
            sram_next d s,
            sum_ext _ _ count sram-words,
            ap (sum_to (λ j. 8192 * srams d (parts_before d s + j))) t.count-is,
          )

      pub sram_summable : StageSummable started blocks f.parts count 3 8192 8 f.sram
      sram_summable = record {
        rows = record {
          few = ranked-rows.few;
          parts = ranked-rows.parts;
          inside = omega (arith, ranked-rows.inside, ap length started-is ∙ put_long ranked 7 _ _ count);
          block = λ i l. omega (arith, started-block i l, ranked-block i l, ranked-rows.block i l);
        };
        few-blocks = stage_placeable.few-blocks;
        word = omega arith;
        other = (omega arith, λ e. omega arith, λ e. omega arith);
        fits = omega (arith, sram_total, sram_mono d (s + 1) (majors_of d) (omega (arith, t.stage)), (totals_fit_lem d t.totals).1);
      }

      -- the rows are the definition's
      row : (i : ℕ) → i < count → f.parts + i ≡ parts_before d s + i
      row i l = ap (λ (x : ℕ). x + i) t.firsts.parts

      taken_is : (block words words' : ℕ → ℕ) (first first' i : ℕ) → i < count → first ≡ first' → ((j : ℕ) → j < count → block j ≡ block_of d s j)
          → ((j : ℕ) → j < count → words j ≡ words' j) → first + taken_before block words count i ≡ first' + taken_before (block_of d s) words' (count_at d s) i
      taken_is block words words' first first' i l e h g =
          ap₂ ◌+◌ e (taken_ext block (block_of d s) words words' count i l h g ∙ ap (λ (c : ℕ). taken_before (block_of d s) words' c i) t.count-is)

      pub rows_are : (done : List ℕ) → done ≡ started_rows started f.parts count 3 8192 8 f.sram → done ≡ stage_rows d room s
      unfolding stage_rows state_start sram_start rank_of
      rows_are done done-is =
          done-is
          ∙ put_cong _ _ 8 _ _ _ _ count (count_at d s)
          (started-is
          ∙ put_cong _ _ 7 _ _ _ _ count (count_at d s)
          (ranked-is
          ∙ put_cong _ _ 9 _ _ _ _ count (count_at d s)
          (put_cong room room 6 _ _ _ _ count (count_at d s) refl t.count-is row (λ i l. block_is i))
          t.count-is
          (λ i l. taken_is (block_from d blocks f.parts) (λ j. 1) (λ j. 1) _ _ i l t.firsts.parts (λ j u. block_is j) (λ j u. refl))
          row)
          t.count-is
          row
          (λ i l. taken_is (column ranked f.parts 6) (takes ranked f.parts 5 1) _ _ _ i l t.firsts.state ranked-block state-words))
          t.count-is
          row
          (λ i l. taken_is (column started f.parts 6) (takes started f.parts 3 8192) _ _ _ i l t.firsts.sram started-block sram-words)
