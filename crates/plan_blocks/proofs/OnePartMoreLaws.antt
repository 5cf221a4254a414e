-- One part more, for each pass over the parts of a major stage: what its turn may ask for, and what the sums and the rows then hold.
-- Assumes nothing.
use mathlib.Core.Path.{◌≡◌, refl, sym, ap, ap₂, ◌∙◌}
use mathlib.Core.Logic.{◌⊎◌, inl, inr, ⊎_elim}
use mathlib.Core.List.{List}
use Prim.Native.Nat.{ℕ, ◌+◌, ◌*◌, ◌^◌, ◌≤◌, ◌<◌}
use native.Mathlib.Numerals.{add-one}
use native.Mathlib.Omega.{arith}
use lib.ListN.{length, get_or, set, replicate, length-set, length-replicate}
use lib.Seq.{get_or-set_same, get_or-set_other}
use Rattle.words.specs.Sum.{sum_to}
use Rattle.words.specs.Section.{list_of}
use Rattle.words.proofs.SumLaws.{sum_more, sum_le}
use Rattle.words.proofs.SectionLaws.{length_list_of, get_d_list_of, list_of-is}
use Rattle.plan_blocks.specs.declared.costs.BlockCost.{BlockCost}
use Rattle.plan_blocks.specs.Blocks.{block_for, costs_after, block_in}
use Rattle.plan_blocks.specs.Sums.{in_block}
use Rattle.plan_rows.specs.Rows.{cell}
use Rattle.plan_blocks.specs.TableFill.{put_cells, column, takes, sums_in, start_in, blank, costs_of, block_part_counts, with_part, Rows, PartPuttable, Addable, RankReady, Summable, Takeable, Rankable}
use Rattle.plan_blocks.proofs.TotalLaws.{same_or, sum_const}
use Rattle.plan_blocks.proofs.LeastCostLaws.{in_here, in_grows, in_most, in_lt, sums_none, sums_plain, costs_none, costs_small, sums_at, sums_more}
use Rattle.plan_blocks.proofs.BlockCostLaws.{cost_at, count_at, costs_put, counts_put, blank_costs, blank_counts}
use Rattle.plan_blocks.proofs.CellLaws.{put_none, put_more, put_word, put_long}

list_long : (f : ℕ → ℕ) (B : ℕ) (s : List ℕ) → s ≡ list_of f B → length s ≡ B
list_long f B s e = ap length e ∙ length_list_of f B

-- ---- sums over rows: `room` at first, `first` the sums at first

module _ (room : List ℕ) (base count B : ℕ) (rows : Rows room B base count) (first words : ℕ → ℕ) (sums : List ℕ) (i : ℕ) (l : i < count)
    (is : sums ≡ list_of (λ b. first b + in_block (column room base 6) words b i) B) where
  -- with this part the block's sum is still at most what it ends at
  pub sum_reach : get_or sums (column room base 6 i) 0 + words i ≤ first (column room base 6 i) + in_block (column room base 6) words (column room base 6 i) count
  sum_reach =
      omega (
        arith,
        sums_at (column room base 6) words first B i sums is (rows.block i l),
        in_here (column room base 6) words i,
        in_grows (column room base 6) words (column room base 6 i) (i + 1) count (omega arith),
      )

  -- the room as it is now has the same blocks
  module _ (now : List ℕ) (long : length now ≡ length room) (same : get_or now (cell (base + i) 6) 0 ≡ get_or room (cell (base + i) 6) 0) where
    pub block_in_lem : get_or now (cell (base + i) 6) 0 < length sums
    unfolding column
    block_in_lem = omega (arith, same, rows.block i l, list_long _ B sums is)

    pub sum-here : get_or sums (get_or now (cell (base + i) 6) 0) 0 ≡ first (column room base 6 i) + in_block (column room base 6) words (column room base 6 i) i
    unfolding column
    sum-here = ap (λ (b : ℕ). get_or sums b 0) same ∙ sums_at (column room base 6) words first B i sums is (rows.block i l)

    pub sum-on : (w : ℕ) → w ≡ words i
        → set sums (get_or now (cell (base + i) 6) 0) (get_or sums (get_or now (cell (base + i) 6) 0) 0 + w)
        ≡ list_of (λ b. first b + in_block (column room base 6) words b (i + 1)) B
    unfolding column
    sum-on w e =
        ap₂ (λ (b v : ℕ). set sums b (get_or sums b 0 + v)) same e
        ∙ sums_more (column room base 6) words first B i sums is (rows.block i l)

module _ (room : List ℕ) (base count B from scale : ℕ) (rows : Rows room B base count) (word : from < 16) (first : ℕ → ℕ) (sums : List ℕ) (i : ℕ) (l : i < count)
    (is : sums ≡ list_of (λ b. first b + in_block (column room base 6) (takes room base from scale) b i) B)
    (fits : (b : ℕ) → b < B → first b + in_block (column room base 6) (takes room base from scale) b count < 2 ^ 32)
    (now : List ℕ) (long : length now ≡ length room)
    (same : (k : ℕ) → (k ≡ 6) ⊎ (k ≡ from) → get_or now (cell (base + i) k) 0 ≡ get_or room (cell (base + i) k) 0) where
  pub add_ready : Addable now sums (base + i) from scale
  unfolding column
  add_ready = record {
    part = omega (arith, rows.parts);
    inside = omega (arith, rows.inside, long);
    word = word;
    block = block_in_lem room base count B rows first (takes room base from scale) sums i l is now long (same 6 (inl refl));
    fits =
        rw (same 6 (inl refl), same from (inr refl))
        (omega (
          arith,
          sum_reach room base count B rows first (takes room base from scale) sums i l is,
          fits (column room base 6 i) (rows.block i l),
        ));
  }

  pub add_on : set sums (get_or now (cell (base + i) 6) 0) (get_or sums (get_or now (cell (base + i) 6) 0) 0 + scale * get_or now (cell (base + i) from) 0)
      ≡ list_of (λ b. first b + in_block (column room base 6) (takes room base from scale) b (i + 1)) B
  unfolding column
  add_on =
      sum-on room base count B rows first (takes room base from scale) sums i l is now long (same 6 (inl refl)) _
      (ap (λ (x : ℕ). scale * x) (same from (inr refl)))

-- the sums of the parts' words alone fit
pub zero_fits : (room sums : List ℕ) (base count from scale : ℕ) → Summable room sums base count from scale
    → (b : ℕ) → b < length sums → 0 + in_block (column room base 6) (takes room base from scale) b count < 2 ^ 32
zero_fits room sums base count from scale s b l = omega (arith, s.fits, in_most (column room base 6) (takes room base from scale) b count)

-- ---- a part takes its start, and its rank

module _ (room sums₀ : List ℕ) (base count from scale to : ℕ) (t : Takeable room sums₀ base count from scale to) (sums now : List ℕ) (i : ℕ) (l : i < count)
    (rows_are : now ≡ put_cells room to (λ j. base + j) (start_in room sums₀ base (takes room base from scale)) i)
    (sums-are : sums ≡ sums_in room sums₀ base (takes room base from scale) i) where
  now-long : length now ≡ length room
  now-long = ap length rows_are ∙ put_long room to _ _ i

  now-word : (k : ℕ) → (k ≡ 6) ⊎ (k ≡ from) → get_or now (cell (base + i) k) 0 ≡ get_or room (cell (base + i) k) 0
  now-word k h =
      ap (λ (r : List ℕ). get_or r (cell (base + i) k) 0) rows_are
      ∙ put_word room to _ _ i (base + i) k t.other.0
      (⊎_elim (λ e. omega arith) (λ e. omega (arith, t.word)) h)
      (λ e. ⊎_elim (λ q. t.other.1 (sym e ∙ q)) (λ q. t.other.2 (sym e ∙ q)) h)

  pub start_ready : Addable now sums (base + i) from scale × (to < 16)
  start_ready = (
    add_ready room base count (length sums₀) from scale t.rows t.word (λ b. get_or sums₀ b 0) sums i l sums-are t.fits now now-long now-word,
    t.other.0,
  )

  pub start_sums : set sums (get_or now (cell (base + i) 6) 0) (get_or sums (get_or now (cell (base + i) 6) 0) 0 + scale * get_or now (cell (base + i) from) 0)
      ≡ sums_in room sums₀ base (takes room base from scale) (i + 1)
  start_sums = add_on room base count (length sums₀) from scale t.rows t.word (λ b. get_or sums₀ b 0) sums i l sums-are t.fits now now-long now-word

  pub start_rows : set now (cell (base + i) to) (get_or sums (get_or now (cell (base + i) 6) 0) 0)
      ≡ put_cells room to (λ j. base + j) (start_in room sums₀ base (takes room base from scale)) (i + 1)
  start_rows =
      ap₂ (λ (r : List ℕ) (v : ℕ). set r (cell (base + i) to) v) rows_are
      (sum-here room base count (length sums₀) t.rows (λ b. get_or sums₀ b 0) (takes room base from scale) sums i l sums-are now now-long (now-word 6 (inl refl)))
      ∙ sym (put_more room to _ _ i)

module _ (room sums₀ : List ℕ) (base count : ℕ) (t : Rankable room sums₀ base count) (sums now : List ℕ) (i : ℕ) (l : i < count)
    (rows_are : now ≡ put_cells room 9 (λ j. base + start_in room sums₀ base (λ x. 1) j) (λ j. base + j) i)
    (sums-are : sums ≡ sums_in room sums₀ base (λ x. 1) i) where
  rank-long : length now ≡ length room
  rank-long = ap length rows_are ∙ put_long room 9 _ _ i

  rank-word : get_or now (cell (base + i) 6) 0 ≡ get_or room (cell (base + i) 6) 0
  rank-word =
      ap (λ (r : List ℕ). get_or r (cell (base + i) 6) 0) rows_are
      ∙ put_word room 9 _ _ i (base + i) 6 (omega arith) (omega arith) (λ e. omega arith)

  pub rank_ready : RankReady now sums base count i
  unfolding column
  rank_ready = record {
    part = t.rows.parts;
    number = l;
    inside = omega (arith, t.rows.inside, rank-long);
    block = block_in_lem room base count (length sums₀) t.rows (λ b. get_or sums₀ b 0) (λ x. 1) sums i l sums-are now rank-long rank-word;
    rank =
        rw rank-word
        (omega (
          arith,
          sum_reach room base count (length sums₀) t.rows (λ b. get_or sums₀ b 0) (λ x. 1) sums i l sums-are,
          t.below (column room base 6 i) (t.rows.block i l),
        ));
  }

  pub rank_sums : set sums (get_or now (cell (base + i) 6) 0) (get_or sums (get_or now (cell (base + i) 6) 0) 0 + 1) ≡ sums_in room sums₀ base (λ x. 1) (i + 1)
  rank_sums =
      sum-on room base count (length sums₀) t.rows (λ b. get_or sums₀ b 0) (λ x. 1) sums i l sums-are now rank-long rank-word 1 refl

  pub rank_rows : set now (cell (base + get_or sums (get_or now (cell (base + i) 6) 0) 0) 9) (base + i)
      ≡ put_cells room 9 (λ j. base + start_in room sums₀ base (λ x. 1) j) (λ j. base + j) (i + 1)
  rank_rows =
      ap₂ (λ (r : List ℕ) (v : ℕ). set r (cell (base + v) 9) (base + i)) rows_are
      (sum-here room base count (length sums₀) t.rows (λ b. get_or sums₀ b 0) (λ x. 1) sums i l sums-are now rank-long rank-word)
      ∙ sym (put_more room 9 _ _ i)

-- ---- sums turned into starts

pub record Made (sums₀ sums : List ℕ) (first at b : ℕ) : Type 0 where
  pub within : b ≤ length sums₀
  pub long : length sums ≡ length sums₀
  pub next : at ≡ first + sum_to (λ k. get_or sums₀ k 0) b
  pub done : (k : ℕ) → k < b → get_or sums k 0 ≡ first + sum_to (λ j. get_or sums₀ j 0) k
  pub left : (k : ℕ) → b ≤ k → get_or sums k 0 ≡ get_or sums₀ k 0

pub made_none : (sums : List ℕ) (first : ℕ) → Made sums sums first first 0
unfolding sum_to
made_none sums first = record {
  within = omega arith;
  long = refl;
  next = omega arith;
  done = λ k l. absurd (omega arith);
  left = λ k l. refl;
}

module _ (sums₀ sums : List ℕ) (first at b : ℕ) (m : Made sums₀ sums first at b) (l : b < length sums₀) where
  pub made_next : at + get_or sums b 0 ≡ first + sum_to (λ k. get_or sums₀ k 0) (b + 1)
  made_next = omega (arith, m.next, m.left b (omega arith), sum_more (λ k. get_or sums₀ k 0) b)

  pub made_fits : first + sum_to (λ k. get_or sums₀ k 0) (length sums₀) < 2 ^ 32 → at + get_or sums b 0 < 2 ^ 32
  made_fits h = omega (arith, made_next, sum_le (λ k. get_or sums₀ k 0) (b + 1) (length sums₀) (omega arith))

  pub made_more : Made sums₀ (set sums b at) first (at + get_or sums b 0) (b + 1)
  made_more = record {
    within = omega arith;
    long = length-set sums b at ∙ m.long;
    next = made_next;
    done =
        λ k u.
        ⊎_elim (λ e. rw e (get_or-set_same sums b at 0 (omega (arith, m.long)) ∙ m.next))
        (λ e. get_or-set_other sums b k at 0 e ∙ m.done k (omega arith))
        (same_or k b);
    left = λ k u. get_or-set_other sums b k at 0 (λ e. omega arith) ∙ m.left k (omega arith);
  }

pub made_all : (sums₀ sums : List ℕ) (first at b : ℕ) → Made sums₀ sums first at b → b ≡ length sums₀
    → (at ≡ first + sum_to (λ k. get_or sums₀ k 0) (length sums₀)) × (sums ≡ list_of (λ k. first + sum_to (λ j. get_or sums₀ j 0) k) (length sums₀))
made_all sums₀ sums first at b m e =
    (m.next ∙ ap (λ (x : ℕ). first + sum_to (λ k. get_or sums₀ k 0) x) e, list_of-is _ _ sums m.long (λ k l. m.done k (omega arith)))

-- ---- a part goes to its block

-- the first i parts are in their blocks, of B blocks: f gives the stages of a part, row its row
pub record PartsPlaced (B : ℕ) (f row : ℕ → ℕ) (room₀ room : List ℕ) (blocks : List BlockCost) (i : ℕ) : Type 0 where
  pub long : length blocks ≡ 1024
  pub rows : room ≡ put_cells room₀ 6 row (block_in B f) i
  pub costs : costs_of B blocks ≡ costs_after B f i
  pub counts : block_part_counts B blocks ≡ list_of (λ b. 0 + in_block (block_in B f) (λ j. 1) b i) B

module _ (B : ℕ) (f row : ℕ → ℕ) (room₀ : List ℕ) (some : 0 < B) (few : B ≤ 1024) where
  pub placed_none : (blocks : List BlockCost) → blocks ≡ replicate 1024 blank → PartsPlaced B f row room₀ room₀ blocks 0
  placed_none blocks e = record {
    long = ap length e ∙ length-replicate 1024 blank;
    rows = sym (put_none room₀ 6 row _);
    costs = ap (costs_of B) e ∙ blank_costs 1024 B few ∙ sym (costs_none B f);
    counts = ap (block_part_counts B) e ∙ blank_counts 1024 B few ∙ sums_none _ _ B;
  }

  module _ (room : List ℕ) (blocks : List BlockCost) (i : ℕ) (p : PartsPlaced B f row room₀ room blocks i) where
    pub placed_long : length room ≡ length room₀
    placed_long = ap length p.rows ∙ put_long room₀ 6 row _ i

    pub placed_counts : block_part_counts B blocks ≡ list_of (λ b. in_block (block_in B f) (λ j. 1) b i) B
    placed_counts = p.counts ∙ sums_plain _ B

    module _ (b : ℕ) (block : b ≡ block_for B (costs_of B blocks) i) (w : ℕ) (cost : w ≡ f i + 3) where
      block_is : b ≡ block_in B f i
      unfolding block_in
      block_is = block ∙ ap (λ (s : List ℕ). block_for B s i) p.costs

      is_block : b < B
      is_block = omega (arith, block_is, in_lt B f some i)

      pub put_ready : i < 4096 → ((j : ℕ) → j ≤ i → f j ≤ 255) → PartPuttable blocks b w
      put_ready l stages = record {
        inside = omega (arith, is_block, few, p.long);
        number =
            omega (
              arith,
              count_at B blocks b is_block,
              ap (λ (s : List ℕ). get_or s b 0) p.counts ∙ get_d_list_of _ B b is_block,
              in_most (block_in B f) (λ j. 1) b i,
              sum_const 1 i,
            );
        fits =
            omega (
              arith,
              cost_at B blocks b is_block,
              ap (λ (s : List ℕ). get_or s b 0) p.costs,
              cost,
              stages i (omega arith),
              costs_small B f some i b is_block (omega arith) (λ j u. stages j (omega arith)),
            );
      }

      costs-more : set (costs_of B blocks) b (get_or (costs_of B blocks) b 0 + w) ≡ costs_after B f (i + 1)
      unfolding costs_after block_in
      costs-more =
          rw add-one
          (ap₂ (λ (x y : ℕ). set (costs_of B blocks) x (get_or (costs_of B blocks) x 0 + y)) block_is cost
          ∙ ap (λ (s : List ℕ). set s (block_in B f i) (get_or s (block_in B f i) 0 + (f i + 3))) p.costs)

      pub placed_more : (next : List BlockCost) → next ≡ with_part blocks b w → (now : List ℕ) → now ≡ set room (cell (row i) 6) b
          → PartsPlaced B f row room₀ now next (i + 1)
      placed_more next n now e = record {
        long = ap length n ∙ length-set blocks b _ ∙ p.long;
        rows = e ∙ ap₂ (λ (r : List ℕ) (v : ℕ). set r (cell (row i) 6) v) p.rows block_is ∙ sym (put_more room₀ 6 row _ i);
        costs = ap (costs_of B) n ∙ costs_put B blocks b is_block inside w ∙ costs-more;
        counts =
            ap (block_part_counts B) n
            ∙ counts_put B blocks b is_block inside w
            ∙ ap (λ (x : ℕ). set (block_part_counts B blocks) x (get_or (block_part_counts B blocks) x 0 + 1)) block_is
            ∙ sums_more (block_in B f) (λ j. 1) (λ x. 0) B i (block_part_counts B blocks) p.counts (in_lt B f some i);
      }
        where
          inside : b < length blocks
          inside = omega (arith, is_block, few, p.long)

-- ---- the part counts taken one by one

pub record BlockTaken (from counts : List ℕ) (b : ℕ) : Type 0 where
  pub long : length counts ≡ length from
  pub within : b ≤ length from
  pub done : (k : ℕ) → k < b → get_or counts k 0 ≡ get_or from k 0

module _ (from counts : List ℕ) where
  pub taken_none : length counts ≡ length from → BlockTaken from counts 0
  taken_none e = record { long = e; within = omega arith; done = λ k l. absurd (omega arith) }

  pub taken_more : (b v : ℕ) → BlockTaken from counts b → b < length from → v ≡ get_or from b 0 → BlockTaken from (set counts b v) (b + 1)
  taken_more b v t l e = record {
    long = length-set counts b v ∙ t.long;
    within = omega arith;
    done =
        λ k u.
        ⊎_elim (λ q. rw q (get_or-set_same counts b v 0 (omega (arith, t.long)) ∙ e))
        (λ q. get_or-set_other counts b k v 0 q ∙ t.done k (omega arith))
        (same_or k b);
  }

  pub taken_all : (b : ℕ) → BlockTaken from counts b → b ≡ length counts → counts ≡ from
  taken_all b t e =
      list_of-is (λ k. get_or from k 0) (length from) counts t.long (λ k l. t.done k (omega (arith, t.long)))
      ∙ sym (list_of-is (λ k. get_or from k 0) (length from) from refl (λ k l. refl))
