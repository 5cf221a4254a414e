-- The parts that the run finds in a major stage are the plan's, each where assembly put it. So what they read of the new state was stored by earlier
-- major stages and by none of theirs, what they store are their own words, and no two store the same.
-- Assumes nothing.
use mathlib.Core.Path.{◌≡◌, sym, ap, ap₂, ◌∙◌, subst}
use mathlib.Core.List.{List}
use mathlib.Core.Logic.{⊎_elim}
use Prim.Native.Nat.{ℕ, ◌+◌, ◌-◌, ◌^◌, ◌≤◌, ◌<◌}
use native.Mathlib.Nat.{zero-add}
use native.Mathlib.Omega.{arith}
use lib.ListN.{length, get_or}
use Rattle.reads.specs.Search.{longest}
use Rattle.plan_record.specs.Record.{plan_lanes, blocks_of, majors_of, count_at, parts_before, parts_of}
use Rattle.plan_counts.specs.Counts.{write_outs}
use Rattle.plan_blocks.specs.Blocks.{block_of, state_of, state_start, sram_start}
use Rattle.plan_blocks.proofs.TotalLaws.{same_or}
use Rattle.plan_blocks.proofs.StateStartLaws.{state_in, state_apart}
use Rattle.plan_positions.proofs.MajorLaws.{major_is}
use Rattle.plan_reads.specs.PartReads.{part_lanes}
use Rattle.script_assembly.specs.WrittenSoFar.{last_mark, parts_in, part_start}
use Rattle.script_assembly.proofs.BlockRankLaws.{in_before, part_at}
use Rattle.run_machine.specs.Part.{rounds_at, read_word_at, read_mask_at}
use Rattle.promise_order.specs.Order.{parts_at, Stores, PartAt, Apart}
use Rattle.promise_order.proofs.StoreTurnLaws.{stores_from, stores_until}
use Rattle.promise_decode.specs.Decoded.{Decoded}
use Rattle.promise_decode.proofs.InsideLaws.{read_before}
use Rattle.promise.specs.Promise.{Accepted, assembled, starts_of, StoredBy}
use Rattle.promise.proofs.AcceptedLaws.{tests, lanes_found}
use Rattle.promise.proofs.AssembledBlockLaws as Block

module _ (d : List ℕ) (accepted : Accepted d) (s : ℕ) (stage : s < majors_of d) where
  abbrev W : List ℕ
  W = assembled d

  -- ---- the parts that the run finds

  abbrev pub RunPart : ℕ → ℕ → ℕ → Type 0
  RunPart b j o = PartAt (plan_lanes d) W (starts_of d s) (length (starts_of d s) - 1) b j o

  -- part j of block b of the plan, at word o
  pub record PlanPart (b j o : ℕ) : Type 0 where
    pub block : b < blocks_of d
    pub inside : j < length (parts_in d s b)
    pub at : o ≡ part_start (plan_lanes d) d s b j

  pub planned : (b j o : ℕ) → RunPart b j o → PlanPart b j o
  planned b j o q =
      let h : b < blocks_of d = omega (arith, q.block, Block.starts_are d accepted s stage) in
      let there = Block.start_is d accepted s stage b (omega arith) in
      let found = Block.found d accepted s stage b h in
      let in_block : j < length (parts_in d s b) = omega (arith, q.inside, ap (λ (x : ℕ). length (parts_at (plan_lanes d) W x)) there, found.many) in
      record {
        block = h;
        inside = in_block;
        at = q.at ∙ ap (λ (x : ℕ). get_or (parts_at (plan_lanes d) W x) j 0) there ∙ found.at j in_block ∙ ap (part_start (plan_lanes d) d s b) (zero-add j);
      }

  pub run_part : (b j : ℕ) → b < blocks_of d → j < length (parts_in d s b) → RunPart b j (part_start (plan_lanes d) d s b j)
  run_part b j h l =
      let there = Block.start_is d accepted s stage b (omega arith) in
      let found = Block.found d accepted s stage b h in
      record {
        block = omega (arith, Block.starts_are d accepted s stage);
        inside = omega (arith, ap (λ (x : ℕ). length (parts_at (plan_lanes d) W x)) there, found.many);
        at = sym (ap (λ (x : ℕ). get_or (parts_at (plan_lanes d) W x) j 0) there ∙ found.at j l ∙ ap (part_start (plan_lanes d) d s b) (zero-add j));
      }

  -- its number in the stage
  abbrev pub number : ℕ → ℕ → ℕ
  number b j = get_or (parts_in d s b) j 0

  number_lt : (b j o : ℕ) → PlanPart b j o → number b j < count_at d s
  number_lt b j o q = Block.number_lt d accepted s stage b q.block j q.inside

  pub back : (b j o : ℕ) → PlanPart b j o
      → Decoded (plan_lanes d) d (parts_before d s + number b j) (last_mark (length (parts_in d s b)) j) (state_start d s (number b j)) (sram_start d s (number b j)) W o
  back b j o q =
      subst (λ (x : ℕ). Decoded (plan_lanes d) d (parts_before d s + number b j) (last_mark (length (parts_in d s b)) j) (state_start d s (number b j)) (sram_start d s (number b j)) W x)
      (sym q.at) (Block.part_back d accepted s stage b q.block j q.inside)

  -- ---- what a part stores

  pub stored_by : (b j o w : ℕ) → PlanPart b j o → Stores W o w → StoredBy d s (number b j) w
  stored_by b j o w q h =
      let D = back b j o q in
      record {
        part = number_lt b j o q;
        from = omega (arith, stores_from W o w h, D.start);
        until = omega (arith, stores_until W o w h, D.start, D.normal);
      }

  stored-high : (i w : ℕ) → StoredBy d s i w → state_of d s ≤ w
  stored-high i w h = omega (arith, h.from, (state_in d s i h.part).0)

  stored-once : (i k w : ℕ) → StoredBy d s i w → StoredBy d s k w → i ≡ k
  unfolding write_outs
  stored-once i k w a b = ⊎_elim
      (λ (e : i ≡ k). e)
      (λ (n : i ≡ k → ⊥). absurd (⊎_elim
      (λ l. omega (arith, a.until, b.from))
      (λ l. omega (arith, b.until, a.from))
      (state_apart d s s i k a.part b.part (λ e. n (omega arith)))))
      (same_or i k)

  -- a part stands once
  one_place : (b j c k : ℕ) → j < length (parts_in d s b) → k < length (parts_in d s c) → number b j ≡ number c k → (b ≡ c) × (j ≡ k)
  one_place b j c k h l e =
      let p = part_at d s b (count_at d s) j h in
      let q = part_at d s c (count_at d s) k l in
      let same : b ≡ c = sym p.block ∙ ap (block_of d s) e ∙ q.block in
      (same, sym p.place ∙ ap₂ (in_before d s) same e ∙ q.place)

  -- ---- what a part reads of the new state

  part-reads : (b j o : ℕ) → PlanPart b j o → (r l : ℕ) → r < rounds_at W o → l < plan_lanes d → 0 < read_mask_at (plan_lanes d) W o r l → 2 ^ 31 ≤ read_word_at (plan_lanes d) W o r l
      → read_word_at (plan_lanes d) W o r l - 2 ^ 31 < state_of d s
  part-reads b j o q r l h k some_bits staged =
      let D = back b j o q in
      let p : ℕ = parts_before d s + number b j in
      let there : p < parts_of d = Block.plan_part d accepted s stage b q.block j q.inside in
      let a : r < longest (part_lanes (plan_lanes d) d p) = omega (arith, D.rounds) in
      let e = D.read_word r l a k in
      let major = ap (state_of d) (major_is d s (number b j) stage (number_lt b j o q)) in
      omega (
        arith,
        e,
        major,
        read_before d (tests d accepted).totals (tests d accepted).twelve p there (lanes_found d accepted p there) r l
            (λ z. omega (arith, D.read_mask r l a k)) (omega arith),
      )

  -- THE BLOCKS OF A MAJOR STAGE ARE KEPT APART
  pub apart : Apart (plan_lanes d) W (starts_of d s) (length (starts_of d s) - 1)
  apart = record {
    reads = λ b j o q r l h k some_bits staged c i e x st. omega (
      arith,
      part-reads b j o (planned b j o q) r l h k some_bits staged,
      stored-high (number c i) _ (stored_by c i e _ (planned c i e x) st),
    );
    apart = λ b j o c k e w q r h l.
        let x = planned b j o q in
        let y = planned c k e r in
        one_place b j c k x.inside y.inside (stored-once _ _ w (stored_by b j o w x h) (stored_by c k e w y l));
  }
