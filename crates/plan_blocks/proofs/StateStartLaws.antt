-- Parts over all major stages: each part is part i of one major stage s; the parts' ranges of state words, and of SRAM words, are disjoint and
-- consecutive in the order of the ranks; the ranks are the numbers below the number of parts.
-- Assumes nothing.
use mathlib.Core.Path.{◌≡◌, refl, ap}
use mathlib.Core.Logic.{◌⊎◌, inl, inr, ⊎_elim}
use mathlib.Core.List.{List}
use Prim.Native.Nat.{ℕ, zero, suc, ◌+◌, ◌*◌, ◌-◌, ◌/◌, ◌≤◌, ◌<◌}
use native.Mathlib.Omega.{arith}
use Rattle.words.specs.Sum.{sum_to}
use Rattle.words.proofs.SumLaws.{sum_le}
use Rattle.words.proofs.BitLaws.{lt_or_ge}
use Rattle.plan_record.specs.Record.{layout_of, count_at, parts_before}
use Rattle.plan_record.proofs.RecordLaws.{parts_more}
use Rattle.plan_counts.specs.Counts.{srams, write_outs}
use Rattle.plan_blocks.specs.Blocks.{block_of, taken_before, state_of, sram_of, state_start, sram_start}
use Rattle.plan_blocks.specs.PartTable.{rank_of}
use Rattle.plan_blocks.proofs.TotalLaws.{three_ways, sum_zero, sum_split}
use Rattle.plan_blocks.proofs.BlockOrderLaws.{taken_in, taken_apart, rank_lt, rank_apart, rank_taken, rank_order, rank_next, rank_first, rank_last}

-- ---- parts of the major stages

module _ (d : List ℕ) where
  pub parts_mono : (s t : ℕ) → s ≤ t → parts_before d s ≤ parts_before d t
  unfolding parts_before
  parts_mono s t l = sum_le (count_at d) s t l

  pub parts_next : (s : ℕ) → parts_before d (s + 1) ≡ parts_before d s + count_at d s
  parts_next s = parts_more d s

  -- part p is a part of one of the first n major stages
  pub part_split : (n p : ℕ) → p < parts_before d n → (s : ℕ) × (i : ℕ) × (s < n) × (i < count_at d s) × (p ≡ parts_before d s + i)
  unfolding parts_before sum_to
  part_split zero p l = absurd (omega arith)
  part_split (suc n) p l =
      ⊎_elim (λ u. let (s, i, a, b, e) = part_split n p u in (s, i, omega arith, b, e))
      (λ u. (n, p - sum_to (count_at d) n, omega arith, omega arith, omega arith))
      (lt_or_ge p (sum_to (count_at d) n))

-- ---- ranges of words, `words` a part: `first` at the beginning, continued through the major stages

-- what comes before major stage s, and before part i of it
abbrev stage_first : List ℕ → ℕ → (ℕ → ℕ) → ℕ → ℕ
stage_first d first words s = first + sum_to words (parts_before d s)

abbrev part_first : List ℕ → ℕ → (ℕ → ℕ) → ℕ → ℕ → ℕ
part_first d first words s i = stage_first d first words s + taken_before (block_of d s) (λ j. words (parts_before d s + j)) (count_at d s) i

module _ (d : List ℕ) (first : ℕ) (words : ℕ → ℕ) where
  stage_next : (s : ℕ) → stage_first d first words (s + 1) ≡ stage_first d first words s + sum_to (λ j. words (parts_before d s + j)) (count_at d s)
  stage_next s = omega (arith, ap (sum_to words) (parts_next d s), sum_split words (parts_before d s) (count_at d s))

  stage-mono : (s t : ℕ) → s ≤ t → stage_first d first words s ≤ stage_first d first words t
  stage-mono s t l = omega (arith, sum_le words (parts_before d s) (parts_before d t) (parts_mono d s t l))

  part-inside : (s i : ℕ) → i < count_at d s
      → (stage_first d first words s ≤ part_first d first words s i) × (part_first d first words s i + words (parts_before d s + i) ≤ stage_first d first words (s + 1))
  part-inside s i l = (
    omega arith,
    omega (arith, stage_next s, taken_in (block_of d s) (λ j. words (parts_before d s + j)) (count_at d s) i l),
  )

  part_apart : (s t i j : ℕ) → i < count_at d s → j < count_at d t → (parts_before d s + i ≡ parts_before d t + j → ⊥)
      → (part_first d first words s i + words (parts_before d s + i) ≤ part_first d first words t j)
      ⊎ (part_first d first words t j + words (parts_before d t + j) ≤ part_first d first words s i)
  part_apart s t i j l m h =
      ⊎_elim (λ u. inl (omega (arith, (part-inside s i l).1, (part-inside t j m).0, stage-mono (s + 1) t (omega arith))))
      (λ r.
      ⊎_elim (λ q. same q)
      (λ u. inr (omega (arith, (part-inside t j m).1, (part-inside s i l).0, stage-mono (t + 1) s (omega arith))))
      r)
      (three_ways s t)
    where
      same : s ≡ t
          → (part_first d first words s i + words (parts_before d s + i) ≤ part_first d first words t j)
          ⊎ (part_first d first words t j + words (parts_before d t + j) ≤ part_first d first words s i)
      same q =
          let k : j < count_at d s = omega (arith, ap (count_at d) q) in
          rw (← q)
          (⊎_elim (λ u. inl (omega arith)) (λ u. inr (omega arith))
          (taken_apart (block_of d s) (λ x. words (parts_before d s + x)) (count_at d s) i j l k (λ e. h (omega (arith, ap (parts_before d) q)))))

module _ (d : List ℕ) where
  pub rank_in : (s i : ℕ) → i < count_at d s → (parts_before d s ≤ rank_of d s i) × (rank_of d s i < parts_before d (s + 1))
  unfolding rank_of
  rank_in s i l = (omega arith, omega (arith, parts_next d s, rank_lt (block_of d s) (count_at d s) i l))

  pub rank_same : (s t i j : ℕ) → i < count_at d s → j < count_at d t → rank_of d s i ≡ rank_of d t j → (s ≡ t) × (i ≡ j)
  unfolding rank_of
  rank_same s t i j l m e =
      ⊎_elim (λ u. absurd (omega (arith, (rank_in s i l).1, (rank_in t j m).0, parts_mono d (s + 1) t (omega arith))))
      (λ r.
      ⊎_elim (λ q. (q, here q))
      (λ u. absurd (omega (arith, (rank_in t j m).1, (rank_in s i l).0, parts_mono d (t + 1) s (omega arith))))
      r)
      (three_ways s t)
    where
      here : s ≡ t → i ≡ j
      here q =
          let k : j < count_at d s = omega (arith, ap (count_at d) q) in
          rank_apart (block_of d s) (count_at d s) i j l k (omega (arith, ap (λ (x : ℕ). rank_of d x j) q))

  -- every number below the number of parts is the rank of some part
  pub rank_all : (n k : ℕ) → k < parts_before d n → (s : ℕ) × (i : ℕ) × (s < n) × (i < count_at d s) × (k ≡ rank_of d s i)
  unfolding rank_of
  rank_all n k l =
      let (s, x, a, b, e) = part_split d n k l in
      let (i, u, q) = rank_taken (block_of d s) (count_at d s) x b in
      (s, i, a, u, omega arith)

module _ (d : List ℕ) (first : ℕ) (words : ℕ → ℕ) where
  -- in the order of the ranks the ranges ascend
  part-order : (s t i j : ℕ) → i < count_at d s → j < count_at d t → rank_of d s i < rank_of d t j
      → part_first d first words s i + words (parts_before d s + i) ≤ part_first d first words t j
  unfolding rank_of
  part-order s t i j l m h =
      ⊎_elim (λ u. omega (arith, (part-inside d first words s i l).1, (part-inside d first words t j m).0, stage-mono d first words (s + 1) t (omega arith)))
      (λ r.
      ⊎_elim same
      (λ u. absurd (omega (arith, (rank_in d t j m).1, (rank_in d s i l).0, parts_mono d (t + 1) s (omega arith))))
      r)
      (three_ways s t)
    where
      same : s ≡ t → part_first d first words s i + words (parts_before d s + i) ≤ part_first d first words t j
      same q =
          let k : j < count_at d s = omega (arith, ap (count_at d) q) in
          let g : rank_of d s i < rank_of d s j = omega (arith, ap (λ (x : ℕ). rank_of d x j) q) in
          rw (← q) (omega (arith, rank_order (block_of d s) (count_at d s) (λ x. words (parts_before d s + x)) i j l k (omega arith)))

  -- with nothing between them
  part_next : (s t i j : ℕ) → i < count_at d s → j < count_at d t → rank_of d t j ≡ rank_of d s i + 1
      → part_first d first words t j ≡ part_first d first words s i + words (parts_before d s + i)
  unfolding rank_of
  part_next s t i j l m h =
      ⊎_elim later
      (λ r.
      ⊎_elim same
      (λ u. absurd (omega (arith, (rank_in d t j m).1, (rank_in d s i l).0, parts_mono d (t + 1) s (omega arith))))
      r)
      (three_ways s t)
    where
      same : s ≡ t → part_first d first words t j ≡ part_first d first words s i + words (parts_before d s + i)
      same q =
          let k : j < count_at d s = omega (arith, ap (count_at d) q) in
          let g : rank_of d s j ≡ rank_of d s i + 1 = omega (arith, ap (λ (x : ℕ). rank_of d x j) q) in
          rw (← q) (omega (arith, rank_next (block_of d s) (count_at d s) (λ x. words (parts_before d s + x)) i j l k (omega arith)))

      later : s < t → part_first d first words t j ≡ part_first d first words s i + words (parts_before d s + i)
      later u =
          let a = (rank_in d s i l).1 in
          let b = parts_mono d (s + 1) t (omega arith) in
          let e : parts_before d (s + 1) ≡ parts_before d t = omega (arith, parts_next d s) in
          omega (
            arith,
            parts_next d s,
            stage_next d first words s,
            ap (sum_to words) e,
            rank_last (block_of d s) (count_at d s) (λ x. words (parts_before d s + x)) i l (omega (arith, parts_next d s)),
            rank_first (block_of d t) (count_at d t) (λ x. words (parts_before d t + x)) j m (omega (arith, parts_next d s)),
          )

-- ---- the state, and SRAM

module _ (d : List ℕ) where
  pub state_first : state_of d 0 ≡ (layout_of d + 31) / 32
  unfolding state_of parts_before sum_to
  state_first = omega arith

  pub state_next : (s : ℕ) → state_of d (s + 1) ≡ state_of d s + sum_to (λ j. write_outs d (parts_before d s + j)) (count_at d s)
  unfolding state_of
  state_next s = stage_next d _ (write_outs d) s

  pub state_mono : (s t : ℕ) → s ≤ t → state_of d s ≤ state_of d t
  unfolding state_of
  state_mono s t l = stage-mono d _ (write_outs d) s t l

  pub state_in : (s i : ℕ) → i < count_at d s
      → (state_of d s ≤ state_start d s i) × (state_start d s i + write_outs d (parts_before d s + i) ≤ state_of d (s + 1))
  unfolding state_of state_start
  state_in s i l = part-inside d _ (write_outs d) s i l

  pub state_apart : (s t i j : ℕ) → i < count_at d s → j < count_at d t → (parts_before d s + i ≡ parts_before d t + j → ⊥)
      → (state_start d s i + write_outs d (parts_before d s + i) ≤ state_start d t j)
      ⊎ (state_start d t j + write_outs d (parts_before d t + j) ≤ state_start d s i)
  unfolding state_of state_start
  state_apart s t i j l m h = part_apart d _ (write_outs d) s t i j l m h

  pub state_order : (s t i j : ℕ) → i < count_at d s → j < count_at d t → rank_of d s i < rank_of d t j
      → state_start d s i + write_outs d (parts_before d s + i) ≤ state_start d t j
  unfolding state_of state_start
  state_order s t i j l m h = part-order d _ (write_outs d) s t i j l m h

  pub state_after : (s t i j : ℕ) → i < count_at d s → j < count_at d t → rank_of d t j ≡ rank_of d s i + 1
      → state_start d t j ≡ state_start d s i + write_outs d (parts_before d s + i)
  unfolding state_of state_start
  state_after s t i j l m h = part_next d _ (write_outs d) s t i j l m h

  -- the part of rank 0 begins where the input layout ends, that of the highest rank ends where the state does
  pub state_least : (s i : ℕ) → i < count_at d s → rank_of d s i ≡ 0 → state_start d s i ≡ (layout_of d + 31) / 32
  unfolding state_of state_start rank_of
  state_least s i l h =
      let e : parts_before d s ≡ 0 = omega arith in
      omega (
        arith,
        ap (sum_to (write_outs d)) e,
        sum_zero (write_outs d) 0 (λ j k. absurd (omega arith)),
        rank_first (block_of d s) (count_at d s) (λ j. write_outs d (parts_before d s + j)) i l (omega arith),
      )

  pub state_most : (n s i : ℕ) → s < n → i < count_at d s → rank_of d s i + 1 ≡ parts_before d n → state_start d s i + write_outs d (parts_before d s + i) ≡ state_of d n
  unfolding state_of state_start rank_of
  state_most n s i u l h =
      let a = (rank_in d s i l).1 in
      let b = parts_mono d (s + 1) n (omega arith) in
      let e : parts_before d (s + 1) ≡ parts_before d n = omega (arith, parts_next d s) in
      omega (
        arith,
        stage_next d ((layout_of d + 31) / 32) (write_outs d) s,
        ap (sum_to (write_outs d)) e,
        rank_last (block_of d s) (count_at d s) (λ j. write_outs d (parts_before d s + j)) i l (omega (arith, parts_next d s)),
      )

  pub sram_first : sram_of d 0 ≡ 0
  unfolding sram_of parts_before sum_to
  sram_first = refl

  pub sram_next : (s : ℕ) → sram_of d (s + 1) ≡ sram_of d s + sum_to (λ j. 8192 * srams d (parts_before d s + j)) (count_at d s)
  unfolding sram_of
  sram_next s = omega (arith, stage_next d 0 (λ p. 8192 * srams d p) s)

  pub sram_mono : (s t : ℕ) → s ≤ t → sram_of d s ≤ sram_of d t
  unfolding sram_of
  sram_mono s t l = omega (arith, stage-mono d 0 (λ p. 8192 * srams d p) s t l)

  pub sram_in : (s i : ℕ) → i < count_at d s
      → (sram_of d s ≤ sram_start d s i) × (sram_start d s i + 8192 * srams d (parts_before d s + i) ≤ sram_of d (s + 1))
  unfolding sram_of sram_start
  sram_in s i l =
      let h = part-inside d 0 (λ p. 8192 * srams d p) s i l in
      (omega arith, omega (arith, h.1))
