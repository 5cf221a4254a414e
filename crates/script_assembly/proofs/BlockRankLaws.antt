-- The parts of a block read by rank: part j of block b has rank first_rank b + j. Each part's place in its block is the number of parts of that
-- block before it, and ranks count block by block.
-- Assumes nothing.
use mathlib.Core.Path.{◌≡◌, refl, sym, ap, ap₂, ◌∙◌}
use mathlib.Core.Bool.{Bool, true, false}
use mathlib.Core.Logic.{⊎_elim}
use mathlib.Core.List.{List, [], ◌∷◌, ◌++◌, append-nil}
use Prim.Native.Nat.{ℕ, zero, suc, ◌+◌, ◌-◌, ◌≤◌, ◌<◌}
use native.Mathlib.Numerals.{add-one}
use native.Mathlib.Omega.{arith}
use borrow.Author.Tests.{eq-eqb, ne_eqb}
use lib.Dec.{eqb}
use lib.ListN.{length, get_or, length-append, get_or-append}
use lib.Seq.{get_or_at, get_or-append_seam}
use Rattle.words.specs.Sum.{sum_to}
use Rattle.words.proofs.SumLaws.{sum_more, sum_le, sum_ext}
use Rattle.words.proofs.BitLaws.{lt_or_ge}
use Rattle.plan_record.specs.Record.{blocks_of, majors_of, count_at, parts_before}
use Rattle.plan_record.proofs.RecordLaws.{parts_more}
use Rattle.plan_blocks.specs.Blocks.{block_in, block_of}
use Rattle.plan_blocks.specs.Sums.{in_block}
use Rattle.plan_blocks.specs.PartTable.{rank_of, Tabled}
use Rattle.plan_blocks.specs.TableFill.{block_at}
use Rattle.plan_blocks.proofs.TotalLaws.{same_or, sum_const}
use Rattle.plan_blocks.proofs.BlockOrderLaws.{rank_taken, taken_blocks}
use Rattle.plan_blocks.proofs.LeastCostLaws.{in_none, in_here, in_other, in_total, in_lt, for_early}
use Rattle.script_assembly.specs.Assembly.{block_parts}
use Rattle.script_assembly.specs.WrittenSoFar.{parts_in, first_rank, ranked_at}
use Rattle.script_assembly.proofs.GrowLaws.{grown_same}

-- how many of the first m parts of major stage s are in block b
abbrev pub in_before : List ℕ → ℕ → ℕ → ℕ → ℕ
in_before d s b m = in_block (block_of d s) (λ i. 1) b m

-- a sum over a list with one more at its end
sum_snoc : (f : ℕ → ℕ) (xs : List ℕ) (i : ℕ)
    → sum_to (λ k. f (get_or (xs ++ (i ∷ [])) k 0)) (length (xs ++ (i ∷ []))) ≡ sum_to (λ k. f (get_or xs k 0)) (length xs) + f i
sum_snoc f xs i =
    ap (sum_to (λ k. f (get_or (xs ++ (i ∷ [])) k 0))) (length-append xs (i ∷ []))
    ∙ sum_more (λ k. f (get_or (xs ++ (i ∷ [])) k 0)) (length xs)
    ∙ ap₂ ◌+◌ (sum_ext _ _ (length xs) (λ k l. ap f (get_or-append xs (i ∷ []) 0 k l))) (ap f (get_or-append_seam xs i [] 0))

module _ (d : List ℕ) (s : ℕ) where
  -- ---- the list of a block's parts

  parts-here : (b i : ℕ) → block_of d s i ≡ b → block_parts d s b (suc i) ≡ block_parts d s b i ++ (i ∷ [])
  unfolding block_parts
  parts-here b i e = rw (eq-eqb (block_of d s i) b e, block_parts)

  parts-other : (b i : ℕ) → (block_of d s i ≡ b → ⊥) → block_parts d s b (suc i) ≡ block_parts d s b i
  unfolding block_parts
  parts-other b i h = rw (ne_eqb (block_of d s i) b h, block_parts)

  before_here : (b i : ℕ) → block_of d s i ≡ b → in_before d s b (i + 1) ≡ in_before d s b i + 1
  before_here b i e = rw (← e) (in_here (block_of d s) (λ j. 1) i)

  before-other : (b i : ℕ) → (block_of d s i ≡ b → ⊥) → in_before d s b (i + 1) ≡ in_before d s b i
  before-other b i h = in_other (block_of d s) (λ j. 1) b i (λ e. h (sym e))

  pub parts_length : (b m : ℕ) → length (block_parts d s b m) ≡ in_before d s b m
  unfolding block_parts
  parts_length b zero = sym (in_none (block_of d s) (λ i. 1) b)
  parts_length b (suc m) =
      ⊎_elim
      (λ e.
      omega (
        arith,
        ap length (parts-here b m e) ∙ length-append (block_parts d s b m) (m ∷ []),
        parts_length b m,
        before_here b m e,
        ap (in_before d s b) (add-one m),
      ))
      (λ h. ap length (parts-other b m h) ∙ parts_length b m ∙ sym (before-other b m h) ∙ ap (in_before d s b) (add-one m))
      (same_or (block_of d s m) b)

  -- the list grows by one part, or not
  abbrev grown : ℕ → ℕ → List ℕ
  grown b m = elim (eqb (block_of d s m) b) [ true ↦ m ∷ [] | false ↦ [] ]

  parts-grow : (b m : ℕ) → block_parts d s b (suc m) ≡ block_parts d s b m ++ grown b m
  unfolding block_parts
  parts-grow b m = go (eqb (block_of d s m) b)
    where
      go : (t : Bool) → elim t [ true ↦ block_parts d s b m ++ (m ∷ []) | false ↦ block_parts d s b m ] ≡ block_parts d s b m ++ elim t [ true ↦ m ∷ [] | false ↦ [] ]
      go true = refl
      go false = sym (append-nil (block_parts d s b m))

  -- part j of the block is part i of the stage
  pub record PartAt (b m j i : ℕ) : Type 0 where
    pub number : i < m
    pub block : block_of d s i ≡ b
    pub place : in_before d s b i ≡ j

  moved : (b m n j i x : ℕ) → m ≤ n → x ≡ i → PartAt b m j i → PartAt b n j x
  moved b m n j i x l e r = record {
    number = omega (arith, r.number);
    block = ap (block_of d s) e ∙ r.block;
    place = ap (in_before d s b) e ∙ r.place;
  }

  pub part_at : (b m j : ℕ) → j < length (block_parts d s b m) → PartAt b m j (get_or (block_parts d s b m) j 0)
  part_at b zero j h = absurd (omega (arith, parts_length b 0, in_none (block_of d s) (λ i. 1) b))
  part_at b (suc m) j h = ⊎_elim (here (part_at b m j)) (other (part_at b m j)) (same_or (block_of d s m) b)
    where
      here : (j < length (block_parts d s b m) → PartAt b m j (get_or (block_parts d s b m) j 0)) → block_of d s m ≡ b
          → PartAt b (suc m) j (get_or (block_parts d s b (suc m)) j 0)
      here r e =
          ⊎_elim
          (λ l.
          moved b m (suc m) j _ _ (omega arith)
          (ap (λ (x : List ℕ). get_or x j 0) (parts-here b m e) ∙ get_or-append (block_parts d s b m) (m ∷ []) 0 j l)
          (r l))
          (λ l.
          let k : length (block_parts d s b m) ≡ j = omega (arith, ap length (parts-here b m e) ∙ length-append (block_parts d s b m) (m ∷ [])) in
          let is : get_or (block_parts d s b (suc m)) j 0 ≡ m = ap (λ (x : List ℕ). get_or x j 0) (parts-here b m e) ∙ get_or_at (block_parts d s b m) m [] 0 j k in
          record {
            number = omega arith;
            block = ap (block_of d s) is ∙ e;
            place = ap (in_before d s b) is ∙ sym (parts_length b m) ∙ k;
          })
          (lt_or_ge j (length (block_parts d s b m)))

      other : (j < length (block_parts d s b m) → PartAt b m j (get_or (block_parts d s b m) j 0)) → (block_of d s m ≡ b → ⊥)
          → PartAt b (suc m) j (get_or (block_parts d s b (suc m)) j 0)
      other r g =
          moved b m (suc m) j _ _ (omega arith) (ap (λ (x : List ℕ). get_or x j 0) (parts-other b m g))
          (r (omega (arith, ap length (parts-other b m g))))

  -- each part is in the list of its block
  pub part_in : (b m i : ℕ) → i < m → block_of d s i ≡ b → (in_before d s b i < length (block_parts d s b m)) × (get_or (block_parts d s b m) (in_before d s b i) 0 ≡ i)
  part_in b m i h e =
      let k : length (block_parts d s b i) ≡ in_before d s b i = parts_length b i in
      let r = grown_same (block_parts d s b) (grown b) (parts-grow b) m (suc i) (in_before d s b i) h
      (omega (arith, ap length (parts-here b i e) ∙ length-append (block_parts d s b i) (i ∷ [])))
      in
      (r.0, r.1 ∙ ap (λ (x : List ℕ). get_or x (in_before d s b i) 0) (parts-here b i e) ∙ get_or_at (block_parts d s b i) i [] 0 _ k)

  pub block_lt : 0 < blocks_of d → (i : ℕ) → block_of d s i < blocks_of d
  unfolding block_of
  block_lt h i = in_lt (blocks_of d) _ h i

  -- so each part of the stage has a block and a place in it
  pub part_found : (i : ℕ) → i < count_at d s → 0 < blocks_of d
      → (b : ℕ) × (j : ℕ) × (b < blocks_of d) × (j < length (parts_in d s b)) × (get_or (parts_in d s b) j 0 ≡ i)
  part_found i h some =
      let r = part_in (block_of d s i) (count_at d s) i h refl in
      (block_of d s i, in_before d s (block_of d s i) i, block_lt some i, r.0, r.1)

  -- a sum over the parts of a block, as a list and as numbers
  pub parts_sum : (f : ℕ → ℕ) (b m : ℕ) → sum_to (λ k. f (get_or (block_parts d s b m) k 0)) (length (block_parts d s b m)) ≡ in_block (block_of d s) f b m
  unfolding sum_to block_parts
  parts_sum f b zero = sym (in_none (block_of d s) f b)
  parts_sum f b (suc m) =
      ⊎_elim
      (λ e.
      total (parts-here b m e)
      ∙ sum_snoc f (block_parts d s b m) m
      ∙ ap (λ (x : ℕ). x + f m) (parts_sum f b m)
      ∙ sym (rw (← e) (in_here (block_of d s) f m))
      ∙ ap (in_block (block_of d s) f b) (add-one m))
      (λ h.
      total (parts-other b m h)
      ∙ parts_sum f b m
      ∙ sym (in_other (block_of d s) f b m (λ e. h (sym e)))
      ∙ ap (in_block (block_of d s) f b) (add-one m))
      (same_or (block_of d s m) b)
    where
      total : {xs ys : List ℕ} → xs ≡ ys → sum_to (λ k. f (get_or xs k 0)) (length xs) ≡ sum_to (λ k. f (get_or ys k 0)) (length ys)
      total e = ap (λ (x : List ℕ). sum_to (λ k. f (get_or x k 0)) (length x)) e

  -- ---- ranks

  pub first_none : first_rank d s 0 ≡ parts_before d s
  unfolding first_rank sum_to
  first_none = omega arith

  pub first_more : (b : ℕ) → first_rank d s (b + 1) ≡ first_rank d s b + length (parts_in d s b)
  unfolding first_rank
  first_more b = omega (arith, sum_more (λ x. in_before d s x (count_at d s)) b, parts_length b (count_at d s))

  pub first_le : (b c : ℕ) → b ≤ c → first_rank d s b ≤ first_rank d s c
  unfolding first_rank
  first_le b c l = omega (arith, sum_le (λ x. in_before d s x (count_at d s)) b c l)

  pub first_all : 0 < blocks_of d → first_rank d s (blocks_of d) ≡ parts_before d (s + 1)
  unfolding first_rank
  first_all h =
      omega (
        arith,
        in_total (block_of d s) (λ i. 1) (blocks_of d) (count_at d s) (λ i l. block_lt h i),
        sum_const 1 (count_at d s),
        parts_more d s,
      )

  pub first_in : (b : ℕ) → b ≤ blocks_of d → 0 < blocks_of d → first_rank d s b ≤ parts_before d (s + 1)
  first_in b l h = omega (arith, first_le b (blocks_of d) l, first_all h)

  -- the rank of part i
  rank_is : (i : ℕ) → i < count_at d s → rank_of d s i ≡ first_rank d s (block_of d s i) + in_before d s (block_of d s i) i
  unfolding rank_of first_rank
  rank_is i l = omega (arith, taken_blocks (block_of d s) (λ j. 1) (count_at d s) i (omega arith))

  rank-block : (b i : ℕ) → i < count_at d s → block_of d s i ≡ b → rank_of d s i ≡ first_rank d s b + in_before d s b i
  rank-block b i l e = rank_is i l ∙ ap (λ (x : ℕ). first_rank d s x + in_before d s x i) e

  -- part j of block b
  pub rank_at : (b j : ℕ) → j < length (parts_in d s b) → rank_of d s (get_or (parts_in d s b) j 0) ≡ first_rank d s b + j
  rank_at b j h =
      let r = part_at b (count_at d s) j h in
      rank-block b _ r.number r.block ∙ ap (λ (x : ℕ). first_rank d s b + x) r.place

  -- a rank of the stage is that of a part, and among the ranks of its block
  pub record RankAt (k i : ℕ) : Type 0 where
    pub number : i < count_at d s
    pub rank : rank_of d s i ≡ k
    pub from : first_rank d s (block_of d s i) ≤ k
    pub until : k < first_rank d s (block_of d s i + 1)

  pub rank_found : (k : ℕ) → parts_before d s ≤ k → k < parts_before d (s + 1) → (i : ℕ) × RankAt k i
  unfolding rank_of
  rank_found k l u =
      let (i, a, e) = rank_taken (block_of d s) (count_at d s) (k - parts_before d s) (omega (arith, parts_more d s)) in
      let is : rank_of d s i ≡ k = omega arith in
      let r = rank_is i a in
      let p = part_in (block_of d s i) (count_at d s) i a refl in
      (i, record { number = a; rank = is; from = omega arith; until = omega (arith, first_more (block_of d s i), p.0) })

  -- ---- empty blocks: the first parts go one to a block

  pub early_block : (i : ℕ) → i < blocks_of d → block_of d s i ≡ i
  unfolding block_of block_in
  early_block i h = for_early (blocks_of d) _ i h

  pub parts_some : (b : ℕ) → b < blocks_of d → b < count_at d s → 0 < length (parts_in d s b)
  parts_some b l h = let r = part_in b (count_at d s) b h (early_block b l) in omega (arith, r.0)

  pub parts_no : (b : ℕ) → b < blocks_of d → count_at d s ≤ b → length (parts_in d s b) ≡ 0
  parts_no b l h =
      ⊎_elim
      (λ u.
      let r = part_at b (count_at d s) 0 u in
      absurd (omega (arith, r.number, r.block, early_block (get_or (parts_in d s b) 0 0) (omega (arith, r.number)))))
      (λ u. omega arith)
      (lt_or_ge 0 (length (parts_in d s b)))

-- ---- the table: row k's word 9 is the part of rank k, whose word 6 is its block

module _ (d room : List ℕ) (t : Tabled d room) (s : ℕ) (stage : s < majors_of d) where
  pub row_at_lem : (b j : ℕ) → j < length (parts_in d s b) → ranked_at room (first_rank d s b + j) ≡ parts_before d s + get_or (parts_in d s b) j 0
  row_at_lem b j h =
      let r = part_at d s b (count_at d s) j h in
      ap (ranked_at room) (sym (rank_at d s b j h)) ∙ (t.allotted s _ stage r.number).ranked

  pub block_at_lem : (b j : ℕ) → j < length (parts_in d s b) → block_at room (ranked_at room (first_rank d s b + j)) ≡ b
  block_at_lem b j h =
      let r = part_at d s b (count_at d s) j h in
      ap (block_at room) (row_at_lem b j h) ∙ (t.allotted s _ stage r.number).block ∙ r.block

  -- in the code's terms: rank k of the stage, from the first of block b on
  pub rank_inside : (b k : ℕ) → first_rank d s b ≤ k → k < first_rank d s (b + 1) → block_at room (ranked_at room k) ≡ b
  rank_inside b k l u =
      let e : k ≡ first_rank d s b + (k - first_rank d s b) = omega arith in
      ap (λ (x : ℕ). block_at room (ranked_at room x)) e ∙ block_at_lem b (k - first_rank d s b) (omega (arith, first_more d s b))

  pub rank_outside : (b k : ℕ) → first_rank d s (b + 1) ≤ k → k < parts_before d (s + 1) → block_at room (ranked_at room k) ≡ b → ⊥
  rank_outside b k l u e =
      let (i, r) = rank_found d s k (omega (arith, first_none d s, first_le d s 0 (b + 1) (omega arith))) u in
      let a = t.allotted s i stage r.number in
      let is : ranked_at room k ≡ parts_before d s + i = ap (ranked_at room) (sym r.rank) ∙ a.ranked in
      let q : block_of d s i ≡ b = sym a.block ∙ ap (block_at room) (sym is) ∙ e in
      omega (arith, r.until, ap (λ (x : ℕ). first_rank d s (x + 1)) q)
