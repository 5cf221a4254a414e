-- The part table row by row: a major stage changes words 6 to 9 of its own parts' rows alone, the counts change words 0 to 5 alone.
-- Assumes nothing.
use mathlib.Core.Path.{◌≡◌, refl, ap, ◌∙◌}
use mathlib.Core.Logic.{⊎_elim}
use mathlib.Core.List.{List}
use Prim.Native.Nat.{ℕ, zero, suc, ◌+◌, ◌/◌, ◌%◌, ◌^◌, ◌≤◌, ◌<◌}
use native.Mathlib.Numerals.{add-one}
use native.Mathlib.Omega.{arith}
use lib.ListN.{length, get_or, set, length-set}
use lib.Seq.{get_or-set_same, get_or-set_other}
use Rattle.words.proofs.BitLaws.{lt_or_ge}
use Rattle.plan_record.specs.Record.{majors_of, count_at, parts_before, parts_of, body_at, locations_of}
use Rattle.plan_counts.specs.Counts.{srams, duplicates}
use Rattle.plan_blocks.specs.Blocks.{block_of, state_start}
use Rattle.plan_rows.specs.Rows.{row_base, cell}
use Rattle.plan_blocks.specs.PartTable.{rank_of, Counted, Allotted, Tabled}
use Rattle.plan_blocks.specs.TableFill.{put_cells, stage_rows, allot_rows, count_row, count_rows, counted_room, tabled_room}
use Rattle.plan_blocks.proofs.CellLaws.{cell_same, put_long, put_other, put_here, put_word}
use Rattle.plan_blocks.proofs.StateStartLaws.{parts_mono, parts_next, rank_in, rank_same}

-- ---- one major stage

module _ (d room : List ℕ) (s : ℕ) where
  abbrev blocksPut : List ℕ
  blocksPut = put_cells room 6 (λ i. parts_before d s + i) (block_of d s) (count_at d s)

  abbrev ranksPut : List ℕ
  ranksPut = put_cells blocksPut 9 (rank_of d s) (λ i. parts_before d s + i) (count_at d s)

  abbrev statesPut : List ℕ
  statesPut = put_cells ranksPut 7 (λ i. parts_before d s + i) (state_start d s) (count_at d s)

  pub stage_long : length (stage_rows d room s) ≡ length room
  unfolding stage_rows
  stage_long =
      put_long statesPut 8 _ _ (count_at d s) ∙ put_long ranksPut 7 _ _ (count_at d s) ∙ put_long blocksPut 9 _ _ (count_at d s) ∙ put_long room 6 _ _ (count_at d s)

  -- a place that is no cell of words 6 to 9 of the stage's rows is as it was
  pub stage_other : (x : ℕ) → ((r k : ℕ) → parts_before d s ≤ r → r < parts_before d (s + 1) → 6 ≤ k → k < 10 → x ≡ cell r k → ⊥)
      → get_or (stage_rows d room s) x 0 ≡ get_or room x 0
  unfolding stage_rows
  stage_other x h =
      put_other statesPut 8 _ _ (count_at d s) x (λ i l. h (parts_before d s + i) 8 (omega arith) (omega (arith, parts_next d s)) (omega arith) (omega arith))
      ∙ put_other ranksPut 7 _ _ (count_at d s) x (λ i l. h (parts_before d s + i) 7 (omega arith) (omega (arith, parts_next d s)) (omega arith) (omega arith))
      ∙ put_other blocksPut 9 _ _ (count_at d s) x (λ i l. h (rank_of d s i) 9 (rank_in d s i l).0 (rank_in d s i l).1 (omega arith) (omega arith))
      ∙ put_other room 6 _ _ (count_at d s) x (λ i l. h (parts_before d s + i) 6 (omega arith) (omega (arith, parts_next d s)) (omega arith) (omega arith))

  pub stage_allotted : row_base (parts_before d (s + 1)) ≤ length room → (i : ℕ) → i < count_at d s → Allotted d (stage_rows d room s) s i
  unfolding stage_rows
  stage_allotted h i l =
      let n : parts_before d (s + 1) ≡ parts_before d s + count_at d s = parts_next d s in
      let l6 : length blocksPut ≡ length room = put_long room 6 _ _ (count_at d s) in
      let l9 : length ranksPut ≡ length room = put_long blocksPut 9 _ _ (count_at d s) ∙ l6 in
      let l7 : length statesPut ≡ length room = put_long ranksPut 7 _ _ (count_at d s) ∙ l9 in
      record {
        block =
            put_word statesPut 8 _ _ (count_at d s) (parts_before d s + i) 6 (omega arith) (omega arith) (λ e. omega arith)
            ∙ put_word ranksPut 7 _ _ (count_at d s) (parts_before d s + i) 6 (omega arith) (omega arith) (λ e. omega arith)
            ∙ put_word blocksPut 9 _ _ (count_at d s) (parts_before d s + i) 6 (omega arith) (omega arith) (λ e. omega arith)
            ∙ put_here room 6 _ _ (count_at d s) i l (omega arith) (λ j a b e. omega arith);
        state-start =
            put_word statesPut 8 _ _ (count_at d s) (parts_before d s + i) 7 (omega arith) (omega arith) (λ e. omega arith)
            ∙ put_here ranksPut 7 _ _ (count_at d s) i l (omega arith) (λ j a b e. omega arith);
        sram-start = put_here statesPut 8 _ _ (count_at d s) i l (omega arith) (λ j a b e. omega arith);
        ranked =
            put_word statesPut 8 _ _ (count_at d s) (rank_of d s i) 9 (omega arith) (omega arith) (λ e. omega arith)
            ∙ put_word ranksPut 7 _ _ (count_at d s) (rank_of d s i) 9 (omega arith) (omega arith) (λ e. omega arith)
            ∙ put_here blocksPut 9 _ _ (count_at d s) i l (omega (arith, (rank_in d s i l).1))
            (λ j a b e. omega (arith, (rank_same d s s j i b l e).1));
      }

-- the counts of part p, where words 0 to 5 of its row are as they were
counted_kept : (d r r' : List ℕ) (p : ℕ) → ((k : ℕ) → k < 6 → get_or r' (cell p k) 0 ≡ get_or r (cell p k) 0) → Counted d r p → Counted d r' p
counted_kept d r r' p same w = record {
  body-low = same 0 (omega arith) ∙ w.body-low;
  body-high = same 1 (omega arith) ∙ w.body-high;
  locations = same 2 (omega arith) ∙ w.locations;
  sram-count = same 3 (omega arith) ∙ w.sram-count;
  duplicate-words = same 4 (omega arith) ∙ w.duplicate-words;
  write-outs = same 5 (omega arith) ∙ w.write-outs;
}

-- ---- the first n major stages

module _ (d room : List ℕ) where
  pub allot_long : (n : ℕ) → length (allot_rows d room n) ≡ length room
  unfolding allot_rows
  allot_long zero = refl
  allot_long (suc n) = stage_long d (allot_rows d room n) n ∙ allot_long n

  pub allot_other : (n x : ℕ) → ((r k : ℕ) → r < parts_before d n → 6 ≤ k → k < 10 → x ≡ cell r k → ⊥) → get_or (allot_rows d room n) x 0 ≡ get_or room x 0
  unfolding allot_rows
  allot_other zero x h = refl
  allot_other (suc n) x h =
      stage_other d (allot_rows d room n) n x (λ r k a b. h r k (rw add-one at b))
      ∙ allot_other n x (λ r k a. h r k (omega (arith, parts_mono d n (suc n) (omega arith))))

  pub allot_allotted : (n s i : ℕ) → row_base (parts_before d n) ≤ length room → s < n → i < count_at d s → Allotted d (allot_rows d room n) s i
  unfolding allot_rows
  allot_allotted zero s i h l m = absurd (omega arith)
  allot_allotted (suc n) s i h l m =
      ⊎_elim (λ u. before u (allot_allotted n s i (omega (arith, parts_mono d n (suc n) (omega arith))) u m)) here (lt_or_ge s n)
    where
      same : s < n → (r k : ℕ) → r < parts_before d (s + 1) → k < 16 → get_or (stage_rows d (allot_rows d room n) n) (cell r k) 0 ≡ get_or (allot_rows d room n) (cell r k) 0
      same u r k a b =
          stage_other d (allot_rows d room n) n (cell r k)
          (λ q j e g o t v. omega (arith, (cell_same r q k j b (omega arith) v).0, parts_mono d (s + 1) n (omega arith)))

      before : s < n → Allotted d (allot_rows d room n) s i → Allotted d (stage_rows d (allot_rows d room n) n) s i
      before u w = record {
        block = same u (parts_before d s + i) 6 (omega (arith, parts_next d s)) (omega arith) ∙ w.block;
        state-start = same u (parts_before d s + i) 7 (omega (arith, parts_next d s)) (omega arith) ∙ w.state-start;
        sram-start = same u (parts_before d s + i) 8 (omega (arith, parts_next d s)) (omega arith) ∙ w.sram-start;
        ranked = same u (rank_of d s i) 9 (rank_in d s i m).1 (omega arith) ∙ w.ranked;
      }

      here : n ≤ s → Allotted d (stage_rows d (allot_rows d room n) n) s i
      here u =
          let e : s ≡ n = omega arith in
          let k : i < count_at d n = rw e at m in
          rw e (stage_allotted d (allot_rows d room n) n (omega (arith, allot_long n, ap (parts_before d) (add-one n))) i k)

  -- the counts are as they were
  pub allot_counted : (n p : ℕ) → Counted d room p → Counted d (allot_rows d room n) p
  allot_counted n p =
      counted_kept d room (allot_rows d room n) p
      (λ k l. allot_other n (cell p k) (λ r j a b e v. omega (arith, (cell_same p r k j (omega arith) (omega arith) v).1)))

-- ---- the counts

module _ (d : List ℕ) where
  row-long : (room : List ℕ) (p : ℕ) → length (count_row d room p) ≡ length room
  unfolding count_row
  row-long room p = simp length-set

  row_other : (room : List ℕ) (p x : ℕ) → ((k : ℕ) → k < 6 → x ≡ cell p k → ⊥) → get_or (count_row d room p) x 0 ≡ get_or room x 0
  unfolding count_row
  row_other room p x h =
      let r0 : List ℕ = set room (cell p 0) (body_at d p % 2 ^ 32) in
      let r1 : List ℕ = set r0 (cell p 1) (body_at d p / 2 ^ 32) in
      let r2 : List ℕ = set r1 (cell p 2) (locations_of d p) in
      let r3 : List ℕ = set r2 (cell p 3) (srams d p) in
      let r4 : List ℕ = set r3 (cell p 4) (duplicates d p) in
      get_or-set_other r4 (cell p 5) x _ 0 (h 5 (omega arith))
      ∙ get_or-set_other r3 (cell p 4) x _ 0 (h 4 (omega arith))
      ∙ get_or-set_other r2 (cell p 3) x _ 0 (h 3 (omega arith))
      ∙ get_or-set_other r1 (cell p 2) x _ 0 (h 2 (omega arith))
      ∙ get_or-set_other r0 (cell p 1) x _ 0 (h 1 (omega arith))
      ∙ get_or-set_other room (cell p 0) x _ 0 (h 0 (omega arith))

  row-counted : (room : List ℕ) (p : ℕ) → row_base p + 16 ≤ length room → Counted d (count_row d room p) p
  unfolding count_row
  row-counted room p h =
      let r0 : List ℕ = set room (cell p 0) (body_at d p % 2 ^ 32) in
      let r1 : List ℕ = set r0 (cell p 1) (body_at d p / 2 ^ 32) in
      let r2 : List ℕ = set r1 (cell p 2) (locations_of d p) in
      let r3 : List ℕ = set r2 (cell p 3) (srams d p) in
      let r4 : List ℕ = set r3 (cell p 4) (duplicates d p) in
      record {
        body-low =
            get_or-set_other r4 (cell p 5) (cell p 0) _ 0 (λ e. omega arith)
            ∙ get_or-set_other r3 (cell p 4) (cell p 0) _ 0 (λ e. omega arith)
            ∙ get_or-set_other r2 (cell p 3) (cell p 0) _ 0 (λ e. omega arith)
            ∙ get_or-set_other r1 (cell p 2) (cell p 0) _ 0 (λ e. omega arith)
            ∙ get_or-set_other r0 (cell p 1) (cell p 0) _ 0 (λ e. omega arith)
            ∙ get_or-set_same room (cell p 0) _ 0 (omega arith);
        body-high =
            get_or-set_other r4 (cell p 5) (cell p 1) _ 0 (λ e. omega arith)
            ∙ get_or-set_other r3 (cell p 4) (cell p 1) _ 0 (λ e. omega arith)
            ∙ get_or-set_other r2 (cell p 3) (cell p 1) _ 0 (λ e. omega arith)
            ∙ get_or-set_other r1 (cell p 2) (cell p 1) _ 0 (λ e. omega arith)
            ∙ get_or-set_same r0 (cell p 1) _ 0 (simp length-set (omega arith));
        locations =
            get_or-set_other r4 (cell p 5) (cell p 2) _ 0 (λ e. omega arith)
            ∙ get_or-set_other r3 (cell p 4) (cell p 2) _ 0 (λ e. omega arith)
            ∙ get_or-set_other r2 (cell p 3) (cell p 2) _ 0 (λ e. omega arith)
            ∙ get_or-set_same r1 (cell p 2) _ 0 (simp length-set (omega arith));
        sram-count =
            get_or-set_other r4 (cell p 5) (cell p 3) _ 0 (λ e. omega arith)
            ∙ get_or-set_other r3 (cell p 4) (cell p 3) _ 0 (λ e. omega arith)
            ∙ get_or-set_same r2 (cell p 3) _ 0 (simp length-set (omega arith));
        duplicate-words =
            get_or-set_other r4 (cell p 5) (cell p 4) _ 0 (λ e. omega arith)
            ∙ get_or-set_same r3 (cell p 4) _ 0 (simp length-set (omega arith));
        write-outs = get_or-set_same r4 (cell p 5) _ 0 (simp length-set (omega arith));
      }

  module _ (room : List ℕ) where
    pub count_long : (n : ℕ) → length (count_rows d room n) ≡ length room
    unfolding count_rows
    count_long zero = refl
    count_long (suc n) = row-long (count_rows d room n) n ∙ count_long n

    pub count_other : (n x : ℕ) → ((p k : ℕ) → p < n → k < 6 → x ≡ cell p k → ⊥) → get_or (count_rows d room n) x 0 ≡ get_or room x 0
    unfolding count_rows
    count_other zero x h = refl
    count_other (suc n) x h =
        row_other (count_rows d room n) n x (λ k. h n k (omega arith)) ∙ count_other n x (λ p k l. h p k (omega arith))

    pub count_counted : (n p : ℕ) → row_base n ≤ length room → p < n → Counted d (count_rows d room n) p
    unfolding count_rows
    count_counted zero p h l = absurd (omega arith)
    count_counted (suc n) p h l =
        ⊎_elim (λ u. before u (count_counted n p (omega arith) u))
        (λ u. let e : p ≡ n = omega arith in rw e (row-counted (count_rows d room n) n (omega (arith, count_long n))))
        (lt_or_ge p n)
      where
        before : p < n → Counted d (count_rows d room n) p → Counted d (count_row d (count_rows d room n) n) p
        before u =
            counted_kept d (count_rows d room n) (count_row d (count_rows d room n) n) p
            (λ k a. row_other (count_rows d room n) n (cell p k) (λ j b v. omega (arith, (cell_same p n k j (omega arith) (omega arith) v).0)))

-- ---- the whole table

module _ (d room : List ℕ) (h : row_base (parts_of d) ≤ length room) where
  pub counted_room_lem : (p : ℕ) → p < parts_of d → Counted d (counted_room d room) p
  unfolding counted_room
  counted_room_lem p l = count_counted d room (parts_of d) p h l

  pub tabled_room_lem : Tabled d (tabled_room d room)
  unfolding tabled_room counted_room
  tabled_room_lem = record {
    counted = λ p l. allot_counted d (count_rows d room (parts_of d)) (majors_of d) p (count_counted d room (parts_of d) p h l);
    allotted = λ s i l m. allot_allotted d (count_rows d room (parts_of d)) (majors_of d) s i (rw (count_long d room (parts_of d)) h) l m;
  }

module _ (d room : List ℕ) where
  pub counted_long : length (counted_room d room) ≡ length room
  unfolding counted_room
  counted_long = count_long d room (parts_of d)

  pub tabled_long : length (tabled_room d room) ≡ length room
  unfolding tabled_room
  tabled_long = allot_long d (counted_room d room) (majors_of d) ∙ counted_long

  -- a place that is no cell of the table's words is as it was
  pub counted_other : (x : ℕ) → ((p k : ℕ) → p < parts_of d → k < 6 → x ≡ cell p k → ⊥) → get_or (counted_room d room) x 0 ≡ get_or room x 0
  unfolding counted_room
  counted_other x h = count_other d room (parts_of d) x h

  pub tabled_other : (x : ℕ) → ((p k : ℕ) → p < parts_of d → k < 10 → x ≡ cell p k → ⊥) → get_or (tabled_room d room) x 0 ≡ get_or room x 0
  unfolding tabled_room
  tabled_other x h =
      allot_other d (counted_room d room) (majors_of d) x (λ r k l a b. h r k l b) ∙ counted_other x (λ p k l a. h p k l (omega arith))

-- ---- a table whole: the row of rank k names the part of that rank
