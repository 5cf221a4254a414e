-- The part table names the parts in the order of the state, so that a search by halves over their starts finds the one that a word belongs to;
-- and the parts of the first major stages are those of the lowest ranks.
-- Assumes nothing.
use mathlib.Core.Path.{◌≡◌, refl, sym, ap, ◌∙◌, subst}
use mathlib.Core.Bool.{Bool, true, false, ◌&&◌, and-false}
use mathlib.Core.List.{List}
use mathlib.Core.Logic.{⊎_elim}
use Prim.Native.Nat.{ℕ, ◌+◌, ◌-◌, ◌≤◌, ◌<◌}
use native.Mathlib.Omega.{arith}
use borrow.Author.Tests.{le-leb, lt-leb, lt-ltb, le-ltb, ltb-true, ltb-false}
use lib.Dec.{leb, ltb}
use lib.ListN.{length}
use Rattle.words.proofs.BitLaws.{lt_or_ge}
use Rattle.sort.specs.HalfSearch.{Monotone, least, Between}
use Rattle.sort.proofs.HalfSearchLaws.{least_between}
use Rattle.words.specs.Tests.{some_below}
use Rattle.plan_record.specs.Record.{majors_of, count_at, parts_before, parts_of, locations_of}
use Rattle.words.proofs.TestLaws.{not_both, some_found, some_at, some_false}
use Rattle.plan_counts.specs.Counts.{write_outs}
use Rattle.plan_rows.specs.Columns as col
use Rattle.plan_rows.specs.Rows.{row_base, cell_at}
use Rattle.plan_blocks.specs.PartTable.{rank_of, Counted, Allotted, Tabled}
use Rattle.plan_blocks.proofs.TotalLaws.{three_ways}
use Rattle.plan_blocks.proofs.StateStartLaws.{parts_mono, parts_next, part_split, rank_in, rank_all, state_order}
use Rattle.plan_positions.specs.Positions.{part_state_start, normal_word}
use Rattle.plan_positions.specs.Places.{ranked_part, ranked_start, ranked_locations, holds_word, RankedRowIn, Ranked}
use Rattle.plan_positions.proofs.MajorLaws.{start_is}

-- ---- a search over the starts

module _ (room : List ℕ) (w k : ℕ) where
  pub holds_before : ranked_start room k + ranked_locations room k ≤ w → holds_word room w k ≡ false
  unfolding holds_word
  holds_before h = rw (le-ltb w (ranked_start room k + ranked_locations room k) h) (and-false (leb (ranked_start room k) w))

  pub holds_after : w < ranked_start room k → holds_word room w k ≡ false
  unfolding holds_word
  holds_after h = rw (lt-leb (ranked_start room k) w h)

  pub holds_from : ranked_start room k ≤ w → holds_word room w k ≡ ltb (w - ranked_start room k) (ranked_locations room k)
  unfolding holds_word
  holds_from h = rw (le-leb (ranked_start room k) w h) (go (ltb (w - ranked_start room k) (ranked_locations room k)) refl)
    where
      go : (b : Bool) → ltb (w - ranked_start room k) (ranked_locations room k) ≡ b
          → ltb w (ranked_start room k + ranked_locations room k) ≡ ltb (w - ranked_start room k) (ranked_locations room k)
      go true e = lt-ltb w (ranked_start room k + ranked_locations room k) (omega (arith, ltb-true (w - ranked_start room k) (ranked_locations room k) e)) ∙ sym e
      go false e = le-ltb w (ranked_start room k + ranked_locations room k) (omega (arith, ltb-false (w - ranked_start room k) (ranked_locations room k) e)) ∙ sym e

module _ (room : List ℕ) (n : ℕ) (ranked : Ranked room n) where
  pub row_in : (k : ℕ) → k < n → RankedRowIn room k
  row_in k l = record {
    few = omega (arith, ranked.few);
    inside = omega (arith, ranked.inside);
    part-few = omega (arith, ranked.named k l, ranked.few);
    part-inside = omega (arith, ranked.named k l, ranked.inside);
  }

  pub starts_rise : Monotone (ranked_start room) n
  starts_rise i j le lt =
      ⊎_elim (λ l. omega (arith, ranked.apart i j l lt)) (λ l. let e : i ≡ j = omega arith in rw e (omega arith)) (lt_or_ge i j)

  module _ (w k : ℕ) (is : k ≡ least (ranked_start room) n (w + 1)) where
    found : Between (ranked_start room) n (w + 1) k k
    found = rw is (least_between (ranked_start room) n (w + 1) starts_rise)

    -- no part starts at w or before it
    pub normal_none : k ≡ 0 → false ≡ some_below (holds_word room w) n
    normal_none z = sym (some_false (holds_word room w) n (λ i l. holds_after room w i (omega (arith, found.over i (omega arith) l))))

    pub normal_start : 0 < k → ranked_start room (k - 1) ≤ w
    normal_start l = omega (arith, found.under (k - 1) (omega arith))

    pub normal_last : 0 < k → k ≤ n → ltb (w - ranked_start room (k - 1)) (ranked_locations room (k - 1)) ≡ some_below (holds_word room w) n
    normal_last l m = sym (holds_from room w (k - 1) (normal_start l)) ∙ go (holds_word room w (k - 1)) refl
      where
        -- every other part ends at w or before it, or starts after it
        other : (i : ℕ) → i < n → (i ≡ k - 1 → ⊥) → holds_word room w i ≡ false
        other i u h =
            ⊎_elim (λ g. holds_before room w i (omega (arith, ranked.apart i (k - 1) g (omega arith), normal_start l)))
            (λ g. holds_after room w i (omega (arith, found.over i (omega arith) u)))
            (lt_or_ge i (k - 1))

        go : (b : Bool) → holds_word room w (k - 1) ≡ b → b ≡ some_below (holds_word room w) n
        go true e = sym (some_at (holds_word room w) n (k - 1) (omega arith) e)
        go false e =
            sym
            (some_false (holds_word room w) n
            (λ i u.
            ⊎_elim (λ g. other i u (λ z. omega arith)) (λ r. ⊎_elim (λ g. ap (holds_word room w) g ∙ e) (λ g. other i u (λ z. omega arith)) r) (three_ways i (k - 1))))

-- ---- the table's order is that of the state

-- row k names part p
pub record RowNames (d room : List ℕ) (k p : ℕ) : Type 0 where
  pub is : ranked_part room k ≡ p
  pub start : ranked_start room k ≡ part_state_start d p
  pub locations : ranked_locations room k ≡ locations_of d p

module _ (d room : List ℕ) (table : Tabled d room) where
  pub names : (s i : ℕ) → s < majors_of d → i < count_at d s → RowNames d room (rank_of d s i) (parts_before d s + i)
  names s i l h =
      let a : Allotted d room s i = table.allotted s i l h in
      let c : Counted d room (parts_before d s + i) = table.counted (parts_before d s + i) (omega (arith, parts_next d s, parts_mono d (s + 1) (majors_of d) (omega arith))) in
      record {
        is = a.ranked;
        start = ap (λ (p : ℕ). cell_at room p col.state_start) a.ranked ∙ (a.state-start ∙ sym (start_is d s i l h));
        locations = ap (λ (p : ℕ). cell_at room p col.locations) a.ranked ∙ c.locations;
      }

  module _ (n : ℕ) (few : n ≤ majors_of d) where
    -- a part of the first n major stages is there
    within : (s i : ℕ) → s < n → i < count_at d s → parts_before d s + i < parts_before d n
    within s i l h = omega (arith, parts_next d s, parts_mono d (s + 1) n (omega arith))

    pub named_by : (k : ℕ) → k < parts_before d n → (p : ℕ) × (p < parts_before d n) × RowNames d room k p
    named_by k l =
        let (s, i, a, b, e) = rank_all d n k l in
        (parts_before d s + i, within s i a b, subst (λ (x : ℕ). RowNames d room x (parts_before d s + i)) (sym e) (names s i (omega arith) b))

    pub rank_of_lem : (p : ℕ) → p < parts_before d n → (k : ℕ) × (k < parts_before d n) × RowNames d room k p
    rank_of_lem p l =
        let (s, i, a, b, e) = part_split d n p l in
        (rank_of d s i, omega (arith, (rank_in d s i b).1, parts_mono d (s + 1) n (omega arith)), subst (λ (x : ℕ). RowNames d room (rank_of d s i) x) (sym e) (names s i (omega arith) b))

    apart_by : (j k : ℕ) → j < k → k < parts_before d n → ranked_start room j + ranked_locations room j ≤ ranked_start room k
    unfolding write_outs
    apart_by j k l h =
        let (s, i, a, b, e) = rank_all d n j (omega arith) in
        let (t, x, u, v, g) = rank_all d n k h in
        let p = subst (λ (x : ℕ). RowNames d room x (parts_before d s + i)) (sym e) (names s i (omega arith) b) in
        let q = subst (λ (y : ℕ). RowNames d room y (parts_before d t + x)) (sym g) (names t x (omega arith) v) in
        omega (
          arith,
          p.start,
          p.locations,
          q.start,
          start_is d s i (omega arith) b,
          start_is d t x (omega arith) v,
          state_order d s t i x b v (omega arith),
        )

    pub ranked : parts_of d ≤ 262144 → row_base (parts_of d) ≤ length room → Ranked room (parts_before d n)
    ranked m wide =
        let l : parts_before d n ≤ parts_of d = parts_mono d n (majors_of d) few in
        record {
          few = omega arith;
          inside = omega arith;
          named = λ k h. let (p, u, e) = named_by k h in omega (arith, e.is);
          apart = apart_by;
        }

    -- what the search finds is what 12 asks for
    pub normal_is : (w : ℕ) → some_below (holds_word room w) (parts_before d n) ≡ normal_word d (parts_before d n) w
    unfolding normal_word holds_word
    normal_is w = go (some_below (holds_word room w) (parts_before d n)) refl (normal_word d (parts_before d n) w) refl
      where
        test : ℕ → Bool
        test p = leb (part_state_start d p) w && ltb w (part_state_start d p + locations_of d p)

        same : (k p : ℕ) → RowNames d room k p → holds_word room w k ≡ test p
        same k p h = rw (h.start, h.locations)

        go : (a : Bool) → some_below (holds_word room w) (parts_before d n) ≡ a → (b : Bool) → normal_word d (parts_before d n) w ≡ b → a ≡ b
        go true e true f = refl
        go false e false f = refl
        go true e false f =
            let (k, l, t) = some_found (holds_word room w) (parts_before d n) e in
            let (p, m, h) = named_by k l in
            absurd (not_both _ (some_at test (parts_before d n) p m (sym (same k p h) ∙ t)) f)
        go false e true f =
            let (p, l, t) = some_found test (parts_before d n) f in
            let (k, m, h) = rank_of_lem p l in
            absurd (not_both _ (some_at (holds_word room w) (parts_before d n) k m (same k p h ∙ t)) e)
