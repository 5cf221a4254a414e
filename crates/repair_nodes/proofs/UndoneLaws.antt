-- "If the subtree was empty, placing and then clearing gives back the same slots and counts": a placing that is not refused, cleared at the same place, is not
-- refused by 34, and gives back the slots and the count list, entry by entry.
-- Assumes nothing.
use mathlib.Core.Path.{◌≡◌, refl, sym, ap, ◌∙◌}
use mathlib.Core.Bool.{Bool, true, false, ◌&&◌}
use mathlib.Core.Option.{Option, none, some}
use mathlib.Core.List.{List}
use Prim.Native.Nat.{ℕ, ◌+◌, ◌*◌, ◌-◌, ◌%◌, ◌^◌, ◌≤◌, ◌<◌}
use borrow.Author.Tests.{leb-true, ltb-true}
use lib.Dec.{eqb, ltb, leb}
use lib.ListN.{length}
use Rattle.words.specs.Pins.{is_pin}
use Rattle.words.proofs.TestLaws.{and_true}
use Rattle.gatelist.specs.ListWords.{bad_list}
use Rattle.repair_nodes.specs.Stage.{Spot, width, index_of, spots_stored, emptied, empty_below, Rooted}
use Rattle.repair_nodes.specs.Placing.{placing, bad_level, no_gate}
use Rattle.repair_nodes.specs.Clearing.{clearing}
use Rattle.repair_nodes.specs.CountList.{Count, counts_of, counts_right, counted_nodes, counts_more, counts_less, all_counts, short}
use Rattle.words.proofs.AnswerLaws.{refused_good}
use Rattle.words.specs.Answer.{refused, at_item, nowhere}
use Rattle.words.specs.Edition.{known, levels_for}
use Rattle.repair_nodes.specs.RepairAnswer.{Repair, repaired, repair_room_words, place_right, repair_fitted, placed_at, placed_form, placed}
use Rattle.repair_nodes.proofs.PlacingLaws.{rooted_place}
use Rattle.repair_nodes.proofs.ReachLaws.{reached, placing_vacant, placed_back}
use Rattle.repair_nodes.proofs.CountListLaws.{CountsFormed, counts_back, back_not_short}

-- ---- what a placing that is not refused has passed

pub record PlacingPassed (H : ℕ) (gates levels counts s : List ℕ) (h j x : ℕ) (es : List Spot) (cs : List Count) : Type 0 where
  pub level : h ≤ H
  pub slot : j < width H h
  pub pin : x ≤ 1073741824
  pub formed : CountsFormed (counts_of counts)
  pub gates_right : bad_list gates ≡ none
  pub free : empty_below s h (width H h) (index_of H h j) ≡ true
  pub whole : 2 ^ (H + 1) - 1 ≤ length s
  pub spots : es ≡ placing gates levels h (width H h) (index_of H h j) x
  pub list : cs ≡ counts_more (counts_of counts) (counted_nodes H es)

fitted_passed : (H : ℕ) (s : List ℕ) (a : ℕ) (es fs : List Spot) (cs ds : List Count) → repair_fitted H s a es cs ≡ repaired fs ds
    → (2 ^ (H + 1) - 1 ≤ length s) × ((fs ≡ es) × (ds ≡ cs))
unfolding repair_fitted
fitted_passed H s a es fs cs ds = go (leb (2 ^ (H + 1) - 1) (length s) && leb (2 * length cs) a && all_counts cs) refl
  where
    go : (b : Bool) → (leb (2 ^ (H + 1) - 1) (length s) && leb (2 * length cs) a && all_counts cs) ≡ b
        → (elim b [ false ↦ refused (nowhere 14) | true ↦ repaired es cs ]) ≡ repaired fs ds → (2 ^ (H + 1) - 1 ≤ length s) × ((fs ≡ es) × (ds ≡ cs))
    go false e f = refused_good _ _ f
    go true e f =
        let (ab, c) = and_true (leb (2 ^ (H + 1) - 1) (length s) && leb (2 * length cs) a) (all_counts cs) e in
        let (p, q) = and_true (leb (2 ^ (H + 1) - 1) (length s)) (leb (2 * length cs) a) ab in
        let is : ◌≡◌ {A = Repair} (record { spots = fs; counts = ds }) (record { spots = es; counts = cs }) = cc in
        (leb-true _ _ p, (ap (λ (x : Repair). x.spots) is, ap (λ (x : Repair). x.counts) is))

counts_formed : (ws : List ℕ) → counts_right ws ≡ true → CountsFormed (counts_of ws)
unfolding counts_right
counts_formed ws e = (and_true (eqb (length ws % 2) 0) _ e).1

place_parts : (H h j : ℕ) → place_right H h j ≡ true → (h ≤ H) × (j < width H h)
unfolding place_right
place_parts H h j e = let (a, b) = and_true (leb h H) (ltb j (width H h)) e in (leb-true _ _ a, ltb-true _ _ b)

module _ (H : ℕ) (gates levels counts s : List ℕ) (a h j x : ℕ) (es : List Spot) (cs : List Count) where
  at-passed : placed_at H gates levels counts s a h j x ≡ repaired es cs
      → (empty_below s h (width H h) (index_of H h j) ≡ true) × ((2 ^ (H + 1) - 1 ≤ length s)
      × ((es ≡ placing gates levels h (width H h) (index_of H h j) x) × (cs ≡ counts_more (counts_of counts) (counted_nodes H (placing gates levels h (width H h) (index_of H h j) x)))))
  unfolding placed_at
  at-passed = go (empty_below s h (width H h) (index_of H h j)) refl (bad_level gates levels h x) (no_gate gates levels h x)
    where
      P : List Spot
      P = placing gates levels h (width H h) (index_of H h j) x

      M : List Count
      M = counts_more (counts_of counts) (counted_nodes H P)

      go : (b : Bool) → empty_below s h (width H h) (index_of H h j) ≡ b → (c d : Bool)
          → (elim b [ false ↦ refused (nowhere 24) | true ↦ elim c [ true ↦ refused (nowhere 25) | false ↦ elim d [ true ↦ refused (nowhere 26) | false ↦ repair_fitted H s a P M ] ] ]) ≡ repaired es cs
          → (empty_below s h (width H h) (index_of H h j) ≡ true) × ((2 ^ (H + 1) - 1 ≤ length s) × ((es ≡ P) × (cs ≡ M)))
      go false e c d f = refused_good _ _ f
      go true e true d f = refused_good _ _ f
      go true e false true f = refused_good _ _ f
      go true e false false f = (e, fitted_passed H s a P es M cs f)

  form-passed : placed_form H gates levels counts s a h j x ≡ repaired es cs → PlacingPassed H gates levels counts s h j x es cs
  unfolding placed_form
  form-passed = go (place_right H h j && is_pin x && counts_right counts) refl (bad_list gates) refl
    where
      go : (c : Bool) → (place_right H h j && is_pin x && counts_right counts) ≡ c → (o : Option ℕ) → bad_list gates ≡ o
          → (elim c [ false ↦ refused (nowhere 5) | true ↦ elim o [ some g ↦ refused (at_item 6 g) | none ↦ placed_at H gates levels counts s a h j x ] ]) ≡ repaired es cs
          → PlacingPassed H gates levels counts s h j x es cs
      go false e o k f = refused_good _ _ f
      go true e (some g) k f = refused_good _ _ f
      go true e none k f =
          let (pq, t) = and_true (place_right H h j && is_pin x) (counts_right counts) e in
          let (p, q) = and_true (place_right H h j) (is_pin x) pq in
          let (l, m) = place_parts H h j p in
          let (u, (v, (w, z))) = at-passed f in
          record {
            level = l;
            slot = m;
            pin = leb-true _ _ q;
            formed = counts_formed counts t;
            gates_right = k;
            free = u;
            whole = v;
            spots = w;
            list = z ∙ ap (λ (l : List Spot). counts_more (counts_of counts) (counted_nodes H l)) (sym w);
          }

passed : (n : ℕ) (gates levels counts s : List ℕ) (a h j x : ℕ) (es : List Spot) (cs : List Count) (r : ℕ) → placed n gates levels counts s a r h j x ≡ repaired es cs
    → PlacingPassed (levels_for n) gates levels counts s h j x es cs
unfolding placed
passed n gates levels counts s a h j x es cs r = go (leb (repair_room_words counts) r) (known n)
  where
    go : (b k : Bool)
        → (elim b [ false ↦ refused (nowhere 32) | true ↦ elim k [ false ↦ refused (nowhere 29) | true ↦ placed_form (levels_for n) gates levels counts s a h j x ] ]) ≡ repaired es cs
        → PlacingPassed (levels_for n) gates levels counts s h j x es cs
    go false k f = refused_good _ _ f
    go true false f = refused_good _ _ f
    go true true f = form-passed (levels_for n) gates levels counts s a h j x es cs f

-- ---- cleared again

pub record Undone (H : ℕ) (counts s : List ℕ) (h j : ℕ) (es : List Spot) (cs : List Count) : Type 0 where
  -- reached is placed
  pub same-spots : clearing (spots_stored s es) h (width H h) (index_of H h j) ≡ es
  -- not 34
  pub not_short : short cs (counted_nodes H es) ≡ false
  -- the same slots, and the same list
  pub slots-back : spots_stored (spots_stored s es) (emptied es) ≡ s
  pub list_back : counts_less cs (counted_nodes H es) ≡ counts_of counts

pub undone : (n : ℕ) (gates levels counts s : List ℕ) (a r h j x : ℕ) (es : List Spot) (cs : List Count)
    → placed n gates levels counts s a r h j x ≡ repaired es cs → Undone (levels_for n) counts s h j es cs
undone n gates levels counts s a r h j x es cs e =
    let H = levels_for n in
    let p = passed n gates levels counts s a h j x es cs r e in
    let P = placing gates levels h (width H h) (index_of H h j) x in
    let root : Rooted (length s) h (width H h) (index_of H h j) = rooted_place (length s) H h j p.level p.slot p.whole in
    let reach : clearing (spots_stored s P) h (width H h) (index_of H h j) ≡ P = reached gates levels p.gates_right s h (width H h) (index_of H h j) x p.pin root p.free in
    let back : spots_stored (spots_stored s P) (emptied P) ≡ s = placed_back s P (placing_vacant gates levels s h (width H h) (index_of H h j) x root p.free) in
    record {
      same-spots = rw p.spots reach;
      not_short = rw p.list (back_not_short (counts_of counts) (counted_nodes H es));
      slots-back = rw p.spots back;
      list_back = rw p.list (counts_back (counts_of counts) (counted_nodes H es) p.formed);
    }
