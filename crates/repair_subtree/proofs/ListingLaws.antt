-- What carrying, splitting and clearing ask of the calls one level down, and what their lists come to.
-- Assumes nothing.
use mathlib.Core.Path.{◌≡◌, refl, sym, ap, ap₂, ◌∙◌}
use mathlib.Core.Option.{Option, none, some}
use mathlib.Core.List.{List, [], ◌∷◌, ◌++◌}
use Prim.Native.Nat.{ℕ, ◌+◌, ◌*◌, ◌-◌, ◌/◌, ◌≤◌, ◌<◌}
use native.Mathlib.Omega.{arith}
use lib.ListN.{length, length-append}
use Rattle.std.specs.Prelude.{IsSome}
use Rattle.words.specs.Found.{item_of}
use Rattle.words.specs.Pins.{empty}
use Rattle.gatelist.specs.ListWords.{list_first, list_second, gate_in}
use Rattle.repair_nodes.specs.Stage.{Spot, spot, slot_in, Rooted}
use Rattle.repair_nodes.specs.Placing.{node_level, first_pin, second_pin, placing, Judged}
use Rattle.repair_nodes.specs.Clearing.{clearing}
use Rattle.repair_nodes.proofs.PlacingLaws.{first_is, second_is}
use Rattle.repair_nodes.proofs.JudgeLaws.{place_last, place_carry, place_split, placing_some, judged_known, judged_carry, judged_gate, judged_first, judged_second}
use Rattle.repair_nodes.proofs.ReachLaws.{clearing_none, clearing_some, clearing_end, clearing_step}
use Rattle.repair_subtree.specs.Subtree.{FirstBelow, SecondBelow, Added, SpotPuttable, Listable, Carried, Split, Reachable}
use Rattle.repair_subtree.specs.declared.places.Place.{Place}
use Rattle.repair_subtree.proofs.SubtreeLaws.{index_small, added_on}

-- the placing at a place below
abbrev pub placing_at : List ℕ → List ℕ → Place → ℕ → List Spot
placing_at gates levels p x = placing gates levels p.level p.width p.index x

module _ (gates levels list : List ℕ) (n h m q x : ℕ) where
  pub listable_puttable : Rooted 16383 h m q → Listable gates levels list n h m q x → SpotPuttable list n q
  listable_puttable r l =
      let s : 0 < length (placing gates levels h m q x) = placing_some gates levels h m q x in
      record { room = omega (arith, l.room); index = index_small h m q r }

  -- ---- a node above its level

  module _ (c : Carried gates levels list n h m q x) (list₁ : List ℕ) (k : ℕ) (a : Added list n (spot q x ∷ []) list₁ k) (p : Place) (b : FirstBelow h m q p) where
    positive : 0 < h
    positive = omega (arith, c.under)

    carry-is : placing gates levels h m q x ≡ spot q x ∷ placing_at gates levels p x
    carry-is =
        place_carry gates levels h m q x positive c.under
        ∙ ap (λ (r : List Spot). spot q x ∷ r)
        (ap₂ (λ (i : ℕ) (j : ℕ). placing gates levels i j (q + m) x) (sym b.level) (sym b.width) ∙ ap (λ (i : ℕ). placing gates levels p.level p.width i x) (sym b.index))

    pub carry_listable : Listable gates levels list₁ k p.level p.width p.index x
    carry_listable =
        let e : length (placing gates levels h m q x) ≡ 1 + length (placing_at gates levels p x) = ap length carry-is ∙ omega arith in
        record {
          judged = rw b.level (judged_carry gates levels h x c.listable.judged positive c.under);
          room = omega (arith, c.listable.room, a.count, a.size);
        }

    pub carry_done : (list₂ : List ℕ) (j : ℕ) → Added list₁ k (placing_at gates levels p x) list₂ j → Added list n (placing gates levels h m q x) list₂ j
    carry_done list₂ j d = rw carry-is (added_on list list₁ list₂ n k j (spot q x ∷ []) (placing_at gates levels p x) a d)

  pub listable_known : Listable gates levels list n h m q x → (x < length levels) × (node_level levels x ≤ h)
  listable_known l = judged_known gates levels h x l.judged

  -- ---- a node at its level

  pub split_last : (list₁ : List ℕ) (k : ℕ) → h ≡ 0 → Added list n (spot q x ∷ []) list₁ k → Added list n (placing gates levels h m q x) list₁ k
  split_last list₁ k z a = rw (place_last gates levels h m q x z) a

  module _ (c : Split gates levels list n h m q x) (pos : 0 < h) where
    pub split_found : IsSome (item_of (gate_in gates x))
    split_found = go (gate_in gates x) refl
      where
        go : (o : Option ℕ) → gate_in gates x ≡ o → IsSome (item_of o)
        go none e = absurd (judged_gate gates levels h x c.listable.judged pos c.level e)
        go (some g) e = refl

    module _ (g : ℕ) (e : gate_in gates x ≡ some g) (u v : ℕ) (eu : u ≡ list_first gates g / 2) (ev : v ≡ list_second gates g / 2) where
      first-judged : Judged gates levels (h - 1) u
      first-judged = rw (eu ∙ sym (first_is gates x g e)) (judged_first gates levels h x c.listable.judged pos g c.level e)

      second-judged : Judged gates levels (h - 1) v
      second-judged = rw (ev ∙ sym (second_is gates x g e)) (judged_second gates levels h x c.listable.judged pos g c.level e)

      pub first_known : (u < length levels) × (node_level levels u ≤ h - 1)
      first_known = judged_known gates levels (h - 1) u first-judged

      pub second_known : (v < length levels) × (node_level levels v ≤ h - 1)
      second_known = judged_known gates levels (h - 1) v second-judged

      module _ (list₁ : List ℕ) (k : ℕ) (a : Added list n (spot q x ∷ []) list₁ k) (p r : Place) (b : FirstBelow h m q p) (d : SecondBelow h m q r) where
        split-is : placing gates levels h m q x ≡ spot q x ∷ (placing_at gates levels p u ++ placing_at gates levels r v)
        split-is =
            let f : placing gates levels (h - 1) (2 * m) (q + m) (first_pin gates x) ≡ placing_at gates levels p u =
            ap₂ (λ (i : ℕ) (y : ℕ). placing gates levels i (2 * m) (q + m) y) (sym b.level) (first_is gates x g e ∙ sym eu)
            ∙ ap₂ (λ (i : ℕ) (j : ℕ). placing gates levels p.level i j u) (sym b.width) (sym b.index) in
            let s : placing gates levels (h - 1) (2 * m) (q + 2 * m) (second_pin gates x) ≡ placing_at gates levels r v =
            ap₂ (λ (i : ℕ) (y : ℕ). placing gates levels i (2 * m) (q + 2 * m) y) (sym d.level) (second_is gates x g e ∙ sym ev)
            ∙ ap₂ (λ (i : ℕ) (j : ℕ). placing gates levels r.level i j v) (sym d.width) (sym d.index) in
            place_split gates levels h m q x pos c.level ∙ ap₂ (λ (i : List Spot) (j : List Spot). spot q x ∷ (i ++ j)) f s

        size_is : length (placing gates levels h m q x) ≡ 1 + length (placing_at gates levels p u) + length (placing_at gates levels r v)
        size_is =
            let z : length (placing_at gates levels p u ++ placing_at gates levels r v) ≡ length (placing_at gates levels p u) + length (placing_at gates levels r v) =
            length-append (placing_at gates levels p u) (placing_at gates levels r v) in
            ap length split-is ∙ omega arith

        pub first_listable : Listable gates levels list₁ k p.level p.width p.index u
        first_listable =
            let z = size_is in
            record { judged = rw b.level first-judged; room = omega (arith, c.listable.room, a.count, a.size) }

        module _ (list₂ : List ℕ) (j : ℕ) (f : Added list₁ k (placing_at gates levels p u) list₂ j) where
          pub second_listable : Listable gates levels list₂ j r.level r.width r.index v
          second_listable =
              let z = size_is in
              record { judged = rw d.level second-judged; room = omega (arith, c.listable.room, a.count, a.size, f.count, f.size) }

          pub split_done : (list₃ : List ℕ) (i : ℕ) → Added list₂ j (placing_at gates levels r v) list₃ i → Added list n (placing gates levels h m q x) list₃ i
          split_done list₃ i t =
              rw split-is
              (added_on list list₁ list₃ n k i (spot q x ∷ []) (placing_at gates levels p u ++ placing_at gates levels r v) a
              (added_on list₁ list₂ list₃ k j i (placing_at gates levels p u) (placing_at gates levels r v) f t))

-- ---- clearing

abbrev pub clearing_at : List ℕ → Place → List Spot
clearing_at slots p = clearing slots p.level p.width p.index

module _ (slots list : List ℕ) (n h m q x : ℕ) (c : Reachable slots list n h m q) (here : x ≡ slot_in slots q) where
  pub reach_none : x ≡ empty → clearing slots h m q ≡ []
  reach_none e = clearing_none slots h m q (sym here ∙ e)

  module _ (full : x ≡ empty → ⊥) where
    reach-some : 0 < length (clearing slots h m q)
    reach-some = clearing_some slots h m q x (sym here) full

    pub reach_puttable : Rooted 16383 h m q → SpotPuttable list n q
    reach_puttable r = let s = reach-some in record { room = omega (arith, c.room); index = index_small h m q r }

    pub reach_last : (list₁ : List ℕ) (k : ℕ) → h ≡ 0 → Added list n (spot q x ∷ []) list₁ k → Added list n (clearing slots h m q) list₁ k
    reach_last list₁ k z a = rw (clearing_end slots h m q x z (sym here) full) a

    module _ (pos : 0 < h) (list₁ : List ℕ) (k : ℕ) (a : Added list n (spot q x ∷ []) list₁ k) (p r : Place) (b : FirstBelow h m q p) (d : SecondBelow h m q r) where
      reach-is : clearing slots h m q ≡ spot q x ∷ (clearing_at slots p ++ clearing_at slots r)
      reach-is =
          let f : clearing slots (h - 1) (2 * m) (q + m) ≡ clearing_at slots p =
          ap₂ (λ (i : ℕ) (j : ℕ). clearing slots i j (q + m)) (sym b.level) (sym b.width) ∙ ap (λ (i : ℕ). clearing slots p.level p.width i) (sym b.index) in
          let s : clearing slots (h - 1) (2 * m) (q + 2 * m) ≡ clearing_at slots r =
          ap₂ (λ (i : ℕ) (j : ℕ). clearing slots i j (q + 2 * m)) (sym d.level) (sym d.width) ∙ ap (λ (i : ℕ). clearing slots r.level r.width i) (sym d.index) in
          clearing_step slots h m q x pos (sym here) full ∙ ap₂ (λ (i : List Spot) (j : List Spot). spot q x ∷ (i ++ j)) f s

      reach-size : length (clearing slots h m q) ≡ 1 + length (clearing_at slots p) + length (clearing_at slots r)
      reach-size =
          let z : length (clearing_at slots p ++ clearing_at slots r) ≡ length (clearing_at slots p) + length (clearing_at slots r) =
          length-append (clearing_at slots p) (clearing_at slots r) in
          ap length reach-is ∙ omega arith

      pub reach_first : Reachable slots list₁ k p.level p.width p.index
      reach_first = let z = reach-size in record { room = omega (arith, c.room, a.count, a.size) }

      module _ (list₂ : List ℕ) (j : ℕ) (f : Added list₁ k (clearing_at slots p) list₂ j) where
        pub reach_second : Reachable slots list₂ j r.level r.width r.index
        reach_second = let z = reach-size in record { room = omega (arith, c.room, a.count, a.size, f.count, f.size) }

        pub reach_done : (list₃ : List ℕ) (i : ℕ) → Added list₂ j (clearing_at slots r) list₃ i → Added list n (clearing slots h m q) list₃ i
        reach_done list₃ i t =
            rw reach-is
            (added_on list list₁ list₃ n k i (spot q x ∷ []) (clearing_at slots p ++ clearing_at slots r) a
            (added_on list₁ list₂ list₃ k j i (clearing_at slots p) (clearing_at slots r) f t))
