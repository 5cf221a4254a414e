-- How the counting of spots ends, in the terms of the outcome: 14 where a count passes 2^32−1, 34 where one falls short, and the new list out of the map.
-- Assumes nothing.
use mathlib.Core.Path.{◌≡◌, refl, sym, ap, ap₂, ◌∙◌}
use mathlib.Core.Bool.{Bool, true, false, ◌&&◌, ◌||◌, and-false, or-true}
use mathlib.Core.Option.{none, some}
use mathlib.Core.List.{List, [], ◌∷◌, ◌++◌, map, map-append}
use mathlib.Core.Logic.{⊎_elim}
use Prim.Native.Nat.{ℕ, ◌+◌, ◌*◌, ◌-◌, ◌/◌, ◌^◌, ◌≤◌, ◌<◌}
use native.Mathlib.Omega.{arith}
use borrow.Author.Tests.{lt-ltb, le-ltb, le-leb, lt-leb, eqb-true}
use lib.Dec.{eqb, ltb, leb}
use lib.ListN.{length, take, length-append, length-map}
use lib.Seq.{sets, length-take-le}
use Rattle.pinmap.specs.PinMap.{capacity}
use Rattle.words.proofs.TestLaws.{not_both, or_cases}
use Rattle.repair_nodes.specs.Stage.{Spot, spots_of, emptied, spots_stored}
use Rattle.repair_nodes.specs.CountList.{Count, counted, counts_of, count_words, nodes_of, among, times_among, count_in, counted_nodes, fresh, counts_more, counts_less, nonzero, all_counts, any_short, short}
use Rattle.words.specs.Answer.{Answer, refused, nowhere}
use Rattle.repair_nodes.specs.RepairAnswer.{Repair, repaired, repair_fitted, slots_after, count_list_after}
use Rattle.repair_nodes.proofs.TwoWordLaws.{pairs_length}
use Rattle.repair_nodes.proofs.CountListLaws.{map-among, count_none, all_named, nodes_length}
use Rattle.repair_tally.specs.Tally.{through, raised, raising, lowering, MapHolds, nodes_in}
use Rattle.repair_tally.proofs.HeldLaws.{held_some}
use Rattle.repair_tally.proofs.WayLaws.{RaiseEnd, raise_end, LowerEnd, lower_end}
use Rattle.repair_list.specs.Relist.{count_in_map, count_or_zero, entries_of, entries_in}
use Rattle.repair_list.proofs.RelistLaws.{words_on}
use Rattle.repair_settle.specs.Settle.{Ended, placed_spots, cleared_spots, Entered}
use Rattle.std.specs.Prelude.{Ok, Err}
use Rattle.words.specs.declared.refusals.Refusal.{Refusal}
use Rattle.repair_settle.proofs.SpotLaws.{counted_length}

-- ---- answers

pub refused_end : (o : Answer Repair) (q r : Refusal) (s out : List ℕ) → o ≡ refused q → r ≡ q → Ended o (Err r) s s out out
unfolding slots_after count_list_after
refused_end o q r s out e f = rw e (record { answer = ap Err f; slots = refl; list = refl })

pub repaired_end : (o : Answer Repair) (n : ℕ) (s s₁ out out₁ : List ℕ) (es : List Spot) (cs : List Count) → o ≡ repaired es cs → n ≡ length cs
    → s₁ ≡ spots_stored s es → out₁ ≡ sets out 0 (count_words cs) → Ended o (Ok n) s s₁ out out₁
unfolding slots_after count_list_after
repaired_end o n s s₁ out out₁ es cs e f u v = rw e (record { answer = ap Ok f; slots = u; list = v })

-- ---- 14

module _ (H : ℕ) (s : List ℕ) (a : ℕ) (es : List Spot) (cs : List Count) where
  abbrev whole : ℕ
  whole = 2 ^ (H + 1) - 1

  fit-by : (b : Bool) → (leb whole (length s) && leb (2 * length cs) a && all_counts cs) ≡ b → repair_fitted H s a es cs ≡ elim b [ false ↦ refused (nowhere 14) | true ↦ repaired es cs ]
  unfolding repair_fitted
  fit-by b e = ap (λ (c : Bool). elim c [ false ↦ refused (nowhere 14) | true ↦ repaired es cs ]) e

  pub short_slots : length s < whole → repair_fitted H s a es cs ≡ refused (nowhere 14)
  short_slots h = fit-by false (ap (λ (b : Bool). b && leb (2 * length cs) a && all_counts cs) (lt-leb whole (length s) h))

  pub short_list : a < 2 * length cs → repair_fitted H s a es cs ≡ refused (nowhere 14)
  short_list h =
      fit-by false
      (ap (λ (b : Bool). b && all_counts cs) (ap (λ (b : Bool). leb whole (length s) && b) (lt-leb (2 * length cs) a h) ∙ and-false (leb whole (length s))))

  pub over_full : all_counts cs ≡ false → repair_fitted H s a es cs ≡ refused (nowhere 14)
  over_full h =
      fit-by false (ap (λ (b : Bool). leb whole (length s) && leb (2 * length cs) a && b) h ∙ and-false (leb whole (length s) && leb (2 * length cs) a))

  pub all_fit : whole ≤ length s → 2 * length cs ≤ a → all_counts cs ≡ true → repair_fitted H s a es cs ≡ repaired es cs
  all_fit h k e =
      fit-by true
      (ap₂ (λ (b : Bool) (c : Bool). b && c) (ap₂ (λ (b : Bool) (c : Bool). b && c) (le-leb whole (length s) h) (le-leb (2 * length cs) a k)) e)

-- ---- counts of a list made of nodes

all_words : (f : ℕ → ℕ) (l : List ℕ) → ((y : ℕ) → f y < 2 ^ 32) → all_counts (map (λ (y : ℕ). counted y (f y)) l) ≡ true
unfolding all_counts
all_words f [] h = refl
all_words f (x ∷ l) h = rw (lt-ltb (f x) (2 ^ 32) (h x)) (all_words f l h)

some_over : (f : ℕ → ℕ) (l : List ℕ) (y : ℕ) → among l y ≡ true → 2 ^ 32 ≤ f y → all_counts (map (λ (z : ℕ). counted z (f z)) l) ≡ false
unfolding all_counts among
some_over f [] y e h = absurd (not_both false e refl)
some_over f (x ∷ l) y e h =
    ⊎_elim
    (λ (o : eqb x y ≡ true). let z : x ≡ y = eqb-true x y o in let k : 2 ^ 32 ≤ f x = rw z h in ap (λ (b : Bool). b && all_counts (map (λ (z : ℕ). counted z (f z)) l)) (le-ltb (f x) (2 ^ 32) k))
    (λ o. ap (λ (b : Bool). ltb (f x) (2 ^ 32) && b) (some_over f l y o h) ∙ and-false (ltb (f x) (2 ^ 32)))
    (or_cases (eqb x y) (among l y) e)

less_words : (f : ℕ → ℕ) (l : List ℕ) → ((y : ℕ) → f y < 2 ^ 32) → all_counts (nonzero (map (λ (y : ℕ). counted y (f y)) l)) ≡ true
unfolding all_counts nonzero
less_words f [] h = refl
less_words f (x ∷ l) h = go (eqb (f x) 0) (less_words f l h)
  where
    go : (b : Bool) → all_counts (nonzero (map (λ (y : ℕ). counted y (f y)) l)) ≡ true
        → all_counts (elim b [ true ↦ nonzero (map (λ (y : ℕ). counted y (f y)) l) | false ↦ counted x (f x) ∷ nonzero (map (λ (y : ℕ). counted y (f y)) l) ]) ≡ true
    go true r = r
    go false r = rw (lt-ltb (f x) (2 ^ 32) (h x)) r

some_short : (cs : List Count) (xs ys : List ℕ) (y : ℕ) → among ys y ≡ true → count_in cs y < times_among xs y → any_short cs xs ys ≡ true
unfolding any_short among
some_short cs xs [] y e h = absurd (not_both false e refl)
some_short cs xs (x ∷ ys) y e h =
    ⊎_elim
    (λ (o : eqb x y ≡ true). let z : x ≡ y = eqb-true x y o in let k : count_in cs x < times_among xs x = rw z h in ap (λ (b : Bool). b || any_short cs xs ys) (lt-ltb (count_in cs x) (times_among xs x) k))
    (λ o. ap (λ (b : Bool). ltb (count_in cs x) (times_among xs x) || b) (some_short cs xs ys y o h) ∙ or-true (ltb (count_in cs x) (times_among xs x)))
    (or_cases (eqb x y) (among ys y) e)

none_short : (cs : List Count) (xs ys : List ℕ) → ((y : ℕ) → times_among xs y ≤ count_in cs y) → any_short cs xs ys ≡ false
unfolding any_short
none_short cs xs [] h = refl
none_short cs xs (y ∷ ys) h = rw (le-ltb (count_in cs y) (times_among xs y) (h y), any_short) (none_short cs xs ys h)

-- ---- a list out of a map

held_entries : (t names : List ℕ) (value : ℕ → ℕ) (n : ℕ) → MapHolds t names value n → entries_of t names ≡ map (λ (y : ℕ). counted y (value y)) names
held_entries t names value n h = map-among (count_in_map t) value names (λ y e. ap count_or_zero (held_some t names value n h y e))

module _ (H : ℕ) (counts map₀ : List ℕ) (n₀ : Entered counts map₀) (spots : List ℕ) (few : length spots ≤ 32768) where
  abbrev cs : List Count
  cs = counts_of counts

  abbrev xs : List ℕ
  xs = nodes_in H spots

  some-room : length cs + length xs ≤ capacity map₀
  some-room = omega (arith, n₀.room, counted_length H spots)

  -- ---- placing

  up-end : RaiseEnd (through raising (raised map₀ []) xs) (nodes_of cs) [] (count_in cs) xs (length cs)
  up-end = raise_end xs map₀ (nodes_of cs) [] (count_in cs) (length cs) n₀.held some-room (λ y e. count_none cs y e) n₀.words

  pub up_over : through raising (raised map₀ []) xs ≡ none → all_counts (counts_more cs xs) ≡ false
  unfolding counts_more
  up_over e =
      let (y, a, b) = rw e at up-end in
      some_over (λ (z : ℕ). count_in cs z + times_among xs z) (nodes_of cs ++ fresh (nodes_of cs) xs) y (all_named (nodes_of cs) xs y a) b

  module _ (t fresh₁ : List ℕ) (n : ℕ) (e : through raising (raised map₀ []) xs ≡ some (raised t (take n fresh₁))) (l : n ≤ length fresh₁) where
    up-held : RaiseEnd (some (raised t (take n fresh₁))) (nodes_of cs) [] (count_in cs) xs (length cs)
    up-held = rw e at up-end

    pub up_new : take n fresh₁ ≡ fresh (nodes_of cs) xs
    up_new = up-held.1

    pub up_count : length (counts_more cs xs) ≡ length cs + n
    unfolding counts_more
    up_count =
        let a : length (take n fresh₁) ≡ n = length-take-le n fresh₁ l in
        let b : length (take n fresh₁) ≡ length (fresh (nodes_of cs) xs) = ap length up_new in
        length-map (nodes_of cs ++ fresh (nodes_of cs) xs) (λ (y : ℕ). counted y (count_in cs y + times_among xs y))
        ∙ (length-append (nodes_of cs) (fresh (nodes_of cs) xs) ∙ omega (arith, nodes_length cs))

    pub up_words : all_counts (counts_more cs xs) ≡ true
    unfolding counts_more
    up_words = all_words (λ (y : ℕ). count_in cs y + times_among xs y) (nodes_of cs ++ fresh (nodes_of cs) xs) up-held.2

    -- the two writes come to the new list
    pub up_list : (out out₁ out₂ : List ℕ) → out₁ ≡ sets out 0 (count_words (entries_in t counts)) → out₂ ≡ sets out₁ (2 * length cs) (count_words (entries_of t (take n fresh₁)))
        → out₂ ≡ sets out 0 (count_words (counts_more cs xs))
    unfolding counts_more
    up_list out out₁ out₂ u v =
        let N = nodes_of cs in
        let F = fresh N xs in
        let w : entries_of t (N ++ F) ≡ map (λ (y : ℕ). counted y (count_in cs y + times_among xs y)) (N ++ F) = held_entries t (N ++ F) (λ y. count_in cs y + times_among xs y) _ up-held.0 in
        let f : entries_of t (N ++ F) ≡ entries_of t N ++ entries_of t F = map-append (λ (y : ℕ). counted y (count_in_map t y)) N F in
        let m : length (entries_of t N) ≡ length cs = length-map N (λ (y : ℕ). counted y (count_in_map t y)) ∙ nodes_length cs in
        let k : 0 + length (entries_of t N) ≡ length cs = omega arith in
        v
        ∙ (ap₂ (λ (o : List ℕ) (ns : List ℕ). sets o (2 * length cs) (count_words (entries_of t ns))) u up_new
        ∙ (ap (λ (i : ℕ). sets (sets out 0 (count_words (entries_of t N))) (2 * i) (count_words (entries_of t F))) (sym k)
        ∙ (sym (words_on out 0 (entries_of t N) (entries_of t F)) ∙ ap (λ (ds : List Count). sets out 0 (count_words ds)) (sym f ∙ w))))

  -- ---- clearing

  down-end : LowerEnd (through lowering map₀ xs) (nodes_of cs) (count_in cs) xs (length cs)
  down-end = lower_end xs map₀ (nodes_of cs) (count_in cs) (length cs) n₀.held (omega (arith, n₀.room)) (λ y e. count_none cs y e)

  pub down_short : through lowering map₀ xs ≡ none → short cs xs ≡ true
  down_short e = let (y, a, b) = rw e at down-end in some_short cs xs xs y a b

  module _ (t : List ℕ) (e : through lowering map₀ xs ≡ some t) where
    down-held : LowerEnd (some t) (nodes_of cs) (count_in cs) xs (length cs)
    down-held = rw e at down-end

    pub down_fine : short cs xs ≡ false
    down_fine = none_short cs xs xs down-held.1

    pub down_list : nonzero (entries_in t counts) ≡ counts_less cs xs
    unfolding counts_less
    down_list = ap nonzero (held_entries t (nodes_of cs) (λ y. count_in cs y - times_among xs y) (length cs) down-held.0)

    pub down_words : all_counts (counts_less cs xs) ≡ true
    unfolding counts_less
    down_words = less_words (λ (y : ℕ). count_in cs y - times_among xs y) (nodes_of cs) (λ y. omega (arith, n₀.words y))

-- ---- 34, or 14 and the rest

pub is_34 : (H : ℕ) (counts s : List ℕ) (a : ℕ) (es : List Spot) → short (counts_of counts) (counted_nodes H es) ≡ true → cleared_spots H counts s a es ≡ refused (nowhere 34)
unfolding cleared_spots
is_34 H counts s a es e = rw (e, cleared_spots)

pub is_lowered : (H : ℕ) (counts s : List ℕ) (a : ℕ) (es : List Spot) → short (counts_of counts) (counted_nodes H es) ≡ false
    → cleared_spots H counts s a es ≡ repair_fitted H s a (emptied es) (counts_less (counts_of counts) (counted_nodes H es))
unfolding cleared_spots
is_lowered H counts s a es e = rw (e, cleared_spots)

-- ---- the whole of a placing and of a clearing, from the counting on

module _ (H : ℕ) (counts map₀ : List ℕ) (n₀ : Entered counts map₀) (spots : List ℕ) (few : length spots ≤ 32768) (s out : List ℕ) where
  entries : length (counts_of counts) ≡ length counts / 2
  entries = pairs_length counted counts

  module _ (t fresh₁ : List ℕ) (n : ℕ) (e : through raising (raised map₀ []) (nodes_in H spots) ≡ some (raised t (take n fresh₁))) (l : n ≤ length fresh₁) where
    pub place_short : length out / 2 < length counts / 2 + n → placed_spots H counts s (length out) (spots_of spots) ≡ refused (nowhere 14)
    place_short h =
        let k = up_count H counts map₀ n₀ spots few t fresh₁ n e l in
        let m = entries in
        short_list H s (length out) (spots_of spots) (counts_more (counts_of counts) (nodes_in H spots)) (omega arith)

    pub place_end : (s₁ out₁ out₂ : List ℕ) → 2 ^ (H + 1) - 1 ≤ length s → length counts / 2 + n ≤ length out / 2 → out₁ ≡ sets out 0 (count_words (entries_in t counts))
        → out₂ ≡ sets out₁ (2 * (length counts / 2)) (count_words (entries_of t (take n fresh₁))) → s₁ ≡ spots_stored s (spots_of spots)
        → Ended (placed_spots H counts s (length out) (spots_of spots)) (Ok (length counts / 2 + n)) s s₁ out out₂
    place_end s₁ out₁ out₂ h g u v w =
        let k = up_count H counts map₀ n₀ spots few t fresh₁ n e l in
        let m : length (counts_of counts) ≡ length counts / 2 = entries in
        let d : out₂ ≡ sets out₁ (2 * length (counts_of counts)) (count_words (entries_of t (take n fresh₁))) = rw m v in
        repaired_end (placed_spots H counts s (length out) (spots_of spots)) (length counts / 2 + n) s s₁ out out₂ (spots_of spots) (counts_more (counts_of counts) (nodes_in H spots))
        (all_fit H s (length out) (spots_of spots) (counts_more (counts_of counts) (nodes_in H spots)) h (omega arith) (up_words H counts map₀ n₀ spots few t fresh₁ n e l))
        (omega arith) w (up_list H counts map₀ n₀ spots few t fresh₁ n e l out out₁ out₂ u d)

  pub place_over : through raising (raised map₀ []) (nodes_in H spots) ≡ none → placed_spots H counts s (length out) (spots_of spots) ≡ refused (nowhere 14)
  place_over e = over_full H s (length out) (spots_of spots) (counts_more (counts_of counts) (nodes_in H spots)) (up_over H counts map₀ n₀ spots few e)

  -- 34
  pub purge_short : through lowering map₀ (nodes_in H spots) ≡ none → cleared_spots H counts s (length out) (spots_of spots) ≡ refused (nowhere 34)
  purge_short e = is_34 H counts s (length out) (spots_of spots) (down_short H counts map₀ n₀ spots few e)

  module _ (t : List ℕ) (e : through lowering map₀ (nodes_in H spots) ≡ some t) where
    lowered : cleared_spots H counts s (length out) (spots_of spots) ≡ repair_fitted H s (length out) (emptied (spots_of spots)) (counts_less (counts_of counts) (nodes_in H spots))
    lowered = is_lowered H counts s (length out) (spots_of spots) (down_fine H counts map₀ n₀ spots few t e)

    pub purge_size : length (nonzero (entries_in t counts)) ≡ length (counts_less (counts_of counts) (nodes_in H spots))
    purge_size = ap length (down_list H counts map₀ n₀ spots few t e)

    pub purge_slots : length s < 2 ^ (H + 1) - 1 → cleared_spots H counts s (length out) (spots_of spots) ≡ refused (nowhere 14)
    purge_slots h = lowered ∙ short_slots H s (length out) (emptied (spots_of spots)) (counts_less (counts_of counts) (nodes_in H spots)) h

    pub purge_list : (n : ℕ) → n ≡ length (nonzero (entries_in t counts)) → length out / 2 < n → cleared_spots H counts s (length out) (spots_of spots) ≡ refused (nowhere 14)
    purge_list n f h =
        let k = purge_size in
        lowered ∙ short_list H s (length out) (emptied (spots_of spots)) (counts_less (counts_of counts) (nodes_in H spots)) (omega arith)

    pub purge_end : (n : ℕ) (s₁ out₁ : List ℕ) → n ≡ length (nonzero (entries_in t counts)) → 2 ^ (H + 1) - 1 ≤ length s → n ≤ length out / 2
        → out₁ ≡ sets out 0 (count_words (nonzero (entries_in t counts))) → s₁ ≡ spots_stored s (emptied (spots_of spots))
        → Ended (cleared_spots H counts s (length out) (spots_of spots)) (Ok n) s s₁ out out₁
    purge_end n s₁ out₁ f h g u w =
        let k = purge_size in
        repaired_end (cleared_spots H counts s (length out) (spots_of spots)) n s s₁ out out₁ (emptied (spots_of spots)) (counts_less (counts_of counts) (nodes_in H spots))
        (lowered ∙ all_fit H s (length out) (emptied (spots_of spots)) (counts_less (counts_of counts) (nodes_in H spots)) h (omega arith) (down_words H counts map₀ n₀ spots few t e))
        (omega arith) w (u ∙ ap (λ (cs : List Count). sets out 0 (count_words cs)) (down_list H counts map₀ n₀ spots few t e))
