-- The two passes: the first pair of a join, what is left behind it, and what both passes know after each pair.
-- Assumes nothing.
use mathlib.Core.Path.{◌≡◌, refl, sym, ap, ap₂, ◌∙◌}
use mathlib.Core.Bool.{Bool, true, false}
use mathlib.Core.List.{List, [], ◌∷◌}
use Prim.Native.Nat.{ℕ, suc, ◌+◌, ◌-◌, ◌≤◌, ◌<◌}
use native.Mathlib.Nat.{not-suc-le-zero}
use native.Mathlib.Omega.{arith}
use borrow.Author.Tests.{lt-ltb, le-ltb, eq-eqb, ne_eqb}
use lib.Bits.{bit_or, or_comm}
use lib.Dec.{ltb, eqb}
use lib.ListN.{length, get_or, set, take, drop, length-drop, drop_of_length-le}
use lib.Seq.{sets, take_all, drop-drop}
use Rattle.reads_asked.specs.Rising.{Rising}
use Rattle.reads_asked.proofs.AskLaws.{Compared, less, same, more, compared}
use Rattle.reads_asked.proofs.AskedFormLaws.{rising_even}
use Rattle.joins_sets.specs.Join.{put_pair, join}
use Rattle.joins.specs.Merge.{of_first, of_second, of_both, first_pair, HasPair, Joinable}
use Rattle.joins.specs.declared.merging.Step.{Step}
use Rattle.joins_sets.proofs.JoinPutLaws.{put_in_front, put_same, put_above, rising_lower, rising_join}

-- ---- the first pair, by which set it comes from

module _ (w : ℕ) (xs : List ℕ) (v : ℕ) (ys : List ℕ) where
  -- by the two tests: the first set's word is below, or it is the same
  abbrev stepBy : Bool → Bool → Step
  stepBy below equal = elim below [ true ↦ of_first (w ∷ xs) | false ↦ elim equal [ true ↦ of_both (w ∷ xs) (v ∷ ys) | false ↦ of_second (v ∷ ys) ] ]

  step_by : (b f : Bool) → ltb w v ≡ b → eqb w v ≡ f → first_pair (w ∷ xs) (v ∷ ys) ≡ stepBy b f
  unfolding first_pair
  step_by b f e g = ap₂ stepBy e g

  step_less : w < v → first_pair (w ∷ xs) (v ∷ ys) ≡ of_first (w ∷ xs)
  step_less h = step_by true false (lt-ltb w v h) (ne_eqb w v (λ e. omega arith))

  step_same : w ≡ v → first_pair (w ∷ xs) (v ∷ ys) ≡ of_both (w ∷ xs) (v ∷ ys)
  step_same h = step_by false true (le-ltb w v (omega arith)) (eq-eqb w v h)

  step-more : v < w → first_pair (w ∷ xs) (v ∷ ys) ≡ of_second (v ∷ ys)
  step-more h = step_by false false (le-ltb w v (omega arith)) (ne_eqb w v (λ e. omega arith))

pub first_alone : (a b : List ℕ) → length b ≡ 0 → of_first a ≡ first_pair a b
unfolding first_pair
first_alone a [] h = refl
first_alone a (v ∷ ys) h = absurd (omega arith)

pub second_alone : (a b : List ℕ) → (length b ≡ 0 → ⊥) → length a ≡ 0 → of_second b ≡ first_pair a b
unfolding first_pair
second_alone a [] n h = absurd (n refl)
second_alone [] (v ∷ ys) n h = refl
second_alone (w ∷ xs) (v ∷ ys) n h = absurd (omega arith)

pub first_less : (a b : List ℕ) → (length b ≡ 0 → ⊥) → (length a ≡ 0 → ⊥) → get_or a 0 0 < get_or b 0 0 → of_first a ≡ first_pair a b
first_less a [] n m h = absurd (n refl)
first_less [] (v ∷ ys) n m h = absurd (m refl)
first_less (w ∷ xs) (v ∷ ys) n m h = sym (step_less w xs v ys h)

pub first_same : (a b : List ℕ) → (length b ≡ 0 → ⊥) → (length a ≡ 0 → ⊥) → get_or a 0 0 ≡ get_or b 0 0 → of_both a b ≡ first_pair a b
first_same a [] n m h = absurd (n refl)
first_same [] (v ∷ ys) n m h = absurd (m refl)
first_same (w ∷ xs) (v ∷ ys) n m h = sym (step_same w xs v ys h)

pub first_more : (a b : List ℕ) → (length b ≡ 0 → ⊥) → (length a ≡ 0 → ⊥) → get_or b 0 0 < get_or a 0 0 → of_second b ≡ first_pair a b
first_more a [] n m h = absurd (n refl)
first_more [] (v ∷ ys) n m h = absurd (m refl)
first_more (w ∷ xs) (v ∷ ys) n m h = sym (step-more w xs v ys h)

-- ---- what is left behind it

-- a pair of the second set before all of the first
join_past : (v n : ℕ) (a ys : List ℕ) → Rising (v + 1) a → join a (v ∷ n ∷ ys) ≡ v ∷ n ∷ join a ys
unfolding Rising join
join_past v n [] ys r = refl
join_past v n (w ∷ []) ys r = absurd r
join_past v n (w ∷ m ∷ xs) ys r =
    ap (put_pair w m) (join_past v n xs ys (rising_lower (v + 1) (w + 1) xs (omega (arith, r.0)) r.1)) ∙ put_above w m v n (join xs ys) (omega (arith, r.0))

record Stepped (a b : List ℕ) (s : Step) : Type 0 where
  joins : join a b ≡ s.word ∷ s.mask ∷ join (drop s.first a) (drop s.second b)
  first : Rising 0 (drop s.first a)
  second : Rising 0 (drop s.second b)
  first_in : s.first ≤ length a
  second_in : s.second ≤ length b
  some_words : 2 ≤ s.first + s.second

stepped : (a b : List ℕ) → Rising 0 a → Rising 0 b → 0 < length a + length b → Stepped a b (first_pair a b)
unfolding Rising join
stepped [] [] r q h = absurd (not-suc-le-zero h)
stepped [] (v ∷ []) r q h = absurd q
stepped [] (v ∷ n ∷ ys) r q h =
    rw (← second_alone [] (v ∷ n ∷ ys) (λ e. omega arith) refl)
    (record {
      joins = refl;
      first = tt;
      second = rising_lower 0 (v + 1) ys (omega arith) q.1;
      first_in = omega arith;
      second_in = omega arith;
      some_words = omega arith;
    })
stepped (w ∷ []) b r q h = absurd r
stepped (w ∷ m ∷ xs) [] r q h =
    rw (← first_alone (w ∷ m ∷ xs) [] refl)
    (record {
      joins = put_in_front w m (join xs []) (rising_join (w + 1) xs [] r.1 tt);
      first = rising_lower 0 (w + 1) xs (omega arith) r.1;
      second = tt;
      first_in = omega arith;
      second_in = omega arith;
      some_words = omega arith;
    })
stepped (w ∷ m ∷ xs) (v ∷ []) r q h = absurd q
stepped (w ∷ m ∷ xs) (v ∷ n ∷ ys) r q h = by (compared w v)
  where
    by : Compared w v → Stepped (w ∷ m ∷ xs) (v ∷ n ∷ ys) (first_pair (w ∷ m ∷ xs) (v ∷ n ∷ ys))
    by (less l) =
        let b-above : Rising (w + 1) (v ∷ n ∷ ys) = (omega arith, q.1) in
        rw (step_less w (m ∷ xs) v (n ∷ ys) l)
        (record {
          joins = put_in_front w m (join xs (v ∷ n ∷ ys)) (rising_join (w + 1) xs (v ∷ n ∷ ys) r.1 b-above);
          first = rising_lower 0 (w + 1) xs (omega arith) r.1;
          second = q;
          first_in = omega arith;
          second_in = omega arith;
          some_words = omega arith;
        })
    by (same l) =
        let a-above : Rising (v + 1) xs = rw (← l) r.1 in
        let put : join (w ∷ m ∷ xs) (v ∷ n ∷ ys) ≡ v ∷ bit_or n m ∷ join xs ys =
        ap (put_pair w m) (join_past v n xs ys a-above) ∙ put_same w m v n (join xs ys) l in
        rw (step_same w (m ∷ xs) v (n ∷ ys) l)
        (record {
          joins = put ∙ ap₂ (λ (x y : ℕ). x ∷ y ∷ join xs ys) (sym l) (or_comm n m);
          first = rising_lower 0 (w + 1) xs (omega arith) r.1;
          second = rising_lower 0 (v + 1) ys (omega arith) q.1;
          first_in = omega arith;
          second_in = omega arith;
          some_words = omega arith;
        })
    by (more l) =
        let a-above : Rising (v + 1) (w ∷ m ∷ xs) = (omega arith, r.1) in
        rw (step-more w (m ∷ xs) v (n ∷ ys) l)
        (record {
          joins = join_past v n (w ∷ m ∷ xs) ys a-above;
          first = r;
          second = rising_lower 0 (v + 1) ys (omega arith) q.1;
          first_in = omega arith;
          second_in = omega arith;
          some_words = omega arith;
        })

-- what code lends from place i on
abbrev pub rest : ℕ → List ℕ → List ℕ
rest i a = take (length a - i) (drop i a)

rest_drop : (i : ℕ) (a : List ℕ) → rest i a ≡ drop i a
rest_drop i a = take_all (length a - i) (drop i a) (omega (arith, length-drop i a))

-- ---- the passes: n words of the join are behind, i of the first set and j of the second

pub record Halfway (a b : List ℕ) (n i j : ℕ) : Type 0 where
  pub first : Rising 0 (drop i a)
  pub second : Rising 0 (drop j b)
  pub first_in : i ≤ length a
  pub second_in : j ≤ length b
  pub words : n + length (join (drop i a) (drop j b)) ≡ length (join a b)
  pub few : n ≤ i + j

pub halfway_start : {a b : List ℕ} → Joinable a b → Halfway a b 0 0 0
halfway_start g = record { first = g.first; second = g.second; first_in = omega arith; second_in = omega arith; words = omega arith; few = omega arith }

module _ {a b : List ℕ} {n i j : ℕ} (M : Halfway a b n i j) where
  pub halfway_end : length a + length b ≤ i + j → join (drop i a) (drop j b) ≡ []
  unfolding join
  halfway_end h =
      let p : length a ≤ i = omega (arith, M.first_in, M.second_in) in
      let q : length b ≤ j = omega (arith, M.first_in, M.second_in) in
      ap₂ join (drop_of_length-le a p) (drop_of_length-le b q)

  module _ (h : i + j < length a + length b) where
    some_left : 0 < length (drop i a) + length (drop j b)
    some_left = omega (arith, length-drop i a, length-drop j b, M.first_in, M.second_in)

    pub halfway_pair : HasPair (rest i a) (rest j b)
    halfway_pair =
        rw (rest_drop i a, rest_drop j b)
        (record { first = rising_even 0 (drop i a) M.first; second = rising_even 0 (drop j b) M.second; some_words = some_left })

    module _ (s : Step) (e : s ≡ first_pair (rest i a) (rest j b)) where
      halfway-stepped : Stepped (drop i a) (drop j b) s
      halfway-stepped = rw (e, rest_drop i a, rest_drop j b) (stepped (drop i a) (drop j b) M.first M.second some_left)

      pub halfway_joins : join (drop i a) (drop j b) ≡ s.word ∷ s.mask ∷ join (drop (i + s.first) a) (drop (j + s.second) b)
      halfway_joins =
          halfway-stepped.joins
          ∙ ap₂ (λ (x y : List ℕ). s.word ∷ s.mask ∷ join x y) (drop-drop s.first i a) (drop-drop s.second j b)

      pub halfway_next : Halfway a b (n + 2) (i + s.first) (j + s.second)
      halfway_next =
          let S = halfway-stepped in
          record {
            first = rw drop-drop at S.first;
            second = rw drop-drop at S.second;
            first_in = omega (arith, S.first_in, length-drop i a, M.first_in);
            second_in = omega (arith, S.second_in, length-drop j b, M.second_in);
            words = omega (arith, ap length halfway_joins, M.words);
            few = omega (arith, S.some_words, M.few);
          }

      -- each pair takes words
      pub halfway_on : i + j + 2 ≤ i + s.first + (j + s.second)
      halfway_on = omega (arith, halfway-stepped.some_words)

      -- and there is room for it where there is room for the join
      pub halfway_room : n + 2 ≤ length (join a b)
      halfway_room = omega (arith, ap length halfway_joins, M.words)

      -- two words more are written
      pub halfway_sets : (out : List ℕ)
          → sets (set (set out n s.word) (n + 1) s.mask) (n + 2) (join (drop (i + s.first) a) (drop (j + s.second) b)) ≡ sets out n (join (drop i a) (drop j b))
      halfway_sets out =
          let one : n + 1 ≡ suc n = omega arith in
          let two : n + 2 ≡ suc (suc n) = omega arith in
          rw (one, two) (ap (sets out n) (sym halfway_joins))
