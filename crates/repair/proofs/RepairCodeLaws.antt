-- Places, lists and judgements in the code's terms.
-- Assumes nothing.
use mathlib.Core.Path.{◌≡◌, refl, sym, ap, ap₂, ◌∙◌}
use mathlib.Core.Bool.{Bool, true, false, ◌&&◌}
use mathlib.Core.Option.{none}
use mathlib.Core.List.{List, [], ◌∷◌}
use Prim.Native.Nat.{ℕ, zero, suc, ◌+◌, ◌*◌, ◌-◌, ◌^◌, ◌≤◌, ◌<◌}
use native.Mathlib.Omega.{arith}
use borrow.Author.Tests.{le-leb}
use lib.Dec.{ltb}
use lib.ListN.{length, get_or, take}
use lib.Pow.{pow_mono}
use Rattle.words.specs.Pins.{empty}
use Rattle.gatelist.specs.ListWords.{bad_list}
use Rattle.repair_nodes.specs.Stage.{Spot, spot_words, spots_of, width, index_of, Rooted, empty_below}
use Rattle.repair_nodes.specs.Placing.{placing, bad_level, no_gate, Judged}
use Rattle.repair_nodes.specs.Clearing.{clearing}
use Rattle.words.specs.Answer.{refused, nowhere}
use Rattle.repair_nodes.specs.RepairAnswer.{place_right, placed_at, cleared_at}
use Rattle.repair_nodes.proofs.TwoWordLaws.{words_length}
use Rattle.repair_nodes.proofs.PlacingLaws.{rooted_place}
use Rattle.repair_nodes.proofs.JudgeLaws.{placing_size, clearing_size}
use Rattle.std.specs.Prelude.{⊤, Ok, Err}
use Rattle.std.specs.declared.result.Result.{Result}
use Rattle.words.specs.declared.refusals.Refusal.{Refusal}
use Rattle.repair_subtree.specs.Subtree.{judgement_of, refusal_of, Added}
use Rattle.repair_subtree.specs.declared.places.Place.{Place}
use Rattle.repair_subtree.specs.declared.Misplaced.{Misplaced}
use Rattle.repair_subtree.specs.declared.Misplaced.TheVariants.{WrongLevel, Gateless}
use Rattle.repair_settle.specs.Settle.{Ended, placed_spots, cleared_spots, Spotted}
use Rattle.repair.specs.Repair.{Placed}
use Rattle.repair_settle.proofs.SpotLaws.{SpotsSound, sound_askable, sound_inside, added_words, spots_back}
use Rattle.repair.proofs.RepairAnswerLaws.{is_24, is_25, is_26, is_placed, is_cleared}

-- ---- a level's slots

pub place_by : (H h j w : ℕ) → h ≤ H → w ≡ width H h → ltb j w ≡ place_right H h j
unfolding place_right
place_by H h j w l e = ap (λ (v : ℕ). ltb j v) e ∙ sym (ap (λ (b : Bool). b && ltb j (width H h)) (le-leb h H l))

pub placed_place : (H h j w : ℕ) (r : Rooted 16383 h w (w + j)) → h ≤ H → j < width H h → w ≡ width H h
    → Placed H h j (record { level = h; width = w; index = w + j; rooted = r })
placed_place H h j w r l k e =
    record { level = refl; width = e; index = ap (λ (v : ℕ). v + j) e; rooted = rw e (rooted_place (2 ^ (H + 1) - 1) H h j l k (omega arith)) }

-- a place of either edition's stage is one of the full edition's room
pub rooted_full : (H h m q : ℕ) → H ≤ 13 → Rooted (2 ^ (H + 1) - 1) h m q → Rooted 16383 h m q
rooted_full H h m q l r =
    let k : H + 1 ≤ 14 = omega arith in
    let e : 2 ^ (H + 1) ≤ 16384 = pow_mono k in
    record { wide = r.wide; low = r.low; high = r.high; fits = omega (arith, r.fits, e) }

pub place_full : (H h j w : ℕ) → H ≤ 13 → h ≤ H → j < width H h → w ≡ width H h → Rooted 16383 h w (w + j)
place_full H h j w m l k e = rooted_full H h w (w + j) m (rw e (rooted_place (2 ^ (H + 1) - 1) H h j l k (omega arith)))

-- ---- lists of spots

few_spots : (h n : ℕ) → h ≤ 13 → 1 + n ≤ 2 ^ (h + 1) → n ≤ 16383
few_spots h n l e = let k : h + 1 ≤ 14 = omega arith in let m : 2 ^ (h + 1) ≤ 16384 = pow_mono k in omega arith

pub placing_few : (gates levels : List ℕ) (h m q x : ℕ) → h ≤ 13 → length (placing gates levels h m q x) ≤ 16383
placing_few gates levels h m q x l = few_spots h _ l (placing_size gates levels h m q x)

pub clearing_few : (s : List ℕ) (h m q : ℕ) → h ≤ 13 → length (clearing s h m q) ≤ 16383
clearing_few s h m q l = few_spots h _ l (clearing_size s h m q)

-- the words that a list was filled with, where it has 32768
module _ (list list₁ : List ℕ) (es : List Spot) (n : ℕ) (a : Added list 0 es list₁ n) (long : length list ≡ 32768) (few : length es ≤ 16383) where
  pub list_size : 2 * n ≤ length list₁
  list_size = omega (arith, a.count, a.size)

  list-words : take (2 * n) list₁ ≡ spot_words es
  list-words = added_words list list₁ es n a (omega arith)

  pub list_spots : spots_of (take (2 * n) list₁) ≡ es
  list_spots = ap spots_of list-words ∙ spots_back es

  pub list_spotted : (H : ℕ) → H ≤ 13 → (slots : List ℕ) → SpotsSound (2 ^ (H + 1) - 1) es → Spotted H (take (2 * n) list₁) slots
  list_spotted H levels slots s =
      let w : length (spot_words es) ≡ 2 * length es = words_length (λ (e : Spot). e.at) (λ (e : Spot). e.node) es in
      rw list-words (record { levels = levels; few = omega arith; askable = sound_askable s; inside = λ l. sound_inside s slots l })

pub small_default : (s : List ℕ) → ((i : ℕ) → get_or s i 0 < 2 ^ 32) → (i : ℕ) → get_or s i empty < 2 ^ 32
small_default [] h i = omega arith
small_default (x ∷ s) h zero = h 0
small_default (x ∷ s) h (suc i) = small_default s (λ j. h (suc j)) i

-- ---- judgements

pub judged_fine : (a b : Bool) (u : ⊤) → judgement_of a b ≡ Ok u → (a ≡ false) × (b ≡ false)
judged_fine true b u f = let z : ◌≡◌ {A = ℕ} 0 1 = cc in absurd (omega arith)
judged_fine false true u f = let z : ◌≡◌ {A = ℕ} 0 1 = cc in absurd (omega arith)
judged_fine false false u f = (refl, refl)

-- ---- a place's outcome

module _ (H : ℕ) (gates levels counts s out : List ℕ) (h j x : ℕ) (p : Place) (d : Placed H h j p) where
  empty_is : empty_below s p.level p.width p.index ≡ empty_below s h (width H h) (index_of H h j)
  empty_is = ap₂ (λ (i : ℕ) (k : ℕ). empty_below s i k p.index) d.level d.width ∙ ap (λ (k : ℕ). empty_below s h (width H h) k) d.index

  pub at_24 : (b : Bool) → b ≡ empty_below s p.level p.width p.index → b ≡ false → placed_at H gates levels counts s (length out) h j x ≡ refused (nowhere 24)
  at_24 b e f = is_24 H gates levels counts s (length out) h j x (sym empty_is ∙ (sym e ∙ f))

  module _ (b : Bool) (e : b ≡ empty_below s p.level p.width p.index) (t : b ≡ true) where
    free : empty_below s h (width H h) (index_of H h j) ≡ true
    free = sym empty_is ∙ (sym e ∙ t)

    -- 25 or 26
    pub at_misplaced : (m : Misplaced) → judgement_of (bad_level gates levels h x) (no_gate gates levels h x) ≡ Err m
        → placed_at H gates levels counts s (length out) h j x ≡ refused (refusal_of m)
    at_misplaced m f = go (bad_level gates levels h x) (no_gate gates levels h x) refl refl f
      where
        go : (a c : Bool) → bad_level gates levels h x ≡ a → no_gate gates levels h x ≡ c → judgement_of a c ≡ Err m
            → placed_at H gates levels counts s (length out) h j x ≡ refused (refusal_of m)
        go true c u v f =
            let same : WrongLevel ≡ m = cc in
            is_25 H gates levels counts s (length out) h j x free u ∙ ap (λ (k : Misplaced). refused (refusal_of k)) same
        go false true u v f =
            let same : Gateless ≡ m = cc in
            is_26 H gates levels counts s (length out) h j x free u v ∙ ap (λ (k : Misplaced). refused (refusal_of k)) same
        go false false u v f = let z : ◌≡◌ {A = ℕ} 0 1 = cc in absurd (omega arith)

    module _ (o : ⊤) (f : judgement_of (bad_level gates levels h x) (no_gate gates levels h x) ≡ Ok o) where
      pub at_judged : bad_list gates ≡ none → Judged gates levels p.level x
      at_judged g = let (u, v) = judged_fine _ _ o f in rw d.level (record { gates_right = g; levels-right = u; all-gates = v })

      pub at_placed : (a : Result ℕ Refusal) (s₁ out₁ : List ℕ)
          → Ended (placed_spots H counts s (length out) (placing gates levels p.level p.width p.index x)) a s s₁ out out₁
          → Ended (placed_at H gates levels counts s (length out) h j x) a s s₁ out out₁
      at_placed a s₁ out₁ q =
          let (u, v) = judged_fine _ _ o f in
          let w : placing gates levels p.level p.width p.index x ≡ placing gates levels h (width H h) (index_of H h j) x =
          ap₂ (λ (i : ℕ) (y : ℕ). placing gates levels i y p.index x) d.level d.width ∙ ap (λ (y : ℕ). placing gates levels h (width H h) y x) d.index in
          rw (is_placed H gates levels counts s (length out) h j x free u v) (rw w at q)

  pub at_cleared : (a : Result ℕ Refusal) (s₁ out₁ : List ℕ)
      → Ended (cleared_spots H counts s (length out) (clearing s p.level p.width p.index)) a s s₁ out out₁
      → Ended (cleared_at H counts s (length out) h j) a s s₁ out out₁
  at_cleared a s₁ out₁ q =
      let w : clearing s p.level p.width p.index ≡ clearing s h (width H h) (index_of H h j) =
      ap₂ (λ (i : ℕ) (y : ℕ). clearing s i y p.index) d.level d.width ∙ ap (λ (y : ℕ). clearing s h (width H h) y) d.index in
      rw (is_cleared H counts s (length out) h j) (rw w at q)
