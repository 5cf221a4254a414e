-- Lists of spots as words: a placing's and a clearing's spots are inside the stage, and their nodes can be looked for in a map.
-- Assumes nothing.
use mathlib.Core.Path.{◌≡◌, refl, sym, ap, ap₂, ◌∙◌}
use mathlib.Core.Bool.{Bool, true, false, ◌||◌, or-true}
use mathlib.Core.Logic.{⊎_elim}
use mathlib.Core.Option.{none}
use mathlib.Core.List.{List, [], ◌∷◌, ◌++◌}
use Prim.Native.Nat.{ℕ, zero, suc, ◌+◌, ◌*◌, ◌-◌, ◌^◌, ◌≤◌, ◌<◌}
use native.Mathlib.Omega.{arith}
use borrow.Author.Tests.{eqb-true, eqb-false}
use lib.Dec.{eqb, ltb}
use lib.ListN.{length, get_or, take}
use Rattle.words.specs.Pins.{empty}
use Rattle.words.proofs.TestLaws.{or_cases, not_both}
use Rattle.gatelist.specs.ListWords.{bad_list}
use Rattle.repair_nodes.specs.Pairs.{items_of_two, pair_words}
use Rattle.repair_nodes.specs.Stage.{Spot, spot, spot_words, spots_of, Rooted, slot_in}
use Rattle.repair_nodes.specs.Placing.{node_level, first_pin, second_pin, placing}
use Rattle.repair_nodes.specs.Clearing.{clearing}
use Rattle.repair_nodes.specs.CountList.{counted, counts_of, among, entries_right, count_in, counted_nodes, fresh}
use Rattle.repair_nodes.proofs.TwoWordLaws.{pairs_words, words_length, sets-front}
use Rattle.repair_nodes.proofs.PlacingLaws.{rooted_a, rooted_b, rooted_inside, rooted_positive, first_pin_lem, second_pin_lem}
use Rattle.repair_nodes.proofs.CountListLaws.{entered, among_head, among_tail, fresh_old, fresh_new}
use Rattle.repair_tally.specs.Tally.{SpotsAskable, nodes_in}
use Rattle.repair_list.specs.Relist.{AllInside, NodesAskable, NewAskable}
use Rattle.repair_subtree.specs.Subtree.{Added}

-- each spot is inside a stage of L slots, and its node is a number that a map can have
pub data SpotsSound (L : ℕ) : List Spot → Type 0 where
  sound_none : SpotsSound L []
  sound_more : {e : Spot} {es : List Spot} → 0 < e.at → e.at ≤ L → e.node < 2 ^ 32 - 1 → SpotsSound L es → SpotsSound L (e ∷ es)

sound_append : {L : ℕ} {es fs : List Spot} → SpotsSound L es → SpotsSound L fs → SpotsSound L (es ++ fs)
sound_append sound_none b = b
sound_append (sound_more p l n a) b = sound_more p l n (sound_append a b)

module _ (gates levels : List ℕ) (good : bad_list gates ≡ none) (L : ℕ) where
  pub placing_sound : (h m q x : ℕ) → x ≤ 2 ^ 30 → Rooted L h m q → SpotsSound L (placing gates levels h m q x)
  unfolding placing
  placing_sound zero m q x l r = sound_more {e = spot q x} (rooted_positive L 0 m q r) (rooted_inside L 0 m q r) (omega arith) sound_none
  placing_sound (suc h) m q x l r =
      sound_more {e = spot q x} (rooted_positive L (suc h) m q r) (rooted_inside L (suc h) m q r) (omega arith)
      (go (eqb (node_level levels x) (suc h))
      (placing_sound h (2 * m) (q + m) (first_pin gates x) (first_pin_lem gates good x l) (rooted_a L h m q r))
      (placing_sound h (2 * m) (q + 2 * m) (second_pin gates x) (second_pin_lem gates good x l) (rooted_b L h m q r))
      (placing_sound h (2 * m) (q + m) x l (rooted_a L h m q r)))
    where
      go : {A B C : List Spot} (b : Bool) → SpotsSound L A → SpotsSound L B → SpotsSound L C → SpotsSound L (elim b [ true ↦ A ++ B | false ↦ C ])
      go true a b c = sound_append a b
      go false a b c = c

module _ (s : List ℕ) (L : ℕ) (small : (i : ℕ) → get_or s i empty < 2 ^ 32) where
  kept : (q : ℕ) → (slot_in s q ≡ empty → ⊥) → slot_in s q < 2 ^ 32 - 1
  kept q n = let h : get_or s (q - 1) empty < 2 ^ 32 = small (q - 1) in omega arith

  pub clearing_sound : (h m q : ℕ) → Rooted L h m q → SpotsSound L (clearing s h m q)
  unfolding clearing
  clearing_sound zero m q r = go (eqb (slot_in s q) empty) refl
    where
      go : (b : Bool) → eqb (slot_in s q) empty ≡ b → SpotsSound L (elim b [ true ↦ [] | false ↦ spot q (slot_in s q) ∷ [] ])
      go true e = sound_none
      go false e = sound_more (rooted_positive L 0 m q r) (rooted_inside L 0 m q r) (kept q (eqb-false _ _ e)) sound_none
  clearing_sound (suc h) m q r =
      go (eqb (slot_in s q) empty) refl (clearing_sound h (2 * m) (q + m) (rooted_a L h m q r)) (clearing_sound h (2 * m) (q + 2 * m) (rooted_b L h m q r))
    where
      go : {A B : List Spot} (b : Bool) → eqb (slot_in s q) empty ≡ b → SpotsSound L A → SpotsSound L B → SpotsSound L (elim b [ true ↦ [] | false ↦ spot q (slot_in s q) ∷ (A ++ B) ])
      go true e a b = sound_none
      go false e a b = sound_more (rooted_positive L (suc h) m q r) (rooted_inside L (suc h) m q r) (kept q (eqb-false _ _ e)) (sound_append a b)

-- ---- as words

-- two words further
step_two : (k : ℕ) → 2 * suc k ≡ suc (suc (2 * k))
step_two k = omega arith

step_three : (k : ℕ) → 2 * suc k + 1 ≡ suc (suc (2 * k + 1))
step_three k = omega arith

pub sound_askable : {L : ℕ} {es : List Spot} → SpotsSound L es → SpotsAskable (spot_words es)
unfolding pair_words
sound_askable sound_none k h = absurd (omega arith)
sound_askable (sound_more p l n a) zero h = n
sound_askable (sound_more p l n a) (suc k) h = rw (step_three k) (sound_askable a k (omega arith))

pub sound_inside : {L : ℕ} {es : List Spot} → SpotsSound L es → (slots : List ℕ) → L ≤ length slots → AllInside (spot_words es) slots
unfolding pair_words
sound_inside sound_none slots m k h = absurd (omega arith)
sound_inside (sound_more p l n a) slots m zero h = record { some = p; most = omega arith }
sound_inside (sound_more p l n a) slots m (suc k) h =
    let i = sound_inside a slots m k (omega arith) in
    record { some = rw (step_two k) i.some; most = rw (step_two k) i.most }

-- the words of a list that was added to nothing are the spots'
pub added_words : (list list₁ : List ℕ) (es : List Spot) (n : ℕ) → Added list 0 es list₁ n → 2 * length es ≤ length list → take (2 * n) list₁ ≡ spot_words es
added_words list list₁ es n a h =
    let w : length (spot_words es) ≡ 2 * length es = words_length (λ (e : Spot). e.at) (λ (e : Spot). e.node) es in
    let c : 2 * n ≡ length (spot_words es) = omega (arith, a.count) in
    ap₂ (λ (k : ℕ) (l : List ℕ). take k l) c a.words ∙ sets-front list (spot_words es) (omega arith)

pub spots_back : (es : List Spot) → spots_of (spot_words es) ≡ es
spots_back es = pairs_words (λ (e : Spot). e.at) (λ (e : Spot). e.node) spot (λ e. refl) es

-- ---- nodes that a map can have

-- the counted nodes of a list
pub counted_askable : (H : ℕ) (spots : List ℕ) → SpotsAskable spots → (y : ℕ) → among (nodes_in H spots) y ≡ true → y < 2 ^ 32 - 1
unfolding items_of_two counted_nodes among
counted_askable H [] h y e = absurd (not_both false e refl)
counted_askable H (q ∷ []) h y e = absurd (not_both false e refl)
counted_askable H (q ∷ (x ∷ ws)) h y e = go (ltb q (2 ^ H)) e (λ f. counted_askable H ws (λ k l. rw (step_three k) at (h (suc k) (omega arith))) y f)
  where
    go : (b : Bool) → among (elim b [ true ↦ x ∷ nodes_in H ws | false ↦ nodes_in H ws ]) y ≡ true → (among (nodes_in H ws) y ≡ true → y < 2 ^ 32 - 1) → y < 2 ^ 32 - 1
    go true f r = ⊎_elim (λ (o : eqb x y ≡ true). let z : x ≡ y = eqb-true x y o in let w : x < 2 ^ 32 - 1 = h 0 (omega arith) in omega arith) r (or_cases (eqb x y) (among (nodes_in H ws) y) f)
    go false f r = r f

pub counted_length : (H : ℕ) (spots : List ℕ) → 2 * length (nodes_in H spots) ≤ length spots
unfolding items_of_two counted_nodes
counted_length H [] = omega arith
counted_length H (q ∷ []) = omega arith
counted_length H (q ∷ (x ∷ ws)) = go (ltb q (2 ^ H)) (counted_length H ws)
  where
    go : (b : Bool) → 2 * length (nodes_in H ws) ≤ length ws → 2 * length {A = ℕ} (elim b [ true ↦ x ∷ nodes_in H ws | false ↦ nodes_in H ws ]) ≤ length (q ∷ (x ∷ ws))
    go true h = omega arith
    go false h = omega arith

head_or_tail : (x : ℕ) (l xs : List ℕ) (y : ℕ) → among (x ∷ l) y ≡ true → (among l y ≡ true → among xs y ≡ true) → among (x ∷ xs) y ≡ true
unfolding among
head_or_tail x l xs y e r =
    ⊎_elim (λ (o : eqb x y ≡ true). ap (λ (b : Bool). b || among xs y) o) (λ f. ap (λ (b : Bool). eqb x y || b) (r f) ∙ or-true (eqb x y)) (or_cases (eqb x y) (among l y) e)

-- new nodes are some of those
pub fresh_from : (ns xs : List ℕ) (y : ℕ) → among (fresh ns xs) y ≡ true → among xs y ≡ true
unfolding fresh
fresh_from ns [] y e = e
fresh_from ns (x ∷ xs) y e = go (among ns x) refl (λ f. fresh_from ns xs y f) (λ f. fresh_from (ns ++ (x ∷ [])) xs y f)
  where
    go : (b : Bool) → among ns x ≡ b → (among (fresh ns xs) y ≡ true → among xs y ≡ true) → (among (fresh (ns ++ (x ∷ [])) xs) y ≡ true → among xs y ≡ true) → among (x ∷ xs) y ≡ true
    go true k u v = among_tail x xs y (u (ap (λ (l : List ℕ). among l y) (sym (fresh_old ns x xs k)) ∙ e))
    go false k u v = head_or_tail x (fresh (ns ++ (x ∷ [])) xs) xs y (ap (λ (l : List ℕ). among l y) (sym (fresh_new ns x xs k)) ∙ e) v

pub at_among : (l : List ℕ) (i : ℕ) → i < length l → among l (get_or l i 0) ≡ true
at_among [] i h = absurd (omega arith)
at_among (x ∷ l) zero h = among_head x l
at_among (x ∷ l) (suc i) h = among_tail x l (get_or l i 0) (at_among l i (omega arith))

pub new_askable : (H : ℕ) (ns spots news : List ℕ) → SpotsAskable spots → news ≡ fresh ns (nodes_in H spots) → NewAskable news
new_askable H ns spots news h e i l =
    counted_askable H spots h (get_or news i 0) (fresh_from ns (nodes_in H spots) (get_or news i 0) (rw (← e) (at_among news i l)))

-- the nodes of a count list in form, and its counts
pub nodes_askable : (ns ws : List ℕ) → entries_right ns (counts_of ws) ≡ true → NodesAskable ws
unfolding items_of_two
nodes_askable ns [] h i l = absurd (omega arith)
nodes_askable ns (x ∷ []) h i l = absurd (omega arith)
nodes_askable ns (x ∷ (n ∷ ws)) h zero l = let e = entered ns (counted x n) (counts_of ws) h in omega (arith, e.pin)
nodes_askable ns (x ∷ (n ∷ ws)) h (suc i) l =
    let e = entered ns (counted x n) (counts_of ws) h in
    rw (step_two i) (nodes_askable (ns ++ (x ∷ [])) ws e.others i (omega arith))

pub count_small : (ws : List ℕ) → ((i : ℕ) → get_or ws i 0 < 2 ^ 32) → (y : ℕ) → count_in (counts_of ws) y < 2 ^ 32
unfolding items_of_two count_in
count_small [] h y = omega arith
count_small (x ∷ []) h y = omega arith
count_small (x ∷ (n ∷ ws)) h y = go (eqb x y) (count_small ws (λ i. h (suc (suc i))) y)
  where
    go : (b : Bool) → count_in (counts_of ws) y < 2 ^ 32 → (elim b [ true ↦ n | false ↦ count_in (counts_of ws) y ]) < 2 ^ 32
    go true r = h 1
    go false r = r
