-- What refusals 9, 10 and 11 exclude, slot by slot: a pin at a position is carried from slot a or is the gate of slots a and b; a later stage's pin
-- stands in the stage before; a pin that is computed is not read.
-- Assumes nothing.
use mathlib.Core.Path.{◌≡◌, refl, sym, ap, ap₂, ◌∙◌}
use mathlib.Core.Bool.{Bool, true, false, ◌&&◌, ◌||◌}
use mathlib.Core.List.{List}
use mathlib.Core.Logic.{⊎_elim}
use mathlib.Core.Option.{Option, none, some}
use Prim.Native.Nat.{ℕ, ◌+◌, ◌*◌, ◌-◌, ◌/◌, ◌%◌, ◌^◌, ◌≤◌, ◌<◌}
use native.Mathlib.Numerals.{add-one}
use native.Mathlib.Omega.{arith}
use borrow.Author.Tests.{leb-true, ne_eqb, eqb-true, eqb-false, ltb-true, not-true}
use lib.Arith.{digits_div, digits_mod}
use lib.Dec.{eqb}
use Rattle.plan_record.specs.Record.{plan_lanes, slots_of, parts_of, stages_of, slot_at, level_at, gate_first, gate_second}
use Rattle.words.specs.Pins.{is_pin, empty}
use Rattle.words.specs.Tests.{first_not, lowest}
use Rattle.words.proofs.EditionLaws.{runs_in}
use Rattle.plan_record.proofs.RecordLaws.{lanes_range}
use Rattle.words.proofs.TestLaws.{not_both, and_true, or_cases, not_none, lowest_none}
use Rattle.plan_gates.specs.Gates.{gate_of}
use Rattle.plan_slots.specs.Slots.{slot_a, slot_b, feeds, pin_right, slot_right, nine_right, over_items, bad_item, refusal9, stands_in, ten_right, refusal10, reads_pin, eleven_right, refusal11, highest}
use Rattle.plan_slots.proofs.PutLaws.{HighestAt, stands_highest, highest_is}

-- ---- what a test that refuses nothing says

-- item j of stage t, of a part with n lanes
pub over_item : (n : ℕ) (right : ℕ → ℕ → Bool) (t j : ℕ) → j < 32 * n → over_items n right (32 * n * t + j) ≡ right t j
over_item n right t j h =
    let e : 32 * n * t + j ≡ t * (32 * n) + j = omega arith in
    ap₂ right (ap (λ (i : ℕ). i / (32 * n)) e ∙ digits_div t h) (ap (λ (i : ℕ). i % (32 * n)) e ∙ digits_mod t h)

item_right : (d : List ℕ) (right : ℕ → ℕ → ℕ → Bool) → lowest (λ p. bad_item d (right p) p) (parts_of d) ≡ none
    → (p s x : ℕ) → p < parts_of d → s < stages_of d p → x < slots_of d → right p s x ≡ true
unfolding bad_item
item_right d right h p s x lp ls lx =
    let n : ℕ = plan_lanes d in
    let a : first_not (over_items n (right p)) (32 * n * stages_of d p) ≡ none = lowest_none (λ q. bad_item d (right q) q) (parts_of d) h p lp in
    let l : 32 * n * s + x < 32 * n * stages_of d p = omega (arith, runs_in (32 * n) s (stages_of d p) ls) in
    let b : over_items n (right p) (32 * n * s + x) ≡ true = not_none (over_items n (right p)) (32 * n * stages_of d p) a (32 * n * s + x) l in
    sym (over_item n (right p) s x lx) ∙ b

-- ---- 9

-- gate g has fan-in pins a and b
pub record Feeds (d : List ℕ) (x a b : ℕ) : Type 0 where
  pub gate : ℕ
  pub found : gate_of d x ≡ some gate
  pub first : gate_first d gate / 2 ≡ a
  pub second : gate_second d gate / 2 ≡ b

feeds_gate : (d : List ℕ) (x a b : ℕ) → feeds d (gate_of d x) a b ≡ true → Feeds d x a b
unfolding feeds
feeds_gate d x a b h = go (gate_of d x) refl h
  where
    go : (o : Option ℕ) → gate_of d x ≡ o → feeds d o a b ≡ true → Feeds d x a b
    go none e k = absurd (not_both false k refl)
    go (some g) e k =
        let (u, v) = and_true (eqb (gate_first d g / 2) a) (eqb (gate_second d g / 2) b) k in
        record { gate = g; found = e; first = eqb-true _ _ u; second = eqb-true _ _ v }

-- what may stand at a position whose slots a and b hold these pins
pub data SlotStands (d : List ℕ) (x a b : ℕ) : Type 0 where
  vacant : x ≡ empty → SlotStands d x a b
  carried : x ≤ 2 ^ 30 → x ≡ a → SlotStands d x a b
  computed : x ≤ 2 ^ 30 → (x ≡ a → ⊥) → Feeds d x a b → SlotStands d x a b

stands_of : (d : List ℕ) (x a b : ℕ) → (eqb x empty || (is_pin x && (eqb x a || feeds d (gate_of d x) a b))) ≡ true → SlotStands d x a b
stands_of d x a b h = ⊎_elim (λ e. vacant (eqb-true _ _ e)) pin (or_cases (eqb x empty) _ h)
  where
    go : x ≤ 2 ^ 30 → (t : Bool) → eqb x a ≡ t → (t || feeds d (gate_of d x) a b) ≡ true → SlotStands d x a b
    go r true e v = carried r (eqb-true _ _ e)
    go r false e v = computed r (eqb-false _ _ e) (feeds_gate d x a b v)

    pin : (is_pin x && (eqb x a || feeds d (gate_of d x) a b)) ≡ true → SlotStands d x a b
    pin e = let (u, v) = and_true (is_pin x) (eqb x a || feeds d (gate_of d x) a b) e in go (leb-true _ _ u) (eqb x a) refl v

module _ (d : List ℕ) (clear : refusal9 d ≡ none) (p s : ℕ) (part : p < parts_of d) (stage : s < stages_of d p) where
  nine : (x : ℕ) → x < slots_of d → nine_right d p s x ≡ true
  unfolding refusal9
  nine x l = item_right d (nine_right d) clear p s x part stage l

  position-right : (q : ℕ) → 0 < q → q < slots_of d → slot_right d p s q ≡ true
  unfolding nine_right
  position-right q h l =
      let (a, b) = and_true (pin_right (level_at d p s q)) (eqb q 0 || slot_right d p s q) (nine q l) in
      ⊎_elim (λ e. absurd (omega (arith, eqb-true q 0 e))) (λ e. e) (or_cases (eqb q 0) (slot_right d p s q) b)

  -- a position
  pub position_stands : (q : ℕ) → 0 < q → q < slots_of d → SlotStands d (slot_at d p s q) (slot_a d p s q) (slot_b d p s q)
  unfolding slot_right
  position_stands q h l = stands_of d _ _ _ (position-right q h l)

-- ---- 10

pub ten_first : (d : List ℕ) (p j : ℕ) → ten_right d p 0 j ≡ true
unfolding ten_right
ten_first d p j = refl

pub ten_later : (d : List ℕ) (p s j : ℕ)
    → ten_right d p (s + 1) j ≡ (eqb (level_at d p (s + 1) j) empty || stands_in d p s (level_at d p (s + 1) j))
unfolding ten_right
ten_later d p s j = rw add-one

module _ (d : List ℕ) (clear : refusal10 d ≡ none) (p s j : ℕ) (part : p < parts_of d) (stage : s + 1 < stages_of d p) (slot : j < slots_of d) where
  -- a later pin stands in the stage before
  pub later_stands : (level_at d p (s + 1) j ≡ empty → ⊥) → stands_in d p s (level_at d p (s + 1) j) ≡ true
  unfolding refusal10
  later_stands k =
      ⊎_elim (λ e. absurd (k (eqb-true _ _ e))) (λ e. e)
      (or_cases (eqb (level_at d p (s + 1) j) empty) _ (sym (ten_later d p s j) ∙ item_right d (ten_right d) clear p (s + 1) j part stage slot))

  -- and its highest position there is one, and has it
  pub later_highest : (level_at d p (s + 1) j ≡ empty → ⊥)
      → (0 < highest d p s (level_at d p (s + 1) j))
      × (highest d p s (level_at d p (s + 1) j) < slots_of d)
      × (slot_at d p s (highest d p s (level_at d p (s + 1) j)) ≡ level_at d p (s + 1) j)
  later_highest k =
      let x : ℕ = level_at d p (s + 1) j in
      let h : 0 < highest d p s x = ltb-true _ _ (sym (stands_highest d p s x) ∙ later_stands k) in
      let r : HighestAt d p s x (slots_of d - 1) (highest d p s x) = highest_is d p s x in
      (h, omega (arith, r.below, lanes_range d), r.there h)

-- ---- 11

or_not : (a b : Bool) → a ≡ false → (a || b) ≡ true → b ≡ true
or_not true b e h = absurd (not_both true refl e)
or_not false b e h = h

-- a pin that is computed is not read in stage 0
pub computed_unread : (d : List ℕ) → refusal11 d ≡ none → (p s q : ℕ) → p < parts_of d → s < stages_of d p → 0 < q → q < slots_of d
    → (slot_at d p s q ≡ empty → ⊥) → (slot_at d p s q ≡ slot_a d p s q → ⊥) → reads_pin d p (slot_at d p s q) ≡ false
unfolding refusal11 eleven_right
computed_unread d clear p s q lp ls h l k n =
    let z : eqb q 0 ≡ false = ne_eqb _ _ (λ (y : q ≡ 0). omega arith) in
    let e : eqb (slot_at d p s q) empty ≡ false = ne_eqb _ _ k in
    let c : eqb (slot_at d p s q) (slot_a d p s q) ≡ false = ne_eqb _ _ n in
    let zec : (eqb q 0 || eqb (slot_at d p s q) empty || eqb (slot_at d p s q) (slot_a d p s q)) ≡ false = rw (z, e, c) in
    not-true _ (or_not _ _ zec (item_right d (eleven_right d) clear p s q lp ls l))
