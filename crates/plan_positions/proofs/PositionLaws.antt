-- What a plan without refusals 12 and 13 gives: each pin that a part reads has a right position, and each slot table entry is a position.
-- Assumes nothing.
use mathlib.Core.Path.{◌≡◌, refl, sym, ap, ◌∙◌}
use mathlib.Core.Bool.{true, false, and-false}
use mathlib.Core.Option.{Option, none, some}
use mathlib.Core.List.{List}
use mathlib.Core.Logic.{◌⊎◌, inl, inr}
use Prim.Native.Nat.{ℕ, ◌+◌, ◌/◌, ◌≤◌, ◌<◌}
use native.Mathlib.Omega.{arith}
use borrow.Author.Tests.{eq-eqb, ne_eqb, eqb-true, leb-true, ltb-true, lt-ltb}
use lib.Dec.{leb, ltb, eqb}
use Rattle.words.specs.Bit.{bit_at}
use Rattle.plan_record.specs.Record.{slots_of, majors_of, parts_before, parts_of, position_state, locations_of, level_at}
use Rattle.words.specs.Pins.{empty}
use Rattle.words.proofs.TestLaws.{and_true, not_both, some_found, not_none, lowest_none}
use Rattle.plan_counts.specs.Counts.{write_outs}
use Rattle.plan_blocks.specs.Blocks.{state_of, state_words}
use Rattle.plan_blocks.proofs.StateStartLaws.{part_split, state_in, state_mono}
use Rattle.plan_slots.specs.Slots.{reads_pin}
use Rattle.plan_positions.specs.Positions.{major_of, part_state_start, normal_word, position_right, twelve_right, refusal12}
use Rattle.plan_winners.specs.Planned.{Planned, in_layout, in_positions, planned}
use Rattle.plan_positions.specs.Input.{planned_bit, input}
use Rattle.plan_positions.proofs.MajorLaws.{MajorAt, start_is, major_at}

-- ---- a normal write-out word of one of the first n parts

pub record NormalAt (d : List ℕ) (n w : ℕ) : Type 0 where
  pub part : ℕ
  pub earlier : part < n
  pub from : part_state_start d part ≤ w
  pub until : w < part_state_start d part + locations_of d part

pub normal_at_lem : (d : List ℕ) (n w : ℕ) → normal_word d n w ≡ true → NormalAt d n w
unfolding normal_word
normal_at_lem d n w h =
    let (p, l, t) = some_found _ n h in
    let (a, b) = and_true (leb (part_state_start d p) w) _ t in
    record { part = p; earlier = l; from = leb-true _ _ a; until = ltb-true _ _ b }

-- it stands before the state of the next major stage
pub normal_before : (d : List ℕ) (s w : ℕ) → s ≤ majors_of d → NormalAt d (parts_before d s) w → w < state_of d s
unfolding write_outs
normal_before d s w l h =
    let (t, i, a, b, e) = part_split d s h.part h.earlier in
    omega (
      arith,
      h.until,
      ap (part_state_start d) e,
      ap (locations_of d) e,
      start_is d t i (omega arith) b,
      (state_in d t i b).1,
      state_mono d (t + 1) s (omega arith),
    )

-- ---- planned positions

-- a planned position is unstaged or staged
pub planned_mark : (d : List ℕ) (x : ℕ) (y : Planned) → planned d x ≡ some y → (y.staged ≡ 0) ⊎ (y.staged ≡ 1)
unfolding planned
planned_mark d x y h = go (in_positions d 0 x) refl (in_layout d x) refl (in_positions d 1 x) refl
  where
    marked-as : (z : Planned) → planned d x ≡ some z → y.staged ≡ z.staged
    marked-as z e =
        let k : y ≡ z = cc in
        ap (λ (u : Planned). u.staged) k

    go : (a : Option ℕ) → in_positions d 0 x ≡ a → (b : Option ℕ) → in_layout d x ≡ b → (e : Option ℕ) → in_positions d 1 x ≡ e
        → (y.staged ≡ 0) ⊎ (y.staged ≡ 1)
    go (some i) p b q e r = inl (marked-as (record { staged = 0; place = position_state d i }) (rw (p, planned)))
    go none p (some i) q e r = inl (marked-as (record { staged = 0; place = i }) (rw (p, q, planned)))
    go none p none q (some i) r = inr (marked-as (record { staged = 1; place = position_state d i }) (rw (p, q, r, planned)))
    go none p none q none r =
        let k : planned d x ≡ none = rw (p, q, r, planned) in
        let z : ◌≡◌ {A = ℕ} 0 1 = cc in
        absurd (omega arith)

-- pin x has a position that is right for a part of major stage s
pub record RightlyPlanned (d : List ℕ) (s x : ℕ) : Type 0 where
  pub position : Planned
  pub is : planned d x ≡ some position
  pub mark : (position.staged ≡ 0) ⊎ (position.staged ≡ 1)
  pub unstaged : position.staged ≡ 0 → position.place / 32 < state_words d
  pub staged : position.staged ≡ 1 → NormalAt d (parts_before d s) (position.place / 32)
  pub before : position.staged ≡ 1 → position.place / 32 < state_of d s

right_unstaged : (d : List ℕ) (s : ℕ) (y : Planned) → position_right d s (some y) ≡ true → y.staged ≡ 0 → y.place / 32 < state_words d
unfolding position_right
right_unstaged d s y h e = ltb-true _ _ (rw (eq-eqb y.staged 0 e, position_right) at h)

right_staged : (d : List ℕ) (s : ℕ) (y : Planned) → position_right d s (some y) ≡ true → y.staged ≡ 1 → normal_word d (parts_before d s) (y.place / 32) ≡ true
unfolding position_right
right_staged d s y h e = rw (ne_eqb y.staged 0 (λ z. omega arith), position_right) at h

right_some : (d : List ℕ) (s : ℕ) (o : Option Planned) → position_right d s o ≡ true → (y : Planned) × (o ≡ some y)
unfolding position_right
right_some d s none h = absurd (not_both false h refl)
right_some d s (some y) h = (y, refl)

twelve_at : (d : List ℕ) → refusal12 d ≡ none → (p j : ℕ) → p < parts_of d → j < slots_of d → twelve_right d p j ≡ true
unfolding refusal12
twelve_at d h p j l u = not_none (twelve_right d p) (slots_of d) (lowest_none _ (parts_of d) h p l) j u

twelve_place : (d : List ℕ) (p j x : ℕ) → twelve_right d p j ≡ true → level_at d p 0 j ≡ x → (x ≡ empty → ⊥) → position_right d (major_of d p) (planned d x) ≡ true
unfolding twelve_right
twelve_place d p j x h e n =
    let k : eqb (level_at d p 0 j) empty ≡ false = ne_eqb _ _ (λ z. n (sym e ∙ z)) in
    ap (λ (y : ℕ). position_right d (major_of d p) (planned d y)) (sym e) ∙ (rw k at h)

pub read_planned : (d : List ℕ) → refusal12 d ≡ none → (p x : ℕ) → p < parts_of d → reads_pin d p x ≡ true → (x ≡ empty → ⊥) → RightlyPlanned d (major_of d p) x
unfolding reads_pin
read_planned d none-refused p x l r n =
    let (j, inside, e) = some_found _ (slots_of d) r in
    let right : position_right d (major_of d p) (planned d x) ≡ true = twelve_place d p j x (twelve_at d none-refused p j l inside) (eqb-true _ _ e) n in
    let (y, is) = right_some d (major_of d p) (planned d x) right in
    let given : position_right d (major_of d p) (some y) ≡ true = rw is at right in
    let normal : y.staged ≡ 1 → NormalAt d (parts_before d (major_of d p)) (y.place / 32) = λ m. normal_at_lem d _ _ (right_staged d (major_of d p) y given m) in
    let m : MajorAt d p (major_of d p) = major_at d p l in
    record {
      position = y;
      is = is;
      mark = planned_mark d x y is;
      unstaged = right_unstaged d (major_of d p) y given;
      staged = normal;
      before = λ k. normal_before d (major_of d p) _ (omega arith) (normal k);
    }

-- ---- the state bit of a pin

module _ (d : List ℕ) (p : ℕ) (old new : List ℕ) (x : ℕ) where
  pub input_read : p < parts_of d → reads_pin d p x ≡ true → input d p old new x ≡ planned_bit old new (planned d x)
  unfolding input
  input_read l h = rw (lt-ltb p (parts_of d) l, h, input)

  pub input_other : reads_pin d p x ≡ false → input d p old new x ≡ none
  unfolding input
  input_other h = rw (h, and-false (ltb p (parts_of d)), input)

pub bit_unstaged : (old new : List ℕ) (y : Planned) → y.staged ≡ 0 → planned_bit old new (some y) ≡ some (bit_at old y.place)
unfolding planned_bit
bit_unstaged old new y h = rw (eq-eqb y.staged 0 h, planned_bit)

pub bit_staged : (old new : List ℕ) (y : Planned) → y.staged ≡ 1 → planned_bit old new (some y) ≡ some (bit_at new y.place)
unfolding planned_bit
bit_staged old new y h = rw (ne_eqb y.staged 0 (λ z. omega arith), planned_bit)
