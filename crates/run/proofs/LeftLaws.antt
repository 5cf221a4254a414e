-- How many turns are left: the walk over a block's parts and the sum over the blocks, and that both stay within the words.
-- Assumes nothing.
use mathlib.Core.Path.{◌≡◌, refl, sym, ap, ◌∙◌}
use mathlib.Core.Bool.{Bool, true, false}
use mathlib.Core.List.{List}
use Prim.Native.Nat.{ℕ, zero, suc, ◌+◌, ◌-◌, ◌≤◌, ◌<◌}
use native.Mathlib.Nat.{zero-add, add-zero}
use native.Mathlib.Omega.{arith}
use borrow.Author.Tests.{eqb-false, eq-eqb, ne_eqb}
use lib.Dec.{eqb}
use lib.ListN.{length, get_or}
use Rattle.run_machine.specs.Part.{stages_at, last_at, end_at}
use Rattle.run_machine.specs.Turn.{Phase, to_read, to_stage, to_store, finished, going, Block}
use Rattle.run_machine.specs.Room.{part_of, phase_of, stage_of}
use Rattle.run_machine.specs.Run.{turns_from, turns_after, turns_left, all_left}
use Rattle.run_turns.specs.Block.{state_block}
use Rattle.run_machine.specs.Well.{PartIn}
use Rattle.run_machine.proofs.PartWellLaws.{InForm, parts_well}
use Rattle.run.specs.States.{room_of, room_block, blocks_in}
use Rattle.run.specs.LeftInForm.{Parts, PartsFrom, LeftInForm, RoomLeftInForm, AllLeftInForm}
use Rattle.run.proofs.LeftInFormLaws.{parts_first, parts_rest, part_turns}

-- ---- the parts after the one at o, f at most

unfoldable pub rest_from : ℕ → List ℕ → ℕ → ℕ → ℕ
rest_from n W f o = elim (eqb (last_at W o) 1) [ true ↦ 0 | false ↦ turns_from n W f (end_at n W o) ]

module _ (n : ℕ) (W : List ℕ) where
  rest_all : (o : ℕ) → rest_from n W (length W) o ≡ turns_after n W o
  unfolding rest_from turns_after
  rest_all o = refl

  rest-last : (f o : ℕ) → last_at W o ≡ 1 → rest_from n W f o ≡ 0
  unfolding rest_from
  rest-last f o e = rw (eq-eqb _ _ e, rest_from)

  rest_more : (f o : ℕ) → (last_at W o ≡ 1 → ⊥) → rest_from n W (suc f) o ≡ stages_at W (end_at n W o) + 2 + rest_from n W f (end_at n W o)
  unfolding rest_from turns_from
  rest_more f o d = rw (ne_eqb _ _ d, rest_from)

  module _ (s t e : ℕ) (within : e ≤ length W) where
    turns-bound : (f o : ℕ) → Parts n W s t e o → turns_from n W f o + o ≤ e
    unfolding turns_from
    turns-bound zero o p = omega (arith, (parts_first n W s t e o p).header)
    turns-bound (suc f) o p = go (eqb (last_at W o) 1) refl (turns-bound f (end_at n W o))
      where
        go : (b : Bool) → eqb (last_at W o) 1 ≡ b → (Parts n W s t e (end_at n W o) → turns_from n W f (end_at n W o) + end_at n W o ≤ e) → turns_from n W (suc f) o + o ≤ e
        go true q r = rw (q, turns_from) (omega (arith, part_turns n p.lanes W o, (parts_first n W s t e o p).ends))
        go false q r = rw (q, turns_from) (omega (arith, part_turns n p.lanes W o, r (parts_rest n W s t e o p within (eqb-false _ _ q))))

    rest-bound : (f o : ℕ) → Parts n W s t e o → rest_from n W f o + end_at n W o ≤ e
    unfolding rest_from
    rest-bound f o p = go (eqb (last_at W o) 1) refl
      where
        go : (b : Bool) → eqb (last_at W o) 1 ≡ b → rest_from n W f o + end_at n W o ≤ e
        go true q = rw (q, rest_from) (omega (arith, (parts_first n W s t e o p).ends))
        go false q = rw (q, rest_from) (turns-bound f (end_at n W o) (parts_rest n W s t e o p within (eqb-false _ _ q)))

    pub after_bound : (o : ℕ) → Parts n W s t e o → turns_after n W o + end_at n W o ≤ e
    after_bound o p = rw (sym (rest_all o)) (rest-bound (length W) o p)

  -- ---- the walk: o is the part it stands at, and sum the turns of those after the first

  pub record Walking (at o sum : ℕ) : Type 0 where
    pub from : PartsFrom n W o
    pub f : ℕ
    pub enough : from.e - o ≤ f
    pub same : sum + rest_from n W f o ≡ turns_after n W at

  pub walk_start : (at : ℕ) → PartsFrom n W at → Walking at at 0
  walk_start at p = record { from = p; f = length W; enough = omega (arith, p.within); same = ap (λ (m : ℕ). 0 + m) (rest_all at) ∙ zero-add _ }

  pub walk_inside : (at o sum : ℕ) → Walking at o sum → (o < end_at n W o) × (o + n ≤ length W)
  walk_inside at o sum w =
      let p = w.from in
      let first = parts_first n W p.s p.t p.e o p.parts in
      (omega (arith, part_turns n p.parts.lanes W o), omega (arith, first.header, p.within))

  pub walk_part : (at o sum : ℕ) → Walking at o sum → PartIn n W o
  walk_part at o sum w = let p = w.from in (parts_well n W p.s p.t p.e p.parts.lanes p.within p.parts.f o p.parts.form).part

  module _ (at o sum : ℕ) (w : Walking at o sum) (d : last_at W o ≡ 1 → ⊥) where
    -- where the next part begins
    pub walk_after : (o' : ℕ) → o' ≡ end_at n W o → o' < length W
    walk_after o' e = let p = w.from in omega (arith, e, (parts_first n W p.s p.t p.e (end_at n W o) (parts_rest n W p.s p.t p.e o p.parts p.within d)).header, p.within, p.parts.lanes.least)

    abbrev walk-on : PartsFrom n W (end_at n W o)
    walk-on = let p = w.from in record { s = p.s; t = p.t; e = p.e; within = p.within; parts = parts_rest n W p.s p.t p.e o p.parts p.within d }

    pub walk_next : (o' x : ℕ) → o' ≡ end_at n W o → x ≡ stages_at W o' → Walking at o' (sum + (x + 2))
    walk_next o' x e g = rw (g, e) (next w.f w.enough w.same)
      where
        first : InForm n W w.from.s w.from.t o w.from.e
        first = parts_first n W w.from.s w.from.t w.from.e o w.from.parts

        next : (f : ℕ) → w.from.e - o ≤ f → sum + rest_from n W f o ≡ turns_after n W at → Walking at (end_at n W o) (sum + (stages_at W (end_at n W o) + 2))
        next zero k q = absurd (omega (arith, first.header, w.from.parts.lanes.least))
        next (suc f) k q = record { from = walk-on; f = f; enough = omega (arith, part_turns n w.from.parts.lanes W o); same = omega (arith, q, rest_more f o d) }

  pub walk_bound : (at o sum : ℕ) → PartsFrom n W at → Walking at o sum → sum ≤ length W
  walk_bound at o sum p w = omega (arith, after_bound p.s p.t p.e p.within at p.parts, p.within, w.same)

  pub walk_end : (at o sum : ℕ) → Walking at o sum → last_at W o ≡ 1 → sum ≡ turns_after n W at
  walk_end at o sum w e = omega (arith, w.same, rest-last w.f o e)

-- ---- a block

module _ (n : ℕ) (W : List ℕ) (s t lo hi : ℕ) (b : Block) (g : LeftInForm n W s t lo hi b) where
  after-fits : going b.phase ≡ true → turns_after n W b.part + stages_at W b.part + 2 + lo ≤ hi
  after-fits h = omega (arith, g.from h, part_turns n (g.parts h).lanes W b.part, after_bound n W s t hi g.within b.part (g.parts h))

  pub left_bound : (f : Phase) → b.phase ≡ f → turns_left n W f b + lo ≤ hi
  unfolding turns_left going
  left_bound to_read e = omega (arith, after-fits (ap going e))
  left_bound to_stage e = omega (arith, after-fits (ap going e))
  left_bound to_store e = omega (arith, after-fits (ap going e))
  left_bound finished e = omega (arith, g.order)

module _ (n : ℕ) (W r : List ℕ) (p : ℕ) (f : Phase) (k : ℕ) (part : p ≡ part_of r) (phase : f ≡ phase_of r) (stage : k ≡ stage_of r) where
  -- the turns of the block in r, by the phase that the code found
  left_is : (g : Phase) → f ≡ g → turns_left n W g (state_block n W p f k r) ≡ turns_left n W (phase_of r) (room_block n W r)
  unfolding room_block
  left_is g e = rw (sym e, part, phase, stage)

  pub left_done : f ≡ finished → 0 ≡ turns_left n W (phase_of r) (room_block n W r)
  unfolding turns_left
  left_done e = left_is finished e

  module _ (a : ℕ) (after : a ≡ turns_after n W p) where
    pub left_read : (x : ℕ) → x ≡ stages_at W p → f ≡ to_read → x + 2 + a ≡ turns_left n W (phase_of r) (room_block n W r)
    unfolding turns_left state_block
    left_read x stages e = rw (stages, after) (left_is to_read e)

    pub left_stage : (x : ℕ) → x ≡ stages_at W p → f ≡ to_stage → x - k + 1 + a ≡ turns_left n W (phase_of r) (room_block n W r)
    unfolding turns_left state_block
    left_stage x stages e = rw (stages, after) (left_is to_stage e)

    pub left_store : f ≡ to_store → 1 + a ≡ turns_left n W (phase_of r) (room_block n W r)
    unfolding turns_left state_block
    left_store e = rw after (left_is to_store e)

-- what the code asks of a block that is not finished, at word p
pub record Ahead (n : ℕ) (W : List ℕ) (p : ℕ) : Type 0 where
  pub parts : PartsFrom n W p
  pub fits : turns_after n W p + stages_at W p + 2 ≤ length W
  pub inside : p < length W

module _ (n : ℕ) (W : List ℕ) (s t : ℕ) (r : List ℕ) (g : RoomLeftInForm n W s t r) (p : ℕ) (f : Phase) (k : ℕ) (part : p ≡ part_of r) (phase : f ≡ phase_of r) (stage : k ≡ stage_of r) (goes : going f ≡ true) where
  here : LeftInForm n W s t g.lo g.hi (state_block n W p f k r)
  unfolding room_block
  here = rw (part, phase, stage) g.good

  pub ahead : Ahead n W p
  unfolding state_block
  ahead = record {
    parts = parts;
    fits = omega (arith, after-fits n W s t g.lo g.hi (state_block n W p f k r) here goes, here.within);
    inside = omega (arith, (parts_first n W s t g.hi p parts.parts).header, here.within, parts.parts.lanes.least);
  }
    where
      parts : PartsFrom n W p
      parts = record { s = s; t = t; e = g.hi; within = here.within; parts = here.parts goes }

  pub stage_inside : f ≡ to_stage → k ≤ stages_at W p
  unfolding state_block
  stage_inside e = omega (arith, here.stage e)

-- ---- all blocks

module _ (n : ℕ) (W room : List ℕ) where
  left_one : (m i : ℕ) → all_left n W (blocks_in n W room (suc m) i) ≡ turns_left n W (phase_of (room_of room i)) (room_block n W (room_of room i)) + all_left n W (blocks_in n W room m (i + 1))
  unfolding all_left blocks_in room_block state_block
  left_one m i = refl

  left_none : (i : ℕ) → all_left n W (blocks_in n W room 0 i) ≡ 0
  unfolding all_left blocks_in
  left_none i = refl

  pub left_next : (m i sum x goal : ℕ) → i < m → x ≡ turns_left n W (phase_of (room_of room i)) (room_block n W (room_of room i))
      → sum + all_left n W (blocks_in n W room (m - i) i) ≡ goal → sum + x + all_left n W (blocks_in n W room (m - (i + 1)) (i + 1)) ≡ goal
  left_next m i sum x goal l e q =
      let more : m - i ≡ suc (m - (i + 1)) = omega arith in
      let a : all_left n W (blocks_in n W room (m - i) i) ≡ x + all_left n W (blocks_in n W room (m - (i + 1)) (i + 1)) = ap (λ (y : ℕ). all_left n W (blocks_in n W room y i)) more ∙ left_one (m - (i + 1)) i ∙ ap (λ (y : ℕ). y + all_left n W (blocks_in n W room (m - (i + 1)) (i + 1))) (sym e) in
      omega (arith, a, q)

  pub left_all : (m i sum goal : ℕ) → m ≤ i → sum + all_left n W (blocks_in n W room (m - i) i) ≡ goal → sum ≡ goal
  left_all m i sum goal l q =
      let none : m - i ≡ 0 = omega arith in
      let a : all_left n W (blocks_in n W room (m - i) i) ≡ 0 = ap (λ (y : ℕ). all_left n W (blocks_in n W room y i)) none ∙ left_none i in
      omega (arith, a, q)

  module _ (starts : List ℕ) (s t : ℕ) (g : AllLeftInForm n W starts s t room) where
    -- no more than the words of the blocks
    range-bound : (m i : ℕ) → i + m ≤ length starts - 1 → all_left n W (blocks_in n W room m i) + get_or starts i 0 ≤ get_or starts (i + m) 0
    unfolding room_block state_block
    range-bound zero i h = omega (arith, left_none i, ap (λ (x : ℕ). get_or starts x 0) (add-zero i))
    range-bound (suc m) i h =
        let there : i + 1 + m ≡ i + suc m = omega arith in
        omega (
          arith,
          left_one m i,
          left_bound n W s t (get_or starts i 0) (get_or starts (i + 1) 0) (room_block n W (room_of room i)) (g.each i (omega arith)) (phase_of (room_of room i)) refl,
          range-bound m (i + 1) (omega arith),
          ap (λ (x : ℕ). get_or starts x 0) there,
        )

    pub all_bound : all_left n W (blocks_in n W room (length starts - 1) 0) ≤ length W
    all_bound = by (length starts - 1) refl
      where
        by : (m : ℕ) → length starts - 1 ≡ m → all_left n W (blocks_in n W room m 0) ≤ length W
        by zero e = omega (arith, left_none 0)
        by (suc m) e =
            let last : 0 + suc m ≡ m + 1 = omega arith in
            omega (arith, range-bound (suc m) 0 (omega arith), ap (λ (x : ℕ). get_or starts x 0) last, (g.each m (omega arith)).within)
