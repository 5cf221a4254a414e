-- The turns one after the other: a turn in a block's room is a step of the run as all rooms hold it.
-- Assumes nothing.
use mathlib.Core.Path.{◌≡◌, refl, sym, ap, ap₂, subst, ◌∙◌}
use mathlib.Core.Bool.{true}
use mathlib.Core.List.{List}
use mathlib.Core.Logic.{⊎_elim}
use Prim.Native.Nat.{ℕ, ◌+◌, ◌*◌, ◌-◌, ◌≤◌, ◌<◌}
use native.Mathlib.Nat.{zero-add}
use native.Mathlib.Numerals.{add-one}
use native.Mathlib.Omega.{arith}
use lib.ListN.{length, get_or, drop, set}
use lib.Seq.{sets, drop-cons, drop-length}
use Rattle.words.specs.Edition.{levels_for}
use Rattle.words.proofs.BitLaws.{lt_or_ge}
use Rattle.run_machine.specs.Part.{normal_at}
use Rattle.run_machine.specs.Turn.{Phase, to_read, to_stage, to_store, finished, going, Block, ended, turned, written}
use Rattle.run_machine.specs.Room.{block_room, part_low, part_of, phase_of, stage_of, block_state_words}
use Rattle.run_machine.specs.Run.{Running, step, run_from}
use Rattle.run_turns.specs.Block.{holds, state_block, BlockWell}
use Rattle.run.specs.States.{room_of, room_block, blocks_in, running}
use Rattle.run.specs.LeftInForm.{LeftInForm, RoomLeftInForm, AllLeftInForm, TurnsNamed}
use Rattle.run.proofs.StateLaws.{lent, lent_long, lent_same, lent_other, room_long, stored_block, blocks_set, blocks_at}
use Rattle.run.proofs.LeftInFormLaws.{parts_first, part_well, turned_good}

-- ---- one turn, of the block in room r

holds_going : (f : Phase) → holds f ≡ true → going f ≡ true
unfolding holds going
holds_going to_read h = refl
holds_going to_stage h = refl
holds_going to_store h = refl
holds_going finished h = h

module _ (n : ℕ) (W : List ℕ) (s t : ℕ) (r : List ℕ) (g : RoomLeftInForm n W s t r) (p : ℕ) (f : Phase) (k : ℕ) (part : p ≡ part_of r) (phase : f ≡ phase_of r) (stage : k ≡ stage_of r) where
  good-here : LeftInForm n W s t g.lo g.hi (state_block n W p f k r)
  unfolding room_block
  good-here = rw (part, phase, stage) g.good

  pub turn_ready : BlockWell n W s t p f k
  unfolding state_block
  turn_ready = record {
    well = λ h. part_well n W s t g.hi p (good-here.parts h) good-here.within;
    within = λ h. good-here.stage h;
  }

  module _ (old new : List ℕ) (p' : ℕ) (f' : Phase) (k' : ℕ) (r' : List ℕ) (is : state_block n W p' f' k' r' ≡ turned n (levels_for n) W old f (state_block n W p f k r) new) where
    good-after : LeftInForm n W s t g.lo g.hi (state_block n W p' f' k' r')
    unfolding state_block
    good-after = subst (LeftInForm n W s t g.lo g.hi) (sym is) (turned_good n W s t g.lo g.hi old new f (state_block n W p f k r) good-here refl)

    pub stage_small : k' ≤ 255
    unfolding state_block
    stage_small = good-after.few

    few : holds f' ≡ true → (n ≤ 256) × (normal_at W p' ≤ 256)
    unfolding state_block
    few h =
        let parts = good-after.parts (holds_going f' h) in
        (parts.lanes.most, omega (arith, parts.lanes.most, (parts_first n W s t g.hi p' parts).stores.few))

    pub turn_kept : (r'' : List ℕ) → length r' ≡ block_room → r'' ≡ sets r' part_low (block_state_words p' f' k') → room_block n W r'' ≡ turned n (levels_for n) W old (phase_of r) (room_block n W r) new
    unfolding room_block
    turn_kept r'' long e = ap (room_block n W) e ∙ stored_block n W r' p' f' k' long few ∙ (rw (part, phase, stage) at is)

    pub turn_wrote : (new' : List ℕ) → new' ≡ written n W old f (state_block n W p f k r) new → new' ≡ written n W old (phase_of r) (room_block n W r) new
    unfolding room_block
    turn_wrote new' e = rw (part, phase, stage) at e

-- ---- one turn of block b, of all blocks in the room

module _ (n : ℕ) (W starts : List ℕ) (s t : ℕ) (room : List ℕ) (g : AllLeftInForm n W starts s t room) (b : ℕ) (below : b < length starts - 1) where
  pub room_fits : block_room * b + block_room ≤ length room
  room_fits = omega (arith, g.wide)

  pub room_good : RoomLeftInForm n W s t (room_of room b)
  room_good = record { long = room_long room b room_fits; lo = get_or starts b 0; hi = get_or starts (b + 1) 0; good = g.each b below }

  module _ (old new r : List ℕ) (long : length r ≡ block_room) (is : room_block n W r ≡ turned n (levels_for n) W old (phase_of (room_of room b)) (room_block n W (room_of room b)) new) where
    others : (a : ℕ) → a < length starts - 1 → (a ≡ b → ⊥) → room_of (lent room b r) a ≡ room_of room a
    others a l d = lent_other room b r room_fits long a (omega (arith, g.wide)) d

    here : room_block n W (room_of (lent room b r) b) ≡ turned n (levels_for n) W old (phase_of (room_of room b)) (room_block n W (room_of room b)) new
    here = ap (room_block n W) (lent_same room b r room_fits long) ∙ is

    good-here-again : LeftInForm n W s t (get_or starts b 0) (get_or starts (b + 1) 0) (room_block n W (room_of (lent room b r) b))
    unfolding room_block state_block
    good-here-again = subst (LeftInForm n W s t (get_or starts b 0) (get_or starts (b + 1) 0)) (sym here) (turned_good n W s t (get_or starts b 0) (get_or starts (b + 1) 0) old new (phase_of (room_of room b)) (room_block n W (room_of room b)) (g.each b below) refl)

    abbrev Fine : ℕ → Type 0
    Fine a = LeftInForm n W s t (get_or starts a 0) (get_or starts (a + 1) 0) (room_block n W (room_of (lent room b r) a))

    each_again : (a : ℕ) → a < length starts - 1 → Fine a
    each_again a l = ⊎_elim (λ under. other (λ (q : a ≡ b). omega arith)) (λ over. ⊎_elim (λ above. other (λ (q : a ≡ b). omega arith)) (λ same. let q : b ≡ a = omega arith in subst Fine q good-here-again) (lt_or_ge b a)) (lt_or_ge a b)
      where
        other : (a ≡ b → ⊥) → Fine a
        other d = subst (λ (x : List ℕ). LeftInForm n W s t (get_or starts a 0) (get_or starts (a + 1) 0) (room_block n W x)) (sym (others a l d)) (g.each a l)

    pub goods_turn : AllLeftInForm n W starts s t (lent room b r)
    goods_turn = record { wide = omega (arith, g.wide, lent_long room b r room_fits long); each = each_again }

    pub running_turn : (new' : List ℕ) → new' ≡ written n W old (phase_of (room_of room b)) (room_block n W (room_of room b)) new
        → running n W (length starts - 1) (lent room b r) new' ≡ step n (levels_for n) W old (running n W (length starts - 1) room new) b
    unfolding step room_block state_block
    running_turn new' e =
        ap₂ (λ (bs : List Block) (x : List ℕ). record { blocks = bs; new = x }) all e
        ∙ ap (λ (x : Block). record { blocks = set B b (turned n (levels_for n) W old x.phase x new); new = written n W old x.phase x new }) (sym at_b)
      where
        B : List Block
        B = blocks_in n W room (length starts - 1) 0

        at_b : get_or (blocks_in n W room (length starts - 1) 0) b (ended 0) ≡ room_block n W (room_of room b)
        at_b = blocks_at n W room (length starts - 1) 0 b (ended 0) below ∙ ap (λ (a : ℕ). room_block n W (room_of room a)) (zero-add b)

        all : blocks_in n W (lent room b r) (length starts - 1) 0 ≡ set (blocks_in n W room (length starts - 1) 0) b (turned n (levels_for n) W old (phase_of (room_of room b)) (room_block n W (room_of room b)) new)
        all =
            blocks_set n W room (lent room b r) (length starts - 1) 0 b _ below
            (λ a l u d. others a (omega arith) (λ (q : a ≡ b). d (omega arith)))
            (ap (λ (a : ℕ). room_block n W (room_of (lent room b r) a)) (zero-add b) ∙ here)

-- ---- i turns taken

pub record TurnsTaken (n : ℕ) (W turns old new₀ room₀ new room : List ℕ) (i : ℕ) : Type 0 where
  pub long : length new ≡ length new₀
  pub size : length room ≡ length room₀
  pub good : (starts : List ℕ) → AllLeftInForm n W starts (length old) (length new₀) room₀ → TurnsNamed starts turns → AllLeftInForm n W starts (length old) (length new₀) room
  pub same : (starts : List ℕ) → AllLeftInForm n W starts (length old) (length new₀) room₀ → TurnsNamed starts turns
      → run_from n (levels_for n) W old (running n W (length starts - 1) room new) (drop i turns) ≡ run_from n (levels_for n) W old (running n W (length starts - 1) room₀ new₀) turns

module _ (n : ℕ) (W turns old new₀ room₀ : List ℕ) where
  pub taken_none : TurnsTaken n W turns old new₀ room₀ new₀ room₀ 0
  taken_none = record { long = refl; size = refl; good = λ starts g named. g; same = λ starts g named. refl }

  run_step : (s : Running) (i : ℕ) → i < length turns → run_from n (levels_for n) W old (step n (levels_for n) W old s (get_or turns i 0)) (drop (i + 1) turns) ≡ run_from n (levels_for n) W old s (drop i turns)
  unfolding run_from
  run_step s i l = ap (λ (j : ℕ). run_from n (levels_for n) W old (step n (levels_for n) W old s (get_or turns i 0)) (drop j turns)) (add-one i) ∙ sym (ap (run_from n (levels_for n) W old s) (drop-cons turns i 0 l))

  module _ (new room : List ℕ) (i : ℕ) (h : TurnsTaken n W turns old new₀ room₀ new room i) (l : i < length turns) where
    -- what the turn asks for
    pub turn_good_lem : (starts : List ℕ) → AllLeftInForm n W starts (length old) (length new₀) room₀ → TurnsNamed starts turns → RoomLeftInForm n W (length old) (length new₀) (room_of room (get_or turns i 0))
    turn_good_lem starts g named = room_good n W starts (length old) (length new₀) room (h.good starts g named) (get_or turns i 0) (named i l)

    pub turn_fits : (starts : List ℕ) → AllLeftInForm n W starts (length old) (length new₀) room₀ → TurnsNamed starts turns → block_room * get_or turns i 0 + block_room ≤ length room
    turn_fits starts g named = room_fits n W starts (length old) (length new₀) room (h.good starts g named) (get_or turns i 0) (named i l)

    pub taken_next : (starts : List ℕ) → AllLeftInForm n W starts (length old) (length new₀) room₀ → TurnsNamed starts turns → (r new' : List ℕ) → length r ≡ block_room → length new' ≡ length new
        → room_block n W r ≡ turned n (levels_for n) W old (phase_of (room_of room (get_or turns i 0))) (room_block n W (room_of room (get_or turns i 0))) new
        → new' ≡ written n W old (phase_of (room_of room (get_or turns i 0))) (room_block n W (room_of room (get_or turns i 0))) new
        → TurnsTaken n W turns old new₀ room₀ new' (lent room (get_or turns i 0) r) (i + 1)
    taken_next starts₀ g₀ named₀ r new' long size is wrote = record {
      long = size ∙ h.long;
      size = lent_long room (get_or turns i 0) r (turn_fits starts₀ g₀ named₀) long ∙ h.size;
      good = λ starts g named. goods_turn n W starts (length old) (length new₀) room (h.good starts g named) (get_or turns i 0) (named i l) old new r long is;
      same = λ starts g named.
          ap (λ (x : Running). run_from n (levels_for n) W old x (drop (i + 1) turns)) (running_turn n W starts (length old) (length new₀) room (h.good starts g named) (get_or turns i 0) (named i l) old new r long is new' wrote)
          ∙ run_step (running n W (length starts - 1) room new) i l ∙ h.same starts g named;
    }

  pub taken_all : (new room : List ℕ) (i : ℕ) → TurnsTaken n W turns old new₀ room₀ new room i → length turns ≤ i → i ≤ length turns
      → (starts : List ℕ) → AllLeftInForm n W starts (length old) (length new₀) room₀ → TurnsNamed starts turns
      → running n W (length starts - 1) room new ≡ run_from n (levels_for n) W old (running n W (length starts - 1) room₀ new₀) turns
  unfolding run_from
  taken_all new room i h a b starts g named =
      let e : i ≡ length turns = omega arith in
      sym (ap (run_from n (levels_for n) W old (running n W (length starts - 1) room new)) (ap (λ (j : ℕ). drop j turns) e ∙ drop-length turns)) ∙ h.same starts g named
