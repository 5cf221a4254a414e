-- A block's turn in its room: what the phases leave there is, decoded, what the definition's turn makes of the block.
-- Assumes nothing.
use mathlib.Core.Path.{◌≡◌, refl, sym, ap, ap₂, ◌∙◌}
use mathlib.Core.Bool.{Bool, true, false}
use mathlib.Core.List.{List, [], ◌++◌}
use Prim.Native.Nat.{ℕ, ◌+◌, ◌*◌, ◌%◌, ◌≤◌, ◌<◌}
use native.Mathlib.Omega.{arith}
use borrow.Author.Tests.{eq-eqb, ne_eqb}
use lib.Dec.{eqb}
use lib.ListN.{length, get_or, take, drop, replicate, length-drop, length-append, length-replicate, get_or-append}
use lib.Seq.{sets, length-sets, length-take-le, take-take, take_at, get_or-take, get_or-drop}
use Rattle.run_machine.specs.Part.{stages_at, last_at, start_at, normal_at, end_at, location_in}
use Rattle.run_machine.specs.Turn.{Phase, to_read, to_stage, to_store, finished, going, Block, read_row, stage_row, captured, begins, ended, after_read, after_stage, after_store, stored_word, stored, turned, written}
use Rattle.run_machine.specs.Room.{block_room, captured_from}
use Rattle.run_machine.proofs.StageBitLaws.{stage_length}
use Rattle.run_machine.proofs.TurnLaws.{read_length, captured_length}
use Rattle.words.proofs.ListLaws.{zeros_front, put_sets}
use Rattle.words.specs.Edition.{levels_for}
use Rattle.words.proofs.EditionLaws.{slots_power}
use Rattle.words.specs.Section.{list_of}
use Rattle.words.proofs.SectionLaws.{length_list_of}
use Rattle.run_machine.specs.Well.{Lanes, Captures}
use Rattle.run_stage.specs.Gather.{gathered_row}
use Rattle.run_turns.specs.Block.{holds, held, state_block, room_read, room_staged, room_turned}
use Rattle.run_machine.proofs.SetsLaws.{take_sets, sets_in, sets-part, sets_over}
use Rattle.run_turns.proofs.CaptureLaws.{capture_ext}

-- ---- the rooms

gathered_length : (n : ℕ) (W : List ℕ) (o k : ℕ) (row : List ℕ) → length (gathered_row n W o k row) ≡ n
unfolding gathered_row
gathered_length n W o k row = length_list_of _ n

module _ (n : ℕ) (lanes : Lanes n) (W : List ℕ) (o : ℕ) (room : List ℕ) (long : length room ≡ block_room) where
  pub read_room_is : (old new r z : List ℕ) → r ≡ read_row n W o old new → z ≡ replicate (length (take 256 (drop captured_from (r ++ drop n room)))) 0
      → take captured_from (r ++ drop n room) ++ (z ++ drop 256 (drop captured_from (r ++ drop n room))) ≡ room_read n W o old new room
  unfolding room_read
  read_room_is old new r z e f =
      put_sets room₁ captured_from 256 z (omega (arith, long₁)) (ap length zeros ∙ length-replicate {A = ℕ} 256 0) ∙ ap₂ (λ (l v : List ℕ). sets l captured_from v) (first ∙ ap (sets room 0) e) zeros
    where
      room₁ : List ℕ
      room₁ = r ++ drop n room

      first : room₁ ≡ sets room 0 r
      first = put_sets room 0 n r (omega (arith, lanes.most)) (ap length e ∙ read_length n W o old new)

      long₁ : length room₁ ≡ block_room
      long₁ = ap length first ∙ length-sets room 0 r ∙ long

      zeros : z ≡ replicate 256 0
      zeros = f ∙ ap (λ (m : ℕ). replicate m 0) (length-take-le 256 (drop captured_from room₁) (rw (length-drop captured_from room₁) (omega (arith, long₁))))

  module _ (k : ℕ) where
    abbrev S : List ℕ
    S = stage_row n (levels_for n) W o k (take n room)

    abbrev B : List ℕ
    B = S ++ gathered_row n W o k (take n room)

    long-S : length S ≡ n
    long-S = stage_length n W o k (take n room) (levels_for n) (sym (slots_power n lanes.edition))

    long-B : length B ≡ 2 * n
    long-B = length-append S (gathered_row n W o k (take n room)) ∙ ap₂ ◌+◌ long-S (gathered_length n W o k (take n room)) ∙ omega arith

    pub stage_room_is : (s room' : List ℕ) → ((l : ℕ) → l < normal_at W o → location_in n W o l % 256 < n)
        → s ≡ stage_row n (levels_for n) W o k (take n (take (2 * n) room)) ++ gathered_row n W o k (take n (take (2 * n) room))
        → room' ≡ sets (s ++ drop (2 * n) room) captured_from (captured n W o k (s ++ drop (2 * n) room) (drop captured_from (s ++ drop (2 * n) room)))
        → room' ≡ room_staged n (levels_for n) W o k room
    unfolding room_staged
    stage_room_is s room' inside e f = f ∙ ap₂ (λ (l v : List ℕ). sets l captured_from v) first caught
      where
        is : s ≡ B
        is = e ∙ ap (λ (l : List ℕ). stage_row n (levels_for n) W o k l ++ gathered_row n W o k l) (take-take n (2 * n) room (omega arith))

        first : s ++ drop (2 * n) room ≡ sets room 0 B
        first = ap (λ (l : List ℕ). l ++ drop (2 * n) room) is ∙ put_sets room 0 (2 * n) B (omega (arith, lanes.most)) long-B

        position : (i : ℕ) → i < n → get_or (s ++ drop (2 * n) room) i 0 ≡ get_or S i 0
        position i h =
            ap (λ (l : List ℕ). get_or (l ++ drop (2 * n) room) i 0) is ∙ get_or-append B (drop (2 * n) room) 0 i (omega (arith, long-B))
            ∙ get_or-append S (gathered_row n W o k (take n room)) 0 i (omega (arith, long-S))

        rest : (l : ℕ) → get_or (drop captured_from (s ++ drop (2 * n) room)) l 0 ≡ get_or (drop captured_from room) l 0
        rest l =
            get_or-drop captured_from (s ++ drop (2 * n) room) l 0 ∙ ap (λ (x : List ℕ). get_or x (captured_from + l) 0) first
            ∙ sets_over room 0 B (captured_from + l) (omega (arith, long-B, lanes.most)) ∙ sym (get_or-drop captured_from room l 0)

        caught : captured n W o k (s ++ drop (2 * n) room) (drop captured_from (s ++ drop (2 * n) room)) ≡ captured n W o k S (drop captured_from room)
        caught = capture_ext n W o k _ _ _ _ inside position (λ l h. rest l)

-- the captured words that are lent are the first 256 of those from their start on
pub store_room_is : (n : ℕ) (W old new : List ℕ) (o : ℕ) (room new' : List ℕ) → normal_at W o ≤ 256
    → new' ≡ sets new (start_at W o) (list_of (stored_word n W o old (take (normal_at W o) (take 256 (drop captured_from room)))) (normal_at W o))
    → new' ≡ sets new (start_at W o) (list_of (stored_word n W o old (take (normal_at W o) (drop captured_from room))) (normal_at W o))
store_room_is n W old new o room new' few f =
    f ∙ ap (λ (x : List ℕ). sets new (start_at W o) (list_of (stored_word n W o old x) (normal_at W o))) (take-take (normal_at W o) 256 (drop captured_from room) few)

-- ---- where a block begins

pub begins_empty : (W : List ℕ) (o x : ℕ) → x ≡ stages_at W o → x ≡ 0 → finished ≡ (begins W o).phase
unfolding begins
begins_empty W o x e h = rw (eq-eqb (stages_at W o) 0 (sym e ∙ h), begins)

pub begins_part : (W : List ℕ) (o x : ℕ) → x ≡ stages_at W o → (x ≡ 0 → ⊥) → to_read ≡ (begins W o).phase
unfolding begins
begins_part W o x e h = rw (ne_eqb (stages_at W o) 0 (λ q. h (e ∙ q)), begins)

-- ---- a block with a turn to take is not finished

module _ (f : Phase) where
  pub read_going : f ≡ to_read → going f ≡ true
  unfolding going
  read_going e = ap going e

  pub stage_going : f ≡ to_stage → going f ≡ true
  unfolding going
  stage_going e = ap going e

  pub store_going : f ≡ to_store → going f ≡ true
  unfolding going
  store_going e = ap going e

-- ---- the turns

-- block, new state and room after a turn in a phase
abbrev pub TurnDone : ℕ → List ℕ → List ℕ → List ℕ → (o : ℕ) → Phase → (k : ℕ) → List ℕ → (o' : ℕ) → Phase → (k' : ℕ) → List ℕ → List ℕ → Type 0
TurnDone n W old new o phase k room o' phase' k' room' new' =
    (state_block n W o' phase' k' room' ≡ turned n (levels_for n) W old phase (state_block n W o phase k room) new)
    × ((new' ≡ written n W old phase (state_block n W o phase k room) new) × (room' ≡ room_turned n (levels_for n) W o k old new phase room))

abbrev block : (part : ℕ) → Phase → (stage : ℕ) → List ℕ → List ℕ → Block
block o f k row caps = record { part = o; phase = f; stage = k; row = row; caps = caps }

after_last : (n : ℕ) (W : List ℕ) (b : Block) → last_at W b.part ≡ 1 → after_store n W b ≡ ended b.part
unfolding after_store
after_last n W b h = rw (eq-eqb (last_at W b.part) 1 h, after_store)

after_next : (n : ℕ) (W : List ℕ) (b : Block) → (last_at W b.part ≡ 1 → ⊥) → after_store n W b ≡ begins W (end_at n W b.part)
unfolding after_store
after_next n W b h = rw (ne_eqb (last_at W b.part) 1 h, after_store)

module _ (n : ℕ) (lanes : Lanes n) (W old new : List ℕ) (o : ℕ) (phase : Phase) (k : ℕ) (room : List ℕ) (long : length room ≡ block_room) (caught : Captures n W o) where
  few : normal_at W o ≤ 256
  few = omega (arith, caught.few, lanes.most)

  pub read_done : (room' : List ℕ) → phase ≡ to_read → room' ≡ room_read n W o old new room → TurnDone n W old new o phase k room o to_stage 0 room' new
  unfolding state_block held holds turned after_read written room_turned room_read
  read_done room' e f = rw e (ap₂ (block o to_stage 0) row caps, (refl, f))
    where
      R : List ℕ
      R = read_row n W o old new

      Z : List ℕ
      Z = replicate 256 0

      row : take n room' ≡ read_row n W o old new
      row =
          ap (take n) f ∙ take_sets n (sets room 0 R) captured_from Z (omega arith) ∙ ap (λ (m : ℕ). take m (sets room 0 R)) (sym (read_length n W o old new))
          ∙ sets_in room 0 R (omega (arith, read_length n W o old new))

      caps : take (normal_at W o) (drop captured_from room') ≡ replicate (normal_at W o) 0
      caps =
          ap (λ (r : List ℕ). take (normal_at W o) (drop captured_from r)) f
          ∙ sets-part (normal_at W o) (sets room 0 R) captured_from Z (omega (arith, length-replicate {A = ℕ} 256 0)) (omega (arith, length-replicate {A = ℕ} 256 0, length-sets room 0 R))
          ∙ zeros_front 256 (normal_at W o) few

  stage-row : (room' : List ℕ) → room' ≡ room_staged n (levels_for n) W o k room → take n room' ≡ stage_row n (levels_for n) W o k (take n room)
  unfolding room_staged
  stage-row room' f =
      let S = stage_row n (levels_for n) W o k (take n room) in
      let B = S ++ gathered_row n W o k (take n room) in
      ap (take n) f ∙ take_sets n (sets room 0 B) captured_from (captured n W o k S (drop captured_from room)) (omega arith)
      ∙ sets-part n room 0 B (omega (arith, long-B n lanes W o room long k)) (omega (arith, long-B n lanes W o room long k))
      ∙ take_at _ _ n (long-S n lanes W o room long k)

  stage-caps : (room' : List ℕ) → room' ≡ room_staged n (levels_for n) W o k room
      → take (normal_at W o) (drop captured_from room') ≡ captured n W o k (stage_row n (levels_for n) W o k (take n room)) (take (normal_at W o) (drop captured_from room))
  unfolding room_staged
  stage-caps room' f =
      ap (λ (r : List ℕ). take (normal_at W o) (drop captured_from r)) f
      ∙ ap (λ (m : ℕ). take m (drop captured_from (sets (sets room 0 B) captured_from C))) (sym long-C)
      ∙ sets_in (sets room 0 B) captured_from C (omega (arith, long-C, length-sets room 0 B))
      ∙ capture_ext n W o k _ _ _ _ caught.places (λ i h. refl) (λ l h. sym (get_or-take (normal_at W o) (drop captured_from room) l 0 h))
    where
      B : List ℕ
      B = stage_row n (levels_for n) W o k (take n room) ++ gathered_row n W o k (take n room)

      C : List ℕ
      C = captured n W o k (stage_row n (levels_for n) W o k (take n room)) (drop captured_from room)

      long-C : length C ≡ normal_at W o
      long-C = captured_length n W o k _ _

  pub stage_done_last : (room' : List ℕ) → phase ≡ to_stage → room' ≡ room_staged n (levels_for n) W o k room → k + 1 ≡ stages_at W o → TurnDone n W old new o phase k room o to_store (k + 1) room' new
  unfolding state_block held holds turned after_stage written room_turned
  stage_done_last room' e f h = rw (e, eq-eqb (k + 1) (stages_at W o) h) (ap₂ (block o to_store (k + 1)) (stage-row room' f) (stage-caps room' f), (refl, f))

  pub stage_done_more : (room' : List ℕ) → phase ≡ to_stage → room' ≡ room_staged n (levels_for n) W o k room → (k + 1 ≡ stages_at W o → ⊥) → TurnDone n W old new o phase k room o phase (k + 1) room' new
  unfolding state_block held holds turned after_stage written room_turned
  stage_done_more room' e f h = rw (e, ne_eqb (k + 1) (stages_at W o) h) (ap₂ (block o to_stage (k + 1)) (stage-row room' f) (stage-caps room' f), (refl, f))

  -- the new state after the store turn
  abbrev Wrote : List ℕ → Type 0
  Wrote new' = new' ≡ sets new (start_at W o) (list_of (stored_word n W o old (take (normal_at W o) (drop captured_from room))) (normal_at W o))

  pub store_done_last : (new' : List ℕ) → phase ≡ to_store → Wrote new' → last_at W o ≡ 1
      → TurnDone n W old new o phase k room o finished 0 room new'
  unfolding state_block held holds turned ended written stored room_turned
  store_done_last new' e f h = rw e (sym (after_last n W (state_block n W o to_store k room) h), (f, refl))

  pub store_done_next : (new' : List ℕ) (o' : ℕ) (f' : Phase) (k' : ℕ) → phase ≡ to_store → Wrote new' → (last_at W o ≡ 1 → ⊥)
      → o' ≡ end_at n W o → f' ≡ (begins W o').phase → k' ≡ 0 → TurnDone n W old new o phase k room o' f' k' room new'
  unfolding state_block held holds turned begins written stored room_turned
  store_done_next new' o' f' k' e f h p q r = rw e (first, (f, refl))
    where
      begun : (t : Bool) → block o' (elim t [ true ↦ finished | false ↦ to_read ]) 0 (held (elim t [ true ↦ finished | false ↦ to_read ]) (take n room)) (held (elim t [ true ↦ finished | false ↦ to_read ]) (take (normal_at W o') (drop captured_from room)))
          ≡ block o' (elim t [ true ↦ finished | false ↦ to_read ]) 0 [] []
      begun true = refl
      begun false = refl

      first : state_block n W o' f' k' room ≡ after_store n W (state_block n W o to_store k room)
      first = ap₂ (λ (f : Phase) (k : ℕ). state_block n W o' f k room) q r ∙ begun (eqb (stages_at W o') 0) ∙ ap (begins W) p ∙ sym (after_next n W (state_block n W o to_store k room) h)

pub idle_done : (n : ℕ) (W old new : List ℕ) (o : ℕ) (phase : Phase) (k : ℕ) (room : List ℕ) → phase ≡ finished → TurnDone n W old new o phase k room o phase k room new
unfolding turned written room_turned
idle_done n W old new o phase k room e = rw e (refl, (refl, refl))
