-- The room as the blocks' rooms side by side: a room that is lent comes back in its place, and the others stay as they are.
-- Assumes nothing.
use mathlib.Core.Path.{◌≡◌, refl, sym, ap, ap₂, ◌∙◌}
use mathlib.Core.Bool.{Bool, true, false}
use mathlib.Core.List.{List, [], ◌∷◌, ◌++◌}
use mathlib.Core.Logic.{⊎_elim}
use Prim.Native.Nat.{ℕ, zero, suc, ◌+◌, ◌*◌, ◌-◌, ◌≤◌, ◌<◌}
use native.Mathlib.Nat.{zero-add, add-zero}
use native.Mathlib.Omega.{arith}
use lib.Dec.{eqb}
use lib.ListN.{length, get_or, take, drop, set}
use lib.Seq.{sets, length-sets}
use Rattle.words.proofs.BitLaws.{lt_or_ge}
use Rattle.words.proofs.TestLaws.{not_both}
use Rattle.words.proofs.ListLaws.{put_sets}
use Rattle.run_machine.specs.Part.{stages_at, normal_at}
use Rattle.run_machine.specs.Turn.{Phase, to_read, to_stage, to_store, finished, Block, begins, ended}
use Rattle.run_machine.specs.Room.{block_room, captured_from, part_low, block_state_words}
use Rattle.run_machine.specs.Run.{blocks_from}
use Rattle.run_turns.specs.Block.{holds, held, state_block}
use Rattle.run_machine.proofs.SetsLaws.{sets_in, sets-under, sets_over}
use Rattle.run_machine.proofs.BlockRoomLaws.{part_long, part_ext, state_part, state_phase, state_stage, state_positions, state_captured}
use Rattle.run.specs.States.{room_of, room_block, blocks_in}

-- ---- the rooms of blocks

-- the code's length of room b, which is lent
abbrev size : ℕ → ℕ
size b = block_room * b + block_room - block_room * b

size_is : (b : ℕ) → size b ≡ block_room
size_is b = omega arith

pub lent_room : (room : List ℕ) (b : ℕ) → take (size b) (drop (block_room * b) room) ≡ room_of room b
unfolding room_of
lent_room room b = ap (λ (n : ℕ). take n (drop (block_room * b) room)) (size_is b)

-- r given back for it
abbrev pub lent : List ℕ → ℕ → List ℕ → List ℕ
lent room b r = take (block_room * b) room ++ (r ++ drop (size b) (drop (block_room * b) room))

module _ (room : List ℕ) (b : ℕ) (r : List ℕ) (fits : block_room * b + block_room ≤ length room) (long : length r ≡ block_room) where
  lent-sets : lent room b r ≡ sets room (block_room * b) r
  lent-sets = ap (λ (n : ℕ). take (block_room * b) room ++ (r ++ drop n (drop (block_room * b) room))) (size_is b) ∙ put_sets room (block_room * b) block_room r fits long

  pub lent_long : length (lent room b r) ≡ length room
  lent_long = ap length lent-sets ∙ length-sets room (block_room * b) r

  pub lent_same : room_of (lent room b r) b ≡ r
  unfolding room_of
  lent_same = ap (λ (l : List ℕ). take block_room (drop (block_room * b) l)) lent-sets ∙ ap (λ (n : ℕ). take n (drop (block_room * b) (sets room (block_room * b) r))) (sym long)
      ∙ sets_in room (block_room * b) r (omega arith)

  pub lent_other : (a : ℕ) → block_room * a + block_room ≤ length room → (a ≡ b → ⊥) → room_of (lent room b r) a ≡ room_of room a
  unfolding room_of
  lent_other a h d = part_ext block_room (block_room * a) room (lent room b r) h lent_long each
    where
      each : (i : ℕ) → i < block_room → get_or (lent room b r) (block_room * a + i) 0 ≡ get_or room (block_room * a + i) 0
      each i g =
          ap (λ (l : List ℕ). get_or l (block_room * a + i) 0) lent-sets
          ∙ ⊎_elim (λ under. sets-under room (block_room * b) r (block_room * a + i) (omega arith))
          (λ over. sets_over room (block_room * b) r (block_room * a + i) (let n : b < a = ne-lt over in omega (arith, n))) (lt_or_ge a b)
        where
          ne-lt : b ≤ a → b < a
          ne-lt o = ⊎_elim (λ l. l) (λ g. absurd (d (omega arith))) (lt_or_ge b a)

pub room_long : (room : List ℕ) (b : ℕ) → block_room * b + block_room ≤ length room → length (room_of room b) ≡ block_room
unfolding room_of
room_long room b h = part_long block_room (block_room * b) room h

-- ---- a state stored

ap₃ : (g : ℕ → Phase → ℕ → Block) {a a' : ℕ} {b b' : Phase} {c c' : ℕ} → a ≡ a' → b ≡ b' → c ≡ c' → g a b c ≡ g a' b' c'
ap₃ g p q r = rw (p, q, r)

abbrev block : (part : ℕ) → Phase → (stage : ℕ) → List ℕ → List ℕ → Block
block o f k row caps = record { part = o; phase = f; stage = k; row = row; caps = caps }

kept : (f : Phase) (l l' : List ℕ) → (holds f ≡ true → l ≡ l') → held f l ≡ held f l'
unfolding held holds
kept to_read l l' e = refl
kept to_stage l l' e = e refl
kept to_store l l' e = e refl
kept finished l l' e = refl

pub stored_block : (n : ℕ) (W room : List ℕ) (p : ℕ) (f : Phase) (k : ℕ) → length room ≡ block_room → (holds f ≡ true → (n ≤ 256) × (normal_at W p ≤ 256))
    → room_block n W (sets room part_low (block_state_words p f k)) ≡ state_block n W p f k room
unfolding room_block state_block
stored_block n W room p f k long few =
    ap₃ (λ (x : ℕ) (y : Phase) (z : ℕ). state_block n W x y z S) (state_part room p f k long) (state_phase room p f k long) (state_stage room p f k long)
    ∙ ap₂ (block p f k)
    (kept f (take n S) (take n room) (λ h. state_positions room p f k long n (few h).0))
    (kept f (take (normal_at W p) (drop captured_from S)) (take (normal_at W p) (drop captured_from room)) (λ h. state_captured room p f k long (normal_at W p) (few h).1))
  where
    S : List ℕ
    S = sets room part_low (block_state_words p f k)

-- ---- a block that begins needs nothing of its room

module _ (n : ℕ) (W : List ℕ) (o : ℕ) (room : List ℕ) where
  abbrev first : Bool → Phase
  first t = elim t [ true ↦ finished | false ↦ to_read ]

  first-free : (t : Bool) → holds (first t) ≡ true → ⊥
  unfolding holds
  first-free true h = not_both false h refl
  first-free false h = not_both false h refl

  begun : (t : Bool) → block o (first t) 0 (held (first t) (take n room)) (held (first t) (take (normal_at W o) (drop captured_from room))) ≡ block o (first t) 0 [] []
  unfolding held holds
  begun true = refl
  begun false = refl

  pub stored_begins : (p : ℕ) (f : Phase) (k : ℕ) → length room ≡ block_room → p ≡ o → f ≡ (begins W o).phase → k ≡ 0
      → room_block n W (sets room part_low (block_state_words p f k)) ≡ begins W o
  unfolding state_block begins
  stored_begins p f k long e g h =
      ap₃ (λ (p : ℕ) (f : Phase) (k : ℕ). room_block n W (sets room part_low (block_state_words p f k))) e g h
      ∙ stored_block n W room o (begins W o).phase 0 long (λ a. absurd (first-free (eqb (stages_at W o) 0) a))
      ∙ begun (eqb (stages_at W o) 0)

-- ---- the blocks

module _ (n : ℕ) (W room room' : List ℕ) where
  pub blocks_same : (m i : ℕ) → ((b : ℕ) → i ≤ b → b < i + m → room_of room' b ≡ room_of room b) → blocks_in n W room' m i ≡ blocks_in n W room m i
  unfolding blocks_in
  blocks_same zero i h = refl
  blocks_same (suc m) i h = ap₂ ◌∷◌ (ap (room_block n W) (h i (omega arith) (omega arith))) (blocks_same m (i + 1) (λ b l u. h b (omega arith) (omega arith)))

  -- block i + t is another one
  pub blocks_set : (m i t : ℕ) (x : Block) → t < m → ((b : ℕ) → i ≤ b → b < i + m → (b ≡ i + t → ⊥) → room_of room' b ≡ room_of room b) → room_block n W (room_of room' (i + t)) ≡ x
      → blocks_in n W room' m i ≡ set (blocks_in n W room m i) t x
  unfolding blocks_in
  blocks_set zero i t x l h e = absurd (omega arith)
  blocks_set (suc m) i zero x l h e =
      ap₂ ◌∷◌ (ap (λ (b : ℕ). room_block n W (room_of room' b)) (sym (add-zero i)) ∙ e)
      (blocks_same m (i + 1) (λ b k u. h b (omega arith) (omega arith) (λ (q : b ≡ i + 0). omega arith)))
  blocks_set (suc m) i (suc t) x l h e =
      let there : i + 1 + t ≡ i + suc t = omega arith in
      ap₂ ◌∷◌ (ap (room_block n W) (h i (omega arith) (omega arith) (λ (q : i ≡ i + suc t). omega arith)))
      (blocks_set m (i + 1) t x (omega arith) (λ b k u n. h b (omega arith) (omega arith) (λ (q : b ≡ i + suc t). n (omega arith))) (ap (λ (b : ℕ). room_block n W (room_of room' b)) there ∙ e))

pub blocks_at : (n : ℕ) (W room : List ℕ) (m i t : ℕ) (d : Block) → t < m → get_or (blocks_in n W room m i) t d ≡ room_block n W (room_of room (i + t))
unfolding blocks_in
blocks_at n W room zero i t d l = absurd (omega arith)
blocks_at n W room (suc m) i zero d l = ap (λ (b : ℕ). room_block n W (room_of room b)) (sym (add-zero i))
blocks_at n W room (suc m) i (suc t) d l =
    let there : i + 1 + t ≡ i + suc t = omega arith in
    blocks_at n W room m (i + 1) t d (omega arith) ∙ ap (λ (b : ℕ). room_block n W (room_of room b)) there

-- ---- all blocks begun, as the code begins them

-- the first b blocks
abbrev pub Begun : List ℕ → List ℕ → List ℕ → ℕ → Type 0
Begun W starts room b = (n a : ℕ) → a < b → room_block n W (room_of room a) ≡ begins W (get_or starts a 0)

pub begun_more : (W starts room : List ℕ) (b : ℕ) (r : List ℕ) → Begun W starts room b → block_room * b + block_room ≤ length room → length r ≡ block_room
    → ((n : ℕ) → room_block n W r ≡ begins W (get_or starts b 0)) → Begun W starts (lent room b r) (b + 1)
begun_more W starts room b r h fits long e n a l =
    ⊎_elim
    (λ under. ap (room_block n W) (lent_other room b r fits long a (omega arith) (λ (q : a ≡ b). omega arith)) ∙ h n a under)
    (λ over. let q : a ≡ b = omega arith in rw q (ap (room_block n W) (lent_same room b r fits long) ∙ e n))
    (lt_or_ge a b)

-- block b begun in its room
pub begun_next : (W starts room : List ℕ) (b p : ℕ) (f : Phase) (k : ℕ) (r : List ℕ) → Begun W starts room b → block_room * b + block_room ≤ length room
    → p ≡ get_or starts b 0 → f ≡ (begins W (get_or starts b 0)).phase → k ≡ 0 → r ≡ sets (take (size b) (drop (block_room * b) room)) part_low (block_state_words p f k)
    → (length (lent room b r) ≡ length room) × Begun W starts (lent room b r) (b + 1)
begun_next W starts room b p f k r h fits e g z is = (lent_long room b r fits long, begun_more W starts room b r h fits long (λ n. ap (room_block n W) is' ∙ stored_begins n W (get_or starts b 0) (room_of room b) p f k (room_long room b fits) e g z))
  where
    is' : r ≡ sets (room_of room b) part_low (block_state_words p f k)
    is' = is ∙ ap (λ (l : List ℕ). sets l part_low (block_state_words p f k)) (lent_room room b)

    long : length r ≡ block_room
    long = ap length is' ∙ length-sets (room_of room b) part_low (block_state_words p f k) ∙ room_long room b fits

pub begun_all : (n : ℕ) (W starts room : List ℕ) (m i : ℕ) → ((b : ℕ) → i ≤ b → b < i + m → room_block n W (room_of room b) ≡ begins W (get_or starts b 0))
    → blocks_in n W room m i ≡ blocks_from W starts m i
unfolding blocks_in blocks_from
begun_all n W starts room zero i h = refl
begun_all n W starts room (suc m) i h = ap₂ ◌∷◌ (h i (omega arith) (omega arith)) (begun_all n W starts room m (i + 1) (λ b l u. h b (omega arith) (omega arith)))

-- the same read back
from_at : (W starts : List ℕ) (m i t : ℕ) (d : Block) → t < m → get_or (blocks_from W starts m i) t d ≡ begins W (get_or starts (i + t) 0)
unfolding blocks_from
from_at W starts zero i t d l = absurd (omega arith)
from_at W starts (suc m) i zero d l = ap (λ (b : ℕ). begins W (get_or starts b 0)) (sym (add-zero i))
from_at W starts (suc m) i (suc t) d l =
    let there : i + 1 + t ≡ i + suc t = omega arith in
    from_at W starts m (i + 1) t d (omega arith) ∙ ap (λ (b : ℕ). begins W (get_or starts b 0)) there

pub begun_at : (n : ℕ) (W starts room : List ℕ) (m : ℕ) → blocks_in n W room m 0 ≡ blocks_from W starts m 0 → (b : ℕ) → b < m → room_block n W (room_of room b) ≡ begins W (get_or starts b 0)
begun_at n W starts room m e b l =
    ap (λ (a : ℕ). room_block n W (room_of room a)) (sym (zero-add b)) ∙ sym (blocks_at n W room m 0 b (ended 0) l) ∙ ap (λ (bs : List Block). get_or bs b (ended 0)) e
    ∙ from_at W starts m 0 b (ended 0) l ∙ ap (λ (a : ℕ). begins W (get_or starts a 0)) (zero-add b)
