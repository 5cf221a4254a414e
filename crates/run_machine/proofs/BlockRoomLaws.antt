-- A block's room with its state stored: the state is read back, and the positions and the captured words are those of before.
-- Assumes nothing.
use mathlib.Core.Path.{◌≡◌, refl, sym, ap, ap₂, ◌∙◌}
use mathlib.Core.List.{List}
use Prim.Native.Nat.{ℕ, zero, suc, ◌+◌, ◌*◌, ◌/◌, ◌%◌, ◌^◌, ◌≤◌, ◌<◌}
use native.Mathlib.Omega.{arith}
use lib.ListN.{length, get_or, take, drop, set, length-drop, length-set}
use lib.Seq.{sets, length-sets, length-take-le, get_or-take, get_or-drop, get_or-set_same, get_or-set_other, ext_get_or}
use Rattle.run_machine.specs.Turn.{Phase, to_read, to_stage, to_store, finished}
use Rattle.run_machine.specs.Room.{block_room, captured_from, part_low, part_high, phase_word, stage_word, phase_code, phase_from, part_of, phase_of, stage_of, block_state_words}
use Rattle.run_machine.proofs.SetsLaws.{take_sets, sets-under}

-- ---- parts of lists

part_at : (n a : ℕ) (l : List ℕ) (i : ℕ) → i < n → get_or (take n (drop a l)) i 0 ≡ get_or l (a + i) 0
part_at n a l i h = get_or-take n (drop a l) i 0 h ∙ get_or-drop a l i 0

pub part_long : (n a : ℕ) (l : List ℕ) → a + n ≤ length l → length (take n (drop a l)) ≡ n
part_long n a l h = length-take-le n (drop a l) (omega (arith, length-drop a l))

pub part_ext : (n a : ℕ) (l k : List ℕ) → a + n ≤ length l → length k ≡ length l → ((i : ℕ) → i < n → get_or k (a + i) 0 ≡ get_or l (a + i) 0)
    → take n (drop a k) ≡ take n (drop a l)
part_ext n a l k h e same =
    let p : length (take n (drop a k)) ≡ n = part_long n a k (omega arith) in
    ext_get_or 0 _ _ (p ∙ sym (part_long n a l h))
    (λ i g. part_at n a k i (omega arith) ∙ same i (omega arith) ∙ sym (part_at n a l i (omega arith)))

-- ---- a phase is read back

pub phase_back : (f : Phase) → phase_from (phase_code f) ≡ f
unfolding phase_from phase_code
phase_back to_read = refl
phase_back to_stage = refl
phase_back to_store = refl
phase_back finished = refl

-- as the code tells the words apart
pub phase_other : (w : ℕ) → (w ≡ 0 → ⊥) → (w ≡ 1 → ⊥) → (w ≡ 2 → ⊥) → finished ≡ phase_from w
unfolding phase_from
phase_other zero a b c = absurd (a refl)
phase_other (suc zero) a b c = absurd (b refl)
phase_other (suc (suc zero)) a b c = absurd (c refl)
phase_other (suc (suc (suc w))) a b c = refl

-- ---- a state stored

halves : (p : ℕ) → p % 2 ^ 32 + 2 ^ 32 * (p / 2 ^ 32) ≡ p
halves p = omega arith

module _ (room : List ℕ) (p : ℕ) (f : Phase) (k : ℕ) (long : length room ≡ block_room) where
  -- the room with the state
  abbrev S : List ℕ
  S = sets room part_low (block_state_words p f k)

  abbrev r₁ : List ℕ
  r₁ = set room part_low (p % 2 ^ 32)

  abbrev r₂ : List ℕ
  r₂ = set r₁ part_high (p / 2 ^ 32)

  abbrev r₃ : List ℕ
  r₃ = set r₂ phase_word (phase_code f)

  long₁ : length r₁ ≡ block_room
  long₁ = length-set room part_low (p % 2 ^ 32) ∙ long

  long₂ : length r₂ ≡ block_room
  long₂ = length-set r₁ part_high (p / 2 ^ 32) ∙ long₁

  long₃ : length r₃ ≡ block_room
  long₃ = length-set r₂ phase_word (phase_code f) ∙ long₂

  is : S ≡ set r₃ stage_word k
  unfolding block_state_words
  is = refl

  at : (i : ℕ) → get_or S i 0 ≡ get_or (set r₃ stage_word k) i 0
  at i = ap (λ (l : List ℕ). get_or l i 0) is

  low : get_or S part_low 0 ≡ p % 2 ^ 32
  low =
      at part_low ∙ get_or-set_other r₃ stage_word part_low k 0 (omega arith) ∙ get_or-set_other r₂ phase_word part_low (phase_code f) 0 (omega arith)
      ∙ get_or-set_other r₁ part_high part_low (p / 2 ^ 32) 0 (omega arith) ∙ get_or-set_same room part_low (p % 2 ^ 32) 0 (omega arith)

  high : get_or S part_high 0 ≡ p / 2 ^ 32
  high =
      at part_high ∙ get_or-set_other r₃ stage_word part_high k 0 (omega arith) ∙ get_or-set_other r₂ phase_word part_high (phase_code f) 0 (omega arith)
      ∙ get_or-set_same r₁ part_high (p / 2 ^ 32) 0 (omega (arith, long₁))

  pub state_part : part_of S ≡ p
  state_part = ap₂ (λ (x y : ℕ). x + 2 ^ 32 * y) low high ∙ halves p

  pub state_phase : phase_of S ≡ f
  state_phase =
      ap phase_from (at phase_word ∙ get_or-set_other r₃ stage_word phase_word k 0 (omega arith) ∙ get_or-set_same r₂ phase_word (phase_code f) 0 (omega (arith, long₂)))
      ∙ phase_back f

  pub state_stage : stage_of S ≡ k
  state_stage = at stage_word ∙ get_or-set_same r₃ stage_word k 0 (omega (arith, long₃))

  -- positions and captured words, up to 256, are kept
  pub state_positions : (m : ℕ) → m ≤ 256 → take m S ≡ take m room
  state_positions m few = take_sets m room part_low (block_state_words p f k) (omega arith)

  pub state_captured : (m : ℕ) → m ≤ 256 → take m (drop captured_from S) ≡ take m (drop captured_from room)
  state_captured m few =
      part_ext m captured_from room S (omega arith) (length-sets room part_low (block_state_words p f k))
      (λ i h. sets-under room part_low (block_state_words p f k) (captured_from + i) (omega arith))
