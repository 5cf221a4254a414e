-- The lists of a turn, word by word, and what is stored, bit by bit.
-- Assumes nothing.
use mathlib.Core.Path.{◌≡◌, ap, ◌∙◌}
use mathlib.Core.Bool.{Bool, true, false}
use mathlib.Core.List.{List}
use Prim.Native.Nat.{ℕ, ◌+◌, ◌*◌, ◌-◌, ◌/◌, ◌%◌, ◌^◌, ◌<◌, min}
use native.Mathlib.Omega.{arith}
use lib.Bits.{differ}
use lib.Dec.{eqb}
use lib.ListN.{length, get_or}
use Rattle.words.specs.Bit.{bit, bit_at}
use Rattle.words.proofs.BitLaws.{bit_lt, differ_lt, at_lt, word_of_lt, bit_word_of}
use Rattle.words.proofs.SectionLaws.{length_list_of, get_d_list_of}
use Rattle.reads.specs.ReadTurn.{lane_word}
use Rattle.run_machine.specs.Part.{stages_at, start_at, rounds_at, normal_at, location_in, read_word_at, read_mask_at, entry_at, lane_word_at}
use Rattle.run_machine.specs.Turn.{state_word, read_row, captured, taken, gathered_bit, enable_bit, data_inv, chosen, chosen_bits, stored_bit, stored_word}

module _ (n : ℕ) (W : List ℕ) (o : ℕ) where
  pub read_length : (old new : List ℕ) → length (read_row n W o old new) ≡ n
  unfolding read_row
  read_length old new = length_list_of _ n

  pub read_lane : (old new : List ℕ) (i : ℕ) → i < n
      → get_or (read_row n W o old new) i 0 ≡ lane_word (λ r. state_word old new (read_word_at n W o r i)) (λ r. read_mask_at n W o r i) (rounds_at W o)
  unfolding read_row
  read_lane old new i h = get_d_list_of (λ i. lane_word (λ r. state_word old new (read_word_at n W o r i)) (λ r. read_mask_at n W o r i) (rounds_at W o)) n i h

  pub captured_length : (k : ℕ) (row caps : List ℕ) → length (captured n W o k row caps) ≡ normal_at W o
  unfolding captured
  captured_length k row caps = length_list_of _ (normal_at W o)

  pub captured_word_lem : (k : ℕ) (row caps : List ℕ) (l : ℕ) → l < normal_at W o
      → get_or (captured n W o k row caps) l 0 ≡ elim (eqb (location_in n W o l / 256) k) [ true ↦ get_or row (location_in n W o l % 256) 0 | false ↦ get_or caps l 0 ]
  unfolding captured
  captured_word_lem k row caps l h =
      get_d_list_of (λ l. elim (eqb (location_in n W o l / 256) k) [ true ↦ get_or row (location_in n W o l % 256) 0 | false ↦ get_or caps l 0 ]) (normal_at W o) l h

-- ---- what is stored

-- what is cleared, or gathered from where nothing is, gives inv: (set0, inv) = (1, 1) is always, (1, 0) never
pub taken_cleared : (v inv : ℕ) → taken v 1 inv ≡ inv
taken_cleared v inv = let none : min v (1 - 1) ≡ 0 = omega arith in ap (λ (x : ℕ). differ x inv) none

pub taken_nothing : (set0 inv : ℕ) → taken 0 set0 inv ≡ inv
taken_nothing set0 inv = let none : min 0 (1 - set0) ≡ 0 = omega arith in ap (λ (x : ℕ). differ x inv) none

pub taken_lt : (v set0 inv : ℕ) → v < 2 → inv < 2 → taken v set0 inv < 2
taken_lt v set0 inv h l = differ_lt (min v (1 - set0)) inv (omega arith) l

pub chosen_lt : (e v held : ℕ) → v < 2 → held < 2 → chosen e v held < 2
chosen_lt e v held h l = go (eqb e 1)
  where
    go : (b : Bool) → elim b [ true ↦ v | false ↦ held ] < 2
    go true = h
    go false = l

module _ (n : ℕ) (W : List ℕ) (o : ℕ) where
  pub stored_bit_lt : (old caps : List ℕ) (v q : ℕ) → v < 2 → stored_bit n W o old caps v q < 2
  unfolding stored_bit
  stored_bit_lt old caps v q h = chosen_lt (enable_bit n W o caps q) (differ v (data_inv n W o q)) (bit_at old (32 * start_at W o + q)) (differ_lt v (data_inv n W o q) h (bit_lt _ _)) (at_lt old _)

  lane_bit : (caps old : List ℕ) (l k : ℕ) → ℕ
  lane_bit caps old l k =
      chosen
      (taken (bit_at caps (entry_at n W o (stages_at W o + 1) (32 * l + k))) (bit (lane_word_at n W o (stages_at W o + 1) l 1) k) (bit (lane_word_at n W o (stages_at W o + 1) l 0) k))
      (differ (bit_at caps (32 * l + k)) (bit (lane_word_at n W o (stages_at W o + 1) l 2) k)) (bit_at old (32 * start_at W o + (32 * l + k)))

  lane-bit-is : (caps old : List ℕ) (l k : ℕ) → k < 32 → lane_bit caps old l k ≡ stored_bit n W o old caps (bit_at caps (32 * l + k)) (32 * l + k)
  unfolding lane_bit stored_bit gathered_bit
  lane-bit-is caps old l k h =
      let d : (32 * l + k) / 32 ≡ l = omega arith in
      let m : (32 * l + k) % 32 ≡ k = omega arith in
      rw (d, m)

  lane-bit-lt : (caps old : List ℕ) (l k : ℕ) → k < 32 → lane_bit caps old l k < 2
  lane-bit-lt caps old l k h = rw (lane-bit-is caps old l k h) (stored_bit_lt old caps _ (32 * l + k) (at_lt caps _))

  pub stored_word_lt : (old caps : List ℕ) (l : ℕ) → stored_word n W o old caps l < 2 ^ 32
  unfolding stored_word chosen_bits lane_bit
  stored_word_lt old caps l = word_of_lt (lane_bit caps old l) 32 (lane-bit-lt caps old l)

  pub stored_word_bit : (old caps : List ℕ) (l k : ℕ) → k < 32
      → bit (stored_word n W o old caps l) k ≡ stored_bit n W o old caps (bit_at caps (32 * l + k)) (32 * l + k)
  unfolding stored_word chosen_bits lane_bit
  stored_word_bit old caps l k h = bit_word_of (lane_bit caps old l) 32 (lane-bit-lt caps old l) k h ∙ lane-bit-is caps old l k h
