-- A block's turn: document 01, "The run", sentence by sentence. n is the number of lanes and 2^H the number of positions, 32n; W the words, old and
-- new the states.
-- Assumes nothing.
use Rattle.std.specs.Prelude.{Bool, true, false, List, [], ℕ, zero, suc, ◌+◌, ◌*◌, ◌-◌, ◌/◌, ◌%◌, ◌^◌, min, max, leb, ltb, eqb, get_or, replicate}
use Rattle.std.specs.Int.Bits.{differ}
use Rattle.std.proofs.lemmas.List.Edits.{sets}
use Rattle.words.specs.Bit.{bit, bit_at, word_of}
use Rattle.words.specs.Section.{list_of}
use Rattle.reads.specs.ReadTurn.{lane_word}
use Rattle.run_machine.specs.Part.{stages_at, last_at, start_at, rounds_at, normal_at, end_at, location_in, read_word_at, read_mask_at, entry_at, lane_word_at}

-- "In the read turn the one-word window comes from the old state or the new, by bit 31."
unfoldable pub state_word : List ℕ → List ℕ → ℕ → ℕ
state_word old new w = elim (ltb w (2 ^ 31)) [ true ↦ get_or old w 0 | false ↦ get_or new (w - 2 ^ 31) 0 ]

-- "Unused lane bits are 0": the words of the lanes after the read turn
unfoldable pub read_row : ℕ → List ℕ → ℕ → List ℕ → List ℕ → List ℕ
read_row n W o old new =
    list_of (λ i. lane_word (λ r. state_word old new (read_word_at n W o r i)) (λ r. read_mask_at n W o r i) (rounds_at W o)) n

-- "(a xor xora) and ((b xor xorb) or orb)", on bits
unfoldable pub gate : ℕ → ℕ → ℕ → ℕ → ℕ → ℕ
gate a b xa xb ob = min (differ a xa) (max (differ b xb) ob)

-- at position q of section k
unfoldable pub gate_at : ℕ → List ℕ → ℕ → ℕ → ℕ → ℕ → ℕ → ℕ
gate_at n W o k q a b =
    gate a b (bit (lane_word_at n W o k (q / 32) 0) (q % 32)) (bit (lane_word_at n W o k (q / 32) 1) (q % 32)) (bit (lane_word_at n W o k (q / 32) 2) (q % 32))

-- "A stage gathers by permutation, then level by level": the bit at position q of the level of m slots, which is h above level 0. A bit that is
-- gathered, entry i of level 0, has position 32n + i.
unfoldable pub level_bit : ℕ → List ℕ → ℕ → ℕ → List ℕ → ℕ → ℕ → ℕ → ℕ
level_bit n W o k row zero m q = bit_at row (entry_at n W o k (q - 32 * n))
level_bit n W o k row (suc h) m q = gate_at n W o k q (level_bit n W o k row h (2 * m) (q + m)) (level_bit n W o k row h (2 * m) (q + 2 * m))

-- the bit at position q: its level has 2^s slots, for the highest s below t with 2^s not above q; "position 0 holds 0"
unfoldable pub position_bit : ℕ → ℕ → List ℕ → ℕ → ℕ → List ℕ → ℕ → ℕ → ℕ
position_bit n H W o k row zero q = 0
position_bit n H W o k row (suc s) q =
    elim (leb (2 ^ s) q) [ true ↦ level_bit n W o k row (H - s) (2 ^ s) q | false ↦ position_bit n H W o k row s q ]

-- the positions after stage k
unfoldable pub stage_row : ℕ → ℕ → List ℕ → ℕ → ℕ → List ℕ → List ℕ
stage_row n H W o k row = list_of (λ w. word_of (λ b. position_bit n H W o k row H (32 * w + b)) 32) n

-- "A write-out location w captures positions 32w..32w+31", of its stage: the captured words after stage k
unfoldable pub captured : ℕ → List ℕ → ℕ → ℕ → List ℕ → List ℕ → List ℕ
captured n W o k row caps =
    list_of (λ l. elim (eqb (location_in n W o l / 256) k) [ true ↦ get_or row (location_in n W o l % 256) 0 | false ↦ get_or caps l 0 ]) (normal_at W o)

-- ---- request 5/13, "Registers that are not enabled must hold": what is stored

-- "clear where set0 is 1, then invert where inv is 1"
abbrev pub taken : ℕ → ℕ → ℕ → ℕ
taken v set0 inv = differ (min v (1 - set0)) inv

-- "gather .. bits from the captured words (0 beyond the normal ones) by the .. permutation": the bit that place q of section k takes
unfoldable pub gathered_bit : ℕ → List ℕ → ℕ → ℕ → List ℕ → ℕ → ℕ
gathered_bit n W o k caps q =
    taken (bit_at caps (entry_at n W o k q)) (bit (lane_word_at n W o k (q / 32) 1) (q % 32)) (bit (lane_word_at n W o k (q / 32) 0) (q % 32))

-- those of the enable section; and its third lane word
abbrev pub enable_bit : ℕ → List ℕ → ℕ → List ℕ → ℕ → ℕ
enable_bit n W o caps q = gathered_bit n W o (stages_at W o + 1) caps q

abbrev pub data_inv : ℕ → List ℕ → ℕ → ℕ → ℕ
data_inv n W o q = bit (lane_word_at n W o (stages_at W o + 1) (q / 32) 2) (q % 32)

-- "Where that gives 1, store the captured bit xor data inv; where 0, store the old state's bit at the same place."
abbrev pub chosen : ℕ → ℕ → ℕ → ℕ
chosen enable v held = elim (eqb enable 1) [ true ↦ v | false ↦ held ]

-- place q of the part's words, v being its data
unfoldable pub stored_bit : ℕ → List ℕ → ℕ → List ℕ → List ℕ → ℕ → ℕ → ℕ
stored_bit n W o old caps v q = chosen (enable_bit n W o caps q) (differ v (data_inv n W o q)) (bit_at old (32 * start_at W o + q))

-- the same of the 32 places of a lane, from its words: v is the data, g what is gathered and h what is held, by bit
unfoldable pub chosen_bits : (v g h : ℕ → ℕ) → (inv set0 dinv : ℕ) → ℕ
chosen_bits v g h inv set0 dinv = word_of (λ k. chosen (taken (g k) (bit set0 k) (bit inv k)) (differ (v k) (bit dinv k)) (h k)) 32

-- normal word l: its bit k is the stored bit of place 32l + k, its data being the captured bit
unfoldable pub stored_word : ℕ → List ℕ → ℕ → List ℕ → List ℕ → ℕ → ℕ
stored_word n W o old caps l =
    chosen_bits (λ k. bit_at caps (32 * l + k)) (λ k. bit_at caps (entry_at n W o (stages_at W o + 1) (32 * l + k))) (λ k. bit_at old (32 * start_at W o + (32 * l + k)))
    (lane_word_at n W o (stages_at W o + 1) l 0) (lane_word_at n W o (stages_at W o + 1) l 1) (lane_word_at n W o (stages_at W o + 1) l 2)

-- ---- a block's state, and its turn

-- what its next turn does: "read, each stage, store"; "a turn of a finished block does nothing"
pub data Phase : Type 0 where
  to_read : Phase
  to_stage : Phase
  to_store : Phase
  finished : Phase

-- it is not finished
unfoldable pub going : Phase → Bool
going to_read = true
going to_stage = true
going to_store = true
going finished = false

-- where its part begins; what its next turn does; which stage; the positions and the captured words
pub record Block : Type 0 where
  pub part : ℕ
  pub phase : Phase
  pub stage : ℕ
  pub row : List ℕ
  pub caps : List ℕ

-- a block that begins the part at word o: "an empty block is finished"
unfoldable pub begins : List ℕ → ℕ → Block
begins W o = record { part = o; phase = elim (eqb (stages_at W o) 0) [ true ↦ finished | false ↦ to_read ]; stage = 0; row = []; caps = [] }

-- a finished block
unfoldable pub ended : ℕ → Block
ended o = record { part = o; phase = finished; stage = 0; row = []; caps = [] }

unfoldable pub after_read : ℕ → List ℕ → List ℕ → List ℕ → Block → Block
after_read n W old new b =
    record { part = b.part; phase = to_stage; stage = 0; row = read_row n W b.part old new; caps = replicate (normal_at W b.part) 0 }

unfoldable pub after_stage : ℕ → ℕ → List ℕ → Block → Block
after_stage n H W b = record {
  part = b.part;
  phase = elim (eqb (b.stage + 1) (stages_at W b.part)) [ true ↦ to_store | false ↦ to_stage ];
  stage = b.stage + 1;
  row = stage_row n H W b.part b.stage b.row;
  caps = captured n W b.part b.stage (stage_row n H W b.part b.stage b.row) b.caps;
}

unfoldable pub after_store : ℕ → List ℕ → Block → Block
after_store n W b = elim (eqb (last_at W b.part) 1) [ true ↦ ended b.part | false ↦ begins W (end_at n W b.part) ]

-- "The store turn puts normal captured words", by the rule above, "at state start onward."
unfoldable pub stored : ℕ → List ℕ → List ℕ → Block → List ℕ → List ℕ
stored n W old b new = sets new (start_at W b.part) (list_of (stored_word n W b.part old b.caps) (normal_at W b.part))

-- "A turn of a finished block does nothing": the block after a turn in a phase, and the new state after it
unfoldable pub turned : ℕ → ℕ → List ℕ → List ℕ → Phase → Block → List ℕ → Block
turned n H W old to_read b new = after_read n W old new b
turned n H W old to_stage b new = after_stage n H W b
turned n H W old to_store b new = after_store n W b
turned n H W old finished b new = b

unfoldable pub written : ℕ → List ℕ → List ℕ → Phase → Block → List ℕ → List ℕ
written n W old to_read b new = new
written n W old to_stage b new = new
written n W old to_store b new = stored n W old b new
written n W old finished b new = new
