-- The words of M10's part, written out: what `script` gives for its record (proofs/GateScriptLaws.antt, gate_script).
-- Assumes nothing.
use Rattle.std.specs.Prelude.{List, [], ◌∷◌, ◌++◌, ℕ, zero, suc, replicate}

-- one stage, the last part of its block, one word at state start 1, no SRAM, one round, no duplicate words
unfoldable pub gate_numbers : List ℕ
gate_numbers = 1 ∷ 1 ∷ 1 ∷ 1 ∷ 0 ∷ 0 ∷ 1 ∷ 0 ∷ replicate 120 0

-- location 128 of stage 0, a last odd one
unfoldable pub place_words : List ℕ
place_words = 0xFFFF0080 ∷ replicate 127 0xFFFFFFFF

-- lane 0 reads the bits of pins 1 and 2 of word 0, which come to stand at local positions 1 and 0
unfoldable pub one_round : List ℕ
one_round = 0 ∷ 3 ∷ replicate 510 0

-- entry 0 is that of pin 1, entry 4096 that of pin 2; at position 4096 gate 3 takes its second fan-in inverted: bit 0 of lane 128's second word
unfoldable pub gate_section : List ℕ
gate_section = (1 ∷ replicate 4095 0) ++ (replicate 513 0 ++ (1 ∷ replicate 510 0))

-- the four words of m lanes with inv and set0 1 throughout, and data inv 0: by 5/13 always enabled
unfoldable pub always_on : ℕ → List ℕ
always_on zero = []
always_on (suc m) = 0xFFFFFFFF ∷ 0xFFFFFFFF ∷ 0 ∷ 0 ∷ always_on m

unfoldable pub gate_three : List ℕ
gate_three =
    gate_numbers ++ (place_words ++ (one_round ++ (gate_section ++ ((replicate 4096 0 ++ replicate 1024 0) ++ (replicate 4096 0 ++ always_on 256)))))
