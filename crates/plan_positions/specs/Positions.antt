-- The state starts of parts, and refusal 12: document 01, "The script of a part" (look-ups) and the table.
-- Assumes nothing.
use Rattle.std.specs.Prelude.{Bool, true, false, ◌&&◌, ◌||◌, List, ℕ, zero, suc, ◌+◌, ◌-◌, ◌/◌, leb, ltb, eqb}
use Rattle.std.proofs.Math.Option.{Option, none, some}
use Rattle.plan_record.specs.Record.{slots_of, parts_of, majors_of, parts_before, level_at, locations_of}
use Rattle.words.specs.Pins.{empty}
use Rattle.words.specs.Tests.{first_not, some_below, lowest, Place}
use Rattle.plan_winners.specs.Planned.{Planned, planned}
use Rattle.plan_blocks.specs.Blocks.{state_start, state_words}

-- the major stage of part p: the last of the first n whose parts begin at or before p
unfoldable pub major_to : List ℕ → ℕ → ℕ → ℕ
major_to d p zero = 0
major_to d p (suc n) = elim (leb (parts_before d n) p) [ true ↦ n | false ↦ major_to d p n ]

abbrev pub major_of : List ℕ → ℕ → ℕ
major_of d p = major_to d p (majors_of d)

-- the state start of part p of the plan
unfoldable pub part_state_start : List ℕ → ℕ → ℕ
part_state_start d p = state_start d (major_of d p) (p - parts_before d (major_of d p))

-- word w is a normal write-out word of one of the first n parts
unfoldable pub normal_word : List ℕ → ℕ → ℕ → Bool
normal_word d n w = some_below (λ p. leb (part_state_start d p) w && ltb w (part_state_start d p + locations_of d p)) n

-- 12: "stage-0 pin with no position; unstaged word outside the state; staged word not a normal write-out word of an earlier major stage"
unfoldable pub position_right : List ℕ → ℕ → Option Planned → Bool
position_right d s none = false
position_right d s (some x) =
    elim (eqb x.staged 0) [ true ↦ ltb (x.place / 32) (state_words d) | false ↦ normal_word d (parts_before d s) (x.place / 32) ]

unfoldable pub twelve_right : List ℕ → ℕ → ℕ → Bool
twelve_right d p j = eqb (level_at d p 0 j) empty || position_right d (major_of d p) (planned d (level_at d p 0 j))

unfoldable pub refusal12 : List ℕ → Option Place
refusal12 d = lowest (λ p. first_not (twelve_right d p) (slots_of d)) (parts_of d)
