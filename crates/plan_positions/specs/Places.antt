-- The places of refusal 12 in one part; the parts in the order of the state, as the part table names them; and what is known when a
-- part is judged.
-- Assumes nothing.
use Rattle.std.specs.Prelude.{◌≡◌, Bool, true, false, ◌&&◌, List, ℕ, ◌+◌, ◌-◌, ◌/◌, ◌^◌, ◌≤◌, ◌<◌, leb, ltb, eqb, length, get_or, take, replicate}
use Rattle.std.proofs.Math.Option.{Option, none, some}
use Rattle.pinmap.specs.PinMap.{look, after_renewals}
use Rattle.plan_record.specs.declared.bodies.Body.{Body}
use Rattle.words.specs.Tests.{first_not, some_below}
use Rattle.plan_record.specs.Record.{slots_of, parts_of, parts_before}
use Rattle.plan_record.specs.Form.{plan_form}
use Rattle.plan_record.specs.Body.{BodyOf}
use Rattle.plan_blocks.specs.Blocks.{state_words}
use Rattle.plan_rows.specs.Columns as col
use Rattle.plan_rows.specs.Rows.{row_base, cell, cell_at}
use Rattle.plan_blocks.specs.PartTable.{Tabled}
use Rattle.plan_slots.specs.Puts.{filled, read_puts}
use Rattle.plan_positions.specs.Positions.{major_of, normal_word, twelve_right}
use Rattle.plan_winners.specs.Planned.{Planned}
use Rattle.plan_winners.specs.Winners.{winner, planned_by, winner_puts, ListsInRange}

-- the lowest slot of part p that is refused
abbrev pub bad_slot : List ℕ → ℕ → Option ℕ
bad_slot d p = first_not (twelve_right d p) (slots_of d)

-- the part that is k-th in the order of the state, its start and its locations
abbrev pub ranked_part : List ℕ → ℕ → ℕ
ranked_part room k = cell_at room k col.ranked

abbrev pub ranked_start : List ℕ → ℕ → ℕ
ranked_start room k = cell_at room (ranked_part room k) col.state_start

abbrev pub ranked_locations : List ℕ → ℕ → ℕ
ranked_locations room k = cell_at room (ranked_part room k) col.locations

-- word w is one of its normal words
unfoldable pub holds_word : List ℕ → ℕ → ℕ → Bool
holds_word room w k = leb (ranked_start room k) w && ltb w (ranked_start room k + ranked_locations room k)

-- its row, and the row that names it, are in the room
pub record RankedRowIn (room : List ℕ) (k : ℕ) : Type 0 where
  pub few : k < 262144
  pub inside : cell k 16 ≤ length room
  pub part-few : ranked_part room k < 262144
  pub part-inside : cell (ranked_part room k) 16 ≤ length room

-- so it is for the first n parts, each of which ends before the next one starts
pub record Ranked (room : List ℕ) (n : ℕ) : Type 0 where
  pub few : n ≤ 262144
  pub inside : cell n 0 ≤ length room
  pub named : (k : ℕ) → k < n → ranked_part room k < n
  pub apart : (j k : ℕ) → j < k → k < n → ranked_start room j + ranked_locations room j ≤ ranked_start room k

-- the first part of a major stage: of one whose number of earlier parts is `next`, where that is not above p, else of the one before
unfoldable pub latest : ℕ → ℕ → ℕ → ℕ
latest p first next = elim (leb next p) [ true ↦ next | false ↦ first ]

-- ---- refusal 12 of one slot

-- 12, where the earlier major stages have n parts
unfoldable pub position_right_in : List ℕ → ℕ → Option Planned → Bool
position_right_in d n none = false
position_right_in d n (some x) = elim (eqb x.staged 0) [ true ↦ ltb (x.place / 32) (state_words d) | false ↦ normal_word d n (x.place / 32) ]

-- a table of m words with the pins that part p reads, each with the number of the entry that wins for it
abbrev pub planned_table : List ℕ → ℕ → ℕ → List ℕ
planned_table d p m = after_renewals (filled m (read_puts d p)) (winner_puts d)

-- whether the position of pin i of a list is right, in a plan whose first n parts have theirs
abbrev pub listed_pin_right : List ℕ → ℕ → List ℕ → ℕ → Bool
listed_pin_right d n list i = position_right_in d n (planned_by d (winner d (get_or list i 0)))

-- in the first words of the room pin x is found with the entry that wins for it; so are listed pins
pub record WinnerHeld (d room : List ℕ) (x : ℕ) : Type 0 where
  pub small : x < 2 ^ 32 - 1
  pub found : look (take 32768 room) x ≡ some (winner d x)

abbrev pub ListHeld : List ℕ → List ℕ → List ℕ → Type 0
ListHeld d room list = (i : ℕ) → i < length list → WinnerHeld d room (get_or list i 0)

-- the part table can be searched for the normal words of the first n parts, and the state has `state` words
pub record TableSearchable (d room : List ℕ) (state n : ℕ) : Type 0 where
  pub lists : ListsInRange d
  pub size : state ≡ state_words d
  pub rows : Ranked room n
  pub finds : (w : ℕ) → some_below (holds_word room w) n ≡ normal_word d n w

-- and the first words of the room are the table of part p, whose body b is
pub record SlotsReady (d : List ℕ) (p : ℕ) (b : Body) (room : List ℕ) (state n : ℕ) : Type 0 where
  pub body : BodyOf d p b
  pub stages : 0 < b.stages
  pub earlier : n ≡ parts_before d (major_of d p)
  pub searched : TableSearchable d room state n
  pub wide : 32768 ≤ length room
  pub table : take 32768 room ≡ planned_table d p 32768

-- a plan whose part table stands in the room, the first words of which are clear
pub record Judgeable (d room : List ℕ) : Type 0 where
  pub form : plan_form d ≡ true
  pub table : Tabled d room
  pub wide : row_base (parts_of d) ≤ length room
  pub clear : take 32768 room ≡ replicate 32768 0

pub record PartReady (d : List ℕ) (p : ℕ) (b : Body) (room : List ℕ) (state : ℕ) : Type 0 where
  pub plan : Judgeable d room
  pub body : BodyOf d p b
  pub part : p < parts_of d
  pub size : state ≡ state_words d
