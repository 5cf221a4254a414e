-- Sentences of document 01 in its own digits. The definitions that these are about say the same by index arithmetic, by insertion, by going round or by
-- sums; each statement here is a law of them, proved, so that a reader can hold the sentence beside 01 and need not redo the arithmetic.
-- Assumes nothing.
use Rattle.std.specs.Prelude.{◌≡◌, true, false, List, [], ◌∷◌, ◌⊎◌, ℕ, ◌+◌, ◌*◌, ◌-◌, ◌/◌, ◌%◌, ◌^◌, ◌≤◌, ◌<◌, eqb, length, get_or}
use Rattle.std.proofs.Math.Option.{none, some}
use Rattle.words.specs.Edition.{known, levels_for}
use Rattle.words.specs.Section.{section_of}
use Rattle.reads.specs.ReadSet.{Pair, total}
use Rattle.reads.specs.Search.{Lane, ordered, first_room}
use Rattle.plan_record.specs.Record.{edition_of, plan_lanes, count_at, parts_before, slot_at}
use Rattle.plan_counts.specs.Counts.{srams}
use Rattle.plan_blocks.specs.Blocks.{sram_start}
use Rattle.plan_slots.specs.Slots.{slot_a, slot_b}

-- ---- a plan that 29 lets pass has as many lanes as its edition's number says

abbrev pub NamedLanes : Type 0
NamedLanes = (d : List ℕ) → known (edition_of d) ≡ true → plan_lanes d ≡ edition_of d

-- ---- "Level h has 2^(13−h) slots; slot j of level h≥1 stands at position 2^(13−h)+j": 13 is the levels of the full edition. The record has slot j of
-- level 0 at index 2^13 + j

-- the levels of the plan's edition
abbrev pub plan_levels : List ℕ → ℕ
plan_levels d = levels_for (plan_lanes d)

abbrev pub level_slot : List ℕ → (p s h j : ℕ) → ℕ
level_slot d p s h j = slot_at d p s (2 ^ (plan_levels d - h) + j)

-- "At a .. slot j of level h, with a = slot j and b = slot j+2^(13−h) of the level below"
abbrev pub SlotsBelow : Type 0
SlotsBelow =
    (d : List ℕ) (p s h j : ℕ) → 1 ≤ h → h ≤ plan_levels d → j < 2 ^ (plan_levels d - h)
    → (slot_a d p s (2 ^ (plan_levels d - h) + j) ≡ level_slot d p s (h - 1) j)
    × (slot_b d p s (2 ^ (plan_levels d - h) + j) ≡ level_slot d p s (h - 1) (j + 2 ^ (plan_levels d - h)))

-- of n levels, every position but 0 is one slot of one level
pub record LevelOf (n q h j : ℕ) : Type 0 where
  pub above : 1 ≤ h
  pub below : h ≤ n
  pub slot : j < 2 ^ (n - h)
  pub position : 2 ^ (n - h) + j ≡ q

abbrev pub OneLevel : Type 0
OneLevel =
    (n q : ℕ) → n ≤ 13 → 0 < q → q < 2 ^ n → (h : ℕ) × (j : ℕ) × LevelOf n q h j × ((h' j' : ℕ) → LevelOf n q h' j' → (h' ≡ h) × (j' ≡ j))

-- ---- "order pieces by total mask bits, most first"

abbrev pub MostFirst : Type 0
MostFirst = (ps : List (List Pair)) (i j : ℕ) → i < j → j < length ps → total (get_or (ordered ps) j []) ≤ total (get_or (ordered ps) i [])

-- "equal totals keeping their order": the pieces of each total are the same ones in the same order, before and after
unfoldable pub of_total : ℕ → List (List Pair) → List (List Pair)
of_total t [] = []
of_total t (p ∷ ps) = elim (eqb (total p) t) [ true ↦ p ∷ of_total t ps | false ↦ of_total t ps ]

abbrev pub EqualKept : Type 0
EqualKept = (t : ℕ) (ps : List (List Pair)) → of_total t (ordered ps) ≡ of_total t ps

-- ---- "Each pair goes to the first lane, going round from the current one, whose bits plus the pair's are at most 32": lane j is the current one, b
-- the pair's bits; lane i is k further on, and the k lanes before it lack room

pub record FirstLane (n : ℕ) (lanes : List Lane) (b j i k : ℕ) : Type 0 where
  pub once-round : k < n
  pub lane : i ≡ (j + k) % n
  pub room : total (get_or lanes i []) + b ≤ 32
  pub passed_over : (m : ℕ) → m < k → 32 < total (get_or lanes ((j + m) % n) []) + b

abbrev pub FirstWithRoom : Type 0
FirstWithRoom = (n : ℕ) (lanes : List Lane) (b j i : ℕ) → j < n → first_room n n lanes b j ≡ some i → (k : ℕ) × FirstLane n lanes b j i k

-- "If all 256 lanes lack room the try ends"
abbrev pub AllLackRoom : Type 0
AllLackRoom = (n : ℕ) (lanes : List Lane) (b j : ℕ) → j < n → first_room n n lanes b j ≡ none → (i : ℕ) → i < n → 32 < total (get_or lanes i []) + b

-- ---- "a permutation of 8192 halves (entry 32t+8k+2h+e in word 1024k+4t+h, low half for e=0)"; with n lanes 32n halves, and 4n·k for 1024k, which
-- "reads 512k" in the small edition

abbrev pub EntriesInWords : Type 0
EntriesInWords =
    (n : ℕ) (f : ℕ → ℕ) → ((i : ℕ) → i < 32 * n → f i < 2 ^ 16) → (t k h : ℕ) → t < n → k < 4 → h < 4
    → (get_or (section_of n f) (4 * n * k + 4 * t + h) 0 % 2 ^ 16 ≡ f (32 * t + 8 * k + 2 * h + 0))
    × (get_or (section_of n f) (4 * n * k + 4 * t + h) 0 / 2 ^ 16 ≡ f (32 * t + 8 * k + 2 * h + 1))

-- ---- "SRAM start by 8192 per SRAM": the ranges of two parts lie apart

abbrev pub SramApart : Type 0
SramApart =
    (d : List ℕ) (s t i j : ℕ) → i < count_at d s → j < count_at d t → (parts_before d s + i ≡ parts_before d t + j → ⊥)
    → (sram_start d s i + 8192 * srams d (parts_before d s + i) ≤ sram_start d t j) ⊎ (sram_start d t j + 8192 * srams d (parts_before d t + j) ≤ sram_start d s i)
