-- The slots of a stage, and refusals 9, 10 and 11: document 01, "Positions and counts", "The script of a part" and the table.
-- Index q of a stage with n lanes: position q for 1 ≤ q < 32n; slot j of level 0 has index 32n + j. For m the largest power of two not above q,
-- slot a stands at q + m and slot b at q + 2m.
-- Assumes nothing.
use Rattle.std.specs.Prelude.{◌≡◌, Bool, true, false, not, ◌&&◌, ◌||◌, List, ℕ, zero, suc, ◌+◌, ◌*◌, ◌-◌, ◌/◌, ◌%◌, ◌^◌, ◌<◌, leb, ltb, eqb}
use Rattle.std.proofs.Math.Option.{Option, none, some}
use Rattle.words.specs.Edition.{Known}
use Rattle.plan_record.specs.Record.{plan_lanes, slots_of, parts_of, stages_of, slot_at, level_at, gate_first, gate_second}
use Rattle.words.specs.Pins.{is_pin, empty}
use Rattle.words.specs.Tests.{first_not, some_below, lowest, Place}
use Rattle.plan_gates.specs.Gates.{gate_of}

-- the largest of 1, 2, .. 2^(n−1) that is not above q; thirteen of them serve both editions
unfoldable pub top_below : ℕ → ℕ → ℕ
top_below zero q = 0
top_below (suc n) q = elim (leb (2 ^ n) q) [ true ↦ 2 ^ n | false ↦ top_below n q ]

abbrev pub top : ℕ → ℕ
top q = top_below 13 q

-- r is that power; with it slots a and b are inside a stage of n lanes where q is one of its positions
pub record TopOf (q r : ℕ) : Type 0 where
  pub is : r ≡ top q
  pub some : 0 < r
  pub inside : (n : ℕ) → Known n → q < 32 * n → q + 2 * r < 64 * n

abbrev pub slot_a : List ℕ → ℕ → ℕ → ℕ → ℕ
slot_a d p s q = slot_at d p s (q + top q)

abbrev pub slot_b : List ℕ → ℕ → ℕ → ℕ → ℕ
slot_b d p s q = slot_at d p s (q + 2 * top q)

-- "an AND gate whose fan-ins are a and b in that order"
unfoldable pub feeds : List ℕ → Option ℕ → ℕ → ℕ → Bool
feeds d none a b = false
feeds d (some g) a b = eqb (gate_first d g / 2) a && eqb (gate_second d g / 2) b

-- 9: "slot pin out of range, or neither empty, a, nor the right gate"
unfoldable pub pin_right : ℕ → Bool
pin_right x = eqb x empty || is_pin x

unfoldable pub slot_right : List ℕ → ℕ → ℕ → ℕ → Bool
slot_right d p s q =
    eqb (slot_at d p s q) empty
    || (is_pin (slot_at d p s q)
    && (eqb (slot_at d p s q) (slot_a d p s q) || feeds d (gate_of d (slot_at d p s q)) (slot_a d p s q) (slot_b d p s q)))

-- item x of a stage is slot x of level 0 and, but for 0, position x
unfoldable pub nine_right : List ℕ → ℕ → ℕ → ℕ → Bool
nine_right d p s x = pin_right (level_at d p s x) && (eqb x 0 || slot_right d p s x)

-- "stage·8192 + position", 8192 being the slots of the edition: a test over stage and item as a test over the items of a part with n lanes, and the
-- lowest item of part p that it refuses
abbrev pub over_items : ℕ → (ℕ → ℕ → Bool) → ℕ → Bool
over_items n right i = right (i / (32 * n)) (i % (32 * n))

unfoldable pub bad_item : List ℕ → (ℕ → ℕ → Bool) → ℕ → Option ℕ
bad_item d right p = first_not (over_items (plan_lanes d) right) (slots_of d * stages_of d p)

unfoldable pub refusal9 : List ℕ → Option Place
refusal9 d = lowest (λ p. bad_item d (nine_right d p) p) (parts_of d)

-- 10: "later-stage pin absent from the stage before": positions from 1 on are looked at
unfoldable pub stands_in : List ℕ → ℕ → ℕ → ℕ → Bool
stands_in d p s x = some_below (λ q. eqb (slot_at d p s (q + 1)) x) (slots_of d - 1)

unfoldable pub ten_right : List ℕ → ℕ → ℕ → ℕ → Bool
ten_right d p zero j = true
ten_right d p (suc s) j = eqb (level_at d p (suc s) j) empty || stands_in d p s (level_at d p (suc s) j)

unfoldable pub refusal10 : List ℕ → Option Place
refusal10 d = lowest (λ p. bad_item d (ten_right d p) p) (parts_of d)

-- 11: "a part computes by gate a pin it reads in stage 0"
unfoldable pub reads_pin : List ℕ → ℕ → ℕ → Bool
reads_pin d p x = some_below (λ j. eqb (level_at d p 0 j) x) (slots_of d)

unfoldable pub eleven_right : List ℕ → ℕ → ℕ → ℕ → Bool
eleven_right d p s q =
    eqb q 0 || eqb (slot_at d p s q) empty || eqb (slot_at d p s q) (slot_a d p s q) || not (reads_pin d p (slot_at d p s q))

unfoldable pub refusal11 : List ℕ → Option Place
refusal11 d = lowest (λ p. bad_item d (eleven_right d p) p) (parts_of d)

-- "A pin standing twice is found at its highest position": of the positions below n, 0 where there is none
unfoldable pub highest_below : List ℕ → ℕ → ℕ → ℕ → ℕ → ℕ
highest_below d p s x zero = 0
highest_below d p s x (suc q) = elim (ltb 0 q && eqb (slot_at d p s q) x) [ true ↦ q | false ↦ highest_below d p s x q ]

abbrev pub highest : List ℕ → ℕ → ℕ → ℕ → ℕ
highest d p s x = highest_below d p s x (slots_of d)
