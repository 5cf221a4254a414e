-- Laws of the record's words: a word is there or it is 0; the numbers of a plan stand in their order.
-- Assumes nothing.
use mathlib.Core.Path.{◌≡◌, refl, sym, ap}
use mathlib.Core.Bool.{Bool, true, false}
use mathlib.Core.Logic.{inl, inr, ⊎_elim}
use mathlib.Core.List.{List}
use Prim.Native.Nat.{ℕ, zero, suc, ◌+◌, ◌*◌, ◌-◌, ◌≤◌, ◌<◌}
use native.Mathlib.Nat.{mul-le-mul}
use native.Mathlib.Omega.{arith}
use native.Mathlib.Numerals.{add-one}
use borrow.Author.Tests.{le-leb, lt-leb, eq-eqb, ne_eqb}
use lib.Dec.{eqb}
use lib.ListN.{length, get_or}
use Rattle.words.specs.Edition.{Known}
use Rattle.words.proofs.EditionLaws.{known_least, known_most, runs_in}
use Rattle.words.proofs.SumLaws.{sum_more}
use Rattle.words.proofs.BitLaws.{lt_or_ge}
use Rattle.plan_record.specs.Record.{position_words, part_head_words, endpoint_words, slot_words, table_words, edition_of, plan_lanes, slots_of}
use Rattle.plan_record.specs.Record.{word_at, gates_of, layout_of, positions_of, gate_base, layout_base, position_base, count_at, parts_before, parts_of, head_base, stages_of, endpoints_of, locations_in, body_words, body_at, count_base, slot_base, location_base, table_base}

pub word_there : (d : List ℕ) (i : ℕ) → 4 * i + 4 ≤ length d
    → word_at d i ≡ get_or d (4 * i) 0 + 256 * get_or d (4 * i + 1) 0 + 65536 * get_or d (4 * i + 2) 0 + 16777216 * get_or d (4 * i + 3) 0
unfolding word_at
word_there d i h = rw (le-leb _ _ h, word_at)

pub word_missing : (d : List ℕ) (i : ℕ) → length d < 4 * i + 4 → word_at d i ≡ 0
unfolding word_at
word_missing d i h = rw (lt-leb _ _ h, word_at)

-- ---- the lanes

-- they are an edition's, whatever the word says
pub lanes_known : (d : List ℕ) → Known (plan_lanes d)
unfolding plan_lanes
lanes_known d = go (eqb (edition_of d) 128) refl
  where
    go : (b : Bool) → eqb (edition_of d) 128 ≡ b → Known (plan_lanes d)
    go true e = inr (rw (e, plan_lanes))
    go false e = inl (rw (e, plan_lanes))

pub lanes_small : (d : List ℕ) (x : ℕ) → x ≡ edition_of d → x ≡ 128 → 128 ≡ plan_lanes d
unfolding plan_lanes
lanes_small d x h e = sym (rw (eq-eqb (edition_of d) 128 (omega arith), plan_lanes))

pub lanes_other : (d : List ℕ) (x : ℕ) → x ≡ edition_of d → (x ≡ 128 → ⊥) → 256 ≡ plan_lanes d
unfolding plan_lanes
lanes_other d x h n = sym (rw (ne_eqb (edition_of d) 128 (λ e. n (omega arith)), plan_lanes))

pub lanes_range : (d : List ℕ) → (128 ≤ plan_lanes d) × (plan_lanes d ≤ 256)
lanes_range d = (known_least (plan_lanes d) (lanes_known d), known_most (plan_lanes d) (lanes_known d))

-- the slots of level 0 are more than none
pub one_more : (d : List ℕ) → suc (slots_of d - 1) ≡ slots_of d
one_more d = omega (arith, lanes_range d)

-- the slots of a stage have indices 1 .. 64n − 1
pub slot_words_lem : (n : ℕ) → 128 ≤ n → slot_words n + 1 ≡ 64 * n
unfolding slot_words
slot_words_lem n h = omega arith

-- a slot of stage s is inside the slots of m stages
pub slot_inside : (n s m q : ℕ) → 128 ≤ n → s < m → 1 ≤ q → q < 64 * n → slot_words n * s + (q - 1) < slot_words n * m
slot_inside n s m q h l a b = omega (arith, slot_words_lem n h, runs_in (slot_words n) s m l)

-- the slots of at most 255 stages are few
pub stages_few : (n s : ℕ) → n ≤ 256 → s ≤ 255 → (64 * n - 1) * s ≤ 16383 * 255
stages_few n s h l = let k : 64 * n - 1 ≤ 16383 = omega arith in mul-le-mul k l

-- ---- the lists before the part heads: their words are before those of the heads

pub gate_before_lem : (d : List ℕ) (g : ℕ) → g < gates_of d → gate_base d + 3 * g + 2 < head_base d
unfolding head_base position_base layout_base
gate_before_lem d g h = omega arith

pub layout_before : (d : List ℕ) (i : ℕ) → i < layout_of d → layout_base d + i < head_base d
unfolding head_base position_base
layout_before d i h = omega arith

pub position_before : (d : List ℕ) (i : ℕ) → i < positions_of d → position_base d + position_words * i + 3 < head_base d
unfolding head_base
position_before d i h = omega arith

-- ---- sums over the record's counts: one more

pub parts_more : (d : List ℕ) (s : ℕ) → parts_before d (s + 1) ≡ parts_before d s + count_at d s
unfolding parts_before
parts_more d s = sum_more (count_at d) s

pub locations_more : (d : List ℕ) (b n e : ℕ) → locations_in d b (n + 1) e ≡ locations_in d b n e + word_at d (b + endpoint_words * e + n)
unfolding locations_in
locations_more d b n e = sum_more (λ s. word_at d (b + endpoint_words * e + s)) n

-- ---- bodies: each begins where the one before ends

pub body_first : (d : List ℕ) → body_at d 0 ≡ head_base d + part_head_words * parts_of d
unfolding body_at
body_first d = refl

pub body_more : (d : List ℕ) (p : ℕ) → body_at d (p + 1) ≡ body_at d p + body_words d (body_at d p) (stages_of d p) (endpoints_of d p)
unfolding body_at
body_more d p = rw add-one

pub body_long : (d : List ℕ) (p : ℕ) → body_at d p + table_words (plan_lanes d) ≤ body_at d (p + 1)
unfolding body_words
body_long d p = omega (arith, body_more d p)

pub body_mono : (d : List ℕ) (p q : ℕ) → p ≤ q → body_at d p ≤ body_at d q
body_mono d p zero h = let e : p ≡ 0 = omega arith in rw e (omega arith)
body_mono d p (suc q) h =
    ⊎_elim (λ l. omega (arith, body_mono d p q (omega arith), rw add-one at (body_long d q)))
    (λ l. let e : p ≡ suc q = omega arith in rw e (omega arith))
    (lt_or_ge p (suc q))

pub body_step : (d : List ℕ) (p at n e w : ℕ) → at ≡ body_at d p → n ≡ stages_of d p → e ≡ endpoints_of d p → w ≡ body_words d at n e → at + w ≡ body_at d (p + 1)
body_step d p at n e w a b g h = cc (body_more d p)

-- the numbers of a part's head, read from where the heads begin
pub stages_at_lem : (d : List ℕ) (h p : ℕ) → h ≡ head_base d → word_at d (h + part_head_words * p) ≡ stages_of d p
stages_at_lem d h p e = ap (λ (x : ℕ). word_at d (x + part_head_words * p)) e

pub endpoints_at : (d : List ℕ) (h p : ℕ) → h ≡ head_base d → word_at d (h + part_head_words * p + 1) ≡ endpoints_of d p
endpoints_at d h p e = ap (λ (x : ℕ). word_at d (x + part_head_words * p + 1)) e

-- the lists of a body, one after the other
pub tables_end : (d : List ℕ) (p : ℕ) → body_at d (p + 1) ≡ table_base d p + table_words (plan_lanes d)
unfolding table_base location_base slot_base count_base body_words
tables_end d p = omega (arith, body_more d p)
