-- A plan that no refusal is given to has passed each one; and each of its parts has lanes.
-- Assumes nothing.
use mathlib.Core.Path.{◌≡◌, refl, sym, ◌∙◌}
use mathlib.Core.Bool.{Bool, true, false}
use mathlib.Core.Option.{Option, none, some}
use mathlib.Core.List.{List}
use Prim.Native.Nat.{ℕ, ◌<◌}
use Rattle.words.specs.Answer.{good}
use Rattle.words.specs.Edition.{known}
use Rattle.plan_record.specs.Record.{edition_of, plan_lanes, parts_of}
use Rattle.words.specs.Tests.{Place}
use Rattle.plan_record.specs.Form.{plan_form}
use Rattle.words.proofs.TestLaws.{some_not_none, lowest_none}
use Rattle.plan_gates.specs.Gates.{bad_gate}
use Rattle.plan_counts.specs.Counts.{refusal7}
use Rattle.plan_blocks.specs.Blocks.{totals_fit}
use Rattle.plan_slots.specs.Slots.{refusal9, refusal10, refusal11}
use Rattle.plan_positions.specs.Positions.{refusal12}
use Rattle.plan_entries.specs.TableEntries.{refusal13}
use Rattle.plan_reads.specs.PartReads.{part_reads, part_packed, refused_reads}
use Rattle.plan_reads.proofs.CheckLaws.{placed_part}
use Rattle.words.specs.declared.refusals.Refusal.{Refusal}
use Rattle.plan_refusals.specs.Refusals.{or_else, unless, gate_place, plan_refusal}
use Rattle.plan_refusals.specs.RefusalGroups.{first, list_refusal, total_refusal, pin_refusal, place_refusal, read_refusal}
use Rattle.plan_refusals.proofs.RefusalOrderLaws.{plan_first}

pub record Passed (d : List ℕ) : Type 0 where
  pub edition : known (edition_of d) ≡ true
  pub form : plan_form d ≡ true
  pub gates : bad_gate d ≡ none
  pub counts : refusal7 d ≡ none
  pub totals : totals_fit d ≡ true
  pub nine : refusal9 d ≡ none
  pub ten : refusal10 d ≡ none
  pub eleven : refusal11 d ≡ none
  pub twelve : refusal12 d ≡ none
  pub thirteen : refusal13 d ≡ none
  pub nothing : refused_reads (plan_lanes d) 3 d ≡ none
  pub bits : refused_reads (plan_lanes d) 21 d ≡ none
  pub wide : refused_reads (plan_lanes d) 22 d ≡ none
  pub no_room : refused_reads (plan_lanes d) 4 d ≡ none

-- a test that lets a plan pass
pub past : (k : ℕ) (o : Option Place) (r : Option Refusal) → or_else k o r ≡ none → (o ≡ none) × (r ≡ none)
past k none r e = (refl, e)
past k (some q) r e = absurd (some_not_none e)

pub past_unless : (k : ℕ) (b : Bool) (r : Option Refusal) → unless k b r ≡ none → (b ≡ true) × (r ≡ none)
past_unless k true r e = (refl, e)
past_unless k false r e = absurd (some_not_none e)

pub no_gate_lem : (o : Option ℕ) → gate_place o ≡ none → o ≡ none
no_gate_lem none e = refl
no_gate_lem (some g) e = absurd (some_not_none e)

past_first : (a r : Option Refusal) → first a r ≡ none → (a ≡ none) × (r ≡ none)
past_first none r e = (refl, e)
past_first (some x) r e = absurd (some_not_none e)

-- ---- what a group leaves

edition_passed : (d : List ℕ) → list_refusal d ≡ none → known (edition_of d) ≡ true
unfolding list_refusal
edition_passed d e = (past_unless 29 _ _ e).0

pub lists_passed : (d : List ℕ) → list_refusal d ≡ none → (plan_form d ≡ true) × (bad_gate d ≡ none) × (refusal7 d ≡ none)
unfolding list_refusal
lists_passed d e =
    let edition = past_unless 29 (known (edition_of d)) _ e in
    let five = past_unless 5 _ _ edition.1 in
    let six = past 6 _ _ five.1 in
    (five.0, no_gate_lem _ six.0, (past 7 _ _ six.1).0)

pub totals_passed : (d : List ℕ) → total_refusal d ≡ none → totals_fit d ≡ true
unfolding total_refusal
totals_passed d e = (past_unless 8 _ _ e).0

pins_passed : (d : List ℕ) → pin_refusal d ≡ none → (refusal9 d ≡ none) × (refusal10 d ≡ none) × (refusal11 d ≡ none)
unfolding pin_refusal
pins_passed d e =
    let nine = past 9 _ _ e in
    let ten = past 10 _ _ nine.1 in
    (nine.0, ten.0, (past 11 _ _ ten.1).0)

pub places_passed : (d : List ℕ) → place_refusal d ≡ none → (refusal12 d ≡ none) × (refusal13 d ≡ none)
unfolding place_refusal
places_passed d e =
    let twelve = past 12 _ _ e in
    (twelve.0, (past 13 _ _ twelve.1).0)

-- ---- and all of them

pub passed : (d : List ℕ) → plan_refusal d ≡ none → Passed d
unfolding read_refusal
passed d e =
    let lists = past_first _ _ (sym (plan_first d) ∙ e) in
    let totals = past_first _ _ lists.1 in
    let pins = past_first _ _ totals.1 in
    let places = past_first _ _ pins.1 in
    let three = past 3 _ _ places.1 in
    let bits = past 21 _ _ three.1 in
    let wide = past 22 _ _ bits.1 in
    let four = past 4 _ _ wide.1 in
    let listed = lists_passed d lists.0 in
    let stood = pins_passed d pins.0 in
    let placed = places_passed d places.0 in
    record {
      edition = edition_passed d lists.0;
      form = listed.0;
      gates = listed.1;
      counts = listed.2;
      totals = totals_passed d totals.0;
      nine = stood.0;
      ten = stood.1;
      eleven = stood.2;
      twelve = placed.0;
      thirteen = placed.1;
      nothing = three.0;
      bits = bits.0;
      wide = wide.0;
      no_room = four.0;
    }

pub placed_reads : (d : List ℕ) → plan_refusal d ≡ none → (p : ℕ) → p < parts_of d → part_reads (plan_lanes d) d p ≡ good (part_packed (plan_lanes d) d p)
unfolding refused_reads
placed_reads d e p h =
    let s = passed d e in
    placed_part (plan_lanes d) d p (lowest_none _ _ s.nothing p h) (lowest_none _ _ s.bits p h) (lowest_none _ _ s.wide p h) (lowest_none _ _ s.no_room p h)
