-- The order of the refusals: 32 comes before all others, and the groups that the code has them in, one after the other, are all refusals of a plan.
-- Assumes nothing.
use mathlib.Core.Path.{◌≡◌, refl, ap, ◌∙◌}
use mathlib.Core.Bool.{Bool, true, false}
use mathlib.Core.Option.{Option, none, some}
use mathlib.Core.List.{List}
use Prim.Native.Nat.{ℕ, ◌≤◌, ◌<◌}
use borrow.Author.Tests.{le-leb, lt-leb}
use Rattle.words.specs.Answer.{nowhere}
use Rattle.words.specs.Tests.{Place}
use Rattle.words.specs.declared.refusals.Refusal.{Refusal}
use Rattle.words.specs.Edition.{known}
use Rattle.plan_record.specs.Record.{edition_of}
use Rattle.plan_record.specs.Form.{plan_form, plan_room_words}
use Rattle.plan_gates.specs.Gates.{bad_gate}
use Rattle.plan_counts.specs.Counts.{refusal7}
use Rattle.plan_blocks.specs.Blocks.{totals_fit}
use Rattle.plan_slots.specs.Slots.{refusal9, refusal10, refusal11}
use Rattle.plan_positions.specs.Positions.{refusal12}
use Rattle.plan_entries.specs.TableEntries.{refusal13}
use Rattle.plan_refusals.specs.Refusals.{or_else, unless, gate_place, plan_refusal, plan_verdict}
use Rattle.plan_refusals.specs.RefusalGroups.{first, list_refusal, total_refusal, pin_refusal, place_refusal, read_refusal}

-- ---- a room of r words

pub short_verdict : (d : List ℕ) (r : ℕ) → r < plan_room_words d → plan_verdict d r ≡ some (nowhere 32)
unfolding plan_verdict
short_verdict d r h = rw (plan_verdict, lt-leb _ _ h)

pub wide_verdict : (d : List ℕ) (r : ℕ) → plan_room_words d ≤ r → plan_verdict d r ≡ plan_refusal d
unfolding plan_verdict
wide_verdict d r h = rw (plan_verdict, le-leb _ _ h)

-- ---- a group, and what comes after it

edition_to_seven : (e f : Bool) (a b : Option Place) (r : Option Refusal)
    → unless 29 e (unless 5 f (or_else 6 a (or_else 7 b r))) ≡ first (unless 29 e (unless 5 f (or_else 6 a (or_else 7 b none)))) r
edition_to_seven false f a b r = refl
edition_to_seven true false a b r = refl
edition_to_seven true true (some x) b r = refl
edition_to_seven true true none (some x) r = refl
edition_to_seven true true none none r = refl

eight : (f : Bool) (r : Option Refusal) → unless 8 f r ≡ first (unless 8 f none) r
eight false r = refl
eight true r = refl

nine_to_eleven : (a b c : Option Place) (r : Option Refusal)
    → or_else 9 a (or_else 10 b (or_else 11 c r)) ≡ first (or_else 9 a (or_else 10 b (or_else 11 c none))) r
nine_to_eleven (some x) b c r = refl
nine_to_eleven none (some x) c r = refl
nine_to_eleven none none (some x) r = refl
nine_to_eleven none none none r = refl

twelve_thirteen : (a b : Option Place) (r : Option Refusal) → or_else 12 a (or_else 13 b r) ≡ first (or_else 12 a (or_else 13 b none)) r
twelve_thirteen (some x) b r = refl
twelve_thirteen none (some x) r = refl
twelve_thirteen none none r = refl

-- ---- all groups

abbrev pub from_places : List ℕ → Option Refusal
from_places d = first (place_refusal d) (read_refusal d)

abbrev pub from_pins : List ℕ → Option Refusal
from_pins d = first (pin_refusal d) (from_places d)

abbrev pub from_totals : List ℕ → Option Refusal
from_totals d = first (total_refusal d) (from_pins d)

pub plan_first : (d : List ℕ) → plan_refusal d ≡ first (list_refusal d) (from_totals d)
unfolding plan_refusal list_refusal total_refusal pin_refusal place_refusal read_refusal
plan_first d =
    edition_to_seven (known (edition_of d)) (plan_form d) (gate_place (bad_gate d)) (refusal7 d) _
    ∙ ap (first (list_refusal d))
    (eight (totals_fit d) _
    ∙ ap (first (total_refusal d))
    (nine_to_eleven (refusal9 d) (refusal10 d) (refusal11 d) _
    ∙ ap (first (pin_refusal d)) (twelve_thirteen (refusal12 d) (refusal13 d) _)))
