-- The refusals of a plan in the groups that the code has them in.
-- Assumes nothing.
use Rattle.std.specs.Prelude.{◌≡◌, List, ℕ, ◌^◌, ◌<◌}
use Rattle.std.proofs.Math.Option.{Option, none, some}
use Rattle.words.specs.Tests.{Place}
use Rattle.words.specs.Edition.{known}
use Rattle.plan_record.specs.Record.{edition_of, plan_lanes}
use Rattle.plan_record.specs.Form.{plan_form}
use Rattle.plan_gates.specs.Gates.{bad_gate}
use Rattle.plan_counts.specs.Counts.{refusal7}
use Rattle.plan_blocks.specs.Blocks.{totals_fit}
use Rattle.plan_slots.specs.Slots.{refusal9, refusal10, refusal11}
use Rattle.plan_positions.specs.Positions.{refusal12}
use Rattle.plan_entries.specs.TableEntries.{refusal13}
use Rattle.plan_reads.specs.PartReads.{refused_reads}
use Rattle.words.specs.declared.refusals.Refusal.{Refusal}
use Rattle.plan_refusals.specs.Refusals.{or_else, unless, gate_place}

-- the first of two refusals
abbrev pub first : Option Refusal → Option Refusal → Option Refusal
first none r = r
first (some x) r = some x

-- 29, 5, 6 and 7: what the record's edition and its lists say by themselves
unfoldable pub list_refusal : List ℕ → Option Refusal
list_refusal d = unless 29 (known (edition_of d)) (unless 5 (plan_form d) (or_else 6 (gate_place (bad_gate d)) (or_else 7 (refusal7 d) none)))

-- 8
unfoldable pub total_refusal : List ℕ → Option Refusal
total_refusal d = unless 8 (totals_fit d) none

-- 9, 10 and 11
unfoldable pub pin_refusal : List ℕ → Option Refusal
pin_refusal d = or_else 9 (refusal9 d) (or_else 10 (refusal10 d) (or_else 11 (refusal11 d) none))

-- 12 and 13
unfoldable pub place_refusal : List ℕ → Option Refusal
place_refusal d = or_else 12 (refusal12 d) (or_else 13 (refusal13 d) none)

-- 3, 21, 22 and 4
unfoldable pub read_refusal : List ℕ → Option Refusal
read_refusal d =
    or_else 3 (refused_reads (plan_lanes d) 3 d)
    (or_else 21 (refused_reads (plan_lanes d) 21 d)
    (or_else 22 (refused_reads (plan_lanes d) 22 d)
    (or_else 4 (refused_reads (plan_lanes d) 4 d) none)))

-- a place whose part is told in one word
abbrev pub Few : Option Place → Type 0
Few o = (x : Place) → o ≡ some x → x.part < 2 ^ 32
