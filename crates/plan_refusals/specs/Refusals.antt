-- The order of a plan's refusals: document 01, "Numbered refusals", with 21 and 22 of document 02, 4/13, and 29 of 10/13.
-- Assumes nothing.
use Rattle.std.specs.Prelude.{Bool, true, false, List, ℕ, leb}
use Rattle.std.proofs.Math.Option.{Option, none, some}
use Rattle.words.specs.Answer.{at, nowhere}
use Rattle.words.specs.Tests.{Place}
use Rattle.words.specs.declared.refusals.Refusal.{Refusal}
use Rattle.words.specs.Edition.{known}
use Rattle.plan_record.specs.Record.{edition_of, plan_lanes}
use Rattle.plan_record.specs.Form.{plan_form, plan_room_words}
use Rattle.plan_gates.specs.Gates.{bad_gate}
use Rattle.plan_counts.specs.Counts.{refusal7}
use Rattle.plan_blocks.specs.Blocks.{totals_fit}
use Rattle.plan_slots.specs.Slots.{refusal9, refusal10, refusal11}
use Rattle.plan_positions.specs.Positions.{refusal12}
use Rattle.plan_entries.specs.TableEntries.{refusal13}
use Rattle.plan_reads.specs.PartReads.{refused_reads}

-- ---- "A plan: 5 to 13, each over the whole plan before the next, then 3, 4, 14"; "3, then 21, 22, 4".

-- a refusal if a test gives a place, else what comes after it
abbrev pub or_else : ℕ → Option Place → Option Refusal → Option Refusal
or_else k none r = r
or_else k (some q) r = some (at k q)

abbrev pub unless : ℕ → Bool → Option Refusal → Option Refusal
unless k true r = r
unless k false r = some (nowhere k)

abbrev pub gate_place : Option ℕ → Option Place
gate_place none = none
gate_place (some g) = some (record { part = 0; item = g })

-- what a plan is refused with, but for room
unfoldable pub plan_refusal : List ℕ → Option Refusal
plan_refusal d =
    unless 29 (known (edition_of d))
    (unless 5 (plan_form d)
    (or_else 6 (gate_place (bad_gate d))
    (or_else 7 (refusal7 d)
    (unless 8 (totals_fit d)
    (or_else 9 (refusal9 d)
    (or_else 10 (refusal10 d)
    (or_else 11 (refusal11 d)
    (or_else 12 (refusal12 d)
    (or_else 13 (refusal13 d)
    (or_else 3 (refused_reads (plan_lanes d) 3 d)
    (or_else 21 (refused_reads (plan_lanes d) 21 d)
    (or_else 22 (refused_reads (plan_lanes d) 22 d)
    (or_else 4 (refused_reads (plan_lanes d) 4 d) none)))))))))))))

-- "working room too short; before all others": a room of r words
unfoldable pub plan_verdict : List ℕ → ℕ → Option Refusal
plan_verdict d r = elim (leb (plan_room_words d) r) [ true ↦ plan_refusal d | false ↦ some (nowhere 32) ]
