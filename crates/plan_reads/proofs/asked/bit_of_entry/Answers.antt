-- The position that the entry gives, as one number.
-- Assumes nothing.
use native.Mathlib.Omega.{arith}
use Rattle.plan_reads.proofs.AskedLaws.{entry_mark, entry_bit}
use Rattle.plan_reads.proofs.asked.bit_of_entry.Goals as goal

pub planned_by-x-requires : goal.planned_by-x-requires
planned_by-x-requires c = c.requires.some-entry

pub asked-requires : goal.asked-requires
asked-requires c = entry_mark _ _ c.requires _ c.planned_by-x.ensures

pub returns : goal.returns
returns c = entry_bit _ _ c.requires _ c.planned_by-x.ensures _ c.asked.ensures (omega arith)
