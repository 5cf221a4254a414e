-- `plan_blocks::table::allot_stages` meets its contract. The loop's invariant: the first s major stages have their rows.
-- Assumes nothing.
use mathlib.Core.Path.{◌≡◌}
use Rattle.plan_blocks.specs.TableFill.{FirstsOf, allot_rows}
use Rattle.plan_table.proofs.table.allot_stages.Given as goal

abbrev pub invariant-loop-s : goal.invariant-loop-s
invariant-loop-s l = FirstsOf l.d l.s l.at × (l.room ≡ allot_rows l.d l.initial.room l.s)
