-- `plan_blocks::table::fill_counts` meets its contract. The loop's invariant: the first p parts are counted, and `at` is where the next body begins.
-- Assumes nothing.
use mathlib.Core.Path.{◌≡◌}
use lib.ListN.{length}
use Rattle.plan_record.specs.Record.{body_at}
use Rattle.plan_blocks.specs.TableFill.{count_rows}
use Rattle.plan_table.proofs.table.fill_counts.Given as goal

abbrev pub invariant-loop-p : goal.invariant-loop-p
invariant-loop-p l =
    (l.at ≡ body_at l.d l.p) × (l.room ≡ count_rows l.d l.initial.room l.p) × (length l.keys ≡ length l.initial.keys) × (length l.scratch ≡ length l.initial.scratch)
