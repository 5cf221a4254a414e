-- After i turns the first i words are the table's.
-- Assumes nothing.
use Rattle.std.proofs.Common.{◌≡◌, ◌+◌, take}
use Rattle.words.specs.Section.{list_of}
use Rattle.plan_record.specs.Record.{table_at}
use Rattle.script_sections.proofs.sections.read_table.Given as goal

abbrev pub invariant-loop-i : goal.invariant-loop-i
invariant-loop-i l = take l.i l.out ≡ list_of (λ k. table_at l.part.d.now l.part.p (l.from + k)) l.i
