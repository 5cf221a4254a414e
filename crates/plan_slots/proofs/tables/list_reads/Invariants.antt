-- `plan_slots::tables::list_reads` meets its contract. The loop's invariant: the pins of the first j slots are put and listed.
-- Assumes nothing.
use Rattle.plan_slots.proofs.ListedLaws.{Listing}
use Rattle.plan_slots.proofs.tables.list_reads.Given as goal

abbrev pub invariant-loop-j : goal.invariant-loop-j
invariant-loop-j l = Listing l.part.d.now l.part.p l.initial.table l.initial.list l.table l.list l.n l.j
