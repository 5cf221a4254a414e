-- `plan_reads::asked::ask_bits` meets its contract. The loop's invariant: the first i pins have given way to their bits.
-- Assumes nothing.
use Rattle.plan_reads.proofs.ListedBitLaws.{Asking}
use Rattle.plan_reads.proofs.asked.ask_bits.Given as goal

abbrev pub invariant-loop-key : goal.invariant-loop-key
invariant-loop-key l = Asking l.d l.initial.keys l.keys l.key-index
