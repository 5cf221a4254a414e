-- `plan_known::fill_part` meets its contract. The loop's invariant: the first words hold the entries of the first j slots, the words after them the winners.
-- Assumes nothing.
use mathlib.Core.Path.{◌≡◌}
use lib.ListN.{length, take}
use Rattle.plan_slots.specs.Puts.{filled}
use Rattle.plan_known.specs.Known.{bit_puts, WinnersTabled}
use Rattle.plan_known.proofs.fill_part.Given as goal

abbrev pub invariant-loop-j : goal.invariant-loop-j
invariant-loop-j l = (length l.room ≡ length l.initial.room) × WinnersTabled l.part.d.now l.part.p l.part.body l.room × (take 32768 l.room ≡ filled 32768 (bit_puts l.part.d.now l.part.p l.old l.new l.j))
