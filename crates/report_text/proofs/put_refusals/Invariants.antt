-- `report_text::put_refusals` meets its contract. The invariant: what is written, with the lines of the numbers from k on, is the whole. Assumes nothing.
use Prim.Native.Nat.{◌*◌, ◌-◌}
use Rattle.text.proofs.WritingLaws.{Writing}
use Rattle.report.specs.BatchText.{refused_lines}
use Rattle.report_text.proofs.put_refusals.Given as goal

abbrev pub invariant-loop-k : goal.invariant-loop-k
invariant-loop-k l = Writing (refused_lines l.batch (40 - l.k) l.k) (refused_lines l.batch 40 0) (52 * l.k) l.initial.out l.out
