-- The loop's invariant: the piece sizes of the first p parts are written.
-- Assumes nothing.
use mathlib.Core.Path.{◌≡◌}
use lib.Seq.{sets}
use Rattle.words.specs.Section.{list_of}
use Rattle.plan_record.specs.Record.{plan_lanes}
use Rattle.plan_reads.specs.PartReads.{part_size}
use Rattle.flatten.proofs.pieces.write_pieces.Given as goal

abbrev pub invariant-loop-p : goal.invariant-loop-p
invariant-loop-p l = l.pieces ≡ sets l.initial.pieces 0 (list_of (part_size (plan_lanes l.d) l.d) l.p)
