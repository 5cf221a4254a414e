-- The part is part p of the plan.
-- Assumes nothing.
use Rattle.std.proofs.Common.{List, ℕ, ◌+◌, ap₂, ◌∙◌}
use lib.Seq.{sets}
use Rattle.plan_record.specs.Record.{plan_lanes}
use Rattle.script_assembly.specs.WrittenSoFar.{length_of}
use Rattle.script_layout.specs.Layout.{row_script}
use Rattle.script_layout.proofs.RowLaws.{room_of_part}
use Rattle.script_layout.proofs.parts.write_part.Goals as goal

pub write_placed-requires : goal.write_placed-requires
write_placed-requires c = (room_of_part c.part_of-part.ensures.0 c.part_of-part.ensures.1 c.requires.0, c.requires.1)

pub returns : goal.returns
returns c =
    record {
      value = c.write_placed.ensures.value ∙ ap₂ (λ (d : List ℕ) (p : ℕ). c.args.at + length_of (plan_lanes d) d p) c.part_of-part.ensures.0 c.part_of-part.ensures.1;
      room_unchanged = c.write_placed.ensures.room_unchanged;
      words_after =
          c.write_placed.ensures.words_after
          ∙ ap₂ (λ (d : List ℕ) (p : ℕ). sets c.args.words.now c.args.at (row_script d c.args.room.now p c.args.last)) c.part_of-part.ensures.0 c.part_of-part.ensures.1;
    }
