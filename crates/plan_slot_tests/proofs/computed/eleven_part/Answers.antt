-- `plan_slot_tests::computed::eleven_part` meets its contract. The table holds the pins that the part reads while the positions are asked for.
-- Assumes nothing.
use Rattle.plan_slots.specs.Puts.{read_puts}
use Rattle.plan_slots.proofs.PutLaws.{filled_with}
use Rattle.plan_slot_tests.proofs.computed.eleven_part.Goals as goal

pub eleven_stages-requires : goal.eleven_stages-requires
eleven_stages-requires c =
    (filled_with c.args.table.now _ (read_puts c.args.part.now.d.now c.args.part.now.p) c.requires.1 c.fill_reads.ensures)
