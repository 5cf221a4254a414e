-- The part of the result is as long as the rounds are.
-- Assumes nothing.
use Rattle.script_front.proofs.FrontLaws.{section_written}
use Rattle.script_front.proofs.write_reads.Goals as goal

pub returns : goal.returns
returns c =
    record { bases_after = c.fill_bases.ensures; out_after = section_written _ c.args.lanes _ c.args.out.now _ c.requires.lanes.filled.kept.wide c.requires.rounds_are c.requires.room c.write_rounds.ensures }
