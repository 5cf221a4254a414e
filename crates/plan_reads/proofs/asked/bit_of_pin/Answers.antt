-- `plan_reads::asked::bit_of_pin` meets its contract: the winner gives the planned position.
-- Assumes nothing.
use Rattle.plan_reads.proofs.AskedLaws.{won_entry, won_bit}
use Rattle.plan_reads.proofs.asked.bit_of_pin.Goals as goal

pub bit_of_entry-requires : goal.bit_of_entry-requires
bit_of_entry-requires c = won_entry _ _ _ c.requires.1 _ c.entry_of.ensures

pub returns : goal.returns
returns c = won_bit _ _ _ c.requires.1 _ _ c.entry_of.ensures c.bit_of_entry.ensures
