-- `repair_list::write_entry` meets its contract: two stores.
-- Assumes nothing.
use Rattle.repair_list.proofs.RelistLaws.{entry_words}
use Rattle.repair_list.proofs.write_entry.Goals as goal

pub returns : goal.returns
returns c =
    entry_words c.args.map.now c.args.after.now c.args.i c.args.node.0 c.number_of.result c.number_of.ensures
