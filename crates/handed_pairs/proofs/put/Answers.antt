-- `put`: the two cases of the definition.
-- Assumes nothing.
use Rattle.handed_pairs.proofs.SetSearchLaws.{tabled_in, tabled_out}
use Rattle.handed_pairs.proofs.put.Goals as goal

pub returns-then-lane-n : goal.returns-then-lane-n
returns-then-lane-n c =
    let a = c.args in
    record { table_after = tabled_in a.n a.table.now a.lane a.place a.p c.if-lane-n.true; seen_after = c.set_bit.ensures }

pub returns-else-lane-n : goal.returns-else-lane-n
returns-else-lane-n c =
    let a = c.args in
    record { table_after = tabled_out a.n a.table.now a.lane a.place a.p c.if-lane-n.false; seen_after = c.set_bit.ensures }
