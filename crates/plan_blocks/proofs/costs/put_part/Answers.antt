-- `plan_blocks::costs::put_part` meets its contract: the record's two numbers are written one after the other. Assumes nothing.
use Rattle.std.proofs.Common.{◌<◌, length, get_or-set_same}
use Rattle.std.proofs.lemmas.List.{set-set}
use Rattle.plan_blocks.specs.TableFill.{blank}
use Rattle.plan_blocks.proofs.costs.put_part.Goals as goal

pub returns : goal.returns
returns c =
    let h : c.args.b < length c.args.blocks.now = c.requires.inside in
    rw (set-set, get_or-set_same c.args.blocks.now c.args.b _ blank h)
