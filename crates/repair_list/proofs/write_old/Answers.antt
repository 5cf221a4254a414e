use mathlib.Core.Path.{refl, sym, ◌∙◌}
use native.Mathlib.Omega.{arith}
use Rattle.repair_list.proofs.RelistLaws.{write_on, write_end}
use Rattle.repair_list.proofs.write_old.Goals as goal

pub loop-i-init : goal.loop-i-init
loop-i-init c =
    (refl, refl)

pub write_entry-requires : goal.write_entry-requires
write_entry-requires c =
    (c.requires.0 c.loop-i.i (omega arith), omega (arith, c.requires.1))

pub loop-i-preserved : goal.loop-i-preserved
loop-i-preserved c =
    (omega arith, write_on c.args.map.now c.args.counts.now c.loop-i.after _ c.loop-i.i (omega arith) c.write_entry.ensures ∙ c.loop-i.invariant.1)

pub returns : goal.returns
returns c =
    sym (write_end c.args.map.now c.args.counts.now c.loop-i.after c.loop-i.i (omega arith)) ∙ c.loop-i.invariant.1
