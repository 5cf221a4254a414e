-- `repair_list::number_of` meets its contract: by what the map has.
-- Assumes nothing.
use mathlib.Core.Path.{ap, ◌∙◌}
use Rattle.std.specs.declared.option.Option as code
use Rattle.std.specs.Option.{unwrap_or}
use Prim.Native.Nat.{ℕ}
use Rattle.pinmap.specs.PinMap.{look}
use Rattle.repair_list.proofs.RelistLaws.{or_zero}
use Rattle.repair_list.proofs.number_of.Goals as goal

pub returns : goal.returns
returns c = c.unwrap_or.ensures ∙ (ap (λ (o : code.Option ℕ). unwrap_or o 0) c.look_up.ensures ∙ or_zero (look c.args.map.now c.args.node.0))
