-- `plan_blocks::costs::give_blocks` meets its contract.
-- Assumes nothing.
use mathlib.Core.Path.{◌∙◌}
use Rattle.plan_blocks.proofs.costs.give_blocks.Goals as goal

pub returns : goal.returns
returns c = record { room_after = c.place_parts-placed.ensures.room_after; counts_after = c.take_counts.ensures ∙ c.place_parts-placed.ensures.parts }
