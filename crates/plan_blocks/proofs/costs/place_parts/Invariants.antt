-- The first i parts are in their blocks.
-- Assumes nothing.
use Rattle.std.proofs.Common.{◌+◌}
use Rattle.plan_record.specs.Record.{stages_of}
use Rattle.plan_blocks.proofs.OnePartMoreLaws.{PartsPlaced}
use Rattle.plan_blocks.proofs.costs.place_parts.Given as goal

abbrev pub invariant-loop-i : goal.invariant-loop-i
invariant-loop-i l = PartsPlaced l.n (λ j. stages_of l.d (l.base + j)) (λ j. l.base + j) l.initial.room l.room l.placed l.i
