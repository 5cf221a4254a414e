-- The table has the entry of each listed pin.
-- Assumes nothing.
use Prim.Native.Nat.{◌^◌, ◌<◌}
use native.Mathlib.Omega.{arith}
use borrow.Author.Rules.{rules}
use lib.ListN.{get_or}
use Rattle.plan_positions.specs.Places.{listed_pin_right}
use Rattle.plan_positions.proofs.planned.pins_right.Goals as goal

pub all_below-requires : goal.all_below-requires
all_below-requires c = λ i h.
    let held = c.requires.2 i h in
    let small : get_or c.args.list.now i 0 < 2 ^ 32 = omega (arith, held.small) in
    search (rules, held, c.requires)

pub returns : goal.returns
returns c = c.all_below.ensures (listed_pin_right c.args.d.now c.args.n c.args.list.now) (λ i h b e. search rules)
