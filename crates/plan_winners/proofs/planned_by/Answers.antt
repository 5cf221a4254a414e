-- An entry of the layout, or one of the positions.
-- Assumes nothing.
use Prim.Native.Nat.{◌-◌}
use native.Mathlib.Omega.{arith}
use mathlib.Core.Path.{ap, ◌∙◌}
use Rattle.plan_record.specs.Record.{position_state, position_staged}
use Rattle.plan_winners.proofs.WinnerLaws.{by_layout, by_position}
use Rattle.plan_winners.proofs.planned_by.Goals as goal

pub returns-then-w-layout : goal.returns-then-w-layout
returns-then-w-layout c = by_layout _ _ c.requires (omega (arith, c.layout_of-layout.ensures))

pub returns : goal.returns
returns c =
    let i = c.args.w - 1 - c.layout_of-layout.result in
    let staged = c.staged.ensures ∙ ap (λ d. position_staged d i) c.of-positions.ensures in
    let place = c.place.ensures ∙ ap (λ d. position_state d i) c.of-positions.ensures in
    by_position c.args.d.now c.args.w i (omega (arith, c.requires, c.layout_of-layout.ensures)) ∙ rw (staged, place)
