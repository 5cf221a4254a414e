use mathlib.Core.Path.{◌≡◌, ap, ◌∙◌}
use Prim.Native.Nat.{ℕ}
use native.Mathlib.Omega.{arith}
use Rattle.pinmap.specs.PinMap.{after_renewals}
use Rattle.plan_record.specs.Record.{layout_of, layout_pin}
use Rattle.plan_winners.specs.Winners.{layout_number, in_use, layout_puts}
use Rattle.plan_winners.proofs.WinnerLaws.{chosen_none, chosen_more}
use Rattle.plan_winners.proofs.fill_layout.Goals as goal

pub loop-i-init : goal.loop-i-init
loop-i-init c =
    chosen_none c.args.table.now (in_use c.args.d.now) (layout_pin c.args.d.now) layout_number

pub loop-i-preserved : goal.loop-i-preserved
loop-i-preserved c =
    c.renew_layout.ensures ∙ chosen_more c.args.table.now _ (in_use c.args.d.now) (layout_pin c.args.d.now) layout_number c.loop-i.i c.loop-i.invariant

pub returns : goal.returns
returns c =
    let e : c.loop-i.i ≡ layout_of c.args.d.now = omega (arith, c.layout_of-i-end.ensures) in
    c.loop-i.invariant ∙ ap (λ (n : ℕ). after_renewals c.args.table.now (layout_puts c.args.d.now n)) e
