use mathlib.Core.Path.{◌≡◌, ap, ◌∙◌}
use Prim.Native.Nat.{ℕ, ◌+◌}
use native.Mathlib.Omega.{arith}
use Rattle.pinmap.specs.PinMap.{after_renewals}
use Rattle.plan_record.specs.Record.{positions_of, position_pin}
use Rattle.plan_winners.specs.Winners.{position_number, has_mark, marked_puts}
use Rattle.plan_winners.proofs.WinnerLaws.{chosen_none, chosen_more}
use Rattle.plan_winners.proofs.fill_marked.Goals as goal

pub loop-i-init : goal.loop-i-init
loop-i-init c = chosen_none c.args.table.now (has_mark c.args.d.now c.args.mark) (position_pin c.args.d.now) (position_number c.args.d.now)

pub renew_position-requires : goal.renew_position-requires
renew_position-requires c =
    rw c.of-positions.ensures
    (record {
      after = ap (λ (x : ℕ). 1 + x) c.layout_of-first.ensures;
      few = omega (arith, c.requires.layout, c.layout_of-first.ensures);
      within = omega (arith, c.requires.positions, c.positions_of-i-end.ensures);
      pin = c.requires.pins c.loop-i.i (omega (arith, c.positions_of-i-end.ensures));
    })

pub loop-i-preserved : goal.loop-i-preserved
loop-i-preserved c =
    let more = chosen_more c.args.table.now _ (has_mark c.args.d.now c.args.mark) (position_pin c.args.d.now) (position_number c.args.d.now) c.loop-i.i c.loop-i.invariant in
    rw c.of-positions.ensures at c.renew_position.ensures ∙ more

pub returns : goal.returns
returns c =
    let e : c.loop-i.i ≡ positions_of c.args.d.now = omega (arith, c.positions_of-i-end.ensures) in
    c.loop-i.invariant ∙ ap (λ (n : ℕ). after_renewals c.args.table.now (marked_puts c.args.d.now c.args.mark n)) e
