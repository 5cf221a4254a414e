use mathlib.Core.Path.{◌≡◌, ap, ◌∙◌}
use Prim.Native.Nat.{ℕ}
use native.Mathlib.Omega.{arith}
use Rattle.plan_record.specs.Record.{majors_of, parts_before}
use Rattle.plan_record.proofs.RecordLaws.{parts_more}
use Rattle.plan_positions.specs.Positions.{major_to}
use Rattle.plan_positions.proofs.MajorLaws.{earlier_none, earlier_more}
use Rattle.plan_positions.proofs.ranks.parts_earlier.Goals as goal

pub loop-s-init : goal.loop-s-init
loop-s-init c =
    ((earlier_none c.args.d.now c.args.p).0, (earlier_none c.args.d.now c.args.p).1, omega arith)

pub loop-s-preserved : goal.loop-s-preserved
loop-s-preserved c = (
  c.later_first-first.ensures ∙ earlier_more c.args.d.now c.args.p c.loop-s.s c.loop-s.first c.loop-s.next c.loop-s.invariant.0 c.loop-s.invariant.1,
  omega (arith, c.loop-s.invariant.1, c.count_at.ensures, parts_more c.args.d.now c.loop-s.s),
  omega (arith, c.loop-s.invariant.2),
)

pub returns : goal.returns
returns c =
    let e : c.loop-s.s ≡ majors_of c.args.d.now = omega (arith, c.majors_of-s-end.ensures) in
    c.loop-s.invariant.0 ∙ ap (λ (n : ℕ). parts_before c.args.d.now (major_to c.args.d.now c.args.p n)) e
