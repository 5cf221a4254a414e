-- Stage and location fit a half, since both are below 256.
-- Assumes nothing.
use mathlib.Core.Path.{ap₂, ◌∙◌}
use Prim.Native.Nat.{ℕ, ◌+◌, ◌*◌, ◌<◌}
use native.Mathlib.Omega.{arith}
use Rattle.plan_record.specs.Record.{locations_of}
use Rattle.script.proofs.HeadLaws.{half_within, half_past}
use Rattle.script.proofs.head.location_half.Goals as goal

pub overflow_add-result : goal.overflow_add-result
overflow_add-result c =
    let k : c.args.l < locations_of c.args.part.now.d.now c.args.part.now.p = omega (arith, c.requires.body.locations) in
    omega (arith, c.requires.locations c.args.l k, c.requires.body.lanes, c.requires.body.laid.lanes)

pub returns-then-l-part : goal.returns-then-l-part
returns-then-l-part c =
    let k : c.args.l < locations_of c.args.part.now.d.now c.args.part.now.p = omega (arith, c.requires.body.locations) in
    let within = half_within c.args.part.now.d.now c.args.part.now.p c.args.l _ c.requires.body.locations c.if-l-part.true in (
      ap₂ (λ (a : ℕ) (b : ℕ). 256 * a + b) c.location_stage.ensures.0 c.location.ensures ∙ within,
      omega (arith, c.requires.locations c.args.l k, c.requires.body.lanes, c.requires.body.laid.lanes),
    )

pub returns-else-l-part : goal.returns-else-l-part
returns-else-l-part c =
    (half_past c.args.part.now.d.now c.args.part.now.p c.args.l _ c.requires.body.locations c.if-l-part.false, omega arith)
