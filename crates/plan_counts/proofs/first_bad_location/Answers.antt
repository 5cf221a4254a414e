use native.Mathlib.Omega.{arith}
use borrow.Author.Tests.{le-ltb, lt-ltb}
use Rattle.plan_record.specs.Record.{plan_lanes, location_at}
use Rattle.words.proofs.FoundLaws.{look_start, look_fault, look_next, look_end}
use Rattle.plan_counts.proofs.first_bad_location.Goals as goal

pub loop-l-init : goal.loop-l-init
loop-l-init c = look_start _ _

pub returns-then-part-location : goal.returns-then-part-location
returns-then-part-location c =
    look_fault _ _ _ _ c.loop-l.invariant (omega (arith, c.args.part.now.of.locations)) (le-ltb (location_at c.args.part.now.d.now c.args.part.now.p c.loop-l.l) (plan_lanes c.args.part.now.d.now) (omega (arith, c.location.ensures, c.args.part.now.of.lanes)))

pub loop-l-preserved : goal.loop-l-preserved
loop-l-preserved c =
    look_next _ _ _ _ c.loop-l.invariant (omega (arith, c.args.part.now.of.locations)) (lt-ltb (location_at c.args.part.now.d.now c.args.part.now.p c.loop-l.l) (plan_lanes c.args.part.now.d.now) (omega (arith, c.location.ensures, c.args.part.now.of.lanes)))

pub returns : goal.returns
returns c =
    look_end _ _ _ _ c.loop-l.invariant (omega (arith, c.args.part.now.of.locations))
