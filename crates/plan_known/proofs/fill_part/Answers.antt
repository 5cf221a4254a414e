use Rattle.plan_known.proofs.KnownLaws.{fill_kept, fill_first, fill_next}
use Rattle.plan_winners.proofs.WinnerLaws.{listed}
use mathlib.Core.Path.{◌≡◌, refl, ap, ◌∙◌}
use Prim.Native.Nat.{ℕ}
use native.Mathlib.Omega.{arith}
use Rattle.plan_record.specs.Record.{slots_of}
use Rattle.plan_slots.specs.Puts.{filled}
use Rattle.plan_known.specs.Known.{bit_puts}
use Rattle.plan_known.proofs.fill_part.Goals as goal

pub fill_planned-requires : goal.fill_planned-requires
fill_planned-requires c = (listed _ c.requires.0, c.requires.1)

pub loop-j-init : goal.loop-j-init
loop-j-init c =
    let (n, t) = fill_first c.args.part.now.d.now c.args.part.now.p c.args.part.now.body c.args.old.now c.args.new.now c.args.room.now _ c.args.part.now.of c.requires.1 c.requires.2 c.fill_planned.ensures in (refl, n, t)

pub loop-j-preserved : goal.loop-j-preserved
loop-j-preserved c =
    let (e, n, t) = fill_next c.args.part.now.d.now c.args.part.now.p c.args.part.now.body c.args.old.now c.args.new.now c.loop-j.room _ c.loop-j.j c.loop-j.invariant.1 c.loop-j.invariant.2 c.put_slot_bit.ensures in (e ∙ c.loop-j.invariant.0, n, t)

pub shape_of-room : goal.shape_of-room
shape_of-room c =
    c.loop-j.invariant.0 ∙ fill_kept c.args.part.now.d.now c.args.part.now.p c.args.room.now _ c.requires.2 c.fill_planned.ensures

pub returns : goal.returns
returns c =
    let all : c.loop-j.j ≡ slots_of c.args.part.now.d.now = omega (arith, c.args.part.now.of.lanes) in
    c.loop-j.invariant.2 ∙ ap (λ (j : ℕ). filled 32768 (bit_puts c.args.part.now.d.now c.args.part.now.p c.args.old.now c.args.new.now j)) all
