-- An entry of the first table stands at its own index, one of the second two words a lane further on.
-- Assumes nothing.
use mathlib.Core.Path.{◌≡◌, ap, ap₂, ◌∙◌}
use Prim.Native.Nat.{◌+◌, ◌*◌}
use native.Mathlib.Omega.{arith}
use lib.Dec.{ltb}
use Rattle.plan_record.specs.Record.{plan_lanes, slots_of, table_at}
use Rattle.plan_entries.proofs.TableEntryLaws.{entry_low, entry_high}
use Rattle.plan_entries.proofs.entry_right.Goals as goal

pub returns-then-i-slots : goal.returns-then-i-slots
returns-then-i-slots c =
    let slots : 32 * c.args.part.now.body.lanes ≡ slots_of c.args.part.now.d.now = omega (arith, c.args.part.now.of.lanes) in
    ap₂ ltb c.table_word.ensures slots ∙ entry_low c.args.part.now.d.now c.args.part.now.p c.args.i (omega (arith, c.if-i-slots.true))

pub returns : goal.returns
returns c =
    let slots : 32 * c.args.part.now.body.lanes ≡ slots_of c.args.part.now.d.now = omega (arith, c.args.part.now.of.lanes) in
    let at : c.args.i + 2 * c.args.part.now.body.lanes ≡ c.args.i + 2 * plan_lanes c.args.part.now.d.now = omega (arith, c.args.part.now.of.lanes) in
    let read = c.table_word-2.ensures ∙ ap (table_at c.args.part.now.d.now c.args.part.now.p) at in
    ap₂ ltb read slots ∙ entry_high c.args.part.now.d.now c.args.part.now.p c.args.i (omega (arith, c.if-i-slots.false))
