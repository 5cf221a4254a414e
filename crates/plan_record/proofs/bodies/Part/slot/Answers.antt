-- The body's slots begin where the definition says.
-- Assumes nothing.
use mathlib.Core.Path.{ap, ap₂, ◌∙◌}
use Prim.Native.Nat.{ℕ, ◌+◌, ◌-◌, ◌*◌}
use native.Mathlib.Omega.{arith}
use Rattle.plan_record.specs.Record.{slot_words, word_at}
use Rattle.plan_record.proofs.RecordLaws.{slot_inside}
use Rattle.plan_record.proofs.bodies.Part.slot.Goals as goal

pub word_in-requires : goal.word_in-requires
word_in-requires c =
    omega (arith, slot_inside c.args.self.now.body.lanes c.args.s c.args.self.now.body.stages c.args.q (omega arith) (omega arith) (omega arith) (omega arith))

pub returns : goal.returns
returns c =
    let words = c.slot_words.ensures.0 ∙ ap (λ (n : ℕ). slot_words n * c.args.s) c.args.self.now.of.lanes in
    c.word_in.ensures ∙ ap₂ (λ (x y : ℕ). word_at c.args.self.now.d.now (x + y + (c.args.q - 1))) c.args.self.now.of.slots words
