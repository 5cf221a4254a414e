-- A location is a half of its word: a mask of 16 bits is the low half, a shift by 16 the high one.
-- Assumes nothing.
use mathlib.Core.Path.{◌≡◌, ap, ◌∙◌}
use Prim.Native.Nat.{ℕ, ◌+◌, ◌/◌, ◌%◌}
use native.Mathlib.Omega.{arith}
use lib.ListN.{get_or}
use Rattle.words.specs.Section.{half_of}
use Rattle.run_machine.specs.Part.{location_in}
use Rattle.run_form.proofs.HalfLaws.{half_low, half_high}
use Rattle.run_form.proofs.part.Part.location.Goals as goal
use Rattle.run_form.proofs.part.Part.location.Goals.{then-l-eq0, else-l-eq0}

pub returns : goal.returns
unfolding location_in
returns c =
    let x = get_or c.args.self.now.script.words.now (c.args.self.now.at + c.args.self.now.script.lanes / 2 + c.args.l / 2) 0 in
    let place : c.if-l-eq0.place ≡ half_of x (c.args.l % 2) =
    elim c.if-l-eq0.branch [ then-l-eq0 w ↦ w.place-is ∙ half_low x _ w.if-l-eq0.true | else-l-eq0 w ↦ w.place-is ∙ half_high x _ (omega arith) ] in
    (ap (λ (x : ℕ). x / 256) place, ap (λ (x : ℕ). x % 256) place)
