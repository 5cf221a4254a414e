-- `gatelist::has_pin` meets its contract: by the two tests.
-- Assumes nothing.
use Rattle.std.proofs.Common.{ℕ, ◌<◌, ◌≤◌, Bool, ◌&&◌, eqb, sym, ap, ◌∙◌, arith, le-ltb, lt-ltb}
use Rattle.gatelist.specs.ListWords.{list_pin, whole_gates}
use Rattle.gatelist.proofs.has_pin.Goals as goal

pub returns-then-g-l : goal.returns-then-g-l
returns-then-g-l c =
    let h : c.args.g < whole_gates c.args.l.now = omega arith in
    ap (λ (n : ℕ). eqb n c.args.pin.0) c.pin_of.ensures
    ∙ ap (λ (b : Bool). b && eqb (list_pin c.args.l.now c.args.g) c.args.pin.0) (sym (lt-ltb _ _ h))

pub returns-else-g-l : goal.returns-else-g-l
returns-else-g-l c =
    let h : whole_gates c.args.l.now ≤ c.args.g = omega arith in
    le-ltb _ _ c.if-g-l.false ∙ ap (λ (b : Bool). b && eqb (list_pin c.args.l.now c.args.g) c.args.pin.0) (sym (le-ltb _ _ h))
