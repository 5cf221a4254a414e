-- Each turn is tested by itself.
-- Assumes nothing.
use mathlib.Core.Bool.{Bool}
use Prim.Native.Nat.{ℕ, ◌-◌}
use borrow.Author.Rules.{rules}
use borrow.Author.Tests.{tests}
use lib.Dec.{ltb}
use lib.ListN.{length, get_or}
use Rattle.run_machine.specs.Run.{bad_turn}
use Rattle.run_form.proofs.refuse.bad_turn.Goals as goal

pub returns : goal.returns
unfolding bad_turn
returns c =
    let named : ℕ → Bool = λ i. ltb (get_or c.args.turns.now i 0) (length c.args.starts.now - 1) in
    c.first_not.ensures named (λ i h b e. search (rules, tests))
