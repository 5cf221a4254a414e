-- Each word is tested by itself.
-- Assumes nothing.
use mathlib.Core.Path.{sym}
use mathlib.Core.Bool.{Bool, true, false}
use Prim.Native.Nat.{ℕ, ◌+◌}
use native.Mathlib.Omega.{arith}
use borrow.Author.Rules.{rules}
use borrow.Author.Tests.{tests}
use lib.Dec.{eqb}
use lib.ListN.{get_or}
use Rattle.run_form.proofs.BlockFormLaws.{empty_other, empty_as}
use Rattle.run_form.proofs.form.empty_form.Goals as goal

pub returns-then-block-n : goal.returns-then-block-n
returns-then-block-n c = empty_other _ _ 0 0 _ _ (λ q. c.if-block-n.true (omega arith))

pub returns : goal.returns
returns c =
    let W = c.args.block.now.script.words.now in
    let f : ℕ → Bool = λ i. eqb (get_or W (c.args.block.now.at + i) 0) (elim (eqb i 1) [ true ↦ 1 | false ↦ 0 ]) in
    empty_as _ _ 0 0 _ _ c.all_below.result (omega arith) (sym (c.all_below.ensures f (λ i h b e. search (rules, tests))))
