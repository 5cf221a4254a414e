-- `run_stage::low_word` meets its contract: five steps, each with half the slots of the one before.
-- Assumes nothing.
use mathlib.Core.Path.{refl, ap, ◌∙◌}
use Prim.Native.Nat.{ℕ}
use lib.Bits.{mask_lt}
use Rattle.words.specs.Bit.{bit}
use borrow.Author.Rules.{rules}
use Rattle.run_stage.proofs.LowLaws.{low_start, low_chain, low_start_is}
use Rattle.run_stage.proofs.low_word.Goals as goal

pub low_step-x-requires : goal.low_step-x-requires
low_step-x-requires c =
    (search rules, refl, λ p h. ap (λ (x : ℕ). bit x p) (low_start_is _ c.ranges.one.fits) ∙ (low_start c.args.one 0 0 0).zeros p h)

pub overflow_cast-result : goal.overflow_cast-result
overflow_cast-result c = record { fits = mask_lt c.low_step-x-5.result 32 }

pub returns : goal.returns
returns c =
    low_chain _ _ _ _ _ _ _ _ _ c.ranges.one.fits c.low_step-x-5.type_inv
    c.low_step-x.ensures c.low_step-x-2.ensures c.low_step-x-3.ensures c.low_step-x-4.ensures c.low_step-x-5.ensures
