-- `run_read::window` meets its contract: the word is in both states, so a part of one word can be lent of either.
-- Assumes nothing.
use Prim.Native.Nat.{◌-◌, ◌^◌}
use native.Mathlib.Omega.{arith}
use Rattle.run_read.proofs.AppendLaws.{window_long, window_old, window_new}
use Rattle.run_read.proofs.window.Goals as goal

pub returns-then-w-lt2147483648 : goal.returns-then-w-lt2147483648
returns-then-w-lt2147483648 c =
    (window_old _ _ _ c.if-w-lt2147483648.true, window_long c.args.old.now c.args.w (omega arith))

pub returns-else-w-lt2147483648 : goal.returns-else-w-lt2147483648
returns-else-w-lt2147483648 c =
    (window_new _ _ _ c.if-w-lt2147483648.false, window_long c.args.new.now (c.args.w - 2 ^ 31) (omega arith))
