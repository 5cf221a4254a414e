-- `words::bits::set_bit` meets its contract: the shifted 1 does not leave the word.
-- Assumes nothing.
use Prim.Native.Nat.{◌%◌, ◌^◌}
use native.Mathlib.Nat.{one-mul}
use native.Mathlib.Omega.{arith}
use lib.Pow.{shl_exact}
use Rattle.words.specs.Bit.{set_bit, with_bit}
use Rattle.words.proofs.bits.set_bit.Goals as goal

pub returns : goal.returns
unfolding set_bit with_bit
returns c =
    let k = c.args.p % 32 in
    rw (shl_exact {a = 1} 1 k 32 (omega arith) (omega arith), one-mul (2 ^ k))
