-- `aiger_write::bytes::difference_length` meets its contract, by the five ranges of a difference. Assumes nothing.
use native.Mathlib.Omega.{arith}
use Rattle.aiger_write.proofs.ByteLaws.{length-one, length_two, length_three, length-four, length_five}
use Rattle.aiger_write.proofs.bytes.difference_length.Goals as goal

pub returns-then-x-lt128 : goal.returns-then-x-lt128
returns-then-x-lt128 c = (length-one _ c.if-x-lt128.true, omega arith)

pub returns-then-x-lt16384 : goal.returns-then-x-lt16384
returns-then-x-lt16384 c = (length_two _ c.if-x-lt128.false c.if-x-lt16384.true, omega arith)

pub returns-then-x-lt2097152 : goal.returns-then-x-lt2097152
returns-then-x-lt2097152 c = (length_three _ c.if-x-lt16384.false c.if-x-lt2097152.true, omega arith)

pub returns-then-x-lt268435456 : goal.returns-then-x-lt268435456
returns-then-x-lt268435456 c = (length-four _ c.if-x-lt2097152.false c.if-x-lt268435456.true, omega arith)

pub returns : goal.returns
returns c = (length_five _ c.if-x-lt268435456.false c.ranges.x.fits, omega arith)
