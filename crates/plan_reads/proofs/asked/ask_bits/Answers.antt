use mathlib.Core.Path.{refl}
use Prim.Native.Nat.{◌<◌}
use native.Mathlib.Omega.{arith}
use lib.ListN.{length}
use Rattle.plan_reads.proofs.ListedBitLaws.{asking_start, asking_length, asking_pin, asking_more, asking_all}
use Rattle.plan_reads.proofs.asked.ask_bits.Goals as goal

pub loop-key-init : goal.loop-key-init
loop-key-init c = asking_start _ _

pub overflow_cast-key : goal.overflow_cast-key
overflow_cast-key c =
    let inside : c.loop-key.key-index < length c.loop-key.keys = omega (arith, asking_length _ _ _ _ c.loop-key.invariant, c.loop-key-test.true) in
    omega (arith, (asking_pin c.args.d.now c.args.keys.now c.loop-key.keys c.loop-key.key-index c.loop-key.invariant inside c.args.pins.now c.requires).0)

pub bit_of_pin-requires : goal.bit_of_pin-requires
bit_of_pin-requires c =
    let inside : c.loop-key.key-index < length c.loop-key.keys = omega (arith, asking_length _ _ _ _ c.loop-key.invariant, c.loop-key-test.true) in
    asking_pin c.args.d.now c.args.keys.now c.loop-key.keys c.loop-key.key-index c.loop-key.invariant inside c.args.pins.now c.requires

pub loop-key-preserved : goal.loop-key-preserved
loop-key-preserved c =
    let inside : c.loop-key.key-index < length c.loop-key.keys = omega (arith, asking_length _ _ _ _ c.loop-key.invariant, c.loop-key-test.true) in
    asking_more c.args.d.now c.args.keys.now c.loop-key.keys c.loop-key.key-index c.loop-key.invariant inside c.bit_of_pin.result.0 _ c.bit_of_pin.ensures refl

pub shape_of-keys : goal.shape_of-keys
shape_of-keys c = asking_length _ _ _ _ c.loop-key.invariant

pub returns : goal.returns
returns c = let told = asking_all _ _ _ _ c.loop-key.invariant (omega arith) in record { keys_after = told.0; all_narrow = told.1 }
