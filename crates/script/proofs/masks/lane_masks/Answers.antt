use mathlib.Core.Path.{◌≡◌, refl}
use Prim.Native.Nat.{◌+◌, ◌*◌}
use native.Mathlib.Omega.{arith}
use Rattle.words.specs.Bit.{word_of}
use Rattle.script.specs.Script.{xora_bit, xorb_bit, orb_bit}
use Rattle.script.proofs.MaskLaws.{xora_lt, xorb_lt, orb_lt, word_more}
use Rattle.script.proofs.masks.lane_masks.Goals as goal

pub loop-k-init : goal.loop-k-init
unfolding word_of
loop-k-init c = (refl, refl, refl)

pub loop-k-preserved : goal.loop-k-preserved
loop-k-preserved c = (
  word_more (λ i. xora_bit c.args.part.now.d.now c.args.part.now.p c.args.s (32 * c.args.w + i)) c.loop-k.k c.loop-k.xora c.masks_at-bits.result.xora (λ i. xora_lt c.args.part.now.d.now c.args.part.now.p c.args.s (32 * c.args.w + i)) (omega arith) c.loop-k.invariant.0 c.masks_at-bits.ensures.xora,
  word_more (λ i. xorb_bit c.args.part.now.d.now c.args.part.now.p c.args.s (32 * c.args.w + i)) c.loop-k.k c.loop-k.xorb c.masks_at-bits.result.xorb (λ i. xorb_lt c.args.part.now.d.now c.args.part.now.p c.args.s (32 * c.args.w + i)) (omega arith) c.loop-k.invariant.1 c.masks_at-bits.ensures.xorb,
  word_more (λ i. orb_bit c.args.part.now.d.now c.args.part.now.p c.args.s (32 * c.args.w + i)) c.loop-k.k c.loop-k.orb c.masks_at-bits.result.orb (λ i. orb_lt c.args.part.now.d.now c.args.part.now.p c.args.s (32 * c.args.w + i)) (omega arith) c.loop-k.invariant.2 c.masks_at-bits.ensures.orb,
)

pub returns : goal.returns
returns c =
    let e : c.loop-k.k ≡ 32 = omega arith in
    rw (c.loop-k.invariant.0, c.loop-k.invariant.1, c.loop-k.invariant.2, e)
