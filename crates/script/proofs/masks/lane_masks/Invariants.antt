-- After k turns the words have the bits of the lane's first k positions.
-- Assumes nothing.
use mathlib.Core.Path.{◌≡◌}
use Prim.Native.Nat.{◌+◌, ◌*◌}
use Rattle.words.specs.Bit.{word_of}
use Rattle.script.specs.Script.{xora_bit, xorb_bit, orb_bit}
use Rattle.script.proofs.masks.lane_masks.Given as goal

abbrev pub invariant-loop-k : goal.invariant-loop-k
invariant-loop-k l =
    (l.xora ≡ word_of (λ i. xora_bit l.part.d.now l.part.p l.s (32 * l.w + i)) l.k)
    × (l.xorb ≡ word_of (λ i. xorb_bit l.part.d.now l.part.p l.s (32 * l.w + i)) l.k)
    × (l.orb ≡ word_of (λ i. orb_bit l.part.d.now l.part.p l.s (32 * l.w + i)) l.k)
