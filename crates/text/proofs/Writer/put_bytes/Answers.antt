use mathlib.Core.Path.{◌≡◌, sym, ap, ◌∙◌}
use Prim.Native.Nat.{ℕ}
use native.Mathlib.Omega.{arith}
use lib.ListN.{take, length}
use lib.Seq.{take-length}
use Rattle.std.proofs.lemmas.List.{take_more}
use Rattle.text.proofs.WritingLaws.{wrote_none, wrote_then, wrote_is, wrote_as}
use Rattle.text.proofs.Writer.put_bytes.Goals as goal

pub loop-b-init : goal.loop-b-init
loop-b-init c = wrote_none _ _

pub loop-b-preserved : goal.loop-b-preserved
loop-b-preserved c = wrote_is _ _ (sym (take_more _ _ 0 c.loop-b-test.true)) (wrote_then _ _ c.loop-b.invariant c.put.ensures)

pub returns : goal.returns
returns c =
    let all : c.loop-b.b-index ≡ length c.args.text.now = omega arith in
    wrote_as _ _ (ap (λ (n : ℕ). take n c.args.text.now) all ∙ take-length c.args.text.now) (omega arith) c.loop-b.invariant
