use mathlib.Core.Path.{◌≡◌, ◌∙◌}
use mathlib.Core.List.{[], ◌∷◌}
use native.Mathlib.Omega.{arith}
use Rattle.text.proofs.WritingLaws.{writing_start, writing_more, writing_done}
use Rattle.listing_line.specs.Line.{hex_in}
use Rattle.listing_line.proofs.LineLaws.{hex_top}
use Rattle.listing_line.proofs.put_hex.Goals as goal

pub loop-k-init : goal.loop-k-init
loop-k-init c = writing_start _ _

pub loop-k-preserved : goal.loop-k-preserved
loop-k-preserved c =
    writing_more c.loop-k.invariant (c.hex_digit.result ∷ []) _ (hex_top _ _ c.loop-k-test.true ∙ (rw c.hex_digit.ensures)) c.put.ensures (omega arith)

pub returns : goal.returns
unfolding hex_in
returns c = let z : c.loop-k.k ≡ 0 = omega arith in writing_done c.loop-k.invariant 8 (rw (z, hex_in)) (omega arith)
