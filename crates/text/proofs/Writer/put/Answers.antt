-- `text::Writer::put` meets its contract: a store inside the lent bytes, and none past them. Assumes nothing.
use Rattle.text.proofs.WritingLaws.{put_byte, put_past}
use mathlib.Core.Path.{refl}
use Rattle.text.proofs.Writer.put.Goals as goal
use Rattle.text.proofs.Writer.put.Goals.{then-self, else-self}

pub returns : goal.returns
returns c =
    elim c.if-self.branch [ then-self w ↦ rw w.self-is (record { lent = refl; put = put_byte _ _ _ }) | else-self w ↦ rw w.self-is (record { lent = refl; put = put_past _ _ _ w.if-self.false }) ]
