-- What a writer does, in the code's terms: it puts a text behind what it wrote, and keeps the lent bytes.
-- Assumes nothing.
use Rattle.std.specs.Prelude.{◌≡◌, List, ℕ}
use Rattle.text.specs.declared.Writer.{Writer}
use Rattle.text.specs.TextPut.{Put}

-- a writer at the start of its bytes
pub record Begun (out : List ℕ) (w : Writer) : Type 0 where
  pub bytes : w.out.now ≡ out
  pub start : w.at ≡ 0

pub record Wrote (most : ℕ) (text : List ℕ) (old new : Writer) : Type 0 where
  pub lent : new.out.ghost_name ≡ old.out.ghost_name
  pub put : Put most text old.out.now old.at new.out.now new.at
