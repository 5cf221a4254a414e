-- What a writer does: it puts a text into lent bytes from byte `at` on, as far as they go, and answers with the byte after it. So one pass over
-- no bytes at all measures a text.
-- Assumes nothing.
use Rattle.std.specs.Prelude.{◌≡◌, List, ℕ, ◌+◌, ◌≤◌, length}
use Rattle.std.proofs.lemmas.List.Edits.{sets}

-- `most` bounds the text's length
pub record Put (most : ℕ) (text old : List ℕ) (at : ℕ) (new : List ℕ) (end : ℕ) : Type 0 where
  pub ends : end ≡ at + length text
  pub holds : new ≡ sets old at text
  pub short : end ≤ at + most
