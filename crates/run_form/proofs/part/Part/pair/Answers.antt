-- Round r is one of the part's, and so lies inside it.
-- Assumes nothing.
use mathlib.Core.Path.{ap}
use Prim.Native.Nat.{ℕ}
use native.Mathlib.Omega.{arith}
use lib.ListN.{get_or}
use Rattle.run_machine.specs.Part.{read_word_at, read_mask_at}
use Rattle.run_form.proofs.part.Part.pair.Goals as goal

pub returns : goal.returns
unfolding read_word_at read_mask_at
returns c =
    (ap (λ (x : ℕ). get_or c.args.self.now.script.words.now x 0) (omega arith), ap (λ (x : ℕ). get_or c.args.self.now.script.words.now x 0) (omega arith))
