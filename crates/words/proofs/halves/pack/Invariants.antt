-- `words::halves::pack` meets its contract. The loop's invariant: the entries of the first t lanes are in place; at the end the entries fix the words.
-- Assumes nothing.
use Prim.Native.Nat.{◌*◌}
use lib.ListN.{get_or}
use Rattle.words.proofs.SectionLaws.{HalvesFilled}
use Rattle.words.proofs.halves.pack.Given as goal

abbrev pub invariant-loop-t : goal.invariant-loop-t
invariant-loop-t l = HalvesFilled l.n (λ i. get_or l.entries i 0) l.s (16 * l.t)
