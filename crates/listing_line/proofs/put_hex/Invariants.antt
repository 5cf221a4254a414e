-- `listing_line::put_hex` meets its contract. The invariant: what is written, with the digits that are left, is the whole text. Assumes nothing.
use Rattle.listing_line.specs.Line.{hex, hex_in}
use Prim.Native.Nat.{◌-◌}
use Rattle.text.proofs.WritingLaws.{Writing}
use Rattle.listing_line.proofs.put_hex.Given as goal

abbrev pub invariant-loop-k : goal.invariant-loop-k
invariant-loop-k l = Writing (hex_in l.k l.n) (hex l.n) (8 - l.k) l.initial.out l.out
