-- `run_form::form::lane_bits` meets its contract. The invariant: the bits of the rounds passed, at most 32 each.
-- Assumes nothing.
use mathlib.Core.Path.{◌≡◌}
use Prim.Native.Nat.{◌*◌, ◌≤◌}
use Rattle.words.specs.Sum.{sum_to}
use Rattle.words.specs.Bit.{pop}
use Rattle.run_machine.specs.Part.{rounds_at, read_mask_at}
use Rattle.run_form.proofs.form.lane_bits.Given as goal

abbrev pub invariant-loop-r : goal.invariant-loop-r
invariant-loop-r l =
    (l.r-end ≡ rounds_at l.part.script.words.now l.part.at) × (l.sum ≤ 32 * l.r) × (l.sum ≡ sum_to (λ q. pop (read_mask_at l.part.script.lanes l.part.script.words.now l.part.at q l.i)) l.r)
