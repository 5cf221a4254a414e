-- After i turns the first i entries are those of the list.
-- Assumes nothing.
use mathlib.Core.Path.{◌≡◌}
use lib.ListN.{get_or, take}
use Rattle.words.specs.Section.{list_of}
use Rattle.script_front.proofs.put_entries.Given as goal

abbrev pub invariant-loop-i : goal.invariant-loop-i
invariant-loop-i l = take l.i l.entries ≡ list_of (λ k. get_or l.list k 0) l.i
