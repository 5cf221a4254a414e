-- After j turns the first j words are the locations'.
-- Assumes nothing.
use mathlib.Core.Path.{◌≡◌}
use lib.ListN.{take}
use Rattle.words.specs.Section.{list_of}
use Rattle.script.proofs.HeadLaws.{location_word}
use Rattle.script.proofs.head.write_locations.Given as goal

abbrev pub invariant-loop-j : goal.invariant-loop-j
invariant-loop-j l = take l.j l.out ≡ list_of (location_word l.part.d.now l.part.p) l.j
