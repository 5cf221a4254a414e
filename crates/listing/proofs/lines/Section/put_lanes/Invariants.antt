-- `listing::lines::Section::put_lanes` meets its contract. The invariant: what is written, with the lanes that are left, is the whole text. Assumes nothing.
use Prim.Native.Nat.{◌-◌, ◌*◌, ◌^◌}
use Rattle.text.proofs.WritingLaws.{Writing}
use Rattle.listing.specs.SectionLines.{section_lines}
use Rattle.listing.proofs.lines.Section.put_lanes.Given as goal

abbrev pub invariant-loop-lane : goal.invariant-loop-lane
invariant-loop-lane l =
    Writing (section_lines l.self.lanes l.self.words.now l.rounds (l.self.lanes - l.lane) l.lane) (section_lines l.self.lanes l.self.words.now l.rounds l.self.lanes 0) (l.lane * (74 * 2 ^ 32)) l.initial.out l.out
