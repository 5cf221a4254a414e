-- `listing::lines::Section::put_lane` meets its contract. The invariant: what is written, with the rounds that are left, is the whole text. Assumes nothing.
use Prim.Native.Nat.{◌-◌, ◌*◌}
use Rattle.text.proofs.WritingLaws.{Writing}
use Rattle.listing.specs.SectionLines.{lane_round_lines}
use Rattle.listing.proofs.lines.Section.put_lane.Given as goal

abbrev pub invariant-loop-round : goal.invariant-loop-round
invariant-loop-round l =
    Writing (lane_round_lines l.self.lanes l.self.words.now l.lane (l.rounds - l.round) l.round) (lane_round_lines l.self.lanes l.self.words.now l.lane l.rounds 0) (74 * l.round) l.initial.out l.out
