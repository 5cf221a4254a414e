-- The entries fill the first 16 words a lane, the lanes the rest.
-- Assumes nothing.
use Rattle.std.proofs.Common.{◌++◌, ◌*◌, ◌≤◌, length, sym, ap, ap₂, ◌∙◌, arith}
use lib.Seq.{length-take-le}
use Rattle.words.proofs.SectionLaws.{section_length}
use Rattle.script.specs.Writers.{words_in}
use Rattle.script.proofs.PutMidLaws.{two_parts}
use Rattle.script_sections.proofs.sections.write_section.Goals as goal

pub slice_bounds-pack-end-2 : goal.slice_bounds-pack-end-2
slice_bounds-pack-end-2 g c = sym (length-take-le (16 * c.args.lanes) c.args.out.now (omega (arith, c.requires.room.room)))

pub pack-requires : goal.pack-requires
pack-requires g c =
    let h : 16 * c.args.lanes ≤ length c.args.out.now = omega (arith, c.requires.room.room) in
    (omega (arith, c.requires.room.lanes), length-take-le (16 * c.args.lanes) c.args.out.now h, c.requires.room.many, c.requires.room.small)

pub returns : goal.returns
returns g c = λ e f h same.
    two_parts (16 * c.args.lanes) c.args.out.now c.pack.new.s c.write_lanes.new.out (ap length c.pack.ensures ∙ section_length c.args.lanes (words_in c.args.entries.now))
    ∙ ap₂ ◌++◌ c.pack.ensures (c.write_lanes.ensures e f h same)
