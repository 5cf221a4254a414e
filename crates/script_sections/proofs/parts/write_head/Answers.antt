-- Half the words of the lanes, then the rest.
-- Assumes nothing.
use mathlib.Core.Path.{◌≡◌, sym, ap, ap₂, ◌∙◌}
use mathlib.Core.List.{◌++◌}
use Prim.Native.Nat.{ℕ, ◌/◌}
use native.Mathlib.Omega.{arith}
use borrow.Rule.Slice.PartMut.{mid_len}
use lib.ListN.{length, take, drop}
use lib.Seq.{length-take-le, length_front}
use Rattle.script.specs.Writers.{number_words}
use Rattle.script.proofs.HeadLaws.{numbers_wide}
use Rattle.script.proofs.PartLengthLaws.{lanes_even}
use Rattle.script.proofs.PutMidLaws.{two_parts}
use Rattle.script_sections.proofs.parts.write_head.Goals as goal

pub slice_bounds-write_numbers-end : goal.slice_bounds-write_numbers-end
slice_bounds-write_numbers-end c =
    omega (arith, c.requires.1, c.requires.0.body.lanes)

pub slice_bounds-write_numbers-end-2 : goal.slice_bounds-write_numbers-end-2
slice_bounds-write_numbers-end-2 c =
    let half : length (take (c.args.part.now.body.lanes / 2) c.args.out.now) ≡ c.args.part.now.body.lanes / 2 = length-take-le (c.args.part.now.body.lanes / 2) c.args.out.now (omega (arith, c.requires.1, c.requires.0.body.lanes)) in
    sym (half)

pub write_numbers-requires : goal.write_numbers-requires
write_numbers-requires c =
    let half : length (take (c.args.part.now.body.lanes / 2) c.args.out.now) ≡ c.args.part.now.body.lanes / 2 = length-take-le (c.args.part.now.body.lanes / 2) c.args.out.now (omega (arith, c.requires.1, c.requires.0.body.lanes)) in
    omega (arith, half, c.requires.0.body.laid.some_lanes)

-- the lanes are even, so that the rest is the other half
pub write_locations-requires : goal.write_locations-requires
write_locations-requires c =
    let h = c.args.part.now.body.lanes / 2 in
    let long = length_front c.args.out.now c.write_numbers.new.out h c.write_numbers.auto.out in
    let rest = mid_len h (length (c.write_numbers.new.out ++ drop h c.args.out.now)) (c.write_numbers.new.out ++ drop h c.args.out.now) (omega arith) in
    (c.requires.0, omega (arith, rest, long, c.requires.1, c.requires.0.body.lanes, lanes_even c.args.part.now.d.now))

pub returns : goal.returns
returns c =
    let half : length (take (c.args.part.now.body.lanes / 2) c.args.out.now) ≡ c.args.part.now.body.lanes / 2 = length-take-le (c.args.part.now.body.lanes / 2) c.args.out.now (omega (arith, c.requires.1, c.requires.0.body.lanes)) in
    let long = ap length c.write_numbers.ensures ∙ (numbers_wide _ c.args.x (omega (arith, half, c.requires.0.body.laid.some_lanes)) ∙ half) in
    let are = c.write_numbers.ensures ∙ ap (λ (w : ℕ). number_words w c.args.x) (half ∙ ap (λ (i : ℕ). i / 2) c.requires.0.body.lanes) in
    two_parts (c.args.part.now.body.lanes / 2) c.args.out.now c.write_numbers.new.out c.write_locations.new.out long ∙ ap₂ ◌++◌ are c.write_locations.ensures
