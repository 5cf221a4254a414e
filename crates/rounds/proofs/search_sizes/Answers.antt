-- `search_sizes`: a set that meets 3, 21 or 22 has no lanes; for any other, as many words of the two arrays as there are lanes are lent.
-- Assumes nothing.
use mathlib.Core.Path.{sym}
use native.Mathlib.Omega.{arith}
use lib.Seq.{length-take-le}
use Rattle.reads.specs.ReadSet.{pairs_of}
use Rattle.rounds.proofs.PieceSizeLaws.{table_cleared, pairs_whole}
use Rattle.rounds.proofs.BeforeLaws.{before_passed, lost_post, passed_post}
use Rattle.rounds.proofs.search_sizes.Goals as goal

pub refused_before-requires : goal.refused_before-requires
refused_before-requires c =
    (c.requires.whole, c.requires.few, c.requires.few-lanes)

pub returns-in-Some : goal.returns-in-Some
returns-in-Some c =
    let no-lanes = table_cleared c.args.table.now _ c.clear.ensures c.requires.room in
    let told = lost_post c.args.lanes (pairs_of c.args.set.now) c.requires.some_lanes _ c.refused_before.ensures _ c.in-Some.is _
    c.nowhere.ensures _ no-lanes in
    record { value = told.0; table_after = told.1 }

pub slice_bounds-sizes_over-end : goal.slice_bounds-sizes_over-end
slice_bounds-sizes_over-end c = sym (length-take-le _ _ c.requires.few-lanes)

pub slice_bounds-sizes_over-end-2 : goal.slice_bounds-sizes_over-end-2
slice_bounds-sizes_over-end-2 c = sym (length-take-le _ _ c.requires.few-lanes)

pub sizes_over-requires : goal.sizes_over-requires
sizes_over-requires c =
    let some_pairs = (before_passed c.args.lanes (pairs_of c.args.set.now) c.requires.some_lanes _ c.refused_before.ensures c.in_default.is).1 in (
      c.requires,
      length-take-le _ _ c.requires.few-lanes,
      length-take-le _ _ c.requires.few-lanes,
      omega (arith, some_pairs, pairs_whole c.args.set.now c.requires.whole),
    )

pub returns : goal.returns
returns c =
    record { value = passed_post c.args.lanes (pairs_of c.args.set.now) c.requires.some_lanes _ c.refused_before.ensures c.in_default.is _ c.sizes_over.ensures.value; table_after = c.sizes_over.ensures.table_after }
