use mathlib.Core.Path.{◌∙◌}
use native.Mathlib.Omega.{arith}
use Rattle.reads_try.specs.TableLanes.{lane_of, row_at, lanes_at}
use Rattle.reads_try.proofs.LaneTableLaws.{filled_row}
use Rattle.reads_section.proofs.ReadoutLaws.{longest_step, longest_end}
use Rattle.report_part.proofs.GainLaws.{bits_step, bits_end, used_step, used_end, bits_few, lanes_few, rounds_few, use_some, use_none, counted_is, max_is}
use Rattle.report_part.proofs.counts.count_lanes.Goals.{then-held-gt0, else-held-gt0}
use Rattle.report_part.proofs.counts.count_lanes.Goals as goal

pub lane_load-held-requires : goal.lane_load-held-requires
lane_load-held-requires c =
    filled_row c.requires.filled _ c.loop-j-test.true

pub overflow_add-bits : goal.overflow_add-bits
overflow_add-bits c =
    omega (arith, c.loop-j.invariant.0, bits_step c.requires c.loop-j.j c.loop-j-test.true, c.lane_load-held.ensures.0, bits_few c.requires)

pub overflow_add-lanes : goal.overflow_add-lanes
overflow_add-lanes c =
    omega (arith, c.loop-j.invariant.1, lanes_few c.requires)

pub loop-j-preserved : goal.loop-j-preserved
loop-j-preserved c =
    let lane = lane_of c.args.set.now (row_at c.args.table.now c.loop-j.j) in
    let used = used_step c.requires c.loop-j.j c.loop-j-test.true in
    let longer = longest_step c.requires c.loop-j.j c.loop-j-test.true in (
      omega (arith, c.loop-j.invariant.0, bits_step c.requires c.loop-j.j c.loop-j-test.true, c.lane_load-held.ensures.0),
      elim c.if-held-gt0.branch [
        | then-held-gt0 w ↦ omega (arith, c.loop-j.invariant.1, used, use_some lane _ c.lane_load-held.ensures.1 w.if-held-gt0.true, w.lanes-is)
        | else-held-gt0 w ↦ omega (arith, c.loop-j.invariant.1, used, use_none lane _ c.lane_load-held.ensures.1 w.if-held-gt0.false, w.lanes-is)
      ],
      omega (arith, c.loop-j.invariant.2, longer, c.lane_load-held.ensures.1, c.max-rounds.ensures ∙ max_is c.loop-j.rounds c.lane_load-held.result.pairs),
    )

pub overflow_cast-result : goal.overflow_cast-result
overflow_cast-result c =
    omega (arith, c.loop-j.invariant.2, rounds_few c.requires)

pub returns : goal.returns
returns c =
    let b = bits_end c.requires c.loop-j.j c.loop-j-test.false in
    let u = used_end c.requires c.loop-j.j c.loop-j-test.false in
    let r = longest_end c.requires c.loop-j.j c.loop-j-test.false in
    counted_is (lanes_at c.args.set.now c.args.table.now c.args.n) _ _ _ (omega (arith, c.loop-j.invariant.0, b)) (omega (arith, c.loop-j.invariant.1, u)) (omega (arith, c.loop-j.invariant.2, r))
