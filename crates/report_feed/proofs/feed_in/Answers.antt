-- `report_feed::feed_in`: a refused call, or the part is fed; its rows are the first words of the room.
-- Assumes nothing.
use mathlib.Core.Path.{sym, ◌∙◌}
use Prim.Native.Nat.{◌*◌}
use native.Mathlib.Omega.{arith}
use lib.Seq.{length-take-le}
use Rattle.std.proofs.lemmas.Result.{err_from_is_err_and}
use Rattle.words.proofs.EditionLaws.{known_most}
use Rattle.report.specs.Report.{part_given}
use Rattle.report_feed.proofs.CallLaws.{call_passed_lem, call_feedable, call_refused, call_good}
use Rattle.report_feed.proofs.feed_in.Goals as goal

pub returns-in_err-check_call : goal.returns-in_err-check_call
returns-in_err-check_call c =
    let p = err_from_is_err_and c.from_residual.result c.from_residual.ensures.1 in
    let m = call_refused c.args.edition (part_given c.args.set.now c.args.lanes.now c.args.stages) c.args.batch.now _ (sym c.check_call.ensures ∙ c.in_err-check_call.was) in
    rw (p.1, p.2) (record { value = m.0; batch_after = m.1 })

pub slice_bounds-feed_part-end : goal.slice_bounds-feed_part-end
slice_bounds-feed_part-end c =
    let passed = call_passed_lem c.args.edition c.args.batch.now (sym c.check_call.ensures ∙ c.in_ok-check_call.was) in
    omega (arith, c.requires, known_most _ (call_feedable c.args.edition c.args.batch.now passed).edition)

pub slice_bounds-feed_part-end-2 : goal.slice_bounds-feed_part-end-2
slice_bounds-feed_part-end-2 c =
    let passed = call_passed_lem c.args.edition c.args.batch.now (sym c.check_call.ensures ∙ c.in_ok-check_call.was) in
    sym (length-take-le (32 * c.args.edition) c.args.room.now (omega (arith, c.requires, known_most _ (call_feedable c.args.edition c.args.batch.now passed).edition)))

pub feed_part-requires : goal.feed_part-requires
feed_part-requires c =
    let passed = call_passed_lem c.args.edition c.args.batch.now (sym c.check_call.ensures ∙ c.in_ok-check_call.was) in
    let feedable = call_feedable c.args.edition c.args.batch.now passed in
    (feedable, length-take-le (32 * c.args.edition) c.args.room.now (omega (arith, c.requires, known_most _ feedable.edition)))

pub returns : goal.returns
returns c =
    let passed = call_passed_lem c.args.edition c.args.batch.now (sym c.check_call.ensures ∙ c.in_ok-check_call.was) in
    let told = call_good c.args.edition (part_given c.args.set.now c.args.lanes.now c.args.stages) c.args.batch.now _ _ passed c.feed_part.ensures.value c.feed_part.ensures.batch_after in
    record { value = told.0; batch_after = told.1 }
