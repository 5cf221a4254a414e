-- 12 ends it, or is passed.
-- Assumes nothing.
use Rattle.plan_positions.specs.Positions.{refusal12}
use Rattle.plan_entries.specs.TableEntries.{refusal13}
use Rattle.std.proofs.lemmas.Result.{err_from_is_err_and}
use Rattle.plan_checks.proofs.VerdictLaws.{at_told, went_past}
use Rattle.plan_checks.proofs.RefusalPlaceLaws.{lowest_told, few_same, few12, few13}
use Rattle.plan_checks.proofs.RefusalGroupLaws.{place_twelve, place_thirteen}
use Rattle.plan_checks.proofs.places.check_places.Goals as goal

pub of_lowest-requires : goal.of_lowest-requires
of_lowest-requires c =
    few_same (refusal12 c.args.plan.now) _ (lowest_told _ _ c.refusal12.ensures.value) (few12 c.args.plan.now c.requires.0.form)

pub returns-in_err-of_lowest : goal.returns-in_err-of_lowest
returns-in_err-of_lowest c =
    let d = c.args.plan.now in
    record {
      value = (let p = err_from_is_err_and c.from_residual.result c.from_residual.ensures.1 in rw (p.1, p.2) (place_twelve d _ (at_told 12 _ (refusal12 d) _ (lowest_told (refusal12 d) _ c.refusal12.ensures.value) (rw c.number.ensures at c.in_err-of_lowest.ensures))));
      room_unchanged = c.refusal12.ensures.room_unchanged;
    }

pub of_lowest-requires-2 : goal.of_lowest-requires-2
of_lowest-requires-2 c =
    few_same (refusal13 c.args.plan.now) _ (lowest_told _ _ c.refusal13.ensures) (few13 c.args.plan.now c.requires.0.form)

pub returns : goal.returns
returns c =
    let d = c.args.plan.now in
    let twelve = went_past 12 _ _ (at_told 12 _ (refusal12 d) _ (lowest_told (refusal12 d) _ c.refusal12.ensures.value) (rw c.number.ensures at c.in_ok-of_lowest.ensures)) in
    record {
      value = place_thirteen d _ twelve (at_told 13 _ (refusal13 d) _ (lowest_told (refusal13 d) _ c.refusal13.ensures) (rw c.number-2.ensures at c.of_lowest-2.ensures));
      room_unchanged = c.refusal12.ensures.room_unchanged;
    }
