-- `report_feed::feed_part`: a refused part is counted by its number; a good one adds what its lanes say.
-- Assumes nothing.
use mathlib.Core.Path.{◌≡◌, sym, ◌∙◌}
use Prim.Native.Nat.{ℕ, ◌^◌, ◌<◌}
use native.Mathlib.Omega.{arith}
use lib.ListN.{get_or}
use Rattle.words.specs.Answer.{good}
use Rattle.words.proofs.EditionLaws.{known_least, known_most}
use Rattle.reads.specs.SetAnswer.{Packed}
use Rattle.report.specs.Report.{part_given, part_outcome}
use Rattle.report_feed.proofs.FeedLaws.{is_refused_lem, is_good, number_low, refused_fed_lem, gainable, gain_feedable, good_fed_lem}
use Rattle.report_feed.proofs.feed_part.Goals as goal

pub part_outcome-requires : goal.part_outcome-requires
part_outcome-requires c =
    (c.requires.1, omega (arith, known_least _ c.requires.0.edition), known_most _ c.requires.0.edition)

pub add_refused-requires : goal.add_refused-requires
add_refused-requires c =
    (c.requires.0, number_low _ _ _ (is_refused_lem _ _ (sym c.part_outcome.ensures.value ∙ c.in-Err.is)))

pub gain_of-gain-requires : goal.gain_of-gain-requires
gain_of-gain-requires c =
    let good-in : let a = c.args in (x : Packed) × (part_outcome a.n (part_given a.set.now a.lanes.now a.stages) ≡ good x) = is_good _ (sym c.part_outcome.ensures.value ∙ c.in-Ok.is) in
    let small-in : (i : ℕ) → get_or c.args.set.now i 0 < 2 ^ 32 = λ i. (c.type_inv.set i).fits in
    let x = good-in in
    gainable c.args.n c.requires.0.edition c.args.set.now c.args.lanes.now c.args.stages (small-in) x.0 x.1 _ (c.part_outcome.ensures.lanes_lie x.0 x.1)

pub add_good-requires : goal.add_good-requires
add_good-requires c =
    let good-in : let a = c.args in (x : Packed) × (part_outcome a.n (part_given a.set.now a.lanes.now a.stages) ≡ good x) = is_good _ (sym c.part_outcome.ensures.value ∙ c.in-Ok.is) in
    let small-in : (i : ℕ) → get_or c.args.set.now i 0 < 2 ^ 32 = λ i. (c.type_inv.set i).fits in
    let x = good-in in
    gain_feedable c.args.n c.requires.0.edition c.args.set.now c.args.lanes.now c.args.stages (small-in) x.0 x.1 _ (c.part_outcome.ensures.lanes_lie x.0 x.1) _ _ c.requires.0 c.gain_of-gain.ensures

pub returns-in-Ok : goal.returns-in-Ok
returns-in-Ok c =
    let good-in : let a = c.args in (x : Packed) × (part_outcome a.n (part_given a.set.now a.lanes.now a.stages) ≡ good x) = is_good _ (sym c.part_outcome.ensures.value ∙ c.in-Ok.is) in
    let small-in : (i : ℕ) → get_or c.args.set.now i 0 < 2 ^ 32 = λ i. (c.type_inv.set i).fits in
    let x = good-in in
    let told = good_fed_lem c.args.n c.requires.0.edition c.args.set.now c.args.lanes.now c.args.stages (small-in) x.0 x.1 _ (c.part_outcome.ensures.lanes_lie x.0 x.1) _ _ _ c.gain_of-gain.ensures
    c.add_good.ensures in
    record { value = told.0; batch_after = told.1 }

pub returns-in-Err : goal.returns-in-Err
returns-in-Err c =
    let told = refused_fed_lem c.args.n (part_given c.args.set.now c.args.lanes.now c.args.stages) _ _ _ (is_refused_lem _ _ (sym c.part_outcome.ensures.value ∙ c.in-Err.is)) c.add_refused.ensures in
    record { value = told.0; batch_after = told.1 }
