-- `lanes_over`: each way through has its outcome, in the order of the refusals; the table of lanes that are accepted is the one that is read.
-- Assumes nothing.
use mathlib.Core.Path.{refl, sym, ap, ◌∙◌}
use native.Mathlib.Omega.{arith}
use Rattle.words.proofs.FoundLaws.{item_some, item_none}
use Rattle.reads.specs.ReadSet.{pairs_of}
use Rattle.reads.specs.Search.{longest}
use Rattle.rounds.proofs.RoundsAnswerLaws.{refused_post, placed_post, size_fits}
use Rattle.handed_lanes.specs.Handed.{lanes_in}
use Rattle.handed.proofs.HandedAnswerLaws.{is_many, is_bad, is_empty, is_fault, is_short, is_placed, accepted}
use Rattle.handed.proofs.lanes_over.Goals as goal

pub returns-then-set-gt-SET_WORDS : goal.returns-then-set-gt-SET_WORDS
returns-then-set-gt-SET_WORDS c =
    let told = refused_post _ _ _ _ (is_many c.args.n c.args.set.now c.args.lanes.now _ c.if-set-gt-SET_WORDS.true) c.nowhere.ensures in
    record { value = told.0; out_after = told.1 }

pub returns-in-Some : goal.returns-in-Some
returns-in-Some c =
    let bad = item_some _ _ (sym c.check_form.ensures ∙ c.in-Some.is) in
    let told = refused_post _ _ _ _ (is_bad c.args.n c.args.set.now c.args.lanes.now _ c.if-set-gt-SET_WORDS.false _ bad) c.at_item.ensures in
    record { value = told.0; out_after = told.1 }

pub returns-then-set-eq0 : goal.returns-then-set-eq0
returns-then-set-eq0 c =
    let form = item_none _ (sym c.check_form.ensures ∙ c.in_default.is) in
    let told = refused_post _ _ _ _ (is_empty c.args.n c.args.set.now c.args.lanes.now _ c.if-set-gt-SET_WORDS.false form c.if-set-eq0.true) c.nowhere-then-set-eq0.ensures in
    record { value = told.0; out_after = told.1 }

pub fill_lanes-requires : goal.fill_lanes-requires
fill_lanes-requires c = record {
  formed = record { few = c.if-set-gt-SET_WORDS.false; form = item_none _ (sym c.check_form.ensures ∙ c.in_default.is) };
  room = c.requires.room;
  some_lanes = c.requires.some_lanes;
  few-lanes = c.requires.few-lanes;
  marks = c.requires.marks;
}

pub returns-in-Some-fill_lanes : goal.returns-in-Some-fill_lanes
returns-in-Some-fill_lanes c =
    let form = item_none _ (sym c.check_form.ensures ∙ c.in_default.is) in
    let wrong = item_some _ _ (sym c.fill_lanes.ensures.value ∙ c.in-Some-fill_lanes.is) in
    let told = refused_post _ _ _ _ (is_fault c.args.n c.args.set.now c.args.lanes.now _ c.if-set-gt-SET_WORDS.false form c.if-set-eq0.false _ wrong) c.at_item-in-Some-fill_lanes.ensures in
    record { value = told.0; out_after = told.1 }

pub longest_row-rounds-requires : goal.longest_row-rounds-requires
longest_row-rounds-requires c =
    let form = item_none _ (sym c.check_form.ensures ∙ c.in_default.is) in
    let w = accepted c.args.n c.args.set.now c.args.lanes.now form (λ x. (c.type_inv.set x).fits) c.requires.few-lanes c.if-set-eq0.false _ c.fill_lanes.ensures.value
    c.in_default-fill_lanes.is _ (c.fill_lanes.auto.table ∙ c.requires.room) c.fill_lanes.ensures.table_after in
    w.readable

pub overflow_mul-n-2 : goal.overflow_mul-n-2
overflow_mul-n-2 c =
    let form = item_none _ (sym c.check_form.ensures ∙ c.in_default.is) in
    let w = accepted c.args.n c.args.set.now c.args.lanes.now form (λ x. (c.type_inv.set x).fits) c.requires.few-lanes c.if-set-eq0.false _ c.fill_lanes.ensures.value
    c.in_default-fill_lanes.is _ (c.fill_lanes.auto.table ∙ c.requires.room) c.fill_lanes.ensures.table_after in
    let rounds = c.longest_row-rounds.ensures ∙ ap longest w.same in
    omega (arith, size_fits c.args.n c.longest_row-rounds.result c.requires.few-lanes (omega (arith, rounds, w.few_rounds)))

pub returns-then-out-n : goal.returns-then-out-n
returns-then-out-n c =
    let form = item_none _ (sym c.check_form.ensures ∙ c.in_default.is) in
    let w = accepted c.args.n c.args.set.now c.args.lanes.now form (λ x. (c.type_inv.set x).fits) c.requires.few-lanes c.if-set-eq0.false _ c.fill_lanes.ensures.value
    c.in_default-fill_lanes.is _ (c.fill_lanes.auto.table ∙ c.requires.room) c.fill_lanes.ensures.table_after in
    let rounds = c.longest_row-rounds.ensures ∙ ap longest w.same in
    let short = is_short c.args.n c.args.set.now c.args.lanes.now _ c.if-set-gt-SET_WORDS.false form c.if-set-eq0.false w.fine (rw rounds at c.if-out-n.true) in
    let told = refused_post _ _ _ _ short c.nowhere-then-out-n.ensures in
    record { value = told.0; out_after = told.1 }

pub write_rounds-requires : goal.write_rounds-requires
write_rounds-requires c =
    let form = item_none _ (sym c.check_form.ensures ∙ c.in_default.is) in
    let w = accepted c.args.n c.args.set.now c.args.lanes.now form (λ x. (c.type_inv.set x).fits) c.requires.few-lanes c.if-set-eq0.false _ c.fill_lanes.ensures.value
    c.in_default-fill_lanes.is _ (c.fill_lanes.auto.table ∙ c.requires.room) c.fill_lanes.ensures.table_after in
    let rounds = c.longest_row-rounds.ensures ∙ ap longest w.same in
    record { table = w.readable; rounds = omega (arith, rounds, w.few_rounds); fits = c.if-out-n.false }

pub overflow_cast-result : goal.overflow_cast-result
overflow_cast-result c =
    let form = item_none _ (sym c.check_form.ensures ∙ c.in_default.is) in
    let w = accepted c.args.n c.args.set.now c.args.lanes.now form (λ x. (c.type_inv.set x).fits) c.requires.few-lanes c.if-set-eq0.false _ c.fill_lanes.ensures.value
    c.in_default-fill_lanes.is _ (c.fill_lanes.auto.table ∙ c.requires.room) c.fill_lanes.ensures.table_after in
    let rounds = c.longest_row-rounds.ensures ∙ ap longest w.same in
    omega (arith, rounds, w.few_rounds)

pub returns : goal.returns
returns c =
    let form = item_none _ (sym c.check_form.ensures ∙ c.in_default.is) in
    let w = accepted c.args.n c.args.set.now c.args.lanes.now form (λ x. (c.type_inv.set x).fits) c.requires.few-lanes c.if-set-eq0.false _ c.fill_lanes.ensures.value
    c.in_default-fill_lanes.is _ (c.fill_lanes.auto.table ∙ c.requires.room) c.fill_lanes.ensures.table_after in
    let rounds = c.longest_row-rounds.ensures ∙ ap longest w.same in
    let fits = is_placed c.args.n c.args.set.now c.args.lanes.now _ c.if-set-gt-SET_WORDS.false form c.if-set-eq0.false w.fine (rw rounds at c.if-out-n.false) in
    let told = placed_post _ (record { size = 0; lanes = lanes_in (pairs_of c.args.set.now) c.args.lanes.now }) _ _ _ c.args.out.now _ fits w.same c.longest_row-rounds.ensures refl
    c.write_rounds.ensures in
    record { value = told.0; out_after = told.1 }
