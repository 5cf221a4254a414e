-- `report_part::outcome::judge`: each way through has its outcome; the table of lanes that are accepted is theirs.
-- Assumes nothing.
use mathlib.Core.Path.{◌≡◌, sym, ap, ◌∙◌}
use Rattle.std.specs.Prelude.{Err}
use mathlib.Core.Option.{none}
use Prim.Native.Nat.{ℕ, ◌^◌, ◌≤◌, ◌<◌}
use lib.ListN.{length, get_or}
use Rattle.words.specs.Answer.{at_item, nowhere}
use Rattle.words.proofs.FoundLaws.{item_some, item_none}
use Rattle.reads.specs.ReadSet.{pairs_of, broken}
use Rattle.handed_lanes.specs.Handed.{lanes_in}
use Rattle.handed.proofs.HandedAnswerLaws.{told_none, fine_table}
use borrow.Author.Rules.{rules}
use Rattle.report_part.proofs.OutcomeLaws.{became_refused, became_placed, handed_many, handed_bad, handed_empty, handed_fault, handed_fine}
use Rattle.report_part.proofs.outcome.judge.Goals as goal

pub returns-then-set-gt-SET_WORDS : goal.returns-then-set-gt-SET_WORDS
returns-then-set-gt-SET_WORDS c =
    let b = became_refused c.args.n c.args.set.now _ (nowhere 1) _ (handed_many c.args.n c.args.set.now c.args.lanes.now c.if-set-gt-SET_WORDS.true) in
    record { value = ap Err c.nowhere.ensures ∙ b.0; lanes_lie = b.1 }

pub returns-in-Some : goal.returns-in-Some
returns-in-Some c =
    let bad = item_some _ _ (sym c.check_form.ensures ∙ c.in-Some.is) in
    let b = became_refused c.args.n c.args.set.now _ (at_item 2 _) _ (handed_bad c.args.n c.args.set.now c.if-set-gt-SET_WORDS.false c.args.lanes.now _ bad) in
    record { value = ap Err c.at_item.ensures ∙ b.0; lanes_lie = b.1 }

pub returns-then-set-eq0 : goal.returns-then-set-eq0
returns-then-set-eq0 c =
    let few-in : length c.args.set.now ≤ 16384 = c.if-set-gt-SET_WORDS.false in
    let form_in : broken (pairs_of c.args.set.now) ≡ none = item_none _ (sym c.check_form.ensures ∙ c.in_default.is) in
    let a = c.args in
    let b = became_refused a.n a.set.now _ (nowhere 3) _ (handed_empty a.n a.set.now (few-in) a.lanes.now (form_in) c.if-set-eq0.true) in
    record { value = ap Err c.nowhere-then-set-eq0.ensures ∙ b.0; lanes_lie = b.1 }

pub fill_lanes-requires : goal.fill_lanes-requires
fill_lanes-requires c =
    let few-in : length c.args.set.now ≤ 16384 = c.if-set-gt-SET_WORDS.false in
    let form_in : broken (pairs_of c.args.set.now) ≡ none = item_none _ (sym c.check_form.ensures ∙ c.in_default.is) in
    record {
      formed = record { few = few-in; form = form_in };
      room = c.requires.0;
      some_lanes = c.requires.1;
      few-lanes = c.requires.2;
      marks = search rules;
    }

pub returns-in-Some-fill_lanes : goal.returns-in-Some-fill_lanes
returns-in-Some-fill_lanes c =
    let few-in : length c.args.set.now ≤ 16384 = c.if-set-gt-SET_WORDS.false in
    let form_in : broken (pairs_of c.args.set.now) ≡ none = item_none _ (sym c.check_form.ensures ∙ c.in_default.is) in
    let a = c.args in
    let wrong = item_some _ _ (sym c.fill_lanes.ensures.value ∙ c.in-Some-fill_lanes.is) in
    let b = became_refused a.n a.set.now _ (at_item 27 _) _ (handed_fault a.n a.set.now (few-in) a.lanes.now (form_in) c.if-set-eq0.false _ wrong) in
    record { value = ap Err c.at_item-in-Some-fill_lanes.ensures ∙ b.0; lanes_lie = b.1 }

pub returns : goal.returns
returns c =
    let form_in : broken (pairs_of c.args.set.now) ≡ none = item_none _ (sym c.check_form.ensures ∙ c.in_default.is) in
    let small-in : (x : ℕ) → get_or c.args.set.now x 0 < 2 ^ 32 = λ x. (c.type_inv.set x).fits in
    let few-in : length c.args.set.now ≤ 16384 = c.if-set-gt-SET_WORDS.false in
    let fine = told_none _ (item_none _ (sym c.fill_lanes.ensures.value ∙ c.in_default-fill_lanes.is)) in
    let lie = fine_table c.args.n c.args.set.now c.args.lanes.now (form_in) (small-in) fine _ c.requires.2 (c.fill_lanes.auto.table ∙ c.requires.0) c.fill_lanes.ensures.table_after in
    let told = became_placed c.args.n c.args.set.now _ (record { size = 0; lanes = lanes_in (pairs_of c.args.set.now) c.args.lanes.now }) _
    (handed_fine c.args.n c.args.set.now (few-in) c.args.lanes.now (form_in) c.if-set-eq0.false fine) lie in
    record { value = told.0; lanes_lie = told.1 }
