-- `aiger_read::read_gates` meets its contract: 18, then 19 or 20, then 14, else the list. Assumes nothing.
use mathlib.Core.Path.{sym, ap, ◌∙◌}
use native.Mathlib.Omega.{arith}
use Rattle.std.specs.Prelude.{Err}
use Rattle.std.specs.Result.{result_ok}
use Rattle.std.proofs.lemmas.Result.{err_from_is_err_and}
use Rattle.words.proofs.FoundLaws.{missing_told}
use Rattle.aiger_read.proofs.ReadPassLaws.{header_bound, read_no_start, read_bad, read_short, read_whole}
use Rattle.aiger_read.proofs.read_gates.Goals as goal

pub returns-in_err-header : goal.returns-in_err-header
returns-in_err-header c =
    let p = err_from_is_err_and c.from_residual.result c.from_residual.ensures.1 in
    let m = missing_told _ _ _ (sym c.ok_or.ensures.value ∙ c.in_err-header.was) in
    let told = read_no_start c.args.bytes.now c.args.out.now (sym c.start_of.ensures ∙ m.0) in
    record { value = p.1 ∙ (ap Err (p.2 ∙ (sym m.1 ∙ c.nowhere.ensures)) ∙ told.value); out_after = told.out_after }

pub overflow_add-first : goal.overflow_add-first
overflow_add-first c = omega (arith, header_bound _ _ (sym c.start_of.ensures ∙ (c.ok_or.ensures.ok_part ∙ ap result_ok c.in_ok-header.was)))

pub overflow_add-first-2 : goal.overflow_add-first-2
overflow_add-first-2 c = omega (arith, header_bound _ _ (sym c.start_of.ensures ∙ (c.ok_or.ensures.ok_part ∙ ap result_ok c.in_ok-header.was)))

pub overflow_cast-first : goal.overflow_cast-first
overflow_cast-first c = omega (arith, header_bound _ _ (sym c.start_of.ensures ∙ (c.ok_or.ensures.ok_part ∙ ap result_ok c.in_ok-header.was)))

pub judge-requires : goal.judge-requires
judge-requires c = omega (arith, header_bound _ _ (sym c.start_of.ensures ∙ (c.ok_or.ensures.ok_part ∙ ap result_ok c.in_ok-header.was)))

pub returns-in_err-judge : goal.returns-in_err-judge
returns-in_err-judge c =
    let start = sym c.start_of.ensures ∙ (c.ok_or.ensures.ok_part ∙ ap result_ok c.in_ok-header.was) in
    let p = err_from_is_err_and c.from_residual-in_err-judge.result c.from_residual-in_err-judge.ensures.1 in
    let told = read_bad _ _ start c.args.out.now _ (sym c.judge.ensures ∙ c.in_err-judge.was) in
    record { value = p.1 ∙ (ap Err p.2 ∙ told.value); out_after = told.out_after }

pub overflow_mul-header : goal.overflow_mul-header
overflow_mul-header c = omega (arith, header_bound _ _ (sym c.start_of.ensures ∙ (c.ok_or.ensures.ok_part ∙ ap result_ok c.in_ok-header.was)))

pub returns-then-out-header : goal.returns-then-out-header
returns-then-out-header c =
    let start = sym c.start_of.ensures ∙ (c.ok_or.ensures.ok_part ∙ ap result_ok c.in_ok-header.was) in
    let told = read_short _ _ start (sym c.judge.ensures ∙ c.in_ok-judge.was) c.args.out.now c.if-out-header.true in
    record { value = ap Err c.nowhere-then-out-header.ensures ∙ told.value; out_after = told.out_after }

pub fill-requires : goal.fill-requires
fill-requires c =
    record {
      good = sym c.judge.ensures ∙ c.in_ok-judge.was;
      room = c.if-out-header.false;
      fits = omega (arith, header_bound _ _ (sym c.start_of.ensures ∙ (c.ok_or.ensures.ok_part ∙ ap result_ok c.in_ok-header.was)));
    }

pub returns : goal.returns
returns c =
    let start = sym c.start_of.ensures ∙ (c.ok_or.ensures.ok_part ∙ ap result_ok c.in_ok-header.was) in
    let told = read_whole _ _ start (sym c.judge.ensures ∙ c.in_ok-judge.was) c.args.out.now _ c.if-out-header.false c.fill.ensures in
    record { value = told.value; out_after = told.out_after }
