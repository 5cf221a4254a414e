-- `aiger_read::differences::literal_at` meets its contract, by what the difference is and its two bounds. Assumes nothing.
use mathlib.Core.Path.{sym, ap, ◌∙◌}
use Rattle.std.specs.Prelude.{Err}
use Rattle.std.proofs.lemmas.Result.{err_from_is_err_and}
use Rattle.aiger.specs.Reading.{difference_at}
use Rattle.aiger_read.proofs.GroupLaws.{literal_not, literal_under, literal_over, literal_found}
use Rattle.aiger_read.proofs.differences.literal_at.Goals as goal
use Rattle.aiger_read.proofs.differences.literal_at.Goals.{then-difference-least-via-then-difference-least, then-difference-least-via-else-difference-least+then-above-difference}

pub returns-in_err-difference : goal.returns-in_err-difference
returns-in_err-difference c =
    let p = err_from_is_err_and c.from_residual.result c.from_residual.ensures.1 in
    rw (p.1, p.2) (literal_not c.args.top.0 c.args.least (difference_at c.args.bytes.now c.args.at) _ (sym c.difference_at.ensures ∙ c.in_err-difference.was))

pub returns-then-difference-least : goal.returns-then-difference-least
returns-then-difference-least c =
    let d = difference_at c.args.bytes.now c.args.at in
    let is = sym c.difference_at.ensures ∙ c.in_ok-difference.was in
    ap Err c.nowhere.ensures
    ∙ elim c.then-difference-least.branch [
      | then-difference-least-via-then-difference-least w ↦ literal_under c.args.top.0 c.args.least d _ is w.if-difference-least.true
      | then-difference-least-via-else-difference-least+then-above-difference w ↦
          literal_over c.args.top.0 c.args.least d _ is w.if-difference-least.false w.if-above-difference.true
    ]

pub returns : goal.returns
returns c =
    let d = difference_at c.args.bytes.now c.args.at in
    let is = sym c.difference_at.ensures ∙ c.in_ok-difference.was in
    literal_found c.args.top.0 c.args.least d _ is c.if-difference-least.false c.if-above-difference.false
