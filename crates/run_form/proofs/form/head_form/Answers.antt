-- `run_form::form::head_form` meets its contract: one law for each way through.
-- Assumes nothing.
use Prim.Native.Nat.{◌+◌, ◌≤◌}
use native.Mathlib.Omega.{arith}
use Rattle.run_form.proofs.BlockFormLaws.{head_short, head_none, head_many, head_long, head_last}
use Rattle.run_form.proofs.form.head_form.Goals as goal

pub returns-then-rest-at : goal.returns-then-rest-at
returns-then-rest-at c = head_short _ c.args.rest.now.script.words.now c.args.rest.now.end c.args.rest.now.at (omega arith)

pub returns-then-stages-lt1 : goal.returns-then-stages-lt1
returns-then-stages-lt1 c =
    let fits : c.args.rest.now.at + c.args.rest.now.script.lanes ≤ c.args.rest.now.end = omega arith in
    head_none _ c.args.rest.now.script.words.now c.args.rest.now.end c.args.rest.now.at fits (omega arith)

pub returns-then-stages-gt-MOST_STAGES : goal.returns-then-stages-gt-MOST_STAGES
returns-then-stages-gt-MOST_STAGES c =
    let fits : c.args.rest.now.at + c.args.rest.now.script.lanes ≤ c.args.rest.now.end = omega arith in
    head_many _ c.args.rest.now.script.words.now c.args.rest.now.end c.args.rest.now.at fits (omega arith) (omega arith)

pub returns-then-end-rest : goal.returns-then-end-rest
returns-then-end-rest c =
    let fits : c.args.rest.now.at + c.args.rest.now.script.lanes ≤ c.args.rest.now.end = omega arith in
    head_last _ c.args.rest.now.script.words.now c.args.rest.now.end c.args.rest.now.at fits (omega arith) (omega arith) c.part_end-end.result c.part_end-end.ensures (omega arith) _ c.last_mark.ensures

pub returns-else-end-rest : goal.returns-else-end-rest
returns-else-end-rest c =
    let fits : c.args.rest.now.at + c.args.rest.now.script.lanes ≤ c.args.rest.now.end = omega arith in
    head_long _ c.args.rest.now.script.words.now c.args.rest.now.end c.args.rest.now.at fits (omega arith) (omega arith) c.part_end-end.result c.part_end-end.ensures (omega arith)
