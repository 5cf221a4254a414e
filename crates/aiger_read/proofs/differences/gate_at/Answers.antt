-- `aiger_read::differences::gate_at` meets its contract: its first literal, then its second. Assumes nothing.
use mathlib.Core.Path.{sym, ◌∙◌}
use Rattle.std.proofs.lemmas.Result.{err_from_is_err_and}
use Rattle.aiger_read.proofs.GroupLaws.{gate_first_lem, gate_second_lem, gate_both}
use Rattle.aiger_read.proofs.differences.gate_at.Goals as goal

pub returns-in_err-first : goal.returns-in_err-first
returns-in_err-first c =
    let p = err_from_is_err_and c.from_residual.result c.from_residual.ensures.1 in
    rw (p.1, p.2) (gate_first_lem c.args.bytes.now c.args.pin.0 _ _ c.inverted.ensures _ (sym c.literal_at.ensures ∙ c.in_err-first.was))

pub returns-in_err-second : goal.returns-in_err-second
returns-in_err-second c =
    let p = err_from_is_err_and c.from_residual-in_err-second.result c.from_residual-in_err-second.ensures.1 in
    rw (p.1, p.2)
    (gate_second_lem c.args.bytes.now c.args.pin.0 _ _ c.inverted.ensures _ (sym c.literal_at.ensures ∙ c.in_ok-first.was) _
    (sym c.literal_at-2.ensures ∙ c.in_err-second.was))

pub returns : goal.returns
returns c =
    gate_both c.args.bytes.now c.args.pin.0 _ _ c.inverted.ensures _ (sym c.literal_at.ensures ∙ c.in_ok-first.was) _ (sym c.literal_at-2.ensures ∙ c.in_ok-second.was)
