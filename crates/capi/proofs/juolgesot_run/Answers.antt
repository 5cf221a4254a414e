-- The numbers are those of the answer, and each slice is left as the function behind says.
-- Assumes nothing.
use mathlib.Core.Path.{refl, ap, ◌∙◌}
use lib.ListN.{length}
use Rattle.words.specs.Edition.{levels_for}
use Rattle.run_machine.specs.Run.{run_answer, Ran}
use Rattle.capi.specs.Exported.{after_run}
use Rattle.capi.specs.Numbers.{one_number}
use Rattle.capi.proofs.ToldLaws.{also, one_told}
use Rattle.capi.proofs.PromisedLaws.{promised}
use Rattle.capi.proofs.juolgesot_run.Goals as goal

pub returns : goal.returns
unfolding after_run
returns c =
    let o = run_answer c.args.edition (levels_for c.args.edition) c.args.words.now c.args.starts.now c.args.turns.now c.args.old.now c.args.new.now (length c.args.room.now) in
    let numbers = c.tell.ensures ∙ (ap one_number c.run.ensures.answer ∙ one_told (λ (x : Ran). x.left) o) in
    record { room_after = also numbers (also c.run.ensures.state (also c.run.ensures.room refl)); promise = promised c.args.words.now c.args.starts.now c.args.turns.now c.args.old.now c.args.new.now (length c.args.room.now) c.args.edition _ _ _ _ numbers c.run.ensures.state }
