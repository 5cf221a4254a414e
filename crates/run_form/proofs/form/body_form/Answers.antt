-- Each `&&` by the test before it.
-- Assumes nothing.
use mathlib.Core.Path.{◌≡◌, refl, sym, ◌∙◌}
use mathlib.Core.Bool.{◌&&◌}
use Rattle.run_machine.specs.Run.{entries_form, locations_form, lanes_form, reads_form, stores_form}
use Rattle.run_machine.proofs.PartWellLaws.{stores_in}
use Rattle.run_form.specs.PartForm.{body_form}
use Rattle.run_form.proofs.BlockFormLaws.{and_then, and_else}
use Rattle.run_form.proofs.form.body_form.Goals as goal
use Rattle.run_form.proofs.form.body_form.Goals.{then-stores_form, else-stores_form, then-locations_form, else-locations_form, then-lanes_form, else-lanes_form}

pub locations_form-requires : goal.locations_form-requires
locations_form-requires c =
    let in-range = stores_in _ _ _ _ _ (sym c.stores_form.ensures ∙ c.if-stores_form.true) in
    record { exact = in-range.exact; few = in-range.few }

pub returns-then-reads_form : goal.returns-then-reads_form
unfolding body_form
returns-then-reads_form c =
    let n = c.args.part.now.script.lanes in
    let W = c.args.part.now.script.words.now in
    let o = c.args.part.now.at in
    let S = stores_form n W c.args.states.old c.args.states.new o in
    let L = locations_form n W o in
    let A = lanes_form n W o in
    let R = reads_form n W c.args.states.old c.args.states.new o in
    let two : c.if-stores_form.value ≡ (S && L) =
    elim c.if-stores_form.branch [ then-stores_form w ↦ and_then _ S L _ c.stores_form.ensures w.if-stores_form.true (w.value-is ∙ w.locations_form.ensures) | else-stores_form w ↦ and_else _ S L _ c.stores_form.ensures w.if-stores_form.false w.value-is ] in
    let three : c.if-locations_form.value ≡ (S && L && A) =
    elim c.if-locations_form.branch [ then-locations_form w ↦ and_then _ (S && L) A _ two w.if-locations_form.true (w.value-is ∙ w.lanes_form.ensures) | else-locations_form w ↦ and_else _ (S && L) A _ two w.if-locations_form.false w.value-is ] in
    let four : c.if-lanes_form.value ≡ (S && L && A && R) =
    elim c.if-lanes_form.branch [ then-lanes_form w ↦ and_then _ (S && L && A) R _ three w.if-lanes_form.true (w.value-is ∙ w.reads_form.ensures) | else-lanes_form w ↦ and_else _ (S && L && A) R _ three w.if-lanes_form.false w.value-is ] in
    and_then _ (S && L && A && R) (entries_form n W o) _ four c.if-reads_form.true c.entries_form.ensures

pub returns-else-reads_form : goal.returns-else-reads_form
unfolding body_form
returns-else-reads_form c =
    let n = c.args.part.now.script.lanes in
    let W = c.args.part.now.script.words.now in
    let o = c.args.part.now.at in
    let S = stores_form n W c.args.states.old c.args.states.new o in
    let L = locations_form n W o in
    let A = lanes_form n W o in
    let R = reads_form n W c.args.states.old c.args.states.new o in
    let two : c.if-stores_form.value ≡ (S && L) =
    elim c.if-stores_form.branch [ then-stores_form w ↦ and_then _ S L _ c.stores_form.ensures w.if-stores_form.true (w.value-is ∙ w.locations_form.ensures) | else-stores_form w ↦ and_else _ S L _ c.stores_form.ensures w.if-stores_form.false w.value-is ] in
    let three : c.if-locations_form.value ≡ (S && L && A) =
    elim c.if-locations_form.branch [ then-locations_form w ↦ and_then _ (S && L) A _ two w.if-locations_form.true (w.value-is ∙ w.lanes_form.ensures) | else-locations_form w ↦ and_else _ (S && L) A _ two w.if-locations_form.false w.value-is ] in
    let four : c.if-lanes_form.value ≡ (S && L && A && R) =
    elim c.if-lanes_form.branch [ then-lanes_form w ↦ and_then _ (S && L && A) R _ three w.if-lanes_form.true (w.value-is ∙ w.reads_form.ensures) | else-lanes_form w ↦ and_else _ (S && L && A) R _ three w.if-lanes_form.false w.value-is ] in
    and_else _ (S && L && A && R) (entries_form n W o) _ four c.if-reads_form.false refl
