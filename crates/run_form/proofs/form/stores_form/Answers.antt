-- `run_form::form::stores_form` meets its contract: one law for each way through.
-- Assumes nothing.
use mathlib.Core.Path.{refl, ◌∙◌}
use Rattle.run_form.proofs.TestCodeLaws.{stores_as, stores_short, stores_many, stores_none, stores_old, stores_new}
use Rattle.run_form.proofs.form.stores_form.Goals as goal

pub returns-then-all-other : goal.returns-then-all-other
returns-then-all-other c =
    let same = stores_as _ c.args.states.old c.args.states.new c.args.part.now.script.words.now c.args.part.now.at _ _ _ _ refl refl refl refl in
    stores_short _ _ _ _ _ _ c.if-all-other.true ∙ same

pub returns-then-normal-eq0 : goal.returns-then-normal-eq0
returns-then-normal-eq0 c =
    let same = stores_as _ c.args.states.old c.args.states.new c.args.part.now.script.words.now c.args.part.now.at _ _ _ _ refl refl refl c.start.ensures in
    stores_none _ _ _ _ _ _ c.if-all-other.false c.if-normal-part.true c.if-normal-eq0.true ∙ same

pub returns-then-end-states : goal.returns-then-end-states
returns-then-end-states c =
    let same = stores_as _ c.args.states.old c.args.states.new c.args.part.now.script.words.now c.args.part.now.at _ _ _ _ refl refl refl c.start.ensures in
    stores_new _ _ _ _ _ _ c.if-all-other.false c.if-normal-part.true c.if-normal-eq0.false c.if-end-states.true ∙ same

pub returns-else-end-states : goal.returns-else-end-states
returns-else-end-states c =
    let same = stores_as _ c.args.states.old c.args.states.new c.args.part.now.script.words.now c.args.part.now.at _ _ _ _ refl refl refl c.start.ensures in
    stores_old _ _ _ _ _ _ c.if-all-other.false c.if-normal-part.true c.if-normal-eq0.false c.if-end-states.false ∙ same

pub returns-else-normal-part : goal.returns-else-normal-part
returns-else-normal-part c =
    let same = stores_as _ c.args.states.old c.args.states.new c.args.part.now.script.words.now c.args.part.now.at _ _ _ _ refl refl refl c.start.ensures in
    stores_many _ _ _ _ _ _ c.if-all-other.false c.if-normal-part.false ∙ same
