-- One law for each way out.
-- Assumes nothing.
use mathlib.Core.Path.{sym, ap, ◌∙◌}
use lib.ListN.{length}
use Rattle.std.specs.Prelude.{Err}
use Rattle.words.proofs.EditionLaws.{known_number}
use Rattle.words.proofs.FoundLaws.{item_some, item_none}
use Rattle.run_machine.proofs.PartWellLaws.{lanes_of_lem}
use Rattle.run.proofs.RunAnswerLaws.{again, told_short, told_edition, told_block, told_turn, told_run, accepted}
use borrow.Author.Rules.{rules}
use Rattle.run.proofs.run.Goals as goal

pub returns-then-room-blocks_of : goal.returns-then-room-blocks_of
returns-then-room-blocks_of c =
    let told = told_short _ c.args.words.now c.args.starts.now c.args.turns.now c.args.old.now c.args.new.now c.args.room.now _ c.blocks_of.ensures c.if-room-blocks_of.true _ (ap Err c.nowhere.ensures) in
    record { answer = told.0; state = told.1.0; room = told.1.1 }

pub returns-then-not-is_edition : goal.returns-then-not-is_edition
returns-then-not-is_edition c =
    let unknown = sym c.is_edition.ensures ∙ c.if-not-is_edition.true in
    let told = told_edition _ c.args.words.now c.args.starts.now c.args.turns.now c.args.old.now c.args.new.now c.args.room.now _ c.blocks_of.ensures c.if-room-blocks_of.false _ (c.fill.ensures.after (λ y e. e)) unknown _ (ap Err c.nowhere-then-not-is_edition.ensures) in
    record { answer = told.0; state = told.1.0; room = told.1.1 }

pub bad_block-requires : goal.bad_block-requires
bad_block-requires c = lanes_of_lem _ (known_number _ (sym c.is_edition.ensures ∙ c.if-not-is_edition.false))

pub returns-in-Some : goal.returns-in-Some
returns-in-Some c =
    let known = sym c.is_edition.ensures ∙ c.if-not-is_edition.false in
    let told = told_block _ c.args.words.now c.args.starts.now c.args.turns.now c.args.old.now c.args.new.now c.args.room.now _ c.blocks_of.ensures c.if-room-blocks_of.false _
    (c.fill.ensures.after (λ y e. e)) known _ (item_some _ _ (sym c.bad_block.ensures ∙ c.in-Some.is)) _ (ap Err c.at_item.ensures) in
    record { answer = told.0; state = told.1.0; room = told.1.1 }

pub returns-in-Some-bad_turn : goal.returns-in-Some-bad_turn
returns-in-Some-bad_turn c =
    let known = sym c.is_edition.ensures ∙ c.if-not-is_edition.false in
    let told = told_turn _ c.args.words.now c.args.starts.now c.args.turns.now c.args.old.now c.args.new.now c.args.room.now _ c.blocks_of.ensures c.if-room-blocks_of.false _
    (c.fill.ensures.after (λ y e. e)) known (item_none _ (sym c.bad_block.ensures ∙ c.in_default.is)) _ (item_some _ _ (sym c.bad_turn.ensures ∙ c.in-Some-bad_turn.is)) _ (ap Err c.at_item-in-Some-bad_turn.ensures) in
    record { answer = told.0; state = told.1.0; room = told.1.1 }

pub run_well-requires : goal.run_well-requires
run_well-requires c =
    let known = sym c.is_edition.ensures ∙ c.if-not-is_edition.false in
    accepted _ c.args.words.now c.args.starts.now c.args.turns.now c.args.old.now c.args.new.now c.args.room.now _ c.blocks_of.ensures c.if-room-blocks_of.false _ (c.fill.ensures.after (λ y e. e))
    known (item_none _ (sym c.bad_block.ensures ∙ c.in_default.is)) (item_none _ (sym c.bad_turn.ensures ∙ c.in_default-bad_turn.is)) _ (search rules)

pub returns : goal.returns
returns c =
    let known = sym c.is_edition.ensures ∙ c.if-not-is_edition.false in
    let cleared = again (length c.args.room.now) c.fill.new.self _ c.run_well.ensures.room c.fill.ensures.len in
    let told = told_run _ c.args.words.now c.args.starts.now c.args.turns.now c.args.old.now c.args.new.now c.args.room.now _ c.blocks_of.ensures c.if-room-blocks_of.false _ cleared known
    (item_none _ (sym c.bad_block.ensures ∙ c.in_default.is)) (item_none _ (sym c.bad_turn.ensures ∙ c.in_default-bad_turn.is)) _ _ c.run_well.ensures.left c.run_well.ensures.state in
    record { answer = told.0; state = told.1.0; room = told.1.1 }
