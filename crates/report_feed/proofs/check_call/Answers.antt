-- `report_feed::check_call` meets its contract: 29, 5, 28, 14, each after those before it. Assumes nothing.
use mathlib.Core.Path.{sym, ap, ◌∙◌}
use native.Mathlib.Omega.{arith}
use Rattle.std.specs.Prelude.{Err}
use Rattle.report_feed.proofs.CallLaws.{call_unknown, call_form, call_other, call_full, call_short, call_passes}
use Rattle.report_feed.proofs.check_call.Goals as goal

pub returns-then-not-is_edition : goal.returns-then-not-is_edition
returns-then-not-is_edition c =
    ap Err c.nowhere.ensures ∙ call_unknown c.args.edition c.args.batch.now (sym c.is_edition.ensures ∙ c.if-not-is_edition.true)

pub returns-then-not-is_batch : goal.returns-then-not-is_batch
returns-then-not-is_batch c =
    let named = sym c.is_edition.ensures ∙ c.if-not-is_edition.false in
    ap Err c.nowhere-then-not-is_batch.ensures ∙ call_form c.args.edition c.args.batch.now named (sym c.is_batch.ensures ∙ c.if-not-is_batch.true)

pub returns-then-not-is_same_edition : goal.returns-then-not-is_same_edition
returns-then-not-is_same_edition c =
    let named = sym c.is_edition.ensures ∙ c.if-not-is_edition.false in
    let formed = sym c.is_batch.ensures ∙ c.if-not-is_batch.false in
    ap Err c.nowhere-then-not-is_same_edition.ensures ∙ call_other c.args.edition c.args.batch.now named formed (sym c.is_same_edition.ensures ∙ c.if-not-is_same_edition.true)

pub returns-then-word-ge-MOST_PARTS : goal.returns-then-word-ge-MOST_PARTS
returns-then-word-ge-MOST_PARTS c =
    let named = sym c.is_edition.ensures ∙ c.if-not-is_edition.false in
    let formed = sym c.is_batch.ensures ∙ c.if-not-is_batch.false in
    let alike = sym c.is_same_edition.ensures ∙ c.if-not-is_same_edition.false in
    ap Err c.nowhere-then-word-ge-MOST_PARTS.ensures ∙ call_full c.args.edition c.args.batch.now named formed alike (omega (arith, c.word.ensures, c.if-word-ge-MOST_PARTS.true))

pub returns-then-batch-lt-BATCH_WORDS : goal.returns-then-batch-lt-BATCH_WORDS
returns-then-batch-lt-BATCH_WORDS c =
    let named = sym c.is_edition.ensures ∙ c.if-not-is_edition.false in
    let formed = sym c.is_batch.ensures ∙ c.if-not-is_batch.false in
    let alike = sym c.is_same_edition.ensures ∙ c.if-not-is_same_edition.false in
    ap Err c.nowhere-then-batch-lt-BATCH_WORDS.ensures ∙ call_short c.args.edition c.args.batch.now named formed alike (omega (arith, c.word.ensures, c.if-word-ge-MOST_PARTS.false)) c.if-batch-lt-BATCH_WORDS.true

pub returns : goal.returns
returns c =
    let named = sym c.is_edition.ensures ∙ c.if-not-is_edition.false in
    let formed = sym c.is_batch.ensures ∙ c.if-not-is_batch.false in
    let alike = sym c.is_same_edition.ensures ∙ c.if-not-is_same_edition.false in
    call_passes c.args.edition c.args.batch.now named formed alike (omega (arith, c.word.ensures, c.if-word-ge-MOST_PARTS.false)) c.if-batch-lt-BATCH_WORDS.false
