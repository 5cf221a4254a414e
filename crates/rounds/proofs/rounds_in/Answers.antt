-- `rounds::rounds_in` meets its contract: 29, else the rounds over an edition's lanes, whose rows are the first words of the room.
-- Assumes nothing.
use mathlib.Core.Path.{◌≡◌, sym, ◌∙◌}
use mathlib.Core.Bool.{true}
use Prim.Native.Nat.{◌*◌, ◌≤◌}
use native.Mathlib.Omega.{arith}
use lib.ListN.{length}
use lib.Seq.{length-take-le}
use Rattle.words.specs.Answer.{nowhere}
use Rattle.words.specs.Edition.{known}
use Rattle.words.proofs.EditionLaws.{known_number, known_least, known_most}
use Rattle.rounds.specs.RoundsAnswer.{edition_answer}
use Rattle.rounds.proofs.RoundsAnswerLaws.{is_unknown, is_known, refused_post}
use Rattle.rounds.proofs.rounds_in.Goals as goal

pub returns-then-not-is_edition : goal.returns-then-not-is_edition
returns-then-not-is_edition c =
    let unknown = sym c.is_edition.ensures ∙ c.if-not-is_edition.true in
    let told = refused_post (edition_answer c.args.edition c.args.set.now (length c.args.out.now)) c.args.out.now (nowhere 29) _ (is_unknown c.args.edition c.args.set.now (length c.args.out.now) unknown) c.nowhere.ensures in
    record { value = told.0; out_after = told.1 }

pub slice_bounds-rounds_of_any-end : goal.slice_bounds-rounds_of_any-end
slice_bounds-rounds_of_any-end c =
    let named : known c.args.edition ≡ true = sym c.is_edition.ensures ∙ c.if-not-is_edition.false in
    let rows_inside : 32 * c.args.edition ≤ length c.args.room.now = omega (arith, c.requires, known_most _ (known_number _ (named))) in
    rows_inside

pub slice_bounds-rounds_of_any-end-2 : goal.slice_bounds-rounds_of_any-end-2
slice_bounds-rounds_of_any-end-2 c =
    let named : known c.args.edition ≡ true = sym c.is_edition.ensures ∙ c.if-not-is_edition.false in
    let rows_inside : 32 * c.args.edition ≤ length c.args.room.now = omega (arith, c.requires, known_most _ (known_number _ (named))) in
    sym (length-take-le (32 * c.args.edition) c.args.room.now (rows_inside))

pub rounds_of_any-requires : goal.rounds_of_any-requires
rounds_of_any-requires c =
    let named : known c.args.edition ≡ true = sym c.is_edition.ensures ∙ c.if-not-is_edition.false in
    let rows_inside : 32 * c.args.edition ≤ length c.args.room.now = omega (arith, c.requires, known_most _ (known_number _ (named))) in
    let edition = known_number _ (named) in
    (length-take-le (32 * c.args.edition) c.args.room.now (rows_inside), omega (arith, known_least _ edition), known_most _ edition)

pub returns : goal.returns
returns c =
    let named : known c.args.edition ≡ true = sym c.is_edition.ensures ∙ c.if-not-is_edition.false in
    rw (is_known c.args.edition c.args.set.now (length c.args.out.now) named) (record { value = c.rounds_of_any.ensures.value; out_after = c.rounds_of_any.ensures.out_after })
