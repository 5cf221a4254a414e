-- `locals::bring_in` meets its contract: 29, else what the set gets over an edition's lanes, whose rows are the first words of the room.
-- Assumes nothing.
use mathlib.Core.Path.{◌≡◌, sym, ◌∙◌}
use mathlib.Core.Bool.{true}
use Prim.Native.Nat.{◌*◌, ◌≤◌}
use native.Mathlib.Omega.{arith}
use lib.ListN.{length}
use lib.Seq.{length-take-le}
use Rattle.words.specs.Edition.{known}
use Rattle.words.proofs.EditionLaws.{known_number, known_least, known_most}
use Rattle.locals.proofs.BroughtLaws.{told_unknown, told_known}
use Rattle.locals.proofs.bring_in.Goals as goal

pub returns-then-not-is_edition : goal.returns-then-not-is_edition
returns-then-not-is_edition c =
    let unknown = sym c.is_edition.ensures ∙ c.if-not-is_edition.true in
    told_unknown c.args.edition c.args.set.now c.args.w c.args.k unknown _ c.nowhere.ensures

pub slice_bounds-bring_any-end : goal.slice_bounds-bring_any-end
slice_bounds-bring_any-end c =
    let named : known c.args.edition ≡ true = sym c.is_edition.ensures ∙ c.if-not-is_edition.false in
    let rows_inside : 32 * c.args.edition ≤ length c.args.room.now = omega (arith, c.requires, known_most _ (known_number _ (named))) in
    rows_inside

pub slice_bounds-bring_any-end-2 : goal.slice_bounds-bring_any-end-2
slice_bounds-bring_any-end-2 c =
    let named : known c.args.edition ≡ true = sym c.is_edition.ensures ∙ c.if-not-is_edition.false in
    let rows_inside : 32 * c.args.edition ≤ length c.args.room.now = omega (arith, c.requires, known_most _ (known_number _ (named))) in
    sym (length-take-le (32 * c.args.edition) c.args.room.now (rows_inside))

pub bring_any-requires : goal.bring_any-requires
bring_any-requires c =
    let named : known c.args.edition ≡ true = sym c.is_edition.ensures ∙ c.if-not-is_edition.false in
    let rows_inside : 32 * c.args.edition ≤ length c.args.room.now = omega (arith, c.requires, known_most _ (known_number _ (named))) in
    let edition = known_number _ (named) in
    record {
      room = length-take-le (32 * c.args.edition) c.args.room.now (rows_inside);
      some_lanes = omega (arith, known_least _ edition);
      few-lanes = known_most _ edition;
    }

pub returns : goal.returns
returns c =
    let named : known c.args.edition ≡ true = sym c.is_edition.ensures ∙ c.if-not-is_edition.false in
    let a = c.args in
    told_known a.edition a.set.now a.w a.k (named) _ c.bring_any.ensures
