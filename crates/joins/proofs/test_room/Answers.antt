-- `test_room`: where both sets fit nothing is refused; else the join's words decide.
-- Assumes nothing.
use mathlib.Core.Path.{refl, sym, ap, ◌∙◌}
use Prim.Native.Nat.{◌+◌, ◌≤◌}
use native.Mathlib.Omega.{arith}
use lib.ListN.{length}
use Rattle.std.specs.Prelude.{Err}
use Rattle.joins_sets.specs.Join.{join}
use Rattle.joins_sets.proofs.JoinPutLaws.{join_shorter}
use Rattle.joins_sets.proofs.JoinAnswerLaws.{fine_set, join_many, join_short, join_good}
use Rattle.joins.specs.Merge.{fits_of}
use Rattle.joins.proofs.JoinCodeLaws.{joinable, roomy_true}
use Rattle.joins.proofs.test_room.Goals as goal

pub overflow_add-a : goal.overflow_add-a
overflow_add-a c = let J = joinable (fine_set _ c.requires.first) (fine_set _ c.requires.second) in omega (arith, J.first-few, J.second-few)

pub returns-then-is_roomy : goal.returns-then-is_roomy
returns-then-is_roomy c =
    let roomy = roomy_true (length c.args.a.now + length c.args.b.now) c.args.room (sym c.is_roomy.ensures ∙ c.if-is_roomy.true) in
    let short = join_shorter c.args.a.now c.args.b.now in
    let few : length (join c.args.a.now c.args.b.now) ≤ 16384 = omega (arith, short, roomy.0) in
    let room : length (join c.args.a.now c.args.b.now) ≤ c.args.room = omega (arith, short, roomy.1) in
    ap fits_of (sym (join_good c.args.a.now c.args.b.now _ c.requires.first c.requires.second _ refl few room))

pub count_words-words-requires : goal.count_words-words-requires
count_words-words-requires c = joinable (fine_set _ c.requires.first) (fine_set _ c.requires.second)

pub returns-then-words-gt-SET_WORDS : goal.returns-then-words-gt-SET_WORDS
returns-then-words-gt-SET_WORDS c =
    ap Err c.nowhere.ensures ∙ ap fits_of (sym (join_many c.args.a.now c.args.b.now _ c.requires.first c.requires.second _ c.count_words-words.ensures c.if-words-gt-SET_WORDS.true))

pub returns-then-room-words : goal.returns-then-room-words
returns-then-room-words c =
    ap Err c.nowhere-then-room-words.ensures
    ∙ ap fits_of (sym (join_short c.args.a.now c.args.b.now _ c.requires.first c.requires.second _ c.count_words-words.ensures c.if-words-gt-SET_WORDS.false c.if-room-words.true))

pub returns : goal.returns
returns c =
    ap fits_of (sym (join_good c.args.a.now c.args.b.now _ c.requires.first c.requires.second _ c.count_words-words.ensures c.if-words-gt-SET_WORDS.false c.if-room-words.false))
