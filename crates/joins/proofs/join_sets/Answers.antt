-- `join_sets`: each way through has its answer, in the order of the refusals.
-- Assumes nothing.
use mathlib.Core.Path.{sym, ap, ◌∙◌}
use native.Mathlib.Omega.{arith}
use lib.Seq.{sets}
use lib.ListN.{length}
use Rattle.std.proofs.lemmas.Result.{err_from_is_err_and}
use Rattle.joins_sets.specs.Join.{joining}
use Rattle.joins_sets.proofs.JoinAnswerLaws.{fine_set, first_refused, second_refused, good_join, join_pairs}
use Rattle.joins.proofs.JoinCodeLaws.{tested_bad, tested_fine, joinable, refused_told, room_refused, room_good, join_told}
use Rattle.joins.proofs.join_sets.Goals as goal

pub returns-in_err-test_set : goal.returns-in_err-test_set
returns-in_err-test_set c =
    let p = err_from_is_err_and c.from_residual.result c.from_residual.ensures.1 in
    let bad = tested_bad _ _ (sym c.test_set.ensures ∙ c.in_err-test_set.was) in
    let told = refused_told _ c.args.out.now _ (first_refused c.args.a.now c.args.b.now _ _ bad) in
    rw (p.1, p.2) (record { value = told.0; out_after = told.1 })

pub returns-in_err-test_set-2 : goal.returns-in_err-test_set-2
returns-in_err-test_set-2 c =
    let p = err_from_is_err_and c.from_residual-in_err-test_set-2.result c.from_residual-in_err-test_set-2.ensures.1 in
    let fine = tested_fine _ (sym c.test_set.ensures ∙ c.in_ok-test_set.was) in
    let bad = tested_bad _ _ (sym c.test_set-2.ensures ∙ c.in_err-test_set-2.was) in
    let told = refused_told _ c.args.out.now _ (second_refused c.args.a.now c.args.b.now _ _ fine bad) in
    rw (p.1, p.2) (record { value = told.0; out_after = told.1 })

pub test_room-requires : goal.test_room-requires
test_room-requires c =
    record { first = tested_fine _ (sym c.test_set.ensures ∙ c.in_ok-test_set.was); second = tested_fine _ (sym c.test_set-2.ensures ∙ c.in_ok-test_set-2.was) }

pub returns-in_err-test_room : goal.returns-in_err-test_room
returns-in_err-test_room c =
    let p = err_from_is_err_and c.from_residual-in_err-test_room.result c.from_residual-in_err-test_room.ensures.1 in
    let D = joining c.args.a.now c.args.b.now (length c.args.out.now) in
    let told = refused_told D c.args.out.now _ (room_refused D c.args.out.now _ (sym c.test_room.ensures ∙ c.in_err-test_room.was)) in
    rw (p.1, p.2) (record { value = told.0; out_after = told.1 })

pub write_pairs-requires : goal.write_pairs-requires
write_pairs-requires c =
    let good = room_good (joining c.args.a.now c.args.b.now (length c.args.out.now)) c.args.out.now (sym c.test_room.ensures ∙ c.in_ok-test_room.was) in
    let G = good_join c.args.a.now c.args.b.now (length c.args.out.now) good.0 good.1 in
    record { sets = joinable (fine_set _ G.first) (fine_set _ G.second); room = omega (arith, ap length G.is, G.room) }

pub returns : goal.returns
returns c =
    let D = joining c.args.a.now c.args.b.now (length c.args.out.now) in
    let good = room_good D c.args.out.now (sym c.test_room.ensures ∙ c.in_ok-test_room.was) in
    let G = good_join c.args.a.now c.args.b.now (length c.args.out.now) good.0 good.1 in
    let pairs = join_pairs c.args.a.now c.args.b.now 0 G.first G.second _ c.write_pairs.ensures.value (omega (arith, c.write_pairs.ensures.value, ap length G.is, G.few)) in
    let told = join_told D c.args.out.now good.0 _ _ good.1 (rw G.is pairs) (c.write_pairs.ensures.out_after ∙ ap (sets c.args.out.now 0) (sym G.is)) in
    record { value = told.0; out_after = told.1 }
