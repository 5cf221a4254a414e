-- `fill_lanes`: the judgement of the pairs, then the number of lanes and the marks; the table is cleared where anything is wrong.
-- Assumes nothing.
use mathlib.Core.Path.{◌≡◌, sym, ◌∙◌}
use Prim.Native.Nat.{◌*◌}
use native.Mathlib.Omega.{arith}
use lib.ListN.{length, replicate}
use Rattle.rounds.proofs.PieceSizeLaws.{zeros_length, table_cleared}
use Rattle.handed.proofs.HandedAnswerLaws.{bad_post, fine_post, count_post}
use Rattle.handed.proofs.fill.fill_lanes.Goals as goal

pub judge_pairs-requires : goal.judge_pairs-requires
judge_pairs-requires c =
    let table = table_cleared c.args.table.now _ c.clear.ensures c.requires.room in
    let seen = table_cleared c.args.seen.now _ c.clear-2.ensures c.requires.marks in (
      record {
        formed = c.requires.formed;
        room = zeros_length table;
        some_lanes = c.requires.some_lanes;
        few-lanes = c.requires.few-lanes;
        marks = zeros_length seen;
      },
      table,
      seen,
    )

pub is_whole-requires : goal.is_whole-requires
is_whole-requires c =
    let no-marks : length c.clear-2.new.l ≡ 256 = zeros_length (table_cleared c.args.seen.now _ c.clear-2.ensures c.requires.marks) in
    let marks-kept : length c.judge_pairs.new.seen ≡ 256 = c.judge_pairs.auto.seen ∙ no-marks in
    omega (arith, marks-kept, c.requires.formed.few)

pub shape_of-table-then-is_whole : goal.shape_of-table-then-is_whole
shape_of-table-then-is_whole c =
    let no_table : length c.clear.new.l ≡ 32 * c.args.n = zeros_length (table_cleared c.args.table.now _ c.clear.ensures c.requires.room) in
    let table_kept : length c.judge_pairs.new.table ≡ 32 * c.args.n = c.judge_pairs.auto.table ∙ no_table in
    table_kept ∙ sym c.requires.room

pub shape_of-seen-then-is_whole : goal.shape_of-seen-then-is_whole
shape_of-seen-then-is_whole c =
    let no-marks : length c.clear-2.new.l ≡ 256 = zeros_length (table_cleared c.args.seen.now _ c.clear-2.ensures c.requires.marks) in
    let marks-kept : length c.judge_pairs.new.seen ≡ 256 = c.judge_pairs.auto.seen ∙ no-marks in
    marks-kept ∙ sym c.requires.marks

pub returns-then-is_whole : goal.returns-then-is_whole
returns-then-is_whole c =
    let told = fine_post c.args.n c.args.set.now c.args.lanes.now c.requires.formed.form _ _ _ (sym c.in-Ok.is ∙ c.judge_pairs.ensures.value) c.judge_pairs.ensures.pairs_filled
    (sym c.is_whole.ensures ∙ c.if-is_whole.true) in
    record { value = told.0; table_after = told.1 }

pub shape_of-table-in-Err : goal.shape_of-table-in-Err
shape_of-table-in-Err c =
    let no_table : length c.clear.new.l ≡ 32 * c.args.n = zeros_length (table_cleared c.args.table.now _ c.clear.ensures c.requires.room) in
    let table_kept : length c.judge_pairs.new.table ≡ 32 * c.args.n = c.judge_pairs.auto.table ∙ no_table in
    let bad-table : let n = c.args.n in c.clear-in-Err.new.l ≡ replicate (32 * n) 0 = table_cleared c.judge_pairs.new.table _ c.clear-in-Err.ensures (table_kept) in
    zeros_length (bad-table) ∙ sym c.requires.room

pub shape_of-seen-in-Err : goal.shape_of-seen-in-Err
shape_of-seen-in-Err c =
    let no-marks : length c.clear-2.new.l ≡ 256 = zeros_length (table_cleared c.args.seen.now _ c.clear-2.ensures c.requires.marks) in
    let marks-kept : length c.judge_pairs.new.seen ≡ 256 = c.judge_pairs.auto.seen ∙ no-marks in
    marks-kept ∙ sym c.requires.marks

pub returns-in-Err : goal.returns-in-Err
returns-in-Err c =
    let no_table : length c.clear.new.l ≡ 32 * c.args.n = zeros_length (table_cleared c.args.table.now _ c.clear.ensures c.requires.room) in
    let table_kept : length c.judge_pairs.new.table ≡ 32 * c.args.n = c.judge_pairs.auto.table ∙ no_table in
    let bad-table : let n = c.args.n in c.clear-in-Err.new.l ≡ replicate (32 * n) 0 = table_cleared c.judge_pairs.new.table _ c.clear-in-Err.ensures (table_kept) in
    let a = c.args in
    let told = bad_post a.n a.set.now a.lanes.now _ _ (sym c.in-Err.is ∙ c.judge_pairs.ensures.value) (bad-table) in
    record { value = told.0; table_after = told.1 }

pub shape_of-table-else-is_whole : goal.shape_of-table-else-is_whole
shape_of-table-else-is_whole c =
    let no_table : length c.clear.new.l ≡ 32 * c.args.n = zeros_length (table_cleared c.args.table.now _ c.clear.ensures c.requires.room) in
    let table_kept : length c.judge_pairs.new.table ≡ 32 * c.args.n = c.judge_pairs.auto.table ∙ no_table in
    let count-table : let n = c.args.n in c.clear-in-Ok.new.l ≡ replicate (32 * n) 0 = table_cleared c.judge_pairs.new.table _ c.clear-in-Ok.ensures (table_kept) in
    zeros_length (count-table) ∙ sym c.requires.room

pub shape_of-seen-else-is_whole : goal.shape_of-seen-else-is_whole
shape_of-seen-else-is_whole c =
    let no-marks : length c.clear-2.new.l ≡ 256 = zeros_length (table_cleared c.args.seen.now _ c.clear-2.ensures c.requires.marks) in
    let marks-kept : length c.judge_pairs.new.seen ≡ 256 = c.judge_pairs.auto.seen ∙ no-marks in
    marks-kept ∙ sym c.requires.marks

pub returns-else-is_whole : goal.returns-else-is_whole
returns-else-is_whole c =
    let no_table : length c.clear.new.l ≡ 32 * c.args.n = zeros_length (table_cleared c.args.table.now _ c.clear.ensures c.requires.room) in
    let table_kept : length c.judge_pairs.new.table ≡ 32 * c.args.n = c.judge_pairs.auto.table ∙ no_table in
    let count-table : let n = c.args.n in c.clear-in-Ok.new.l ≡ replicate (32 * n) 0 = table_cleared c.judge_pairs.new.table _ c.clear-in-Ok.ensures (table_kept) in
    let no = sym c.is_whole.ensures ∙ c.if-is_whole.false in
    let told = count_post c.args.n c.args.set.now c.args.lanes.now c.requires.formed.form _ _ _ (sym c.in-Ok.is ∙ c.judge_pairs.ensures.value) c.judge_pairs.ensures.pairs_filled
    no _ c.item.ensures _ (count-table) in
    record { value = told.0; table_after = told.1 }
