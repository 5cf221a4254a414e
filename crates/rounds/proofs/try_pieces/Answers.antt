-- `try_pieces`: the keys in order name the pairs that the definition's try places; a try that is passed over would be stuck.
-- Assumes nothing.
use mathlib.Core.Path.{◌≡◌, refl, sym, ◌∙◌}
use mathlib.Core.List.{◌++◌}
use lib.ListN.{length, take, drop}
use lib.Seq.{take_at, length-take-le}
use Rattle.reads.specs.ReadSet.{pairs_of}
use Rattle.reads_pieces.specs.Keys.{keys_of, piece_count}
use Prim.Native.Nat.{◌/◌}
use Rattle.rounds.proofs.PieceSizeLaws.{count_few, orderable, try_set, passed_lost, front_room}
use Rattle.rounds.proofs.try_pieces.Goals as goal

pub slice_bounds-order-end : goal.slice_bounds-order-end
slice_bounds-order-end c =
    count_few c.requires.0 c.requires.1

pub slice_bounds-order-end-2 : goal.slice_bounds-order-end-2
slice_bounds-order-end-2 c =
    sym (length-take-le _ c.args.keys.now (count_few c.requires.0 c.requires.1))

pub order-requires : goal.order-requires
order-requires c =
    orderable c.requires.0 c.requires.1 _ _ (length-take-le _ c.args.keys.now (count_few c.requires.0 c.requires.1)) refl

pub slice_bounds-passed_over-end : goal.slice_bounds-passed_over-end
slice_bounds-passed_over-end c =
    let keys-long : length c.order.new.keys ≡ piece_count (length c.args.set.now / 2) c.args.k = c.order.auto.keys ∙ length-take-le _ c.args.keys.now (count_few c.requires.0 c.requires.1) in
    front_room c.order.new.keys _ _ (keys-long)

pub slice_bounds-passed_over-end-2 : goal.slice_bounds-passed_over-end-2
slice_bounds-passed_over-end-2 c =
    let keys-long : length c.order.new.keys ≡ piece_count (length c.args.set.now / 2) c.args.k = c.order.auto.keys ∙ length-take-le _ c.args.keys.now (count_few c.requires.0 c.requires.1) in
    sym (length-take-le _ (c.order.new.keys ++ _) (front_room c.order.new.keys _ _ (keys-long)))

pub passed_over-requires : goal.passed_over-requires
passed_over-requires c =
    try_set c.requires.0 c.requires.1 c.requires.2

pub returns-then-passed_over : goal.returns-then-passed_over
returns-then-passed_over c =
    let keys-long : length c.order.new.keys ≡ piece_count (length c.args.set.now / 2) c.args.k = c.order.auto.keys ∙ length-take-le _ c.args.keys.now (count_few c.requires.0 c.requires.1) in
    let keys-are : take (piece_count (length c.args.set.now / 2) c.args.k) (c.order.new.keys ++ drop (piece_count (length c.args.set.now / 2) c.args.k) c.args.keys.now) ≡ keys_of c.args.k (pairs_of c.args.set.now) = take_at c.order.new.keys _ _ (keys-long) ∙ c.order.ensures.keys_after in
    let s = try_set c.requires.0 c.requires.1 c.requires.2 in
    let told = passed_lost s _ (keys-are) c.args.look _ c.passed_over.ensures c.if-passed_over.true _ c.requires.3 in
    record { value = told.0; table_after = told.1 }

pub slice_bounds-try_ordered-end : goal.slice_bounds-try_ordered-end
slice_bounds-try_ordered-end c =
    let keys-long : length c.order.new.keys ≡ piece_count (length c.args.set.now / 2) c.args.k = c.order.auto.keys ∙ length-take-le _ c.args.keys.now (count_few c.requires.0 c.requires.1) in
    front_room c.order.new.keys _ _ (keys-long)

pub slice_bounds-try_ordered-end-2 : goal.slice_bounds-try_ordered-end-2
slice_bounds-try_ordered-end-2 c =
    let keys-long : length c.order.new.keys ≡ piece_count (length c.args.set.now / 2) c.args.k = c.order.auto.keys ∙ length-take-le _ c.args.keys.now (count_few c.requires.0 c.requires.1) in
    sym (length-take-le _ (c.order.new.keys ++ _) (front_room c.order.new.keys _ _ (keys-long)))

pub try_ordered-requires : goal.try_ordered-requires
try_ordered-requires c =
    let keys-long : length c.order.new.keys ≡ piece_count (length c.args.set.now / 2) c.args.k = c.order.auto.keys ∙ length-take-le _ c.args.keys.now (count_few c.requires.0 c.requires.1) in
    let keys-are : take (piece_count (length c.args.set.now / 2) c.args.k) (c.order.new.keys ++ drop (piece_count (length c.args.set.now / 2) c.args.k) c.args.keys.now) ≡ keys_of c.args.k (pairs_of c.args.set.now) = take_at c.order.new.keys _ _ (keys-long) ∙ c.order.ensures.keys_after in
    (try_set c.requires.0 c.requires.1 c.requires.2, keys-are, c.requires.3, c.requires.4, c.requires.5)
