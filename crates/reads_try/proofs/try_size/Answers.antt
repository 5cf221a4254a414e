use mathlib.Core.Path.{refl, ◌∙◌}
use native.Mathlib.Omega.{arith}
use Rattle.reads_try.proofs.SetPairLaws.{span_step}
use Rattle.reads_try.proofs.TryLaws.{held_start, held_stop, held_placeable, run_step, run_next, run_ended, piece_step}
use Rattle.reads_try.proofs.try_size.Goals as goal

pub pieces-init : goal.pieces-init
pieces-init c = (refl, held_start c.requires c.args.keys.now)

pub place-requires : goal.place-requires
place-requires c =
    let piece = run_step c.requires c.args.keys.now c.pieces.key-index (omega arith) c.pieces.invariant.1 _ c.min-end.result refl c.min-end.ensures in
    let pair = rw (span_step c.args.set.now c.pairs.p c.min-end.result c.pairs-test.true (omega arith)) at (c.pairs.invariant.1 _ _ _ piece) in
    held_placeable c.requires pair _ (omega arith)

pub pairs-preserved : goal.pairs-preserved
pairs-preserved c = (
  c.pairs.invariant.0,
  piece_step c.requires _ _ _ _ _ _ c.pairs.p c.pairs.room c.pairs.used c.pairs.held c.pairs.cur c.pairs.invariant.1 c.pairs-test.true (omega arith) _ _ _ _
      (c.place.ensures.value, (c.place.ensures.room_after, (c.place.ensures.used_after, c.place.ensures.held_after))) _ c.in-Some.is,
)

pub pieces-preserved : goal.pieces-preserved
pieces-preserved c =
    let piece = run_step c.requires c.args.keys.now c.pieces.key-index (omega arith) c.pieces.invariant.1 _ c.min-end.result refl c.min-end.ensures in
    (c.pairs.invariant.0, run_next _ _ _ (omega arith) (c.pairs.invariant.1 _ _ _ piece))

pub returns-after-pieces : goal.returns-after-pieces
returns-after-pieces c =
    let told = run_ended c.args.k c.args.keys.now c.pieces.key-index (omega arith) c.pieces.invariant.1 in
    record { value = c.pieces.invariant.0 ∙ told.0; room_after = told.1.0; used_after = told.1.1.0; held_after = told.1.1.1 }

pub returns-in-None : goal.returns-in-None
returns-in-None c =
    let piece = run_step c.requires c.args.keys.now c.pieces.key-index (omega arith) c.pieces.invariant.1 _ c.min-end.result refl c.min-end.ensures in
    let pair = rw (span_step c.args.set.now c.pairs.p c.min-end.result c.pairs-test.true (omega arith)) at (c.pairs.invariant.1 _ _ _ piece) in
    let told = held_stop pair _ _ _ _ (c.place.ensures.value, (c.place.ensures.room_after, (c.place.ensures.used_after, c.place.ensures.held_after))) c.in-None.is in
    record { value = told.0; room_after = told.1.0; used_after = told.1.1.0; held_after = told.1.1.1 }
