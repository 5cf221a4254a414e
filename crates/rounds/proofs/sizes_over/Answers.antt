use Rattle.std.proofs.Common.{refl, ◌∙◌, arith}
use Rattle.reads.specs.ReadSet.{pairs_of}
use Rattle.rounds.proofs.PieceSizeLaws.{zeros_length, table_cleared, pairs_whole, search_few, search_still, search_start, left_end, left_empty, left_on, left_won}
use Rattle.rounds.proofs.sizes_over.Goals as goal

pub loop-k-init : goal.loop-k-init
loop-k-init c =
    let s = c.requires.0 in
    (refl, refl, table_cleared c.args.table.now _ c.clear.ensures s.room, search_start s c.requires.3, c.requires.1, c.requires.2)

pub try_pieces-requires : goal.try_pieces-requires
try_pieces-requires c =
    let s = c.requires.0 in (
      search_still s _ _ _ (zeros_length c.loop-k.invariant.2) c.loop-k.invariant.0 c.loop-k.invariant.1,
      c.loop-k-test.true,
      omega (arith, c.loop-k.invariant.3.0, pairs_whole c.args.set.now s.whole),
      c.loop-k.invariant.2,
      c.loop-k.invariant.4,
      c.loop-k.invariant.5,
    )

pub returns-in-Ok : goal.returns-in-Ok
returns-in-Ok c =
    let (value, table) = left_won _ _ (search_few c.requires.0) c.loop-k.k c.loop-k.word c.loop-k-test.true c.loop-k.invariant.3 _
    c.try_pieces.ensures.value c.in-Ok.is _ c.try_pieces.ensures.table_after in
    record { value = value; table_after = table }

pub loop-k-preserved : goal.loop-k-preserved
loop-k-preserved c = (
  c.try_pieces.auto.keys ∙ c.loop-k.invariant.0,
  c.try_pieces.auto.scratch ∙ c.loop-k.invariant.1,
  left_empty c.args.lanes (pairs_of c.args.set.now) (search_few c.requires.0) c.loop-k.k _ c.try_pieces.ensures.value _ c.in-Err.is _ c.try_pieces.ensures.table_after,
  left_on _ _ (search_few c.requires.0) c.loop-k.k c.loop-k.word c.loop-k-test.true c.loop-k.invariant.3 _ c.try_pieces.ensures.value _ c.in-Err.is,
  c.try_pieces.auto.used ∙ c.loop-k.invariant.4,
  c.try_pieces.auto.held ∙ c.loop-k.invariant.5,
)

pub returns : goal.returns
returns c =
    let (value, table) = left_end _ _ (search_few c.requires.0) c.loop-k.k c.loop-k.word c.loop-k-test.false c.loop-k.invariant.3 _
    c.at_item.ensures _ c.loop-k.invariant.2 in
    record { value = value; table_after = table }
