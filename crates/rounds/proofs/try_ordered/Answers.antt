-- `try_ordered`: the running numbers begin at 0, and the two ends of a try are those of the definition's.
-- Assumes nothing.
use mathlib.Core.Path.{◌∙◌}
use Prim.Native.Nat.{◌*◌}
use Rattle.rounds.proofs.PieceSizeLaws.{zeros_length, table_cleared, ready, ordered_won, ordered_lost}
use Rattle.rounds.proofs.try_ordered.Goals as goal

pub try_size-requires : goal.try_size-requires
try_size-requires c =
    let no_bits = table_cleared c.args.used.now _ c.clear.ensures c.requires.3 in
    let no_pairs = table_cleared c.args.held.now _ c.clear-2.ensures c.requires.4 in
    ready c.requires.0 _ _ _ c.requires.2 no_bits no_pairs

pub returns : goal.returns
returns c =
    let told = ordered_won c.requires.0 _ c.requires.1 _ c.try_size.ensures.value c.in_default.is _ _ c.requires.2 c.try_size.ensures.room_after in
    record { value = told.0; table_after = told.1 }

pub returns-in-Err : goal.returns-in-Err
returns-in-Err c =
    let long = c.try_size.auto.room ∙ zeros_length c.requires.2 in
    let empty = table_cleared c.try_size.new.room (32 * c.args.lanes) c.clear-in-Err.ensures long in
    let told = ordered_lost c.requires.0 _ c.requires.1 _ c.try_size.ensures.value _ c.in-Err.is _ c.told.ensures _ empty in
    record { value = told.0; table_after = told.1 }
