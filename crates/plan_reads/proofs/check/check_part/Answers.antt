-- `plan_reads::check::check_part` meets its contract: the part of the room that was used is cleared.
-- Assumes nothing.
use mathlib.Core.Path.{sym, ap}
use native.Mathlib.Omega.{arith}
use lib.ListN.{length}
use lib.Seq.{length-take-le}
use Rattle.plan_reads.proofs.CheckLaws.{roomy, clear_size, clear_back}
use Rattle.plan_reads.proofs.check.check_part.Goals as goal

pub slice_bounds-search_part-end-2 : goal.slice_bounds-search_part-end-2
slice_bounds-search_part-end-2 c =
    sym (length-take-le 32768 c.args.room.now (omega (arith, roomy _ _ c.requires.4)))

pub search_part-reads-requires : goal.search_part-reads-requires
search_part-reads-requires c =
    (c.requires.0, c.requires.1, c.requires.2, c.requires.3, length-take-le 32768 c.args.room.now (omega (arith, roomy _ _ c.requires.4)))

pub slice_bounds-clear-end-2 : goal.slice_bounds-clear-end-2
slice_bounds-clear-end-2 c =
    clear_size c.args.room.now c.search_part-reads.new.room (roomy _ _ c.requires.4) c.search_part-reads.auto.room

pub shape_of-room : goal.shape_of-room
shape_of-room c =
    ap length (clear_back c.args.room.now c.search_part-reads.new.room (roomy _ _ c.requires.4) c.search_part-reads.auto.room c.requires.4.clear _ c.clear.ensures)

pub returns : goal.returns
returns c =
    record { value = c.search_part-reads.ensures; room_unchanged = clear_back c.args.room.now c.search_part-reads.new.room (roomy _ _ c.requires.4) c.search_part-reads.auto.room c.requires.4.clear _ c.clear.ensures }
