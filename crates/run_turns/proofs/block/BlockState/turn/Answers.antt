-- `run_turns::block::BlockState::turn` meets its contract: one law for each way through.
-- Assumes nothing.
use mathlib.Core.Path.{sym, ap, ◌∙◌}
use Prim.Native.Nat.{ℕ}
use borrow.Author.Rules.{rules}
use native.Mathlib.Omega.{arith}
use Rattle.run_machine.specs.Turn.{begins}
use Rattle.run_turns.specs.Phases.{phase_is}
use Rattle.run_turns.proofs.BlockTurnLaws.{read_going, stage_going, store_going, read_done, stage_done_last, stage_done_more, store_done_last, store_done_next, idle_done}
use Rattle.run_turns.proofs.block.BlockState.turn.Goals as goal

pub invariant_of-part : goal.invariant_of-part
invariant_of-part c = record { inside = (c.requires.0.well (read_going _ (ap phase_is c.in-Read.is))).part }

pub invariant_of-reading : goal.invariant_of-reading
invariant_of-reading c = record { readable = (c.requires.0.well (read_going _ (ap phase_is c.in-Read.is))).reads }

pub invariant_of-part-in-Stage : goal.invariant_of-part-in-Stage
invariant_of-part-in-Stage c = record { inside = (c.requires.0.well (stage_going _ (ap phase_is c.in-Stage.is))).part }

pub invariant_of-part-in-Stage-2 : goal.invariant_of-part-in-Stage-2
invariant_of-part-in-Stage-2 c =
    let well = c.requires.0.well (stage_going _ (ap phase_is c.in-Stage.is)) in
    record { entries = well.entries; captures = well.captures }

pub stage_room-requires : goal.stage_room-requires
stage_room-requires c = (c.requires.0.within (ap phase_is c.in-Stage.is), search rules)

pub overflow_add-k : goal.overflow_add-k
overflow_add-k c = omega (arith, c.requires.0.within (ap phase_is c.in-Stage.is))

pub returns-then-k-stages : goal.returns-then-k-stages
returns-then-k-stages c =
    let phase = ap phase_is c.in-Stage.is in
    let well = c.requires.0.well (stage_going _ phase) in
    let told = stage_done_last _ well.part.lanes _ _ _ _ _ _ _ c.requires.1 well.captures _ phase c.stage_room.ensures (c.if-k-stages.true ∙ c.stages-stages.ensures.0) in
    record { block = told.0; state = told.1.0; room = told.1.1 }

pub invariant_of-part-in-Store : goal.invariant_of-part-in-Store
invariant_of-part-in-Store c = record { inside = (c.requires.0.well (store_going _ (ap phase_is c.in-Store.is))).part }

pub invariant_of-formed : goal.invariant_of-formed
invariant_of-formed c =
    let well = c.requires.0.well (store_going _ (ap phase_is c.in-Store.is)) in
    record { entries = well.entries; captures = well.captures }

pub invariant_of-storing : goal.invariant_of-storing
invariant_of-storing c = record { held = λ some. ((c.requires.0.well (store_going _ (ap phase_is c.in-Store.is))).stores some).0 }

pub store_room-requires : goal.store_room-requires
store_room-requires c =
    (c.requires.1, λ some. ((c.requires.0.well (store_going _ (ap phase_is c.in-Store.is))).stores some).1)

pub returns-then-last-eq1 : goal.returns-then-last-eq1
returns-then-last-eq1 c =
    let phase = ap phase_is c.in-Store.is in
    let well = c.requires.0.well (store_going _ phase) in
    let told = store_done_last _ well.part.lanes _ _ _ _ _ _ _ c.requires.1 well.captures _ phase c.store_room.ensures (sym c.last.ensures ∙ c.if-last-eq1.true) in
    record { block = told.0; state = told.1.0; room = told.1.1 }

pub begins-requires : goal.begins-requires
begins-requires c =
    let well = c.requires.0.well (store_going _ (ap phase_is c.in-Store.is)) in
    let next = well.next (λ q. c.if-last-eq1.false (c.last.ensures ∙ q)) in
    omega (arith, c.end.ensures)

pub returns-in-Read : goal.returns-in-Read
returns-in-Read c =
    let phase = ap phase_is c.in-Read.is in
    let well = c.requires.0.well (read_going _ phase) in
    let told = read_done _ well.part.lanes _ _ _ _ _ _ _ c.requires.1 well.captures _ phase c.read_room.ensures in
    record { block = told.0; state = told.1.0; room = told.1.1 }

pub returns-else-k-stages : goal.returns-else-k-stages
returns-else-k-stages c =
    let phase = ap phase_is c.in-Stage.is in
    let well = c.requires.0.well (stage_going _ phase) in
    let told = stage_done_more _ well.part.lanes _ _ _ _ _ _ _ c.requires.1 well.captures _ phase c.stage_room.ensures (λ q. c.if-k-stages.false (q ∙ sym c.stages-stages.ensures.0)) in
    record { block = told.0; state = told.1.0; room = told.1.1 }

pub returns-else-last-eq1 : goal.returns-else-last-eq1
returns-else-last-eq1 c =
    let phase = ap phase_is c.in-Store.is in
    let well = c.requires.0.well (store_going _ phase) in
    let told = store_done_next _ well.part.lanes _ _ _ _ _ _ _ c.requires.1 well.captures _ _ _ _ phase c.store_room.ensures (λ q. c.if-last-eq1.false (c.last.ensures ∙ q)) (c.begins.ensures.0 ∙ c.end.ensures)
    (c.begins.ensures.1 ∙ ap (λ (o : ℕ). (begins c.args.script.now.words.now o).phase) (sym c.begins.ensures.0)) c.begins.ensures.2 in
    record { block = told.0; state = told.1.0; room = told.1.1 }

pub returns-in-Finished : goal.returns-in-Finished
returns-in-Finished c = let told = idle_done _ _ _ _ _ _ _ _ (ap phase_is c.in-Finished.is) in record { block = told.0; state = told.1.0; room = told.1.1 }
