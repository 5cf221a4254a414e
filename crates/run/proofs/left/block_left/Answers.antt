-- `run::left::block_left` meets its contract: one law for each phase.
-- Assumes nothing.
use mathlib.Core.Path.{ap}
use native.Mathlib.Omega.{arith}
use Rattle.run_turns.specs.Phases.{phase_is}
use Rattle.run_turns.proofs.BlockTurnLaws.{read_going, stage_going, store_going}
use Rattle.run.proofs.LeftLaws.{left_done, left_read, left_stage, left_store, ahead, stage_inside}
use Rattle.run.proofs.left.block_left.Goals as goal

pub stages-requires : goal.stages-requires
stages-requires c =
    let phase = ap phase_is c.in-Read.is in
    let ready = ahead _ c.args.script.now.words.now _ _ c.args.room.now c.requires.2 _ _ _ c.load_state-state.ensures.0 c.load_state-state.ensures.1 c.load_state-state.ensures.2 (read_going _ phase) in
    ready.inside

pub overflow_add-result : goal.overflow_add-result
overflow_add-result c =
    let phase = ap phase_is c.in-Read.is in
    let ready = ahead _ c.args.script.now.words.now _ _ c.args.room.now c.requires.2 _ _ _ c.load_state-state.ensures.0 c.load_state-state.ensures.1 c.load_state-state.ensures.2 (read_going _ phase) in
    omega (arith, ready.fits, c.stages.ensures.0)

pub turns_after-requires : goal.turns_after-requires
turns_after-requires c =
    let phase = ap phase_is c.in-Read.is in
    let ready = ahead _ c.args.script.now.words.now _ _ c.args.room.now c.requires.2 _ _ _ c.load_state-state.ensures.0 c.load_state-state.ensures.1 c.load_state-state.ensures.2 (read_going _ phase) in
    ready.parts

pub overflow_add-result-in-Read : goal.overflow_add-result-in-Read
overflow_add-result-in-Read c =
    let phase = ap phase_is c.in-Read.is in
    let ready = ahead _ c.args.script.now.words.now _ _ c.args.room.now c.requires.2 _ _ _ c.load_state-state.ensures.0 c.load_state-state.ensures.1 c.load_state-state.ensures.2 (read_going _ phase) in
    omega (arith, ready.fits, c.stages.ensures.0, c.turns_after.ensures)

pub stages-requires-in-Stage : goal.stages-requires-in-Stage
stages-requires-in-Stage c =
    let phase = ap phase_is c.in-Stage.is in
    let ready = ahead _ c.args.script.now.words.now _ _ c.args.room.now c.requires.2 _ _ _ c.load_state-state.ensures.0 c.load_state-state.ensures.1 c.load_state-state.ensures.2 (stage_going _ phase) in
    ready.inside

pub overflow_sub-result : goal.overflow_sub-result
overflow_sub-result c =
    let phase = ap phase_is c.in-Stage.is in
    let inside = stage_inside _ c.args.script.now.words.now _ _ c.args.room.now c.requires.2 _ _ _ c.load_state-state.ensures.0 c.load_state-state.ensures.1 c.load_state-state.ensures.2 (stage_going _ phase) phase in
    omega (arith, inside, c.stages-in-Stage.ensures.0)

pub overflow_add-result-in-Stage : goal.overflow_add-result-in-Stage
overflow_add-result-in-Stage c =
    let phase = ap phase_is c.in-Stage.is in
    let ready = ahead _ c.args.script.now.words.now _ _ c.args.room.now c.requires.2 _ _ _ c.load_state-state.ensures.0 c.load_state-state.ensures.1 c.load_state-state.ensures.2 (stage_going _ phase) in
    omega (arith, ready.fits, c.stages-in-Stage.ensures.0)

pub turns_after-requires-in-Stage : goal.turns_after-requires-in-Stage
turns_after-requires-in-Stage c =
    let phase = ap phase_is c.in-Stage.is in
    let ready = ahead _ c.args.script.now.words.now _ _ c.args.room.now c.requires.2 _ _ _ c.load_state-state.ensures.0 c.load_state-state.ensures.1 c.load_state-state.ensures.2 (stage_going _ phase) in
    ready.parts

pub overflow_add-result-in-Stage-2 : goal.overflow_add-result-in-Stage-2
overflow_add-result-in-Stage-2 c =
    let phase = ap phase_is c.in-Stage.is in
    let ready = ahead _ c.args.script.now.words.now _ _ c.args.room.now c.requires.2 _ _ _ c.load_state-state.ensures.0 c.load_state-state.ensures.1 c.load_state-state.ensures.2 (stage_going _ phase) in
    omega (arith, ready.fits, c.stages-in-Stage.ensures.0, c.turns_after-in-Stage.ensures)

pub turns_after-requires-in-Store : goal.turns_after-requires-in-Store
turns_after-requires-in-Store c =
    let phase = ap phase_is c.in-Store.is in
    let ready = ahead _ c.args.script.now.words.now _ _ c.args.room.now c.requires.2 _ _ _ c.load_state-state.ensures.0 c.load_state-state.ensures.1 c.load_state-state.ensures.2 (store_going _ phase) in
    ready.parts

pub overflow_add-result-in-Store : goal.overflow_add-result-in-Store
overflow_add-result-in-Store c =
    let phase = ap phase_is c.in-Store.is in
    let ready = ahead _ c.args.script.now.words.now _ _ c.args.room.now c.requires.2 _ _ _ c.load_state-state.ensures.0 c.load_state-state.ensures.1 c.load_state-state.ensures.2 (store_going _ phase) in
    omega (arith, ready.fits, c.turns_after-in-Store.ensures)

pub returns-in-Read : goal.returns-in-Read
returns-in-Read c =
    let phase = ap phase_is c.in-Read.is in
    left_read _ c.args.script.now.words.now c.args.room.now _ _ _ c.load_state-state.ensures.0 c.load_state-state.ensures.1 c.load_state-state.ensures.2 _ c.turns_after.ensures _ c.stages.ensures.0 phase

pub returns-in-Stage : goal.returns-in-Stage
returns-in-Stage c =
    let phase = ap phase_is c.in-Stage.is in
    left_stage _ c.args.script.now.words.now c.args.room.now _ _ _ c.load_state-state.ensures.0 c.load_state-state.ensures.1 c.load_state-state.ensures.2 _ c.turns_after-in-Stage.ensures _ c.stages-in-Stage.ensures.0 phase

pub returns-in-Store : goal.returns-in-Store
returns-in-Store c =
    let phase = ap phase_is c.in-Store.is in
    left_store _ c.args.script.now.words.now c.args.room.now _ _ _ c.load_state-state.ensures.0 c.load_state-state.ensures.1 c.load_state-state.ensures.2 _ c.turns_after-in-Store.ensures phase

pub returns-in-Finished : goal.returns-in-Finished
returns-in-Finished c =
    let phase = ap phase_is c.in-Finished.is in
    left_done _ c.args.script.now.words.now c.args.room.now _ _ _ c.load_state-state.ensures.0 c.load_state-state.ensures.1 c.load_state-state.ensures.2 phase
