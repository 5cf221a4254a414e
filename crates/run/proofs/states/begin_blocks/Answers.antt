use mathlib.Core.Path.{◌≡◌, refl, ap, ◌∙◌}
use native.Mathlib.Omega.{arith}
use lib.ListN.{length}
use Rattle.run.proofs.StateLaws.{begun_next, begun_all, lent_room, room_long}
use Rattle.run.proofs.states.begin_blocks.Goals as goal

pub loop-b-init : goal.loop-b-init
loop-b-init c = (refl, λ n a l. absurd (omega arith))

pub begins-state-requires : goal.begins-state-requires
begins-state-requires c = c.requires.inside c.loop-b.b (omega arith)

pub slice_bounds-store_state-end : goal.slice_bounds-store_state-end
slice_bounds-store_state-end c = omega arith

pub store_state-requires : goal.store_state-requires
store_state-requires c = (ap length (lent_room c.loop-b.room c.loop-b.b) ∙ room_long _ _ (omega arith), omega (arith, c.begins-state.ensures.2))

pub loop-b-preserved : goal.loop-b-preserved
loop-b-preserved c =
    let next = begun_next c.args.words.now c.args.starts.now c.loop-b.room c.loop-b.b _ _ _ _ c.loop-b.invariant.1 (omega arith) c.begins-state.ensures.0 c.begins-state.ensures.1 c.begins-state.ensures.2 c.store_state.ensures in
    (next.0 ∙ c.loop-b.invariant.0, next.1)

pub returns : goal.returns
returns c =
    let e : c.loop-b.b ≡ c.args.blocks = omega arith in
    λ n. begun_all n c.args.words.now c.args.starts.now c.loop-b.room c.args.blocks 0 (λ b g h. c.loop-b.invariant.1 n b (omega arith))
