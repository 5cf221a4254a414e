use mathlib.Core.Path.{◌≡◌, refl, sym, ap₂, subst, ◌∙◌}
use Prim.Native.Nat.{ℕ, ◌+◌, ◌*◌, ◌^◌, ◌≤◌, ◌<◌}
use native.Mathlib.Omega.{arith}
use Rattle.words.specs.Bit.{pop}
use Rattle.reads.specs.ReadTurn.{appended, lane_word}
use Rattle.run_machine.specs.Part.{rounds_at, read_word_at, read_mask_at}
use Rattle.run_machine.specs.Turn.{state_word}
use Rattle.run_read.specs.Window.{WordReadable}
use Rattle.run_read.proofs.AppendLaws.{lane_room, lane_more}
use Rattle.run_read.proofs.read_lane.Goals as goal

pub loop-r-init : goal.loop-r-init
unfolding lane_word
loop-r-init c = (c.rounds-r-end.ensures.0, refl)

pub read_round-acc-requires : goal.read_round-acc-requires
read_round-acc-requires c =
    let W : ℕ → ℕ = λ q. state_word c.args.turn.now.old.now c.args.turn.now.new.now (read_word_at c.args.turn.now.part.script.lanes c.args.turn.now.part.script.words.now c.args.turn.now.part.at q c.args.i) in
    let M : ℕ → ℕ = λ q. read_mask_at c.args.turn.now.part.script.lanes c.args.turn.now.part.script.words.now c.args.turn.now.part.at q c.args.i in
    let within : c.loop-r.r < rounds_at c.args.turn.now.part.script.words.now c.args.turn.now.part.at = omega arith in
    let room = lane_room W M c.loop-r.r (rounds_at c.args.turn.now.part.script.words.now c.args.turn.now.part.at) within (c.args.turn.now.readable.lanes c.args.i c.requires) in (
      λ some. subst (WordReadable c.args.turn.now.old.now c.args.turn.now.new.now) (sym c.pair.ensures.0) (c.args.turn.now.readable.words c.loop-r.r c.args.i within c.requires (omega (arith, some, c.pair.ensures.1))),
      subst (λ (m : ℕ). (c.loop-r.acc + 1) * 2 ^ pop m ≤ 2 ^ 32) (sym c.pair.ensures.1) (rw c.loop-r.invariant.1 room),
    )

pub loop-r-preserved : goal.loop-r-preserved
loop-r-preserved c =
    let read = c.read_round-acc.ensures ∙ ap₂ (λ (w m : ℕ). appended 32 (state_word c.args.turn.now.old.now c.args.turn.now.new.now w) m c.loop-r.acc) c.pair.ensures.0 c.pair.ensures.1 in
    (c.loop-r.invariant.0, lane_more _ _ _ _ _ c.loop-r.invariant.1 read)

pub returns : goal.returns
returns c =
    let e : c.loop-r.r ≡ rounds_at c.args.turn.now.part.script.words.now c.args.turn.now.part.at = omega arith in
    rw e at c.loop-r.invariant.1
