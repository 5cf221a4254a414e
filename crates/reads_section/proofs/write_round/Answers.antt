use mathlib.Core.Path.{sym, ◌∙◌}
use Prim.Native.Nat.{◌≤◌, ◌<◌}
use native.Mathlib.Nat.{add-zero}
use native.Mathlib.Omega.{arith}
use lib.ListN.{length}
use Rattle.reads_try.specs.TableLanes.{lanes_at}
use Rattle.reads_try.proofs.LaneTableLaws.{filled_named}
use Rattle.reads_section.proofs.ReadoutLaws.{read_word, read_mask, round_step, round_end}
use Rattle.reads_section.proofs.write_round.Goals as goal

pub loop-i-init : goal.loop-i-init
loop-i-init c = rw add-zero

pub entry_word-requires : goal.entry_word-requires
entry_word-requires c = (filled_named c.requires.0.filled _ (omega arith), omega arith)

pub entry_word-requires-in-loop-i : goal.entry_word-requires-in-loop-i
entry_word-requires-in-loop-i c = (filled_named c.requires.0.filled _ (omega arith), omega arith)

pub loop-i-preserved : goal.loop-i-preserved
loop-i-preserved c =
    let q : c.loop-i.i < c.args.lanes = omega arith in
    let w = c.entry_word.ensures ∙ read_word c.requires.0 c.loop-i.i c.args.r q c.requires.1 in
    let m = c.entry_word-in-loop-i.ensures ∙ read_mask c.requires.0 c.loop-i.i c.args.r q c.requires.1 in
    let n : c.loop-i.i < length (lanes_at c.args.set.now c.args.room.now c.args.lanes) = omega (arith, c.requires.0.filled.kept.wide) in
    rw (w, m) (round_step _ c.args.r c.loop-i.out c.args.at c.loop-i.i n ∙ c.loop-i.invariant)

pub returns : goal.returns
returns c =
    let n : length (lanes_at c.args.set.now c.args.room.now c.args.lanes) ≤ c.loop-i.i = omega (arith, c.requires.0.filled.kept.wide) in
    sym (round_end _ c.args.r c.loop-i.out c.args.at c.loop-i.i n) ∙ c.loop-i.invariant
