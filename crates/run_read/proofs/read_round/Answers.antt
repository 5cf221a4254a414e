-- `run_read::read_round` meets its contract: an empty mask reads nothing, and the window's word is the state word.
-- Assumes nothing.
use mathlib.Core.Path.{◌≡◌, sym, ap, ◌∙◌}
use mathlib.Core.List.{List}
use Prim.Native.Nat.{ℕ}
use native.Mathlib.Omega.{arith}
use lib.ListN.{get_or}
use Rattle.reads.specs.ReadTurn.{appended}
use Rattle.reads.proofs.ReadTurnLaws.{appended_none}
use Rattle.run_read.proofs.AppendLaws.{window_word}
use Rattle.run_read.proofs.read_round.Goals as goal

pub window-seen-requires : goal.window-seen-requires
window-seen-requires c = c.requires.0 c.if-pair-gt0.true

pub returns-then-pair-gt0 : goal.returns-then-pair-gt0
returns-then-pair-gt0 c =
    let word = ap (λ (l : List ℕ). get_or l 0 0) c.window-seen.ensures.0 ∙ window_word _ _ _ in
    c.append.ensures ∙ ap (λ (x : ℕ). appended 32 x (c.args.pair.mask) c.args.acc) word

pub returns-else-pair-gt0 : goal.returns-else-pair-gt0
returns-else-pair-gt0 c =
    let z : c.args.pair.mask ≡ 0 = omega arith in
    rw z (sym (appended_none 32 _ _))
