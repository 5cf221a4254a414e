use mathlib.Core.Path.{◌≡◌, sym, ap, ◌∙◌}
use Prim.Native.Nat.{◌/◌}
use native.Mathlib.Omega.{arith}
use lib.ListN.{length}
use Rattle.words.specs.Found.{item_of}
use Rattle.std.specs.Prelude.{Some}
use Rattle.reads_section.proofs.PairFormLaws.{bad_low, bad_word, bad_mask, good_pair, bad_half, good_end}
use Rattle.reads_section.proofs.check_form.Goals as goal

pub returns-then-w-low : goal.returns-then-w-low
returns-then-w-low c =
    ap item_of (sym (bad_low c.args.set.now c.loop-i.i c.loop-i.low (omega arith) c.if-w-low.true) ∙ c.loop-i.invariant)

pub returns-then-w-ge134217728 : goal.returns-then-w-ge134217728
returns-then-w-ge134217728 c =
    ap item_of (sym (bad_word c.args.set.now c.loop-i.i c.loop-i.low (omega arith) c.if-w-low.false c.if-w-ge134217728.true) ∙ c.loop-i.invariant)

pub returns-then-set-i-eq0 : goal.returns-then-set-i-eq0
returns-then-set-i-eq0 c =
    ap item_of (sym (bad_mask c.args.set.now c.loop-i.i c.loop-i.low (omega arith) c.if-w-low.false c.if-w-ge134217728.false c.if-set-i-eq0.true) ∙ c.loop-i.invariant)

pub loop-i-preserved : goal.loop-i-preserved
loop-i-preserved c =
    sym (good_pair c.args.set.now c.loop-i.i c.loop-i.low (omega arith) c.if-w-low.false c.if-w-ge134217728.false (omega arith)) ∙ c.loop-i.invariant

pub returns-then-set-eq1 : goal.returns-then-set-eq1
returns-then-set-eq1 c =
    let e : c.loop-i.i ≡ length c.args.set.now / 2 = omega arith in
    ap Some (sym e) ∙ ap item_of (sym (bad_half c.args.set.now c.loop-i.i c.loop-i.low (omega arith)) ∙ c.loop-i.invariant)

pub returns : goal.returns
returns c =
    ap item_of (sym (good_end c.args.set.now c.loop-i.i c.loop-i.low (omega arith)) ∙ c.loop-i.invariant)
