-- `fit`: each way through is a test of the definition.
-- Assumes nothing.
use mathlib.Core.Path.{sym, ap, ◌∙◌}
use native.Mathlib.Omega.{arith}
use Rattle.words.specs.Found.{item_of}
use Rattle.words.proofs.FoundLaws.{item_some, item_none}
use Rattle.words.proofs.PopLaws.{pop_le}
use Rattle.handed_pairs.proofs.SetSearchLaws.{found_is, fit_foreign, fit_marked, fit_over, fit_fits}
use Rattle.handed_pairs.proofs.fit.Goals as goal

pub returns-in_err-p : goal.returns-in_err-p
returns-in_err-p c =
    rw c.from_residual.ensures (ap item_of (fit_foreign c.args.set.now c.requires.0.form c.args.seen.now c.args.b c.args.w c.args.m (item_none _ (sym c.find_pair.ensures ∙ c.in_err-p.was))))

pub bit_at-requires : goal.bit_at-requires
bit_at-requires c =
    let found = item_some _ _ (sym c.find_pair.ensures ∙ c.in_ok-p.was) in
    omega (arith, found_is c.args.set.now c.requires.0.form c.args.seen.now c.args.b c.args.w c.args.m _ found, c.requires.0.few, c.requires.1)

pub returns-then-bit_at-eq1 : goal.returns-then-bit_at-eq1
returns-then-bit_at-eq1 c =
    let found = item_some _ _ (sym c.find_pair.ensures ∙ c.in_ok-p.was) in
    ap item_of (fit_marked c.args.set.now c.requires.0.form c.args.seen.now c.args.b c.args.w c.args.m _ found _ c.bit_at.ensures c.if-bit_at-eq1.true)

pub overflow_add-b : goal.overflow_add-b
overflow_add-b c =
    omega (arith, c.requires.2, c.count.ensures, pop_le c.args.m)

pub returns-then-b-count-gt32 : goal.returns-then-b-count-gt32
returns-then-b-count-gt32 c =
    let found = item_some _ _ (sym c.find_pair.ensures ∙ c.in_ok-p.was) in
    ap item_of (fit_over c.args.set.now c.requires.0.form c.args.seen.now c.args.b c.args.w c.args.m _ found _ c.bit_at.ensures c.if-bit_at-eq1.false _ c.count.ensures (omega (arith, c.if-b-count-gt32.true)))

pub returns : goal.returns
returns c =
    let found = item_some _ _ (sym c.find_pair.ensures ∙ c.in_ok-p.was) in
    ap item_of (fit_fits c.args.set.now c.requires.0.form c.args.seen.now c.args.b c.args.w c.args.m _ found _ c.bit_at.ensures c.if-bit_at-eq1.false _ c.count.ensures (omega (arith, c.if-b-count-gt32.false)))
