-- `refused_before`: each way through is a case of the definition.
-- Assumes nothing.
use native.Mathlib.Omega.{arith}
use Rattle.rounds.proofs.BeforeLaws.{before_none, before_small, before_bits, before_narrow, before_wide, before_fine}
use Rattle.rounds.proofs.refused_before.Goals as goal

pub returns-then-n-eq0 : goal.returns-then-n-eq0
returns-then-n-eq0 c =
    before_none c.args.lanes c.args.set.now c.requires.0 c.if-n-eq0.true

pub returns-then-n-lanes : goal.returns-then-n-lanes
returns-then-n-lanes c =
    before_small c.args.lanes c.args.set.now c.requires.0 c.if-n-eq0.false c.if-n-lanes.true

pub total_bits-bits-requires : goal.total_bits-bits-requires
total_bits-bits-requires c = (omega arith, omega (arith, c.requires.1))

pub returns-then-lanes-bits : goal.returns-then-lanes-bits
returns-then-lanes-bits c =
    before_bits c.args.lanes c.args.set.now c.requires.0 c.if-n-eq0.false _ c.total_bits-bits.ensures c.if-lanes-bits.true

pub returns-then-bits-lanes : goal.returns-then-bits-lanes
returns-then-bits-lanes c =
    before_narrow c.args.lanes c.args.set.now c.requires.0 c.if-n-eq0.false _ c.total_bits-bits.ensures c.if-bits-lanes.true

pub wide_pairs-wide-requires : goal.wide_pairs-wide-requires
wide_pairs-wide-requires c =
    (c.requires.0, c.requires.1)

pub returns-then-lanes-wide : goal.returns-then-lanes-wide
returns-then-lanes-wide c =
    before_wide c.args.lanes c.args.set.now c.requires.0 c.if-n-eq0.false _ c.total_bits-bits.ensures c.if-lanes-bits.false _
    c.wide_pairs-wide.ensures c.if-lanes-wide.true

pub returns : goal.returns
returns c =
    before_fine c.args.lanes c.args.set.now c.requires.0 c.if-n-eq0.false _ c.total_bits-bits.ensures c.if-lanes-bits.false _
    c.wide_pairs-wide.ensures c.if-lanes-wide.false
