-- One law of EndpointLaws for each kind.
-- Assumes nothing.
use Rattle.std.proofs.Common.{arith}
use Rattle.plan_record.proofs.EndpointLaws.{at_output, at_staged, at_register, at_sram}
use Rattle.plan_record.proofs.bodies.Part.endpoint.Goals as goal

pub returns-in-0 : goal.returns-in-0
returns-in-0 c = at_output c.args.self.now.d.now c.args.self.now.p c.args.i _ _ c.endpoint_word.ensures c.endpoint_word-x.ensures c.in-0.is

pub returns-in-1 : goal.returns-in-1
returns-in-1 c = at_staged c.args.self.now.d.now c.args.self.now.p c.args.i _ _ c.endpoint_word.ensures c.endpoint_word-x.ensures c.in-1.is

pub returns-in-2 : goal.returns-in-2
returns-in-2 c =
    at_register c.args.self.now.d.now c.args.self.now.p c.args.i _ _ c.endpoint_word.ensures c.endpoint_word-x.ensures _ c.endpoint_word-in-2.ensures c.in-2.is

pub returns-in_default : goal.returns-in_default
returns-in_default c =
    at_sram c.args.self.now.d.now c.args.self.now.p c.args.i _ _ c.endpoint_word.ensures c.endpoint_word-x.ensures (λ e. omega arith) (λ e. omega arith)
    (λ e. omega arith)
