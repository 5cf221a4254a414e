use Rattle.std.proofs.Common.{◌≡◌, ◌+◌, refl, sym, ap, ap₂, ◌∙◌, arith}
use Rattle.words.specs.Sum.{sum_to}
use Rattle.plan_record.specs.Record.{endpoints_of}
use Rattle.plan_counts.specs.Counts.{is_sram}
use Rattle.plan_counts.proofs.PartCountLaws.{srams_to, srams_more}
use Rattle.plan_counts.proofs.srams_of.Goals as goal

pub loop-i-init : goal.loop-i-init
unfolding sum_to
loop-i-init c = (refl, omega arith)

pub overflow_add-found : goal.overflow_add-found
overflow_add-found c = omega (arith, c.sram_of-found.ensures.1, c.args.part.now.of.laid.endpoints)

pub loop-i-preserved : goal.loop-i-preserved
loop-i-preserved c = (
  ap₂ ◌+◌ c.loop-i.invariant.0 (c.sram_of-found.ensures.0 ∙ ap is_sram c.endpoint.ensures) ∙ sym (srams_more c.args.part.now.d.now c.args.part.now.p c.loop-i.i),
  omega (arith, c.sram_of-found.ensures.1),
)

pub returns : goal.returns
returns c =
    let e : c.loop-i.i ≡ endpoints_of c.args.part.now.d.now c.args.part.now.p = omega (arith, c.args.part.now.of.endpoints) in
    (c.loop-i.invariant.0 ∙ ap (srams_to c.args.part.now.d.now c.args.part.now.p) e, omega (arith, c.args.part.now.of.laid.endpoints))
