use mathlib.Core.Path.{◌≡◌, sym, ap, ◌∙◌}
use mathlib.Core.Bool.{◌&&◌}
use Prim.Native.Nat.{ℕ, ◌/◌, ◌%◌, ◌≤◌, ◌<◌}
use native.Mathlib.Omega.{arith}
use lib.Dec.{eqb}
use lib.ListN.{length}
use Rattle.plan_record.specs.Record.{body_at, parts_of}
use Rattle.plan_record.specs.Form.{length_form}
use Rattle.plan_record.proofs.RecordLaws.{body_step, stages_at_lem, endpoints_at}
use Rattle.plan_record.proofs.PlanFormLaws.{PartRanges, part_in}
use Rattle.plan_form.proofs.FormTestLaws.{length-past}
use Rattle.plan_form.proofs.length_form.Goals as goal

pub loop-p-init : goal.loop-p-init
loop-p-init c = (c.first_body-at.ensures.0, omega arith)

pub returns-then-words-at : goal.returns-then-words-at
returns-then-words-at c =
    let l : c.loop-p.p ≤ parts_of c.args.d.now = omega arith in
    let h : length c.args.d.now / 4 < body_at c.args.d.now c.loop-p.p = omega arith in
    sym (length-past c.args.d.now c.loop-p.p l h)

pub body_words-at-requires : goal.body_words-at-requires
body_words-at-requires c =
    let right : (c.word_at-stages.result ≤ 255) × (c.word_at-endpoints.result ≤ 8192) = let l : c.loop-p.p < parts_of c.args.d.now = omega arith in
    let r : PartRanges c.args.d.now c.loop-p.p = part_in c.args.d.now c.requires c.loop-p.p l in
    (omega (arith, r.stages, stages_at_lem c.args.d.now _ c.loop-p.p c.head_base-heads.ensures.0, c.word_at-stages.ensures), omega (arith, r.endpoints, endpoints_at c.args.d.now _ c.loop-p.p c.head_base-heads.ensures.0, c.word_at-endpoints.ensures)) in
    let r = right in
    (omega arith, omega (arith, r), omega (arith, r))

pub loop-p-preserved : goal.loop-p-preserved
loop-p-preserved c = (
  body_step c.args.d.now c.loop-p.p _ _ _ _ c.loop-p.invariant.0 (c.word_at-stages.ensures ∙ stages_at_lem c.args.d.now _ c.loop-p.p c.head_base-heads.ensures.0) (c.word_at-endpoints.ensures ∙ endpoints_at c.args.d.now _ c.loop-p.p c.head_base-heads.ensures.0) c.body_words-at.ensures.0,
  omega arith,
)

pub returns : goal.returns
unfolding length_form
returns c =
    let e : c.loop-p.p ≡ parts_of c.args.d.now = omega arith in
    ap (λ (x : ℕ). eqb (length c.args.d.now % 4) 0 && eqb x (length c.args.d.now / 4)) (c.loop-p.invariant.0 ∙ ap (body_at c.args.d.now) e)
