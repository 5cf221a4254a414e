use mathlib.Core.Path.{sym, ap, ◌∙◌}
use Prim.Native.Nat.{◌-◌, ◌<◌}
use native.Mathlib.Omega.{arith}
use Rattle.std.specs.Prelude.{Err}
use Rattle.aiger_read.proofs.GroupLaws.{groups_start, product_fits, scale_fits, groups_cut, groups_nought, groups_value, groups_next, groups_end}
use Rattle.aiger_read.proofs.differences.groups_from.Goals as goal

pub loop-k-init : goal.loop-k-init
loop-k-init c = (omega arith, groups_start _ _ _ _ (omega arith) c.requires.0)

pub returns-then-bytes-i : goal.returns-then-bytes-i
returns-then-bytes-i c = ap Err c.nowhere.ensures ∙ groups_cut c.loop-k.invariant.1 (omega arith) c.if-bytes-i.true

pub returns-then-b-eq0 : goal.returns-then-b-eq0
returns-then-b-eq0 c =
    ap Err c.nowhere-then-b-eq0.ensures ∙ groups_nought c.loop-k.invariant.1 (omega arith) c.if-bytes-i.false (sym c.wide-b.ensures.0 ∙ c.if-b-eq0.true)

pub overflow_mul-result : goal.overflow_mul-result
overflow_mul-result c =
    let most = product_fits c.wide-b.result _ c.wide-b.ensures.1 (scale_fits c.loop-k.invariant.1 (omega arith)) in
    omega arith

pub overflow_add-result : goal.overflow_add-result
overflow_add-result c =
    let scale = scale_fits c.loop-k.invariant.1 (omega arith) in
    let most = product_fits c.wide-b.result _ c.wide-b.ensures.1 scale in
    omega (arith, c.loop-k.invariant.1.small)

pub returns-then-b-lt128 : goal.returns-then-b-lt128
returns-then-b-lt128 c =
    groups_value c.loop-k.invariant.1 _ (omega arith) c.if-bytes-i.false c.wide-b.ensures.0 c.if-b-eq0.false c.if-b-lt128.true

pub overflow_mul-value : goal.overflow_mul-value
overflow_mul-value c =
    let few : c.wide-b.result - 128 < 256 = omega (arith, c.wide-b.ensures.1) in
    let most = product_fits (c.wide-b.result - 128) _ few (scale_fits c.loop-k.invariant.1 (omega arith)) in
    omega arith

pub overflow_add-value : goal.overflow_add-value
overflow_add-value c =
    let few : c.wide-b.result - 128 < 256 = omega (arith, c.wide-b.ensures.1) in
    let scale = scale_fits c.loop-k.invariant.1 (omega arith) in
    let most = product_fits (c.wide-b.result - 128) _ few scale in
    omega (arith, c.loop-k.invariant.1.small)

pub overflow_mul-scale : goal.overflow_mul-scale
overflow_mul-scale c =
    omega (arith, scale_fits c.loop-k.invariant.1 (omega arith))

pub loop-k-preserved : goal.loop-k-preserved
loop-k-preserved c = (
  omega arith,
  groups_next c.loop-k.invariant.1 _ _ _ (omega arith) (omega arith) (omega arith) c.if-bytes-i.false c.wide-b.ensures.0 c.if-b-lt128.false c.wide-b.ensures.1,
)

pub returns : goal.returns
returns c = ap Err c.nowhere-2.ensures ∙ groups_end c.loop-k.invariant.1 (omega arith)
