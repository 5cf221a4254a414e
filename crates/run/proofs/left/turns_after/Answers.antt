-- A walk over the parts, one at a time.
-- Assumes nothing.
use mathlib.Core.Path.{sym, ◌∙◌}
use native.Mathlib.Omega.{arith}
use Rattle.run.proofs.LeftLaws.{walk_start, walk_inside, walk_part, walk_after, walk_next, walk_bound, walk_end}
use Rattle.run.proofs.left.turns_after.Goals as goal

pub parts-init : goal.parts-init
parts-init c = walk_start _ c.args.script.now.words.now c.args.at c.requires

pub invariant_of-part : goal.invariant_of-part
invariant_of-part c = record { inside = walk_part _ c.args.script.now.words.now _ _ _ c.parts.invariant }

pub returns-then-last-eq1 : goal.returns-then-last-eq1
returns-then-last-eq1 c = walk_end _ c.args.script.now.words.now _ _ _ c.parts.invariant (sym c.last.ensures ∙ c.if-last-eq1.true)

pub stages-requires : goal.stages-requires
stages-requires c = walk_after _ c.args.script.now.words.now _ _ _ c.parts.invariant (λ q. c.if-last-eq1.false (c.last.ensures ∙ q)) _ c.end-o.ensures

pub overflow_add-sum : goal.overflow_add-sum
overflow_add-sum c =
    let w = walk_next _ c.args.script.now.words.now _ _ _ c.parts.invariant (λ q. c.if-last-eq1.false (c.last.ensures ∙ q)) _ _ c.end-o.ensures c.stages.ensures.0 in
    omega (arith, walk_bound _ c.args.script.now.words.now _ _ _ c.requires w)

pub overflow_add-sum-in-parts : goal.overflow_add-sum-in-parts
overflow_add-sum-in-parts c =
    let w = walk_next _ c.args.script.now.words.now _ _ _ c.parts.invariant (λ q. c.if-last-eq1.false (c.last.ensures ∙ q)) _ _ c.end-o.ensures c.stages.ensures.0 in
    omega (arith, walk_bound _ c.args.script.now.words.now _ _ _ c.requires w)

pub parts-smaller : goal.parts-smaller
parts-smaller c =
    let inside = walk_inside _ c.args.script.now.words.now _ _ _ c.parts.invariant in
    omega (arith, inside.0, inside.1, c.end-o.ensures)

pub parts-preserved : goal.parts-preserved
parts-preserved c = walk_next _ c.args.script.now.words.now _ _ _ c.parts.invariant (λ q. c.if-last-eq1.false (c.last.ensures ∙ q)) _ _ c.end-o.ensures c.stages.ensures.0
