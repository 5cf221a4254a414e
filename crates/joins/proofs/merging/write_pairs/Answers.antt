use mathlib.Core.Path.{refl, sym, ap, ◌∙◌}
use Prim.Native.Nat.{◌+◌, ◌≤◌}
use native.Mathlib.Omega.{arith}
use lib.ListN.{length, length-set}
use lib.Seq.{sets, lt-length-set}
use Rattle.joins.proofs.JoinPassLaws.{Halfway, halfway_start, halfway_end, halfway_pair, halfway_next, halfway_on, halfway_room, halfway_sets}
use borrow.Author.Rules.{rules}
use Rattle.joins.proofs.merging.write_pairs.Goals as goal

pub loop-i-init : goal.loop-i-init
loop-i-init c = (halfway_start c.requires.sets, refl, refl)

pub first_pair-step-requires : goal.first_pair-step-requires
first_pair-step-requires c = halfway_pair c.loop-i.invariant.0 c.loop-i-test.true

pub offset_bounds-out-n : goal.offset_bounds-out-n
offset_bounds-out-n c =
    let room_in : c.loop-i.n + 2 ≤ length c.loop-i.out = let room = halfway_room c.loop-i.invariant.0 c.loop-i-test.true c.first_pair-step.result c.first_pair-step.ensures in
    omega (arith, room, c.loop-i.invariant.1, c.requires.room) in
    let h = room_in in search rules

pub bounds-out-n : goal.bounds-out-n
bounds-out-n c =
    let room_in : c.loop-i.n + 2 ≤ length c.loop-i.out = let room = halfway_room c.loop-i.invariant.0 c.loop-i-test.true c.first_pair-step.result c.first_pair-step.ensures in
    omega (arith, room, c.loop-i.invariant.1, c.requires.room) in
    let h = room_in in search rules

pub overflow_add-out : goal.overflow_add-out
overflow_add-out c =
    let room_in : c.loop-i.n + 2 ≤ length c.loop-i.out = let room = halfway_room c.loop-i.invariant.0 c.loop-i-test.true c.first_pair-step.result c.first_pair-step.ensures in
    omega (arith, room, c.loop-i.invariant.1, c.requires.room) in
    let h = room_in in search rules

pub offset_bounds-out-n-in-loop-i : goal.offset_bounds-out-n-in-loop-i
offset_bounds-out-n-in-loop-i c =
    let room_in : c.loop-i.n + 2 ≤ length c.loop-i.out = let room = halfway_room c.loop-i.invariant.0 c.loop-i-test.true c.first_pair-step.result c.first_pair-step.ensures in
    omega (arith, room, c.loop-i.invariant.1, c.requires.room) in
    let h = room_in in search rules

pub bounds-out-n-in-loop-i : goal.bounds-out-n-in-loop-i
bounds-out-n-in-loop-i c =
    let room_in : c.loop-i.n + 2 ≤ length c.loop-i.out = let room = halfway_room c.loop-i.invariant.0 c.loop-i-test.true c.first_pair-step.result c.first_pair-step.ensures in
    omega (arith, room, c.loop-i.invariant.1, c.requires.room) in
    let h = room_in in
    lt-length-set c.loop-i.out c.loop-i.n _ (omega arith)

pub overflow_add-i-in-loop-i : goal.overflow_add-i-in-loop-i
overflow_add-i-in-loop-i c =
    let next_in : Halfway c.args.a.now c.args.b.now (c.loop-i.n + 2) (c.loop-i.i + c.first_pair-step.result.first) (c.loop-i.j + c.first_pair-step.result.second) = halfway_next c.loop-i.invariant.0 c.loop-i-test.true c.first_pair-step.result c.first_pair-step.ensures in
    let M = next_in in omega (arith, M.first_in)

pub overflow_add-j : goal.overflow_add-j
overflow_add-j c =
    let next_in : Halfway c.args.a.now c.args.b.now (c.loop-i.n + 2) (c.loop-i.i + c.first_pair-step.result.first) (c.loop-i.j + c.first_pair-step.result.second) = halfway_next c.loop-i.invariant.0 c.loop-i-test.true c.first_pair-step.result c.first_pair-step.ensures in
    let M = next_in in omega (arith, M.second_in)

pub overflow_add-n : goal.overflow_add-n
overflow_add-n c = omega (arith, c.loop-i.invariant.0.few, c.loop-i.invariant.0.first_in)

pub loop-i-smaller : goal.loop-i-smaller
loop-i-smaller c =
    let next_in : Halfway c.args.a.now c.args.b.now (c.loop-i.n + 2) (c.loop-i.i + c.first_pair-step.result.first) (c.loop-i.j + c.first_pair-step.result.second) = halfway_next c.loop-i.invariant.0 c.loop-i-test.true c.first_pair-step.result c.first_pair-step.ensures in
    let M = next_in in
    let on = halfway_on c.loop-i.invariant.0 c.loop-i-test.true c.first_pair-step.result c.first_pair-step.ensures in
    omega (arith, on, M.first_in, M.second_in, c.loop-i-test.true)

pub loop-i-preserved : goal.loop-i-preserved
loop-i-preserved c =
    let next_in : Halfway c.args.a.now c.args.b.now (c.loop-i.n + 2) (c.loop-i.i + c.first_pair-step.result.first) (c.loop-i.j + c.first_pair-step.result.second) = halfway_next c.loop-i.invariant.0 c.loop-i-test.true c.first_pair-step.result c.first_pair-step.ensures in (
      next_in,
      simp length-set c.loop-i.invariant.1,
      halfway_sets c.loop-i.invariant.0 c.loop-i-test.true c.first_pair-step.result c.first_pair-step.ensures c.loop-i.out ∙ c.loop-i.invariant.2,
    )

pub returns : goal.returns
returns c =
    let none_left = halfway_end c.loop-i.invariant.0 c.loop-i-test.false in
    record { value = omega (arith, c.loop-i.invariant.0.words, ap length none_left); out_after = sym (ap (sets c.loop-i.out c.loop-i.n) none_left) ∙ c.loop-i.invariant.2 }
