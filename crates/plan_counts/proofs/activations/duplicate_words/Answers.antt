-- The extras of the sorted keys, over 32, rounded up.
-- Assumes nothing.
use Rattle.std.proofs.Common.{◌≡◌, ◌+◌, ◌/◌, ◌≤◌, ◌∙◌, length, arith}
use Rattle.sort.proofs.SortEndLaws.{answer_done}
use Rattle.plan_counts.proofs.ActivationLaws.{extras_sorted}
use Rattle.plan_counts.proofs.activations.duplicate_words.Goals as goal

pub unwrap-requires : goal.unwrap-requires
unwrap-requires c = rw (c.sort.ensures.value ∙ answer_done c.args.keys.now c.args.scratch.now c.requires.1)

pub overflow_cast-result : goal.overflow_cast-result
overflow_cast-result c =
    let few : c.extras_in.result ≤ length c.args.keys.now =
    (extras_sorted c.args.keys.now c.args.scratch.now c.sort.new.keys _ c.requires.1 c.sort.ensures.keys_after c.extras_in.ensures).0 in
    omega arith

pub returns : goal.returns
returns c =
    let words : c.div_ceil.result ≡ (c.extras_in.result + 31) / 32 = omega arith in
    let told = extras_sorted c.args.keys.now c.args.scratch.now c.sort.new.keys _ c.requires.1 c.sort.ensures.keys_after c.extras_in.ensures in
    record { value = words ∙ told.1; keys_after = c.sort.ensures.keys_after; scratch_after = c.sort.ensures.scratch_after }
