-- The activations collected, and their duplicate words.
-- Assumes nothing.
use mathlib.Core.Path.{◌≡◌, ap, ◌∙◌}
use native.Mathlib.Omega.{arith}
use lib.ListN.{length, take}
use Rattle.plan_counts.specs.Counts.{duplicates_in}
use Rattle.plan_counts.proofs.CollectLaws.{front_is, front_length}
use Rattle.plan_counts.proofs.activations.duplicates_of.Goals as goal

pub slice_bounds-duplicate_words-end-2 : goal.slice_bounds-duplicate_words-end-2
slice_bounds-duplicate_words-end-2 c =
    let long : c.collect-n.result ≡ length (take c.collect-n.result c.collect-n.new.keys) = front_length _ _ _ _ c.collect-n.new.keys c.collect-n.ensures.value.0 c.collect-n.ensures.keys_after in
    long

pub duplicate_words-requires : goal.duplicate_words-requires
duplicate_words-requires c =
    let long : c.collect-n.result ≡ length (take c.collect-n.result c.collect-n.new.keys) = front_length _ _ _ _ c.collect-n.new.keys c.collect-n.ensures.value.0 c.collect-n.ensures.keys_after in
    (omega (arith, long, c.collect-n.ensures.value.1), omega (arith, long, c.collect-n.ensures.value.1, c.requires.2))

pub returns : goal.returns
returns c =
    c.duplicate_words.ensures.value ∙ ap duplicates_in (front_is _ _ _ _ c.collect-n.new.keys c.collect-n.ensures.value.0 c.collect-n.ensures.keys_after)
