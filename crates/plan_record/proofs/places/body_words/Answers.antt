-- The definition, unfolded.
-- Assumes nothing.
use mathlib.Core.Path.{◌≡◌, ap, ◌∙◌}
use Prim.Native.Nat.{ℕ, ◌*◌}
use native.Mathlib.Omega.{arith}
use Rattle.plan_record.specs.Record.{slot_words, plan_lanes, body_words}
use Rattle.plan_record.proofs.places.body_words.Goals as goal

pub returns : goal.returns
unfolding body_words
returns c =
    let words : c.slot_words.result ≡ slot_words (plan_lanes c.args.d.now) * c.args.m = c.slot_words.ensures.0 ∙ ap (λ (n : ℕ). slot_words n * c.args.m) c.lanes_of-lanes.ensures.0 in
    omega (arith, words)
