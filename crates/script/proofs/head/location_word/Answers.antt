-- The two halves do not overlap.
-- Assumes nothing.
use mathlib.Core.Path.{ap₂, ◌∙◌}
use Prim.Native.Nat.{ℕ, ◌+◌, ◌*◌, ◌^◌}
use Rattle.words.proofs.SectionLaws.{halves_join}
use Rattle.script.proofs.head.location_word.Goals as goal

pub returns : goal.returns
returns c =
    halves_join c.location_half-low.result c.location_half-high.result c.location_half-low.ensures.1 c.location_half-high.ensures.1
    ∙ ap₂ (λ (a : ℕ) (b : ℕ). a * 2 ^ 16 + b) c.location_half-high.ensures.0 c.location_half-low.ensures.0
