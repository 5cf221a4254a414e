-- Whatever answers as `words` does: after w turns the first 4w words are its first w lanes'.
-- Assumes nothing.
use Rattle.std.proofs.Common.{◌≡◌, ℕ, ◌*◌, ◌<◌, List, take}
use Rattle.script.specs.Script.{lane_list}
use Rattle.script.specs.Writers.{FourOf}
use Rattle.script_sections.proofs.sections.write_lanes.Given as goal

abbrev pub invariant-loop-w : goal.invariant-loop-w
invariant-loop-w g l =
    (e f h : ℕ → ℕ) → ((w : ℕ) → w < l.lanes → (x : List ℕ) → goal.F-post g l.words w x → FourOf e f h w x) → take (4 * l.w) l.out ≡ lane_list e f h l.w
