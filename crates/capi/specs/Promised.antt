-- Demand 3 of the exported run, beside the equations that say its outcome: whatever accepted plan and major stage the words and starts are assembled
-- from, with states of the planned size and the plan's edition, answer 0 with 0 turns left leaves the state that is promised.
-- Assumes nothing.
use Rattle.std.specs.Prelude.{◌≡◌, List, ℕ, ◌<◌, length}
use Rattle.plan_record.specs.Record.{plan_lanes, majors_of}
use Rattle.plan_blocks.specs.Blocks.{state_words}
use Rattle.promise.specs.Promise.{Accepted, assembled, starts_of, Kept}

unfoldable pub Promised : (W starts old new : List ℕ) (edition number left : ℕ) (after : List ℕ) → Type 0
Promised W starts old new edition number left after =
    (d : List ℕ) (s : ℕ) → Accepted d → s < majors_of d → W ≡ assembled d → starts ≡ starts_of d s → length old ≡ state_words d → length new ≡ state_words d
    → edition ≡ plan_lanes d → number ≡ 0 → left ≡ 0 → Kept d s old new after
