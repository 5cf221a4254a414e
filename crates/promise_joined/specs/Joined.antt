-- What a build leaves, given to a run: the words and starts stand in lent slices that may be longer, and are cut to the lengths that the build tells.
-- Assumes nothing.
use Rattle.std.specs.Prelude.{◌≡◌, List, ℕ, ◌+◌, ◌*◌, ◌≤◌, ◌<◌, length, get_or, take, drop}
use Rattle.words.specs.Answer.{good}
use Rattle.words.specs.Count.{count}
use Rattle.words.specs.Edition.{levels_for}
use Rattle.plan_record.specs.Record.{plan_lanes, blocks_of, majors_of}
use Rattle.run_machine.specs.Room.{block_room}
use Rattle.run_machine.specs.Run.{ran, run_answer}
use Rattle.promise.specs.Promise.{Accepted, assembled, starts_of, turns_of, Kept}
use Rattle.flatten.specs.Flatten.{Sizes, building, starts_after, words_after}

-- the words, and the starts of major stage s with their end, of a build with r words of room into the slices starts, words and pieces
abbrev pub built_words : List ℕ → ℕ → List ℕ → List ℕ → List ℕ → Sizes → List ℕ
built_words d r starts words pieces x = take x.words (words_after (plan_lanes d) d r starts words pieces)

abbrev pub built_starts : List ℕ → ℕ → List ℕ → List ℕ → List ℕ → Sizes → ℕ → List ℕ
built_starts d r starts words pieces x s = take (blocks_of d + 1) (drop (blocks_of d * s) (take x.starts (starts_after (plan_lanes d) d r starts words pieces)))

-- a build that is not refused was of an accepted plan, and leaves its words and starts
pub record Left (d : List ℕ) (r : ℕ) (starts words pieces : List ℕ) (x : Sizes) (s : ℕ) : Type 0 where
  pub accepted : Accepted d
  pub words_are : built_words d r starts words pieces x ≡ assembled d
  pub starts_are : built_starts d r starts words pieces x s ≡ starts_of d s

abbrev pub BuildLeaves : Type 0
BuildLeaves = (d : List ℕ) (r : ℕ) (starts words pieces : List ℕ) (x : Sizes) (s : ℕ) → building (plan_lanes d) d r (length starts) (length words) (length pieces) ≡ good x → Left d r starts words pieces x s

-- BUILD AND RUN: a run of what a build left, in the plan's edition, over states of the size that it told, every turn naming a block and each block named as often as it has
-- turns, answers 0 turns left and keeps demand 3
abbrev pub BuiltRun : Type 0
BuiltRun =
    (d : List ℕ) (r : ℕ) (starts words pieces : List ℕ) (x : Sizes) (s : ℕ) (turns old new : List ℕ) (room : ℕ) → building (plan_lanes d) d r (length starts) (length words) (length pieces) ≡ good x
    → s < majors_of d → length old ≡ x.state → length new ≡ x.state → block_room * blocks_of d ≤ room
    → ((i : ℕ) → i < length turns → get_or turns i 0 < blocks_of d) → ((b : ℕ) → b < blocks_of d → turns_of d s b ≤ count b turns)
    → (after : List ℕ) × (run_answer (plan_lanes d) (levels_for (plan_lanes d)) (built_words d r starts words pieces x) (built_starts d r starts words pieces x s) turns old new room ≡ ran 0 after) × Kept d s old new after
