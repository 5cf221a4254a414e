-- M10's run: the script of its plan, assembled, one major stage of one block, which takes its three turns; an old word, and a state of two words.
-- Assumes nothing.
use Rattle.std.specs.Prelude.{List, [], ◌∷◌, ℕ}
use Rattle.words.specs.Answer.{Answer, good, refused}
use Rattle.run_machine.specs.Run.{Ran, run_answer}
use Rattle.promise.specs.Promise.{assembled, starts_of}
use Rattle.marked_plan.specs.GatePlan.{gate_record}

abbrev pub three_turns : List ℕ
three_turns = 0 ∷ 0 ∷ 0 ∷ []

-- read, stage and store
unfoldable pub gate_answer : ℕ → Answer Ran
gate_answer old = run_answer 256 13 (assembled gate_record) (starts_of gate_record 0) three_turns (old ∷ 0 ∷ []) (0 ∷ 0 ∷ []) 1024

-- what is seen of an answer: the refusal's number and item after a 0; or after a 1 the turns left and the new state
abbrev pub ran_seen : Answer Ran → List ℕ
ran_seen (refused q) = 0 ∷ q.number ∷ q.item ∷ []
ran_seen (good x) = 1 ∷ x.left ∷ x.new
