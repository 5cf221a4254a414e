-- The numbers that the code's own answers tell: those that the definitions hand out.
-- Assumes nothing.
use Rattle.std.specs.Prelude.{List, [], ◌∷◌, ℕ, Some, None, Ok, Err}
use Rattle.std.specs.declared.option.Option as given
use Rattle.std.specs.declared.result.Result.{Result}
use Rattle.words.specs.Answer.{refusal_numbers}
use Rattle.words.specs.declared.refusals.Refusal.{Refusal}
use Rattle.words.specs.declared.units.LocalPosition.{LocalPosition}
use Rattle.rounds.specs.declared.Placed.{Placed}
use Rattle.flatten.specs.declared.sizes.Sizes.{Sizes}
use Rattle.aiger_read.specs.declared.start.Header.{Header}
use Rattle.capi.specs.Exported.{no_position}

-- two numbers beside the one that is returned
abbrev pub rounds_numbers : Result Placed Refusal → List ℕ
rounds_numbers (Ok x) = 0 ∷ x.rounds ∷ x.size ∷ []
rounds_numbers (Err q) = refusal_numbers q

abbrev pub brought_numbers : Result (given.Option LocalPosition) Refusal → List ℕ
brought_numbers (Ok (Some p)) = 0 ∷ p.0 ∷ 0 ∷ []
brought_numbers (Ok None) = 0 ∷ no_position ∷ 0 ∷ []
brought_numbers (Err q) = refusal_numbers q

abbrev pub one_number : Result ℕ Refusal → List ℕ
one_number (Ok n) = 0 ∷ n ∷ 0 ∷ []
one_number (Err q) = refusal_numbers q

-- four
abbrev pub four : Refusal → List ℕ
four q = q.number ∷ q.part ∷ q.item ∷ 0 ∷ 0 ∷ []

abbrev pub four_numbers : Result (ℕ × ℕ × ℕ × ℕ) Refusal → List ℕ
four_numbers (Ok x) = 0 ∷ x.0 ∷ x.1 ∷ x.2 ∷ x.3 ∷ []
four_numbers (Err q) = four q

abbrev pub flattened_numbers : Result Sizes Refusal → List ℕ
flattened_numbers (Ok x) = 0 ∷ x.starts ∷ x.words ∷ x.state ∷ x.sram ∷ []
flattened_numbers (Err q) = four q

abbrev pub gates_numbers : Result Header Refusal → List ℕ
gates_numbers (Ok h) = 0 ∷ h.gates ∷ h.inputs ∷ h.latches ∷ h.outputs ∷ []
gates_numbers (Err q) = four q
