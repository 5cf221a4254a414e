-- What the code's answers tell is what the definitions hand out: by cases of the answer. And a list of slices is equal slice by slice.
-- Assumes nothing.
use mathlib.Core.Path.{◌≡◌, refl}
use mathlib.Core.Option.{Option, none, some}
use mathlib.Core.List.{List, [], ◌∷◌}
use Prim.Native.Nat.{ℕ}
use Rattle.words.specs.Answer.{Answer, good, refused, handed, result_of}
use Rattle.reads.specs.SetAnswer.{Packed}
use Rattle.rounds.specs.Rounds.{rounds_of}
use Rattle.flatten.specs.Flatten.{Sizes}
use Rattle.flatten.specs.FlattenedAnswer.{flattened_of}
use Rattle.aiger.specs.Reading.{Read}
use Rattle.aiger_read.specs.ReadTold.{gates_read_of as gates_of}
use Rattle.locals.specs.Bring.{brought_of}
use Rattle.capi.specs.Exported.{rounds_and_size, plan_size, gate_counts, bit_position}
use Rattle.capi.specs.Numbers.{rounds_numbers, brought_numbers, one_number, flattened_numbers, gates_numbers}

pub also : {x y : List ℕ} {l m : List (List ℕ)} → x ≡ y → l ≡ m → x ∷ l ≡ y ∷ m
also e f = cc

pub rounds_told : (o : Answer Packed) → rounds_numbers (rounds_of o) ≡ handed 2 rounds_and_size o
rounds_told (good x) = refl
rounds_told (refused q) = refl

pub brought_told : (o : Answer (Option ℕ)) → brought_numbers (brought_of o) ≡ handed 2 bit_position o
brought_told (good (some p)) = refl
brought_told (good none) = refl
brought_told (refused q) = refl

-- one number of something good
pub one_told : {A : Type 0} (f : A → ℕ) (o : Answer A) → one_number (result_of f o) ≡ handed 2 (λ x. f x ∷ []) o
one_told f (good x) = refl
one_told f (refused q) = refl

pub flattened_told : (o : Answer Sizes) → flattened_numbers (flattened_of o) ≡ handed 4 plan_size o
flattened_told (good x) = refl
flattened_told (refused q) = refl

pub gates_told : (o : Answer Read) → gates_numbers (gates_of o) ≡ handed 4 gate_counts o
gates_told (good x) = refl
gates_told (refused q) = refl
