-- What is answered: something good, or a refusal with its place; and the numbers that an exported function hands out of it. Document 01, "Numbered
-- refusals": each returns number and place, part and item; (0, 0) where there is none.
-- Assumes nothing.
use Rattle.std.specs.Prelude.{List, [], ◌∷◌, ℕ, zero, suc, Ok, Err}
use Rattle.std.specs.declared.result.Result.{Result}
use Rattle.words.specs.Tests.{Place}
use Rattle.words.specs.declared.refusals.Refusal.{Refusal}

pub data Answer (A : Type 0) : Type 0 where
  good : A → Answer A
  refused : Refusal → Answer A

-- a refusal by its number: at a place; at an item of what has no parts; at no place
abbrev pub at : ℕ → Place → Refusal
at n x = record { number = n; part = x.part; item = x.item }

abbrev pub at_item : ℕ → ℕ → Refusal
at_item n i = record { number = n; part = 0; item = i }

abbrev pub nowhere : ℕ → Refusal
nowhere n = at_item n 0

-- what the code answers: f of something good, else the refusal
abbrev pub result_of : {A B : Type 0} → (A → B) → Answer A → Result B Refusal
result_of f (good x) = Ok (f x)
result_of f (refused q) = Err q

-- what is told of a refusal
abbrev pub refusal_numbers : Refusal → List ℕ
refusal_numbers q = q.number ∷ q.part ∷ q.item ∷ []

-- k numbers: those of a list, then zeros
abbrev pub padded : ℕ → List ℕ → List ℕ
padded zero l = []
padded (suc k) [] = 0 ∷ padded k []
padded (suc k) (x ∷ l) = x ∷ padded k l

-- the numbers that are handed out, what is returned and k more: of something good 0 and what f tells of it, else what is told of the refusal
abbrev pub handed : {A : Type 0} → ℕ → (A → List ℕ) → Answer A → List ℕ
handed k f (good x) = padded (suc k) (0 ∷ f x)
handed k f (refused q) = padded (suc k) (refusal_numbers q)
