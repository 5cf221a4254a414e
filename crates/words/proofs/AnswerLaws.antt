-- What an answer is not, and what the numbers that are handed out say of it: 0 stands for something good, where no refusal has that number.
-- Assumes nothing.
use mathlib.Core.Path.{◌≡◌, refl}
use mathlib.Core.List.{List, ◌∷◌}
use Prim.Native.Nat.{ℕ, ◌<◌}
use native.Mathlib.Omega.{arith}
use Rattle.words.specs.Answer.{Answer, good, refused, handed}
use Rattle.words.specs.declared.refusals.Refusal.{Refusal}

pub refused_good : {A B : Type 0} (q : Refusal) (x : A) → refused q ≡ good x → B
refused_good q x e = let z : ◌≡◌ {A = ℕ} 0 1 = cc in absurd (omega arith)

pub handed_zero : {A : Type 0} (k : ℕ) (f : A → List ℕ) (o : Answer A) (l : List ℕ) → ((q : Refusal) → o ≡ refused q → 0 < q.number)
    → 0 ∷ l ≡ handed k f o → (x : A) × (o ≡ good x)
handed_zero k f (good x) l numbered e = (x, refl)
handed_zero k f (refused q) l numbered e =
    let z : 0 ≡ q.number = cc in
    let h = numbered q refl in
    absurd (omega arith)
