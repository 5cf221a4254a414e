-- Loops that store word after word: nothing stored yet, and one word more.
-- Assumes nothing.
use mathlib.Core.Path.{◌≡◌, refl, ◌∙◌}
use mathlib.Core.List.{List}
use mathlib.Core.Logic.{⊎_elim}
use Prim.Native.Nat.{ℕ, ◌+◌, ◌≤◌, ◌<◌}
use native.Mathlib.Omega.{arith}
use lib.ListN.{length, set, length-set}
use lib.Seq.{get_or-set_same, get_or-set_other}
use Rattle.words.proofs.BitLaws.{lt_or_ge}
use Rattle.run_stage.specs.StoreLoop.{Filled}

pub filled_none : (P : ℕ → ℕ → Type 0) (a : ℕ) (l : List ℕ) → Filled P a a l l
filled_none P a l = record { long = refl; done = λ i h g. absurd (omega arith); under = λ i h. refl; over = λ i h. refl }

pub filled_more : (P : ℕ → ℕ → Type 0) (a b : ℕ) (l₀ l : List ℕ) (v : ℕ) → Filled P a b l₀ l → a ≤ b → b < length l₀ → P b v
    → Filled P a (b + 1) l₀ (set l b v)
filled_more P a b l₀ l v f h room p = record {
  long = length-set l b v ∙ f.long;
  done = λ i g s. ⊎_elim
      (λ lt. rw (get_or-set_other l b i v 0 (omega arith)) (f.done i g lt))
      (λ ge. let e : i ≡ b = omega arith in rw (e, get_or-set_same l b v 0 (omega (arith, f.long))) p)
      (lt_or_ge i b);
  under = λ i g. get_or-set_other l b i v 0 (omega arith) ∙ f.under i g;
  over = λ i g. get_or-set_other l b i v 0 (omega arith) ∙ f.over i (omega arith);
}
