-- A slice that is filled word by word from a function of the index: after i turns its first i words are the function's.
-- Assumes nothing.
use mathlib.Core.Path.{◌≡◌, refl, sym, ap, ◌∙◌}
use mathlib.Core.List.{List, [], ◌∷◌, ◌++◌}
use Prim.Native.Nat.{ℕ, ◌+◌, ◌≤◌, ◌<◌}
use native.Mathlib.Numerals.{add-one}
use native.Mathlib.Omega.{arith}
use lib.ListN.{length, take, set}
use lib.Seq.{take_all, take-suc-set}
use Rattle.words.specs.Section.{list_of}

module _ (f : ℕ → ℕ) where
  pub fill_none : [] ≡ list_of f 0
  unfolding list_of
  fill_none = refl

  pub fill_more : (l : List ℕ) (i v : ℕ) → i < length l → v ≡ f i → take i l ≡ list_of f i → take (i + 1) (set l i v) ≡ list_of f (i + 1)
  unfolding list_of
  fill_more l i v h e q = rw (add-one, e, list_of) (take-suc-set l i (f i) h ∙ ap (λ (x : List ℕ). x ++ (f i ∷ [])) q)

  pub fill_end : (l : List ℕ) (i n : ℕ) → length l ≡ n → i ≤ n → n ≤ i → take i l ≡ list_of f i → l ≡ list_of f n
  fill_end l i n h a b q =
      let e : i ≡ n = omega arith in
      sym (take_all i l (omega arith)) ∙ q ∙ ap (list_of f) e
