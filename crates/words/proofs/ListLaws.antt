-- Lists of words: zeros, stores one behind the other, and a part that is lent and written.
-- Assumes nothing.
use mathlib.Core.Path.{◌≡◌, refl, sym, ap, ◌∙◌}
use mathlib.Core.List.{List, [], ◌∷◌, ◌++◌, append_assoc}
use Prim.Native.Nat.{ℕ, zero, suc, ◌+◌, ◌≤◌}
use native.Mathlib.Nat.{add-zero, add-suc, suc-add}
use native.Mathlib.Omega.{arith}
use lib.ListN.{length, get_or, take, drop, set, replicate}
use lib.Seq.{sets, sets-eq, drop-drop}

-- zeros are 0 at every index, also past their end
pub zeros_at : (n i : ℕ) → get_or (replicate {A = ℕ} n 0) i 0 ≡ 0
zeros_at zero i = refl
zeros_at (suc n) zero = refl
zeros_at (suc n) (suc i) = zeros_at n i

-- the first n of N zeros
pub zeros_front : (N n : ℕ) → n ≤ N → take n (replicate {A = ℕ} N 0) ≡ replicate n 0
zeros_front N zero h = refl
zeros_front zero (suc n) h = absurd (omega arith)
zeros_front (suc N) (suc n) h = rw (zeros_front N n (omega arith))

pub sets_append : (l : List ℕ) (i : ℕ) (xs ys : List ℕ) → sets l i (xs ++ ys) ≡ sets (sets l i xs) (i + length xs) ys
sets_append l i [] ys = rw add-zero
sets_append l i (x ∷ xs) ys = sets_append (set l i x) (suc i) xs ys ∙ rw (add-suc, suc-add)

-- a part of k words that is lent and comes back as vs
pub put_sets : (l : List ℕ) (a k : ℕ) (vs : List ℕ) → a + k ≤ length l → length vs ≡ k → take a l ++ (vs ++ drop k (drop a l)) ≡ sets l a vs
put_sets l a k vs h e =
    let d : drop k (drop a l) ≡ drop (a + length vs) l = drop-drop k a l ∙ ap (λ (i : ℕ). drop (a + i) l) (sym e) in
    ap (λ (s : List ℕ). take a l ++ (vs ++ s)) d ∙ sym (append_assoc (take a l) vs (drop (a + length vs) l)) ∙ sym (sets-eq vs l a (omega arith))
