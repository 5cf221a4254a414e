-- A list that grows at its end, piece by piece: where each piece stands.
-- Assumes nothing.
use mathlib.Core.Path.{◌≡◌, ap, ◌∙◌}
use mathlib.Core.Logic.{⊎_elim}
use mathlib.Core.List.{List, ◌++◌}
use Prim.Native.Nat.{ℕ, zero, suc, ◌+◌, ◌≤◌, ◌<◌}
use native.Mathlib.Omega.{arith}
use lib.ListN.{length, get_or, length-append, get_or-append}
use lib.Seq.{get_or-append-add}
use Rattle.words.proofs.BitLaws.{lt_or_ge}

module _ (f g : ℕ → List ℕ) (more : (k : ℕ) → f (suc k) ≡ f k ++ g k) where
  pub grown_next : (k : ℕ) → length (f (suc k)) ≡ length (f k) + length (g k)
  grown_next k = ap length (more k) ∙ length-append (f k) (g k)

  -- what stands there stays
  pub grown_same : (m k t : ℕ) → k ≤ m → t < length (f k) → (t < length (f m)) × (get_or (f m) t 0 ≡ get_or (f k) t 0)
  grown_same zero k t l h =
      let e : 0 ≡ k = omega arith in
      (omega (arith, ap (λ (x : ℕ). length (f x)) e), ap (λ (x : ℕ). get_or (f x) t 0) e)
  grown_same (suc m) k t l h = ⊎_elim (λ u. on (grown_same m k t (omega arith) h)) here (lt_or_ge k (suc m))
    where
      on : (t < length (f m)) × (get_or (f m) t 0 ≡ get_or (f k) t 0) → (t < length (f (suc m))) × (get_or (f (suc m)) t 0 ≡ get_or (f k) t 0)
      on r = (omega (arith, r.0, grown_next m), ap (λ (x : List ℕ). get_or x t 0) (more m) ∙ get_or-append (f m) (g m) 0 t r.0 ∙ r.1)

      here : suc m ≤ k → (t < length (f (suc m))) × (get_or (f (suc m)) t 0 ≡ get_or (f k) t 0)
      here u =
          let e : suc m ≡ k = omega arith in
          (omega (arith, ap (λ (x : ℕ). length (f x)) e), ap (λ (x : ℕ). get_or (f x) t 0) e)

  pub grown_le : (m k : ℕ) → k ≤ m → length (f k) ≤ length (f m)
  grown_le zero k l = let e : k ≡ 0 = omega arith in omega (arith, ap (λ (x : ℕ). length (f x)) e)
  grown_le (suc m) k l =
      ⊎_elim (λ u. omega (arith, grown_le m k (omega arith), grown_next m))
      (λ u. let e : k ≡ suc m = omega arith in omega (arith, ap (λ (x : ℕ). length (f x)) e))
      (lt_or_ge k (suc m))

  -- piece k
  pub grown_at : (m k t : ℕ) → k < m → t < length (g k) → get_or (f m) (length (f k) + t) 0 ≡ get_or (g k) t 0
  grown_at m k t l h =
      (grown_same m (suc k) (length (f k) + t) l (omega (arith, grown_next k))).1
      ∙ ap (λ (x : List ℕ). get_or x (length (f k) + t) 0) (more k)
      ∙ get_or-append-add (f k) (g k) t 0
