-- Frame laws of a stage. The slots below index q of a level of m slots stand at q + k·m, and those of its two halves, at q + m and at q + 2m of a level of
-- 2m slots, are apart. What is put along one such row leaves the slots off it, and a test that looks along a row does not see others.
-- Assumes nothing.
use mathlib.Core.Path.{◌≡◌, refl, ap, ap₂, ◌∙◌}
use mathlib.Core.Bool.{Bool, true, false, ◌&&◌}
use mathlib.Core.Logic.{⊎_elim}
use mathlib.Core.List.{List, [], ◌∷◌, ◌++◌}
use Prim.Native.Nat.{ℕ, zero, suc, ◌+◌, ◌*◌, ◌-◌, ◌≤◌, ◌<◌}
use native.Mathlib.Nat.{mul-le-mul_right}
use native.Mathlib.Omega.{arith}
use lib.Dec.{eqb}
use lib.ListN.{length, set, length-set}
use lib.Seq.{get_or-set_same, get_or-set_other}
use Rattle.words.proofs.BitLaws.{lt_or_ge}
use Rattle.words.specs.Pins.{empty}
use Rattle.repair_nodes.specs.Stage.{Spot, spot, slot_in, spots_stored, empty_below}
use Rattle.repair_nodes.specs.Clearing.{clearing}

-- ---- rows

-- index i is not on the row of q by steps of m
abbrev pub Off : ℕ → ℕ → ℕ → Type 0
Off m q i = (k : ℕ) → i ≡ q + k * m → ⊥

-- every spot is on the row
pub data Along (m q : ℕ) : List Spot → Type 0 where
  along_none : Along m q []
  along_more : {e : Spot} {es : List Spot} (k : ℕ) → e.at ≡ q + k * m → Along m q es → Along m q (e ∷ es)

pub along_append : {m q : ℕ} {es fs : List Spot} → Along m q es → Along m q fs → Along m q (es ++ fs)
along_append along_none b = b
along_append (along_more k h a) b = along_more k h (along_append a b)

-- the rows of both halves are parts of the row
step_a : (m q k : ℕ) → q + m + k * (2 * m) ≡ q + (1 + 2 * k) * m
step_a m q k = omega arith

step_b : (m q k : ℕ) → q + 2 * m + k * (2 * m) ≡ q + (2 + 2 * k) * m
step_b m q k = omega arith

pub along_a : {m q : ℕ} {es : List Spot} → Along (2 * m) (q + m) es → Along m q es
along_a along_none = along_none
along_a {m} {q} (along_more k h a) = along_more (1 + 2 * k) (h ∙ step_a m q k) (along_a a)

pub along_b : {m q : ℕ} {es : List Spot} → Along (2 * m) (q + 2 * m) es → Along m q es
along_b along_none = along_none
along_b {m} {q} (along_more k h a) = along_more (2 + 2 * k) (h ∙ step_b m q k) (along_b a)

-- they are apart, and neither has the slot above
apart : (m k l : ℕ) → 0 < m → m + k * (2 * m) ≡ 2 * m + l * (2 * m) → ⊥
apart m k l p e =
    ⊎_elim
    (λ (h : l < k). let j : 1 + l ≤ k = omega arith in let n : (1 + l) * m ≤ k * m = mul-le-mul_right m j in omega arith)
    (λ (h : k ≤ l). let n : k * m ≤ l * m = mul-le-mul_right m h in omega arith)
    (lt_or_ge l k)

module _ (m q : ℕ) (p : 0 < m) where
  pub a_off_b : (l : ℕ) → Off (2 * m) (q + m) (q + 2 * m + l * (2 * m))
  a_off_b l k e = apart m k l p (omega arith)

  pub b_off_a : (l : ℕ) → Off (2 * m) (q + 2 * m) (q + m + l * (2 * m))
  b_off_a l k e = apart m l k p (omega arith)

  pub a_off_root : Off (2 * m) (q + m) q
  a_off_root k e = omega arith

  pub b_off_root : Off (2 * m) (q + 2 * m) q
  b_off_root k e = omega arith

-- ---- slots after puts

pub spots_length : (s : List ℕ) (es : List Spot) → length (spots_stored s es) ≡ length s
unfolding spots_stored
spots_length s [] = refl
spots_length s (e ∷ es) = spots_length (set s (e.at - 1) e.node) es ∙ length-set s (e.at - 1) e.node

pub stored_append : (s : List ℕ) (es fs : List Spot) → spots_stored s (es ++ fs) ≡ spots_stored (spots_stored s es) fs
unfolding spots_stored
stored_append s [] fs = refl
stored_append s (e ∷ es) fs = stored_append (set s (e.at - 1) e.node) es fs

pub slot_put : (s : List ℕ) (q x : ℕ) → 0 < q → q ≤ length s → slot_in (set s (q - 1) x) q ≡ x
slot_put s q x p l = get_or-set_same s (q - 1) x empty (omega arith)

pub slot_kept : (s : List ℕ) (q i x : ℕ) → 0 < q → 0 < i → (i ≡ q → ⊥) → slot_in (set s (q - 1) x) i ≡ slot_in s i
slot_kept s q i x p r n = get_or-set_other s (q - 1) (i - 1) x empty (λ (e : i - 1 ≡ q - 1). n (omega arith))

-- what is put along a row leaves the slots off it
pub stored_off : {m q : ℕ} {es : List Spot} → Along m q es → (s : List ℕ) (i : ℕ) → 0 < q → 0 < i → Off m q i → slot_in (spots_stored s es) i ≡ slot_in s i
unfolding spots_stored
stored_off along_none s i p r o = refl
stored_off {m} {q} (along_more {e} {es} k h a) s i p r o =
    stored_off a (set s (e.at - 1) e.node) i p r o
    ∙ slot_kept s e.at i e.node (omega arith) r (λ (n : i ≡ e.at). o k (n ∙ h))

-- ---- tests that look along a row

pub agree_a : (s t : List ℕ) (m q : ℕ) → ((k : ℕ) → slot_in s (q + k * m) ≡ slot_in t (q + k * m))
    → (k : ℕ) → slot_in s (q + m + k * (2 * m)) ≡ slot_in t (q + m + k * (2 * m))
agree_a s t m q h k = rw (step_a m q k) (h (1 + 2 * k))

pub agree_b : (s t : List ℕ) (m q : ℕ) → ((k : ℕ) → slot_in s (q + k * m) ≡ slot_in t (q + k * m))
    → (k : ℕ) → slot_in s (q + 2 * m + k * (2 * m)) ≡ slot_in t (q + 2 * m + k * (2 * m))
agree_b s t m q h k = rw (step_b m q k) (h (2 + 2 * k))

pub at_start : (s t : List ℕ) (m q : ℕ) → ((k : ℕ) → slot_in s (q + k * m) ≡ slot_in t (q + k * m)) → slot_in s q ≡ slot_in t q
at_start s t m q h = let e : q + 0 * m ≡ q = omega arith in rw e at (h 0)

pub clearing_agree : (s t : List ℕ) (h m q : ℕ) → ((k : ℕ) → slot_in s (q + k * m) ≡ slot_in t (q + k * m)) → clearing s h m q ≡ clearing t h m q
unfolding clearing
clearing_agree s t zero m q a = ap (λ (v : ℕ). elim (eqb v empty) [ true ↦ [] | false ↦ spot q v ∷ [] ]) (at_start s t m q a)
clearing_agree s t (suc h) m q a =
    let x = clearing_agree s t h (2 * m) (q + m) (agree_a s t m q a) in
    let y = clearing_agree s t h (2 * m) (q + 2 * m) (agree_b s t m q a) in
    ap₂ (λ (v : ℕ) (l : List Spot). elim (eqb v empty) [ true ↦ [] | false ↦ spot q v ∷ l ]) (at_start s t m q a) (ap₂ (λ (u : List Spot) (w : List Spot). u ++ w) x y)

pub empty_agree : (s t : List ℕ) (h m q : ℕ) → ((k : ℕ) → slot_in s (q + k * m) ≡ slot_in t (q + k * m)) → empty_below s h m q ≡ empty_below t h m q
unfolding empty_below
empty_agree s t zero m q a = ap (λ (v : ℕ). eqb v empty) (at_start s t m q a)
empty_agree s t (suc h) m q a =
    let x = empty_agree s t h (2 * m) (q + m) (agree_a s t m q a) in
    let y = empty_agree s t h (2 * m) (q + 2 * m) (agree_b s t m q a) in
    ap₂ (λ (b : Bool) (c : Bool). b && c) (ap₂ (λ (v : ℕ) (b : Bool). eqb v empty && b) (at_start s t m q a) x) y
