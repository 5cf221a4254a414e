-- Stores of a list of values: one value more, and the words of a list with stores.
-- Assumes nothing.
use mathlib.Core.Path.{◌≡◌, refl, sym, ap, ◌∙◌}
use mathlib.Core.List.{List, [], ◌∷◌, ◌++◌, append_assoc}
use Prim.Native.Nat.{ℕ, suc, ◌+◌, ◌≤◌, ◌<◌}
use native.Mathlib.Numerals.{add-one}
use native.Mathlib.Omega.{arith}
use lib.ListN.{length, get_or, take, drop, set}
use lib.Seq.{sets, sets-eq, get_or-set_other, length-take-le, take_at, drop_at, take-set-le, take-take}
use Rattle.words.specs.Section.{list_of}
use Rattle.words.proofs.ListLaws.{sets_append}
use Rattle.words.proofs.SectionLaws.{length_list_of}

-- one value more
pub sets_more : (l : List ℕ) (a : ℕ) (f : ℕ → ℕ) (b : ℕ) → set (sets l a (list_of f b)) (a + b) (f b) ≡ sets l a (list_of f (b + 1))
unfolding list_of
sets_more l a f b = rw add-one (sym (sets_append l a (list_of f b) (f b ∷ []) ∙ ap (λ (n : ℕ). set (sets l a (list_of f b)) (a + n) (f b)) (length_list_of f b)))

-- the words below and above the stores
pub sets-under : (l : List ℕ) (a : ℕ) (vs : List ℕ) (i : ℕ) → i < a → get_or (sets l a vs) i 0 ≡ get_or l i 0
sets-under l a [] i h = refl
sets-under l a (v ∷ vs) i h = sets-under (set l a v) (suc a) vs i (omega arith) ∙ get_or-set_other l a i v 0 (omega arith)

pub sets_over : (l : List ℕ) (a : ℕ) (vs : List ℕ) (i : ℕ) → a + length vs ≤ i → get_or (sets l a vs) i 0 ≡ get_or l i 0
sets_over l a [] i h = refl
sets_over l a (v ∷ vs) i h = sets_over (set l a v) (suc a) vs i (omega arith) ∙ get_or-set_other l a i v 0 (omega arith)

pub stored_more : (l₀ l : List ℕ) (a : ℕ) (f : ℕ → ℕ) (b : ℕ) → l ≡ sets l₀ a (list_of f b) → set l (a + b) (f b) ≡ sets l₀ a (list_of f (b + 1))
stored_more l₀ l a f b e = ap (λ (s : List ℕ). set s (a + b) (f b)) e ∙ sets_more l₀ a f b

-- ---- the words of a list with stores

pub take_sets : (n : ℕ) (l : List ℕ) (a : ℕ) (vs : List ℕ) → n ≤ a → take n (sets l a vs) ≡ take n l
take_sets n l a [] h = refl
take_sets n l a (v ∷ vs) h = take_sets n (set l a v) (suc a) vs (omega arith) ∙ take-set-le n l a v h

pub sets_in : (l : List ℕ) (a : ℕ) (vs : List ℕ) → a + length vs ≤ length l → take (length vs) (drop a (sets l a vs)) ≡ vs
sets_in l a vs h =
    ap (λ (s : List ℕ). take (length vs) (drop a s)) (sets-eq vs l a h ∙ append_assoc (take a l) vs (drop (a + length vs) l))
    ∙ ap (take (length vs)) (drop_at (take a l) (vs ++ drop (a + length vs) l) a (length-take-le a l (omega arith)))
    ∙ take_at vs (drop (a + length vs) l) (length vs) refl

pub sets-part : (m : ℕ) (l : List ℕ) (a : ℕ) (vs : List ℕ) → m ≤ length vs → a + length vs ≤ length l → take m (drop a (sets l a vs)) ≡ take m vs
sets-part m l a vs h g = sym (take-take m (length vs) (drop a (sets l a vs)) h) ∙ ap (take m) (sets_in l a vs g)
