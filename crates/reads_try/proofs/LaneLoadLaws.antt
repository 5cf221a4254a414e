-- The running numbers of the lanes: a pair more adds its bits and one, and the search over them is the search over the lanes.
-- Assumes nothing.
use mathlib.Core.Path.{◌≡◌, refl, ap, ◌∙◌}
use mathlib.Core.List.{List, [], ◌∷◌, ◌++◌, map}
use mathlib.Core.Bool.{true, false}
use mathlib.Core.Option.{Option, none, some}
use Prim.Native.Nat.{ℕ, zero, suc, ◌+◌, ◌-◌, ◌≤◌, ◌<◌}
use native.Mathlib.Nat.{not-suc-le-zero}
use native.Mathlib.Numerals.{sub-one}
use native.Mathlib.Omega.{arith}
use borrow.Author.Tests.{le-leb, lt-leb}
use lib.Dec.{leb}
use lib.ListN.{length, get_or, set, replicate, length-append, length-map, get_or-map}
use Rattle.words.specs.Round.{next}
use Rattle.reads.specs.ReadSet.{Pair, bits, total}
use Rattle.reads.specs.Search.{Lane, first_room, push}
use Rattle.reads.proofs.PackingLaws.{total_append}
use Rattle.reads_try.specs.LaneTable.{used_of, held_of}
use Rattle.reads_try.specs.TableLanes.{LanesLoaded}
use Rattle.reads_try.specs.Tries.{first_free}

-- ---- the numbers of a lane

pub used_at : (lanes : List Lane) (j : ℕ) → get_or (used_of lanes) j 0 ≡ total (get_or lanes j [])
unfolding total
used_at lanes j = get_or-map total lanes j []

pub held_at : (lanes : List Lane) (j : ℕ) → get_or (held_of lanes) j 0 ≡ length (get_or lanes j [])
held_at lanes j = get_or-map length lanes j []

module _ {lanes : List Lane} {used held : List ℕ} (h : LanesLoaded lanes used held) where
  pub used_long : length used ≡ length lanes
  used_long = ap length h.bits_are ∙ length-map lanes total

  pub held_long : length held ≡ length lanes
  held_long = ap length h.pairs-are ∙ length-map lanes length

-- ---- a pair more

map_set : {A : Type 0} {B : Type 0} (f : A → B) (l : List A) (i : ℕ) (x : A) → map f (set l i x) ≡ set (map f l) i (f x)
map_set f [] i x = refl
map_set f (y ∷ l) zero x = refl
map_set {B = B} f (y ∷ l) (suc i) x = ap (λ (r : List B). f y ∷ r) (map_set f l i x)

module _ (lanes : List Lane) (j : ℕ) (p : Pair) where
  pub used_push : used_of (push lanes j p) ≡ set (used_of lanes) j (get_or (used_of lanes) j 0 + bits p)
  unfolding total
  used_push =
      let e : total (get_or lanes j [] ++ p ∷ []) ≡ get_or (used_of lanes) j 0 + bits p = omega (arith, total_append (get_or lanes j []) (p ∷ []), used_at lanes j) in
      map_set total lanes j _ ∙ ap (λ (x : ℕ). set (used_of lanes) j x) e

  pub held_push : held_of (push lanes j p) ≡ set (held_of lanes) j (get_or (held_of lanes) j 0 + 1)
  held_push =
      let e : length (get_or lanes j [] ++ p ∷ []) ≡ get_or (held_of lanes) j 0 + 1 = omega (arith, length-append (get_or lanes j []) (p ∷ []), held_at lanes j) in
      map_set length lanes j _ ∙ ap (λ (x : ℕ). set (held_of lanes) j x) e

-- ---- empty lanes

pub used_empty : (n : ℕ) → used_of (replicate n []) ≡ replicate n 0
unfolding total
used_empty zero = refl
used_empty (suc n) = ap (λ (r : List ℕ). 0 ∷ r) (used_empty n)

pub held_empty : (n : ℕ) → held_of (replicate n []) ≡ replicate n 0
held_empty zero = refl
held_empty (suc n) = ap (λ (r : List ℕ). 0 ∷ r) (held_empty n)

-- ---- the search for room

pub free_here : (n f : ℕ) (used : List ℕ) (b j : ℕ) → 0 < f → get_or used j 0 + b ≤ 32 → first_free n f used b j ≡ some j
unfolding first_free
free_here n zero used b j p h = absurd (not-suc-le-zero p)
free_here n (suc f) used b j p h = rw (le-leb _ _ h, first_free)

pub free_on : (n f : ℕ) (used : List ℕ) (b j : ℕ) → 0 < f → 32 < get_or used j 0 + b → first_free n f used b j ≡ first_free n (f - 1) used b (next n j)
unfolding first_free
free_on n zero used b j p h = absurd (not-suc-le-zero p)
free_on n (suc f) used b j p h = rw (lt-leb _ _ h, first_free, sub-one)

pub free_none : (n : ℕ) (used : List ℕ) (b j : ℕ) → first_free n 0 used b j ≡ none
unfolding first_free
free_none n used b j = refl

-- lane j of x bits, or what is found after it
abbrev looked : (b j x : ℕ) → Option ℕ → Option ℕ
looked b j x o = elim (leb (x + b) 32) [ true ↦ some j | false ↦ o ]

pub free_room : (n f : ℕ) (lanes : List Lane) (b j : ℕ) → first_free n f (used_of lanes) b j ≡ first_room n f lanes b j
unfolding first_free first_room
free_room n zero lanes b j = refl
free_room n (suc f) lanes b j =
    ap (λ (x : ℕ). looked b j x (first_free n f (used_of lanes) b (next n j))) (used_at lanes j)
    ∙ ap (λ (o : Option ℕ). looked b j (total (get_or lanes j [])) o) (free_room n f lanes b (next n j))
