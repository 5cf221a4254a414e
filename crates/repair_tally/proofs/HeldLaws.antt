-- What a map holds along the ways: entering holds the list's counts just where the list is in form; raising and lowering hold the counts after a placing and after
-- a clearing, and end early just where a count would pass 2^32−1 or fall short.
-- Assumes nothing.
use mathlib.Core.Path.{◌≡◌, refl, sym, ap, ap₂, ◌∙◌}
use mathlib.Core.Bool.{Bool, true, false, ◌||◌, or-true, or-false}
use mathlib.Core.Option.{none, some}
use mathlib.Core.List.{List, [], ◌∷◌, ◌++◌}
use Prim.Native.Nat.{ℕ, ◌+◌, ◌≤◌, ◌<◌}
use native.Mathlib.Omega.{arith}
use borrow.Author.Tests.{eqb-true, eqb-false}
use lib.Dec.{eqb}
use lib.ListN.{replicate}
use Rattle.pinmap.specs.PinMap.{capacity, look, put_in, put_answer, entry, replaced}
use Rattle.std.specs.Prelude.{Ok}
use Rattle.pinmap.proofs.PinMapLaws.{map_law, replaced_same, replaced_other, used_new, used_there, room_stored}
use Rattle.pinmap.proofs.HoldsLaws.{zeros_good, zeros_look, zeros_used}
use Rattle.repair_nodes.specs.CountList.{among, times_among}
use Rattle.repair_nodes.proofs.CountListLaws.{among_append, among_head, not_head, times_among_append}
use Rattle.repair_tally.specs.Tally.{held_as, MapHolds}

-- ---- a map that holds names and numbers

among_nil : (q : ℕ) → among [] q ≡ false
unfolding among
among_nil q = refl

pub held_zeros : (n : ℕ) (value : ℕ → ℕ) → MapHolds (replicate n 0) [] value 0
unfolding among
held_zeros n value = record { good = zeros_good n; finds = λ q. zeros_look n q; few = omega (arith, zeros_used n) }

among_one : (p q : ℕ) → (q ≡ p → ⊥) → among (p ∷ []) q ≡ false
among_one p q s = not_head p [] q (λ (e : p ≡ q). s (sym e)) (among_nil q)

module _ (t names : List ℕ) (value : ℕ → ℕ) (n : ℕ) (h : MapHolds t names value n) where
  pub held_some : (p : ℕ) → among names p ≡ true → look t p ≡ some (value p)
  held_some p e = h.finds p ∙ ap (λ (b : Bool). held_as b (value p)) e

  pub held_none : (p : ℕ) → among names p ≡ false → look t p ≡ none
  held_none p e = h.finds p ∙ ap (λ (b : Bool). held_as b (value p)) e

  pub held_ext : (names₁ : List ℕ) (value₁ : ℕ → ℕ) (k : ℕ) → names ≡ names₁ → ((q : ℕ) → value q ≡ value₁ q) → n ≤ k → MapHolds t names₁ value₁ k
  held_ext names₁ value₁ k e f l =
      record {
        good = h.good;
        finds = λ q. h.finds q ∙ ap₂ (λ (b : Bool) (v : ℕ). held_as b v) (ap (λ (l : List ℕ). among l q) e) (f q);
        few = omega (arith, h.few);
      }

  module _ (p v : ℕ) (room : n < capacity t) (value₁ : ℕ → ℕ) (here : value₁ p ≡ v) (there : (q : ℕ) → (q ≡ p → ⊥) → value₁ q ≡ value q) where
    stored : put_answer t p ≡ Ok tt
    stored = room_stored t p (omega (arith, h.few))

    after : (names₁ : List ℕ) → ((q : ℕ) → (q ≡ p → ⊥) → among names₁ q ≡ among names q) → among names₁ p ≡ true → (q : ℕ) → look (put_in t p v) q ≡ held_as (among names₁ q) (value₁ q)
    after names₁ others e q = (map_law t p v h.good stored).1 q ∙ go (eqb q p) refl
      where
        go : (b : Bool) → eqb q p ≡ b → replaced (entry p v) q (look t q) ≡ held_as (among names₁ q) (value₁ q)
        go true k =
            let s : q ≡ p = eqb-true q p k in
            replaced_same (entry p v) q (look t q) s
            ∙ (ap some (sym here)
            ∙ sym (ap₂ (λ (b : Bool) (w : ℕ). held_as b w) (ap (λ (w : ℕ). among names₁ w) s ∙ e) (ap value₁ s)))
        go false k =
            let s : q ≡ p → ⊥ = eqb-false q p k in
            replaced_other (entry p v) q (look t q) s
            ∙ (h.finds q ∙ ap₂ (λ (b : Bool) (w : ℕ). held_as b w) (sym (others q s)) (sym (there q s)))

    -- a node more, and a number anew
    pub held_add : among names p ≡ false → MapHolds (put_in t p v) (names ++ (p ∷ [])) value₁ (n + 1)
    held_add e =
        record {
          good = (map_law t p v h.good stored).0;
          finds = after (names ++ (p ∷ [])) (λ q s. among_append names (p ∷ []) q ∙ (ap (λ (b : Bool). among names q || b) (among_one p q s) ∙ or-false (among names q)))
              (among_append names (p ∷ []) p ∙ (ap (λ (b : Bool). among names p || b) (among_head p []) ∙ or-true (among names p)));
          few = omega (arith, used_new t p v stored (held_none p e), h.few);
        }

    pub held_set : among names p ≡ true → MapHolds (put_in t p v) names value₁ n
    held_set e =
        record {
          good = (map_law t p v h.good stored).0;
          finds = after names (λ q s. refl) e;
          few = omega (arith, used_there t p v (value p) (held_some p e), h.few);
        }

-- ---- one node among others

pub times_two : (x : ℕ) (xs : List ℕ) (y : ℕ) → times_among (x ∷ xs) y ≡ times_among (x ∷ []) y + times_among xs y
times_two x xs y = times_among_append (x ∷ []) xs y
