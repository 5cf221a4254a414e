-- The numbers and the locations of a part, in the code's terms.
-- Assumes nothing.
use mathlib.Core.Path.{◌≡◌, refl, sym, ap, ◌∙◌}
use mathlib.Core.Bool.{true, false}
use mathlib.Core.List.{List, ◌∷◌}
use Prim.Native.Nat.{ℕ, zero, suc, ◌+◌, ◌*◌, ◌-◌, ◌^◌, ◌≤◌, ◌<◌}
use native.Mathlib.Numerals.{add-one}
use native.Mathlib.Omega.{arith}
use borrow.Author.Tests.{lt-ltb, le-ltb, le-leb, lt-leb}
use lib.ListN.{length, set, replicate, length-replicate}
use Rattle.words.specs.Sum.{sum_to}
use Rattle.plan_record.specs.Record.{stages_of, stage_locations, locations_of, location_at}
use Rattle.script.specs.declared.head.Numbers.{Numbers}
use Rattle.script.specs.Script.{location_stage, location_half}
use Rattle.script.specs.Writers.{number_words, ends_by}

pub numbers_wide : (w : ℕ) (x : Numbers) → 8 ≤ w → length (number_words w x) ≡ w
unfolding number_words
numbers_wide w x h = omega (arith, length-replicate (w - 8) zero)

-- eight numbers over zeros
numbers_over : (k a b c d e f g h : ℕ)
    → set (set (set (set (set (set (set (set (replicate (suc (suc (suc (suc (suc (suc (suc (suc k)))))))) 0) 0 a) 1 b) 2 c) 3 d) 4 e) 5 f) 6 g) 7 h ≡ a ∷ b ∷ c ∷ d ∷ e ∷ f ∷ g ∷ h ∷ replicate k 0
numbers_over k a b c d e f g h = refl

pub numbers_stored : (l : List ℕ) (w a b c d e f g h : ℕ) → l ≡ replicate w 0 → 8 ≤ w
    → set (set (set (set (set (set (set (set l 0 a) 1 b) 2 c) 3 d) 4 e) 5 f) 6 g) 7 h ≡ a ∷ b ∷ c ∷ d ∷ e ∷ f ∷ g ∷ h ∷ replicate (w - 8) 0
numbers_stored l w a b c d e f g h q k =
    let more : w ≡ suc (suc (suc (suc (suc (suc (suc (suc (w - 8)))))))) = omega arith in
    let put : List ℕ → List ℕ = λ z. set (set (set (set (set (set (set (set z 0 a) 1 b) 2 c) 3 d) 4 e) 5 f) 6 g) 7 h in
    ap put (q ∙ ap (λ (i : ℕ). replicate i 0) more) ∙ numbers_over (w - 8) a b c d e f g h

pub ends_yes : (e l : ℕ) → e ≤ l → 1 ≡ ends_by e l
ends_yes e l h = rw (le-leb e l h, ends_by)

pub ends_no : (e l : ℕ) → l < e → 0 ≡ ends_by e l
ends_no e l h = rw (lt-leb e l h, ends_by)

-- how many of the first n stages end at or before location l
abbrev pub ended_by : List ℕ → ℕ → ℕ → ℕ → ℕ
ended_by d p l n = sum_to (λ s. ends_by (sum_to (stage_locations d p) (suc s)) l) n

pub ended_more : (d : List ℕ) (p l n e v : ℕ) → e ≡ sum_to (stage_locations d p) (n + 1) → v ≡ ends_by e l → ended_by d p l n + v ≡ ended_by d p l (n + 1)
unfolding sum_to
ended_more d p l n e v he hv = rw (hv, he, add-one)

pub stage_is : (d : List ℕ) (p l n : ℕ) → n ≡ stages_of d p → ended_by d p l n ≡ location_stage d p l
unfolding location_stage
stage_is d p l n h = rw h

pub half_within : (d : List ℕ) (p l n : ℕ) → n ≡ locations_of d p → l < n → 256 * location_stage d p l + location_at d p l ≡ location_half d p l
unfolding location_half
half_within d p l n e h = let k : l < locations_of d p = omega arith in
    sym (ap (λ b. elim b [ true ↦ 256 * location_stage d p l + location_at d p l | false ↦ 65535 ]) (lt-ltb _ _ k))

pub half_past : (d : List ℕ) (p l n : ℕ) → n ≡ locations_of d p → n ≤ l → 65535 ≡ location_half d p l
unfolding location_half
half_past d p l n e h = let k : locations_of d p ≤ l = omega arith in
    sym (ap (λ b. elim b [ true ↦ 256 * location_stage d p l + location_at d p l | false ↦ 65535 ]) (le-ltb _ _ k))

-- word j of the locations
abbrev pub location_word : List ℕ → ℕ → ℕ → ℕ
location_word d p j = location_half d p (2 * j + 1) * 2 ^ 16 + location_half d p (2 * j)
