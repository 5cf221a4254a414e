-- Activations, duplicate words, SRAMs, write-out words, and refusal 7: document 01, "Positions and counts".
-- Assumes nothing.
use Rattle.std.specs.Prelude.{Bool, true, false, ◌||◌, List, [], ◌∷◌, ◌++◌, map, ℕ, zero, suc, ◌+◌, ◌*◌, ◌-◌, ◌/◌, ◌^◌, leb, ltb, eqb}
use Rattle.std.proofs.Math.Option.{Option, none, some}
use Rattle.words.specs.Sum.{sum_to}
use Rattle.plan_record.specs.Record.{plan_lanes, parts_of, endpoints_of, locations_of, location_at}
use Rattle.plan_record.specs.declared.bodies.Endpoint.{Endpoint}
use Rattle.plan_record.specs.declared.bodies.Endpoint.TheVariants.{Output, Staged, Register, Sram}
use Rattle.plan_record.specs.Endpoint.{endpoint_at}
use Rattle.words.specs.Tests.{first_not, lowest, Place}

-- An activation is a pair (d, en), as one number d·2^32 + en; its pin is d / 2, its key 2·en + d % 2.
abbrev pub activation : ℕ → ℕ → ℕ
activation d en = 2 ^ 32 * d + en

-- "primary output i is pin i>>1 with key 2|(i&1); staged pin p has key 2; a DFF is pin d>>1 with key 2·en+(d&1)"; an SRAM has none
unfoldable pub activations_of : Endpoint → List ℕ
activations_of (Output i) = activation i.0 1 ∷ []
activations_of (Staged p) = activation (2 * p.0) 1 ∷ []
activations_of (Register d en) = activation d.0 en.0 ∷ []
activations_of Sram = []

-- those of the first n endpoints of part p
unfoldable pub activations_to : List ℕ → ℕ → ℕ → List ℕ
activations_to d p zero = []
activations_to d p (suc n) = activations_to d p n ++ activations_of (endpoint_at d p n)

abbrev pub activations : List ℕ → ℕ → List ℕ
activations d p = activations_to d p (endpoints_of d p)

-- how many different numbers a list has
unfoldable pub is_in : ℕ → List ℕ → Bool
is_in x [] = false
is_in x (y ∷ ys) = eqb y x || is_in x ys

unfoldable pub different : List ℕ → ℕ
different [] = 0
different (x ∷ xs) = elim (is_in x xs) [ true ↦ different xs | false ↦ suc (different xs) ]

-- "Equal pin and key count once. Duplicate words = (distinct activations − distinct pins), over 32, rounded up."
unfoldable pub duplicates_in : List ℕ → ℕ
duplicates_in acts = (different acts - different (map (λ a. a / 2 ^ 33) acts) + 31) / 32

abbrev pub duplicates : List ℕ → ℕ → ℕ
duplicates d p = duplicates_in (activations d p)

unfoldable pub is_sram : Endpoint → ℕ
is_sram (Output i) = 0
is_sram (Staged p) = 0
is_sram (Register d en) = 0
is_sram Sram = 1

abbrev pub srams : List ℕ → ℕ → ℕ
srams d p = sum_to (λ i. is_sram (endpoint_at d p i)) (endpoints_of d p)

-- "Write-out words = normal + SRAM endpoints + duplicates"
unfoldable pub write_outs : List ℕ → ℕ → ℕ
write_outs d p = locations_of d p + srams d p + duplicates d p

-- 7: "location above 255, or write-out words above 256", in the small edition above 127 and 128; the location's index, or the location count if
-- only the sum is too large
unfoldable pub bad_counts : List ℕ → ℕ → Option ℕ
bad_counts d p =
    elim (first_not (λ l. ltb (location_at d p l) (plan_lanes d)) (locations_of d p)) [
      | some l ↦ some l
      | none ↦ elim (leb (write_outs d p) (plan_lanes d)) [ true ↦ none | false ↦ some (locations_of d p) ]
    ]

unfoldable pub refusal7 : List ℕ → Option Place
refusal7 d = lowest (bad_counts d) (parts_of d)
