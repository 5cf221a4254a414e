-- Counting nodes in a map of crate pinmap, step by step as the code takes them: a node's number in the map is its count. A step that cannot be taken ends it.
-- Assumes nothing.
use Rattle.std.specs.Prelude.{◌≡◌, Some, None, Bool, true, false, ◌&&◌, List, [], ◌∷◌, ◌++◌, ℕ, ◌+◌, ◌*◌, ◌-◌, ◌%◌, ◌^◌, ◌≤◌, ◌<◌, eqb, ltb, length, get_or, take}
use Rattle.std.proofs.Math.Option.{Option, none, some}
use Rattle.pinmap.specs.PinMap.{look, put_in, Findable, used}
use Rattle.words.specs.Pins.{is_pin}
use Rattle.repair_nodes.specs.Stage.{spots_of}
use Rattle.repair_nodes.specs.CountList.{Count, counts_of, counted_nodes, among}
use Rattle.std.specs.declared.option.Option as code

-- from a state through many items
unfoldable pub through : {S A : Type 0} → (S → A → Option S) → S → List A → Option S
through step s [] = some s
through step s (a ∷ l) = elim (step s a) [ none ↦ none | some t ↦ through step t l ]

-- 5: an entry of the count list, put where it is in form and its node is not there
unfoldable pub entering : List ℕ → Count → Option (List ℕ)
entering t c =
    elim (is_pin c.node && ltb 0 c.count) [
      | false ↦ none
      | true ↦ elim (look t c.node) [ some v ↦ none | none ↦ some (put_in t c.node c.count) ]
    ]

unfoldable pub entering_all : List ℕ → List ℕ → Option (List ℕ)
entering_all t ws = elim (eqb (length ws % 2) 0) [ false ↦ none | true ↦ through entering t (counts_of ws) ]

-- one more of node x, which may be new; a count past 2^32−1 ends it
pub record Raised : Type 0 where
  pub map : List ℕ
  pub new : List ℕ

abbrev pub raised : List ℕ → List ℕ → Raised
raised t ns = record { map = t; new = ns }

unfoldable pub raising : Raised → ℕ → Option Raised
raising r x =
    elim (look r.map x) [
      | none ↦ some (raised (put_in r.map x 1) (r.new ++ (x ∷ [])))
      | some v ↦ elim (ltb v 4294967295) [ false ↦ none | true ↦ some (raised (put_in r.map x (v + 1)) r.new) ]
    ]

-- one less of node x; one that is not there, or is at 0, ends it
unfoldable pub lowering : List ℕ → ℕ → Option (List ℕ)
lowering t x = elim (look t x) [ none ↦ none | some v ↦ elim (ltb 0 v) [ false ↦ none | true ↦ some (put_in t x (v - 1)) ] ]

-- what a function says of how such a way ended: with the map as it then is, or not
abbrev pub Told : Option (List ℕ) → Bool → List ℕ → Type 0
Told o true t = o ≡ some t
Told o false t = o ≡ none

-- the same with the new nodes in the first words of a list
abbrev pub ToldNew : Option Raised → code.Option ℕ → List ℕ → List ℕ → Type 0
ToldNew o (Some n) t fresh = (o ≡ some (raised t (take n fresh))) × (n ≤ length fresh)
ToldNew o None t fresh = o ≡ none

-- the nodes of levels 1 and up of a list of slots in words, with H levels above level 0
abbrev pub nodes_in : ℕ → List ℕ → List ℕ
nodes_in H spots = counted_nodes H (spots_of spots)

-- each second word can be looked for in a map
abbrev pub SpotsAskable : List ℕ → Type 0
SpotsAskable spots = (k : ℕ) → 2 * k + 1 < length spots → get_or spots (2 * k + 1) 0 < 2 ^ 32 - 1

-- a map that holds just these nodes, each with its number, n at most
abbrev pub held_as : Bool → ℕ → Option ℕ
held_as true v = some v
held_as false v = none

pub record MapHolds (t : List ℕ) (names : List ℕ) (value : ℕ → ℕ) (n : ℕ) : Type 0 where
  pub good : Findable t
  pub finds : (q : ℕ) → look t q ≡ held_as (among names q) (value q)
  pub few : used t ≤ n
