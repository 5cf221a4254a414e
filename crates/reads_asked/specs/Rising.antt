-- What the passes of `read_set` are given. The read set itself is defined in `reads`, Asked.
-- Assumes nothing.
use Rattle.std.specs.Prelude.{List, [], ◌∷◌, ℕ, ◌+◌, ◌*◌, ◌-◌, ◌/◌, ◌^◌, ◌≤◌, ◌<◌, length, get_or, take}
use Rattle.sort.specs.Sorted.{Ascending}

-- whole pairs, their words strictly ascending from `low` on
unfoldable pub Rising : ℕ → List ℕ → Type 0
Rising low [] = Unit
Rising low (w ∷ []) = ⊥
Rising low (w ∷ m ∷ ws) = (low ≤ w) × Rising (w + 1) ws

-- a set in the first n words, room for a pair more, and a bit whose word is not below the set's last
pub record AskableNext (set : List ℕ) (n q : ℕ) : Type 0 where
  pub small : q < 2 ^ 37
  pub room : n + 2 ≤ length set
  pub rising : Rising 0 (take n set)
  pub last : 0 < n → get_or set (n - 2) 0 ≤ q / 32

-- each bit's word is below 2^32
abbrev pub Small : List ℕ → Type 0
Small keys = (i : ℕ) → i < length keys → get_or keys i 0 < 2 ^ 37

-- bits in order, and room for a pair of each
pub record Gatherable (keys set : List ℕ) : Type 0 where
  pub small : Small keys
  pub sorted : Ascending keys
  pub room : 2 * length keys ≤ length set

-- bits in any order
pub record Settable (keys scratch set : List ℕ) : Type 0 where
  pub small : Small keys
  pub scratch-room : length keys ≤ length scratch
  pub room : 2 * length keys ≤ length set
