-- Count lists out of a map, and slots by a list of spots.
-- Assumes nothing.
use Rattle.std.specs.Prelude.{◌≡◌, List, map, ℕ, ◌+◌, ◌*◌, ◌-◌, ◌^◌, ◌≤◌, ◌<◌, length, get_or}
use Rattle.std.proofs.Math.Option.{Option, none, some}
use Rattle.std.proofs.lemmas.List.Edits.{sets}
use Rattle.pinmap.specs.PinMap.{look}
use Rattle.repair_nodes.specs.CountList.{Count, counted, counts_of, count_words, nodes_of}

-- a node's number in a map, 0 where it has none, and the list of some nodes with theirs
abbrev pub count_or_zero : Option ℕ → ℕ
count_or_zero none = 0
count_or_zero (some v) = v

abbrev pub count_in_map : List ℕ → ℕ → ℕ
count_in_map t y = count_or_zero (look t y)

abbrev pub entries_of : List ℕ → List ℕ → List Count
entries_of t ns = map (λ (y : ℕ). counted y (count_in_map t y)) ns

-- those of a count list's nodes
abbrev pub entries_in : List ℕ → List ℕ → List Count
entries_in t counts = entries_of t (nodes_of (counts_of counts))

-- a count list of n entries in lent words, before and after more were put behind them: k is their number then
pub record EntriesPut (before : List ℕ) (n : ℕ) (cs : List Count) (after : List ℕ) (k : ℕ) : Type 0 where
  pub count : k ≡ n + length cs
  pub words : after ≡ sets before (2 * n) (count_words cs)

-- each node can be looked for in a map
abbrev pub NodesAskable : List ℕ → Type 0
NodesAskable counts = (i : ℕ) → 2 * i + 1 < length counts → get_or counts (2 * i) 0 < 2 ^ 32 - 1

abbrev pub NewAskable : List ℕ → Type 0
NewAskable news = (i : ℕ) → i < length news → get_or news i 0 < 2 ^ 32 - 1

-- each spot is inside the slots
pub record Inside (spots slots : List ℕ) (k : ℕ) : Type 0 where
  pub some : 0 < get_or spots (2 * k) 0
  pub most : get_or spots (2 * k) 0 ≤ length slots

abbrev pub AllInside : List ℕ → List ℕ → Type 0
AllInside spots slots = (k : ℕ) → 2 * k + 1 < length spots → Inside spots slots k
