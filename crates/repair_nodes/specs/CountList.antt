-- Counts of nodes: document 02, 7/13: "Counts cover levels 1 and up, each node listed once, at 1 or more."
-- Assumes nothing.
use Rattle.std.specs.Prelude.{Bool, true, false, not, ◌&&◌, ◌||◌, List, [], ◌∷◌, ◌++◌, map, ℕ, ◌+◌, ◌-◌, ◌%◌, ◌^◌, eqb, ltb, length}
use Rattle.words.specs.Pins.{is_pin}
use Rattle.repair_nodes.specs.Pairs.{items_of_two, pair_words}
use Rattle.repair_nodes.specs.Stage.{Spot}

pub record Count : Type 0 where
  pub node : ℕ
  pub count : ℕ

abbrev pub counted : ℕ → ℕ → Count
counted x n = record { node = x; count = n }

-- a count list as words: node, count, node, count ..
abbrev pub counts_of : List ℕ → List Count
counts_of ws = items_of_two counted ws

abbrev pub count_words : List Count → List ℕ
count_words cs = pair_words (λ (c : Count). c.node) (λ (c : Count). c.count) cs

unfoldable pub nodes_of : List Count → List ℕ
nodes_of [] = []
nodes_of (c ∷ cs) = c.node ∷ nodes_of cs

-- whether x is one of these, and how often
unfoldable pub among : List ℕ → ℕ → Bool
among [] x = false
among (y ∷ ys) x = eqb y x || among ys x

unfoldable pub times_among : List ℕ → ℕ → ℕ
times_among [] x = 0
times_among (y ∷ ys) x = elim (eqb y x) [ true ↦ 1 + times_among ys x | false ↦ times_among ys x ]

-- 5: "count list out of form": a half entry, a node that is no pin or is one of the entries' before, which are ns, a count 0
unfoldable pub entries_right : List ℕ → List Count → Bool
entries_right ns [] = true
entries_right ns (c ∷ cs) = is_pin c.node && ltb 0 c.count && not (among ns c.node) && entries_right (ns ++ (c.node ∷ [])) cs

unfoldable pub counts_right : List ℕ → Bool
counts_right ws = eqb (length ws % 2) 0 && entries_right [] (counts_of ws)

-- a node's count, 0 where it is not listed
unfoldable pub count_in : List Count → ℕ → ℕ
count_in [] x = 0
count_in (c ∷ cs) x = elim (eqb c.node x) [ true ↦ c.count | false ↦ count_in cs x ]

-- the nodes at levels 1 and up: their indices are below 2^H
unfoldable pub counted_nodes : ℕ → List Spot → List ℕ
counted_nodes H [] = []
counted_nodes H (e ∷ es) = elim (ltb e.at (2 ^ H)) [ true ↦ e.node ∷ counted_nodes H es | false ↦ counted_nodes H es ]

-- those of xs that are not in ns, each once, as they are met
unfoldable pub fresh : List ℕ → List ℕ → List ℕ
fresh ns [] = []
fresh ns (x ∷ xs) = elim (among ns x) [ true ↦ fresh ns xs | false ↦ x ∷ fresh (ns ++ (x ∷ [])) xs ]

-- the list after xs were placed: the entries as they stood, the new nodes behind them, each raised by its times among xs
unfoldable pub counts_more : List Count → List ℕ → List Count
counts_more cs xs = map (λ y. counted y (count_in cs y + times_among xs y)) (nodes_of cs ++ fresh (nodes_of cs) xs)

-- the list after xs were cleared: each entry less its node's times among xs, and gone where that is 0
unfoldable pub nonzero : List Count → List Count
nonzero [] = []
nonzero (c ∷ cs) = elim (eqb c.count 0) [ true ↦ nonzero cs | false ↦ c ∷ nonzero cs ]

unfoldable pub counts_less : List Count → List ℕ → List Count
counts_less cs xs = nonzero (map (λ y. counted y (count_in cs y - times_among xs y)) (nodes_of cs))

-- 14: "also a count past 2^32−1"
unfoldable pub all_counts : List Count → Bool
all_counts [] = true
all_counts (c ∷ cs) = ltb c.count (2 ^ 32) && all_counts cs

-- 34: "a node's count is less than its slots that clearing reaches"
unfoldable pub any_short : List Count → List ℕ → List ℕ → Bool
any_short cs xs [] = false
any_short cs xs (y ∷ ys) = ltb (count_in cs y) (times_among xs y) || any_short cs xs ys

abbrev pub short : List Count → List ℕ → Bool
short cs xs = any_short cs xs xs
