-- The numbers of the answer, and what the search over the piece sizes asks and leaves. n is the number of lanes.
-- Assumes nothing.
use Rattle.std.specs.Prelude.{◌≡◌, ⊤, Some, None, Ok, Err, true, false, List, ℕ, ◌+◌, ◌*◌, ◌/◌, ◌%◌, ◌≤◌, ◌<◌, leb, ltb, length, get_or, replicate}
use Rattle.std.proofs.Math.Option.{Option, none, some}
use Rattle.words.specs.Bit.{pop}
use Rattle.reads.specs.ReadSet.{Pair, total}
use Rattle.reads.specs.Search.{Lane, Tried, all, stuck, longest}
use Rattle.reads.specs.Packing.{wide_pairs}
use Rattle.words.specs.Answer.{Answer, good, refused}
use Rattle.reads.specs.SetAnswer.{Packed}
use Rattle.reads_try.specs.LaneTable.{table_of}
use Rattle.reads_try.specs.declared.Stuck.{Stuck}
use Rattle.std.specs.declared.option.Option as given
use Rattle.std.specs.declared.result.Result.{Result}
use Rattle.words.specs.declared.refusals.Reason.{Reason}
use Rattle.words.specs.declared.refusals.Reason.TheVariants as why
use Rattle.words.specs.declared.refusals.Refusal.{Refusal}
use Rattle.rounds.specs.declared.Placed as code

-- the number of rounds and the piece size that won, or the refusal
abbrev pub rounds_of : Answer Packed → Result code.Placed Refusal
rounds_of (good x) = Ok (record { rounds = longest x.lanes; size = x.size })
rounds_of (refused q) = Err q

-- the size that wins, or the refusal
abbrev pub searched_of : Answer Packed → Result ℕ Refusal
searched_of (good x) = Ok x.size
searched_of (refused q) = Err q

-- why a set is refused before any search: 3, 21 or 22
unfoldable pub reason_before : ℕ → List Pair → given.Option Reason
reason_before n ps =
    elim (ltb 0 (length ps)) [
      | false ↦ Some why.NothingToRead
      | true ↦ elim (leb (total ps) (32 * n)) [ false ↦ Some why.ManyBits | true ↦ elim (leb (wide_pairs ps) n) [ false ↦ Some why.ManyWide | true ↦ None ] ]
    ]

-- how a try at piece size k ended, as it is told: the word where it stopped for the last size alone, which is 1
abbrev pub word_told : ℕ → ℕ → ℕ
word_told k w = elim (ltb 1 k) [ true ↦ 0 | false ↦ w ]

abbrev pub told_of : ℕ → Tried → Result ⊤ Stuck
told_of k (all lanes) = Ok tt
told_of k (stuck p lanes) = Err (record { word = word_told k p.word })

-- the lanes of a try that placed all
abbrev pub won_lanes : Tried → Option (List Lane)
won_lanes (all lanes) = some lanes
won_lanes (stuck p lanes) = none

-- the table of the lanes that won, or an empty one
abbrev pub table_after : ℕ → Option (List Lane) → List ℕ
table_after n none = replicate (32 * n) 0
table_after n (some lanes) = table_of lanes

-- what a try asks of a set: whole pairs, 8192 at most, with no mask that is 0; and a size that is not above their number
pub record TrySet (set : List ℕ) (n k : ℕ) : Type 0 where
  pub whole : length set % 2 ≡ 0
  pub few : length set ≤ 16384
  pub masks : (p : ℕ) → p < length set / 2 → 0 < pop (get_or set (2 * p + 1) 0)
  pub some_lanes : 0 < n
  pub few-lanes : n ≤ 256
  pub some_pairs : 0 < k
  pub size : k ≤ length set / 2

-- what a search asks: whole pairs, 8192 at most, with no mask that is 0; room for the table, and for keys and their scratch
pub record SetSearchable (set : List ℕ) (table keys scratch n : ℕ) : Type 0 where
  pub whole : length set % 2 ≡ 0
  pub few : length set ≤ 16384
  pub masks : (p : ℕ) → p < length set / 2 → 0 < pop (get_or set (2 * p + 1) 0)
  pub room : table ≡ 32 * n
  pub some_lanes : 0 < n
  pub few-lanes : n ≤ 256
  pub keys-room : length set / 2 ≤ keys
  pub scratch-room : length set / 2 ≤ scratch

-- what any set's rounds ask
pub record Solvable (table keys scratch n : ℕ) : Type 0 where
  pub room : table ≡ 32 * n
  pub some_lanes : 0 < n
  pub few-lanes : n ≤ 256
  pub keys-room : 8192 ≤ keys
  pub scratch-room : 8192 ≤ scratch

-- what a set's rounds ask: keys and scratch for each of its pairs, unless it is refused by 1
pub record RoundsReady (set table keys scratch n : ℕ) : Type 0 where
  pub room : table ≡ 32 * n
  pub some_lanes : 0 < n
  pub few-lanes : n ≤ 256
  pub keys-room : set ≤ 16384 → set / 2 ≤ keys
  pub scratch-room : set ≤ 16384 → set / 2 ≤ scratch
