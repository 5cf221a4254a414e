-- The answer of the code, and what its functions ask. n is the number of lanes.
-- Assumes nothing.
use Rattle.std.specs.Prelude.{◌≡◌, Some, None, Ok, Err, List, ℕ, ◌*◌, ◌≤◌, ◌<◌, length, replicate}
use Rattle.std.proofs.Math.Option.{Option, none, some}
use Rattle.words.specs.Answer.{Answer, good, refused}
use Rattle.reads.specs.ReadSet.{pairs_of, broken}
use Rattle.reads_try.specs.TableLanes.{lanes_at}
use Rattle.reads_section.specs.Readout.{TableReadable}
use Rattle.reads_local.specs.Bases.{store_lanes, Locatable}
use Rattle.std.specs.declared.option.Option as code
use Rattle.std.specs.declared.result.Result.{Result}
use Rattle.words.specs.declared.refusals.Refusal.{Refusal}
use Rattle.words.specs.declared.units.LocalPosition.{LocalPosition}

-- the position, that the set does not ask for the bit, or the refusal
abbrev pub brought_of : Answer (Option ℕ) → Result (code.Option LocalPosition) Refusal
brought_of (good (some p)) = Ok (Some (record { 0 = p }))
brought_of (good none) = Ok None
brought_of (refused q) = Err q

-- a set that 1 and 2 let through
pub record Formed (ws : List ℕ) : Type 0 where
  pub few : length ws ≤ 16384
  pub form : broken (pairs_of ws) ≡ none

-- so many words are lent for the rows of n lanes
pub record RowsLent (n words : ℕ) : Type 0 where
  pub room : words ≡ 32 * n
  pub some_lanes : 0 < n
  pub few-lanes : n ≤ 256

-- where the bits of each pair of the table's lanes begin
abbrev pub beginnings : ℕ → List ℕ → List ℕ → List ℕ
beginnings n ws table = store_lanes 0 (lanes_at ws table n) (replicate 8192 0)

-- a table of lanes, and a bit that is found in one of their pairs
pub record BitFindable (n : ℕ) (ws table : List ℕ) (q : ℕ) : Type 0 where
  pub few : length ws ≤ 16384
  pub readable : TableReadable ws table n
  pub there : Locatable ws (beginnings n ws table) q
