-- What the script of a part is built from: a plan that was accepted, and the room for its steps.
-- Assumes nothing.
use Rattle.std.specs.Prelude.{◌≡◌, true, List, ℕ, ◌+◌, ◌*◌, ◌/◌, ◌≤◌, ◌<◌, length, take, drop}
use Rattle.std.proofs.Math.Option.{none}
use Rattle.reads.specs.ReadSet.{pairs_of}
use Rattle.reads.specs.Search.{lanes_of, longest}
use Rattle.words.specs.Answer.{good}
use Rattle.reads_try.specs.TableLanes.{lanes_at}
use Rattle.reads_section.specs.Readout.{TableReadable}
use Rattle.rounds.specs.Rounds.{table_after}
use Rattle.plan_record.specs.declared.bodies.Body.{Body}
use Rattle.plan_record.specs.Record.{plan_lanes, parts_of}
use Rattle.plan_record.specs.Form.{plan_form}
use Rattle.plan_record.specs.Body.{BodyOf}
use Rattle.plan_gates.specs.Gates.{bad_gate}
use Rattle.plan_counts.specs.Counts.{refusal7}
use Rattle.plan_positions.specs.Positions.{refusal12}
use Rattle.plan_entries.specs.TableEntries.{refusal13}
use Rattle.plan_positions.specs.Places.{planned_table}
use Rattle.plan_reads.specs.PartReads.{read_words, part_reads, part_packed}
use Rattle.plan_reads.specs.ReadsReady.{SetRoom}

-- b is the body of part p; the plan passed refusals 5, 6, 7, 12 and 13, and the part 3, 21, 22 and 4
pub record Buildable (d : List ℕ) (p : ℕ) (b : Body) : Type 0 where
  pub form : plan_form d ≡ true
  pub part : p < parts_of d
  pub body : BodyOf d p b
  pub gates : bad_gate d ≡ none
  pub locations : refusal7 d ≡ none
  pub positions : refusal12 d ≡ none
  pub tables : refusal13 d ≡ none
  pub reads : part_reads (plan_lanes d) d p ≡ good (part_packed (plan_lanes d) d p)

-- the room when a part's reads are found: the winners of its pins, and behind them its lanes
pub record FoundRoom (d : List ℕ) (p : ℕ) (room : List ℕ) : Type 0 where
  pub pins : take 32768 room ≡ planned_table d p 32768
  pub lanes : drop 32768 room ≡ table_after (plan_lanes d) (lanes_of (plan_lanes d) (pairs_of (read_words d p)))

-- the n lanes of a set in a table, the number of their rounds, and room for their words and for where each pair's bits begin
pub record ReadsRoom (set table : List ℕ) (n rounds : ℕ) (bases out : List ℕ) : Type 0 where
  pub lanes : TableReadable set table n
  pub rounds_are : rounds ≡ longest (lanes_at set table n)
  pub few : rounds ≤ 32
  pub pairs : length set / 2 ≤ length bases
  pub room : length out ≡ 2 * (n * rounds)

-- with n lanes: m words of a set, and the lengths of the lists that the section of the first stage is made with, and of this section
pub record FirstRoom (n m out list set : ℕ) : Type 0 where
  pub words : m ≤ set
  pub section : out ≡ 20 * n
  pub slots : 32 * n ≤ list
  pub entries : 32 * n ≤ set

-- with n lanes: the lengths of the lists that the first sections are made with, and of these sections
pub record FrontRoom (n rounds room out keys scratch set : ℕ) : Type 0 where
  pub found : room ≡ 32768 + 32 * n
  pub sections : out ≡ 2 * (n * rounds) + 20 * n
  pub reads : SetRoom keys scratch set
