-- The places of one part's body, as the code carries them, and what is known of a record when it asks for them.
-- Assumes nothing.
use Rattle.std.specs.Prelude.{◌≡◌, true, List, ℕ, ◌+◌, ◌*◌, ◌/◌, ◌≤◌, ◌<◌, length}
use Rattle.plan_record.specs.declared.bodies.Body.{Body}
use Rattle.words.specs.Edition.{known}
use Rattle.words.specs.Tests.{all_below}
use Rattle.plan_record.specs.Record.{endpoint_words, plan_lanes, slot_words, table_words, majors_of, parts_of, stages_of, endpoints_of, locations_of, body_at, count_base, slot_base, location_base, table_base}
use Rattle.plan_record.specs.Form.{part_head_form, length_form}

-- the numbers of stages and endpoints are in range
pub record Headed (d : List ℕ) : Type 0 where
  pub majors : majors_of d ≤ 64
  pub parts : parts_of d ≤ 262144
  pub heads : all_below (part_head_form d) (parts_of d) ≡ true

-- and the record has the words that its counts give: it is in form but for what its lists hold
pub record Measured (d : List ℕ) : Type 0 where
  pub headed : Headed d
  pub whole : length_form d ≡ true

-- the body of part p is inside the record, at word `at`
pub record BodyReady (d : List ℕ) (p at : ℕ) : Type 0 where
  pub part : p < 262144
  pub place : at ≡ body_at d p
  pub inside : body_at d (p + 1) ≤ length d / 4
  pub stages : stages_of d p ≤ 255
  pub endpoints : endpoints_of d p ≤ 8192

-- the lists of a body follow one another, and end inside m words; the lanes are an edition's
pub record Laid (m : ℕ) (b : Body) : Type 0 where
  pub edition : known b.lanes ≡ true
  pub some_lanes : 128 ≤ b.lanes
  pub lanes : b.lanes ≤ 256
  pub stages : b.stages ≤ 255
  pub endpoints : b.endpoints ≤ 8192
  pub counts : b.counts ≡ b.at + endpoint_words * b.endpoints
  pub slots : b.slots ≡ b.counts + b.stages
  pub places : b.places ≡ b.slots + slot_words b.lanes * b.stages
  pub tables : b.tables ≡ b.places + b.locations
  pub end : b.end ≡ b.tables + table_words b.lanes
  pub inside : b.end ≤ m

-- b is the body of part p: each of its numbers is the definition's
pub record BodyOf (d : List ℕ) (p : ℕ) (b : Body) : Type 0 where
  pub lanes : b.lanes ≡ plan_lanes d
  pub stages : b.stages ≡ stages_of d p
  pub endpoints : b.endpoints ≡ endpoints_of d p
  pub locations : b.locations ≡ locations_of d p
  pub place : b.at ≡ body_at d p
  pub counts : b.counts ≡ count_base d p
  pub slots : b.slots ≡ slot_base d p
  pub places : b.places ≡ location_base d p
  pub tables : b.tables ≡ table_base d p
  pub end : b.end ≡ body_at d (p + 1)
  pub laid : Laid (length d / 4) b
