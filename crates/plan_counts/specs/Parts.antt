-- One part's counts as the code carries them, and what is known of a part when it is counted.
-- Assumes nothing.
use Rattle.std.specs.Prelude.{◌≡◌, Bool, List, ℕ, ◌^◌, ◌≤◌, ◌<◌, ltb}
use Rattle.std.proofs.Math.Option.{Option}
use Rattle.plan_record.specs.declared.bodies.Body.{Body}
use Rattle.words.specs.declared.units.Pin.{Pin}
use Rattle.plan_record.specs.declared.bodies.Endpoint.TheVariants.{Staged}
use Rattle.plan_record.specs.Record.{plan_lanes, locations_of, location_at}
use Rattle.plan_record.specs.Endpoint.{endpoint_at}
use Rattle.words.specs.Tests.{first_not}
use Rattle.plan_record.specs.Body.{BodyOf}
use Rattle.plan_counts.specs.declared.Counts.{Counts}
use Rattle.plan_counts.specs.Counts.{activations_of, duplicates, srams, write_outs}

-- b is the body of part p, and the pins of its staged endpoints are in range
pub record Countable (d : List ℕ) (p : ℕ) (b : Body) : Type 0 where
  pub body : BodyOf d p b
  pub staged : (i : ℕ) → i < b.endpoints → (x : Pin) → endpoint_at d p i ≡ Staged x → x.0 ≤ 2 ^ 30

-- the activation of endpoint i of part p, if it has one
abbrev pub activations_at : List ℕ → ℕ → ℕ → List ℕ
activations_at d p i = activations_of (endpoint_at d p i)

-- c holds the counts of part p
pub record CountsOf (d : List ℕ) (p : ℕ) (c : Counts) : Type 0 where
  pub srams-are : c.srams ≡ srams d p
  pub duplicates-are : c.duplicates ≡ duplicates d p
  pub words_are : c.words ≡ write_outs d p
  pub few-srams : c.srams ≤ 8192
  pub few-duplicates : c.duplicates ≤ 256

-- the first location of part p that is no lane of the plan's edition
abbrev pub location_fits : List ℕ → ℕ → ℕ → Bool
location_fits d p l = ltb (location_at d p l) (plan_lanes d)

abbrev pub bad_location : List ℕ → ℕ → Option ℕ
bad_location d p = first_not (location_fits d p) (locations_of d p)
