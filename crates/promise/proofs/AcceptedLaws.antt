-- What acceptance gives of each part of a plan: its script can be read back, and its captured bits have a meaning.
-- Assumes nothing.
use mathlib.Core.Path.{◌≡◌}
use mathlib.Core.List.{List}
use Prim.Native.Nat.{ℕ, ◌+◌, ◌<◌}
use native.Mathlib.Omega.{arith}
use Rattle.words.specs.Answer.{good}
use Rattle.plan_record.specs.Record.{plan_lanes, blocks_of, majors_of, count_at, parts_before, parts_of}
use Rattle.plan_record.proofs.PlanFormLaws.{formed}
use Rattle.plan_blocks.proofs.StateStartLaws.{parts_mono, parts_next}
use Rattle.plan_reads.specs.PartReads.{part_reads, part_packed}
use Rattle.plan_refusals.proofs.PassedLaws.{Passed, passed, placed_reads}
use Rattle.promise_decode.specs.Decodable.{Decodable}
use Rattle.promise_decode.proofs.DecodableLaws.{decodable}
use Rattle.promise_meaning.specs.Meaning.{PassedPart}
use Rattle.promise.specs.Promise.{Accepted}

-- part i of a major stage is a part of the plan
pub part_there : (d : List ℕ) (s i : ℕ) → s < majors_of d → i < count_at d s → parts_before d s + i < parts_of d
part_there d s i l h = omega (arith, parts_next d s, parts_mono d (s + 1) (majors_of d) (omega arith))

module _ (d : List ℕ) (accepted : Accepted d) where
  abbrev pub tests : Passed d
  tests = passed d accepted

  pub some_blocks : 0 < blocks_of d
  some_blocks = (formed d tests.form).head.some_blocks

  pub lanes_found : (p : ℕ) → p < parts_of d → part_reads (plan_lanes d) d p ≡ good (part_packed (plan_lanes d) d p)
  lanes_found p h = placed_reads d accepted p h

  pub able : (p : ℕ) → p < parts_of d → Decodable d p
  able p h = decodable d p tests.form tests.counts tests.totals tests.twelve tests.thirteen h (lanes_found p h)

  pub sound : (p : ℕ) → p < parts_of d → PassedPart d p
  sound p h = record {
    form = tests.form;
    gates = tests.gates;
    seven = tests.counts;
    nine = tests.nine;
    ten = tests.ten;
    eleven = tests.eleven;
    twelve = tests.twelve;
    part = h;
    reads = lanes_found p h;
  }
