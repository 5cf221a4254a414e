-- The counts of a part, and that duplicate words are few where endpoints are.
-- Assumes nothing.
use Prim.Native.Nat.{◌≤◌}
use native.Mathlib.Omega.{arith}
use Rattle.plan_record.specs.Record.{endpoints_of}
use Rattle.plan_counts.specs.Counts.{write_outs}
use Rattle.plan_counts.proofs.PartCountLaws.{duplicates_few}
use Rattle.plan_counts.proofs.counts_of.Goals as goal

pub returns : goal.returns
unfolding write_outs
returns c =
    let few : endpoints_of c.args.part.now.d.now c.args.part.now.p ≤ 8192 = omega (arith, c.args.part.now.of.endpoints, c.args.part.now.of.laid.endpoints) in
    record {
      srams-are = c.srams_of-srams.ensures.0;
      duplicates-are = c.duplicates_of-duplicates.ensures;
      words_are = omega (arith, c.args.part.now.of.locations, c.srams_of-srams.ensures.0, c.duplicates_of-duplicates.ensures);
      few-srams = c.srams_of-srams.ensures.1;
      few-duplicates = omega (arith, c.duplicates_of-duplicates.ensures, duplicates_few _ _ (few));
    }
