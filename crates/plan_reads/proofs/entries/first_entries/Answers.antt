use mathlib.Core.Path.{◌∙◌}
use Prim.Native.Nat.{◌≤◌, ◌<◌}
use native.Mathlib.Omega.{arith}
use lib.ListN.{length-set, length}
use Rattle.words.proofs.SectionLaws.{list_of-is}
use Rattle.plan_record.specs.Record.{plan_lanes, slots_of}
use Rattle.plan_reads.proofs.FirstEntryLaws.{entries_on}
use Rattle.plan_reads.specs.Entries.{first_entry}
use Rattle.plan_reads.proofs.entries.first_entries.Goals as goal

pub loop-i-preserved : goal.loop-i-preserved
loop-i-preserved c =
    let inside : c.loop-i.i < length c.loop-i.entries = omega (arith, c.loop-i.invariant.0, c.args.part.now.of.lanes) in
    (length-set c.loop-i.entries _ _ ∙ c.loop-i.invariant.0, entries_on (first_entry (plan_lanes c.args.part.now.d.now) c.args.part.now.d.now c.args.part.now.p) (slots_of c.args.part.now.d.now) c.loop-i.entries c.loop-i.i _ inside c.loop-i.invariant.1 c.first_entry.ensures)

pub returns : goal.returns
returns c =
    let all : slots_of c.args.part.now.d.now ≤ c.loop-i.i = omega (arith, c.args.part.now.of.lanes) in
    record {
      entries_after = list_of-is (first_entry (plan_lanes c.args.part.now.d.now) c.args.part.now.d.now c.args.part.now.p) (slots_of c.args.part.now.d.now) c.loop-i.entries c.loop-i.invariant.0
          (λ k h. (c.loop-i.invariant.1 k (omega arith)).0);
      by_index = λ k h. (c.loop-i.invariant.1 k (omega arith)).1;
    }
