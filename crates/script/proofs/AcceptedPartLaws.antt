-- What the refusals leave of a part, as its writers ask for it: 6, 7 and 13 excluded.
-- Assumes nothing.
use mathlib.Core.Path.{◌≡◌}
use mathlib.Core.List.{List}
use mathlib.Core.Option.{none}
use Prim.Native.Nat.{ℕ, ◌<◌}
use Rattle.plan_record.specs.declared.bodies.Body.{Body}
use Rattle.plan_record.specs.Record.{parts_of}
use Rattle.plan_record.specs.Body.{BodyOf}
use Rattle.plan_gates.specs.Gates.{bad_gate}
use Rattle.plan_counts.specs.Counts.{refusal7}
use Rattle.plan_counts.proofs.PartCountLaws.{counts_passed}
use Rattle.plan_entries.specs.TableEntries.{refusal13}
use Rattle.plan_entries.proofs.TableEntryLaws.{sram_entry, enable_entry_lem}
use Rattle.script.specs.Writers.{AcceptedPart}

module _ (d : List ℕ) (p : ℕ) (b : Body) (body : BodyOf d p b) (part : p < parts_of d) (gates : bad_gate d ≡ none) (seven : refusal7 d ≡ none) (thirteen : refusal13 d ≡ none) where
  pub accepted : AcceptedPart d p b
  accepted = record {
    body = body;
    gates = gates;
    locations = (counts_passed d seven p part).location;
    sram = λ i h. sram_entry d thirteen p i part h;
    enable = λ i h. enable_entry_lem d thirteen p i part h;
  }
