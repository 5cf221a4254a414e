-- The lowest place from this part on is that of the plan; the bodies are walked from one's end to the next.
-- Assumes nothing.
use Rattle.std.proofs.Common.{◌≡◌, ◌-◌}
use Rattle.plan_record.specs.Record.{parts_of, body_at}
use Rattle.words.specs.Tests.{lowest_from}
use Rattle.plan_entries.specs.TableEntries.{bad_entry}
use Rattle.plan_entries.specs.TableEntries as entries
use Rattle.plan_entries.proofs.refusal13.Given as goal

abbrev pub invariant-loop-p : goal.invariant-loop-p
invariant-loop-p l = (l.at ≡ body_at l.d l.p) × (lowest_from (bad_entry l.d) (parts_of l.d - l.p) l.p ≡ entries.refusal13 l.d)
