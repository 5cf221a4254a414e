-- What the code that feeds answers and asks: the definitions of `report` in its terms. n is the number of lanes.
-- Assumes nothing.
use Rattle.std.specs.Prelude.{◌≡◌, ⊤, true, List, ℕ, zero, suc, ◌≤◌, ◌<◌, length, Ok, Err}
use Rattle.std.specs.declared.result.Result.{Result}
use Rattle.words.specs.Answer.{Answer, nowhere}
use Rattle.words.specs.declared.refusals.Refusal.{Refusal}
use Rattle.words.specs.Edition.{Known}
use Rattle.reads.specs.SetAnswer.{Packed}
use Rattle.report.specs.Batch.{batch_at, most_parts, batch_form}
use Rattle.report_feed.specs.declared.Fed.{Fed}
use Rattle.report_part.specs.PartOutcome.{outcome_of}
use Rattle.report_part.specs.declared.counts.Gained.{Gained}

-- what became of a part
abbrev pub part_fed : Answer Packed → Fed
part_fed o = record { part = outcome_of o }

-- the refusal of a call by its number; 0 is none
abbrev pub call_told : ℕ → Result ⊤ Refusal
call_told zero = Ok tt
call_told (suc k) = Err (nowhere (suc k))

-- what feeding asks of a batch: it is one, whole and not full
pub record Feedable (n : ℕ) (b : List ℕ) : Type 0 where
  pub edition : Known n
  pub form : batch_form b ≡ true
  pub room : batch_at b 0 < most_parts
  pub whole : 48 ≤ length b

-- and of what is added
pub record GainFeedable (n : ℕ) (b : List ℕ) (g : Gained) : Type 0 where
  pub batch : Feedable n b
  pub bits : g.bits ≤ 8192
  pub lanes : g.lanes ≤ 256
  pub rounds : g.rounds ≤ 32
  pub empty : g.empty ≤ 8192
  pub words : g.words ≤ 1332480
