-- What becomes of a part, in the code's terms: a result, and a table of its lanes. n is the number of lanes.
-- Assumes nothing.
use Rattle.std.specs.Prelude.{◌≡◌, ⊤, List, ℕ}
use Rattle.std.specs.declared.result.Result.{Result}
use Rattle.std.proofs.Math.Option.{none}
use Rattle.words.specs.Answer.{Answer, good, result_of}
use Rattle.words.specs.declared.refusals.Refusal.{Refusal}
use Rattle.words.specs.Edition.{Known}
use Rattle.reads.specs.ReadSet.{pairs_of, broken}
use Rattle.reads.specs.Search.{Lane, longest}
use Rattle.reads.specs.Packing.{Packing}
use Rattle.reads.specs.SetAnswer.{Packed}
use Rattle.reads_try.specs.TableLanes.{lanes_at}
use Rattle.reads_section.specs.Readout.{TableReadable}
use Rattle.report.specs.Report.{contents, lanes_in_use, Gain}
use Rattle.report_part.specs.declared.counts.Counted.{Counted}
use Rattle.report_part.specs.declared.counts.Gained.{Gained}

abbrev pub outcome_of : Answer Packed → Result ⊤ Refusal
outcome_of = result_of (λ x. tt)

-- the table is that of a good part's lanes
abbrev pub LanesLie : ℕ → List ℕ → List ℕ → Answer Packed → Type 0
LanesLie n set table o = (x : Packed) → o ≡ good x → TableReadable set table n × (lanes_at set table n ≡ x.lanes)

-- what is counted over lanes
abbrev pub counted_of : List Lane → Counted
counted_of lanes = record { bits = contents lanes; lanes = lanes_in_use lanes; rounds = longest lanes }

-- what a part adds, as the definition says it
abbrev pub gained_of : Gained → Gain
gained_of g = record { bits = g.bits; lanes = g.lanes; rounds = g.rounds; empty = g.empty; words = g.words }

-- what counting a part's gain asks: a table of lanes that are a packing of the set
pub record Gainable (set table : List ℕ) (n : ℕ) : Type 0 where
  pub edition : Known n
  pub readable : TableReadable set table n
  pub packing : Packing n (pairs_of set) (lanes_at set table n)
  pub form : broken (pairs_of set) ≡ none
