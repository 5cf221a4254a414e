-- `run_form::form::section_form` meets its contract: the words of its permutation hold its entries, in the numbers of either edition.
-- Assumes nothing.
use native.Mathlib.Omega.{arith}
use Rattle.run_form.proofs.SectionEntryLaws.{section_words_lem}
use Rattle.run_form.proofs.form.section_form.Goals as goal

pub returns-then-n-eq-LANES : goal.returns-then-n-eq-LANES
returns-then-n-eq-LANES c = section_words_lem _ _ _ _ _ c.section-from.ensures.0 _ _ _ (omega arith) (omega arith) c.words_form.ensures

pub returns : goal.returns
returns c = section_words_lem _ _ _ _ _ c.section-from.ensures.0 _ _ _ (omega arith) (omega arith) c.words_form-2.ensures
