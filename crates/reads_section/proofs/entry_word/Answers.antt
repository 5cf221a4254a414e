-- `entry_word`: the two cases of the definition.
-- Assumes nothing.
use Rattle.reads_section.proofs.ReadoutLaws.{entry_none, entry_word_lem}
use Rattle.reads_section.proofs.entry_word.Goals as goal

pub returns-then-e-eq0 : goal.returns-then-e-eq0
returns-then-e-eq0 c = entry_none _ _ _ c.if-e-eq0.true

pub returns-else-e-eq0 : goal.returns-else-e-eq0
returns-else-e-eq0 c = entry_word_lem _ _ _ c.if-e-eq0.false
