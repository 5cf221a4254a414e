-- An SRAM, or another kind.
-- Assumes nothing.
use Rattle.std.proofs.Common.{sym, arith}
use Rattle.plan_counts.proofs.PartCountLaws.{one_sram, not_sram}
use Rattle.plan_counts.proofs.sram_of.Goals as goal

pub returns-in-Sram : goal.returns-in-Sram
returns-in-Sram c = (sym (one_sram _ c.in-Sram.is), omega arith)

pub returns-in_default : goal.returns-in_default
returns-in_default c = (sym (not_sram _ c.in_default.not-Sram), omega arith)
