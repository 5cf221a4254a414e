-- One law of EndpointLaws for each kind.
-- Assumes nothing.
use mathlib.Core.Path.{◌∙◌}
use Rattle.plan_record.proofs.EndpointLaws.{numbers_output, numbers_staged, numbers_register, numbers_sram}
use Rattle.plan_form.proofs.numbers_form.Goals as goal

pub returns-in-Output : goal.returns-in-Output
returns-in-Output c = c.is_pin_iv.ensures ∙ numbers_output _ _ c.in-Output.is

pub returns-in-Staged : goal.returns-in-Staged
returns-in-Staged c = c.is_pin.ensures ∙ numbers_staged _ _ c.in-Staged.is

pub returns-in-Register : goal.returns-in-Register
returns-in-Register c =
    numbers_register _ _ _ _ _ c.in-Register.is c.is_pin_iv-in-Register.ensures c.is_pin_iv-in-Register-2.ensures

pub returns-in-Sram : goal.returns-in-Sram
returns-in-Sram c = numbers_sram _ c.in-Sram.is
