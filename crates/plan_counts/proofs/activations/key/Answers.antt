-- The activation by the kind. A staged pin may be doubled, since the pin is in range.
-- Assumes nothing.
use Rattle.std.proofs.Common.{sym, ap, ◌∙◌, arith, add-zero, [], ◌∷◌, ℕ}
use Rattle.plan_counts.specs.Counts.{activation}
use Rattle.plan_counts.proofs.ActivationLaws.{output_key, staged_key, register_key, no_key}
use Rattle.plan_counts.proofs.activations.key.Goals as goal

pub inverted-requires : goal.inverted-requires
inverted-requires c = omega (arith, c.requires _ c.in-Staged.is)

pub returns-in-Output : goal.returns-in-Output
returns-in-Output c = ap (λ (k : ℕ). k ∷ []) c.key_of.ensures ∙ sym (output_key _ _ c.in-Output.is)

pub returns-in-Staged : goal.returns-in-Staged
returns-in-Staged c =
    ap (λ (k : ℕ). k ∷ []) (c.key_of-in-Staged.ensures ∙ ap (λ (k : ℕ). activation k 1) (c.inverted.ensures ∙ add-zero _)) ∙ sym (staged_key _ _ c.in-Staged.is)

pub returns-in-Register : goal.returns-in-Register
returns-in-Register c = ap (λ (k : ℕ). k ∷ []) c.key_of-in-Register.ensures ∙ sym (register_key _ _ _ c.in-Register.is)

pub returns-in-Sram : goal.returns-in-Sram
returns-in-Sram c = sym (no_key _ c.in-Sram.is)
