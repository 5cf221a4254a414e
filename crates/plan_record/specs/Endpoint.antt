-- An endpoint: document 01, "the endpoint enum holds numbers, not references". What the three words of a record stand for.
-- Assumes nothing.
use Rattle.std.specs.Prelude.{List, ℕ, zero, suc}
use Rattle.plan_record.specs.declared.bodies.Endpoint.{Endpoint}
use Rattle.plan_record.specs.declared.bodies.Endpoint.TheVariants.{Output, Staged, Register, Sram}
use Rattle.plan_record.specs.Record.{endpoint_word}

-- kinds 0 output (x inverted pin number), 1 staged (x pin), 2 register (x = d, y = en, inverted pin numbers), 3 SRAM; a record in form has no other
unfoldable pub endpoint_of : ℕ → ℕ → ℕ → Endpoint
endpoint_of zero x y = Output (record { 0 = x })
endpoint_of (suc zero) x y = Staged (record { 0 = x })
endpoint_of (suc (suc zero)) x y = Register (record { 0 = x }) (record { 0 = y })
endpoint_of (suc (suc (suc k))) x y = Sram

-- endpoint i of part p
abbrev pub endpoint_at : List ℕ → ℕ → ℕ → Endpoint
endpoint_at d p i = endpoint_of (endpoint_word d p i 0) (endpoint_word d p i 1) (endpoint_word d p i 2)
