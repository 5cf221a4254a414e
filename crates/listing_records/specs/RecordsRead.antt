-- What the code that reads records answers, and what it leaves in lent words.
-- Assumes nothing.
use Rattle.std.proofs.Math.Option.{Option, none, some}
use Rattle.std.specs.Prelude.{List, ℕ, length, Ok, Err}
use Rattle.std.specs.declared.result.Result.{Result}
use Rattle.std.proofs.lemmas.List.Edits.{sets}
use Rattle.reads.specs.Asked.{read_set_of}
use Rattle.listing_records.specs.Records.{Parsed}

-- a count, or the byte of the first bad record
abbrev pub read_as : Option ℕ → ℕ → Result ℕ ℕ
read_as none n = Ok n
read_as (some b) n = Err b

-- `read_records`: how many bits are asked for
abbrev pub read_of : Parsed → Result ℕ ℕ
read_of p = read_as p.fault (length p.keys)

-- `read_set_of`: how many words the read set of these bits has. The lent words then hold it from their start, or what they held.
abbrev pub set_of : Parsed → Result ℕ ℕ
set_of p = read_as p.fault (length (read_set_of p.keys))

unfoldable pub set_after : Parsed → List ℕ → List ℕ
set_after p set = elim p.fault [ none ↦ sets set 0 (read_set_of p.keys) | some b ↦ set ]
