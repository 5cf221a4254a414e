-- The records of standard input: document 01, "Listing program", first five sentences, with refusal 17's byte.
-- Assumes nothing.
use Rattle.std.specs.Prelude.{true, false, List, [], ◌∷◌, ℕ, zero, suc, ◌+◌, ◌*◌, ◌^◌, leb, ltb, length, get_or, Some, None, Ok, Err}
use Rattle.std.proofs.Math.Option.{Option, none, some}
use Rattle.std.specs.declared.option.Option as code
use Rattle.std.specs.declared.result.Result.{Result}
use Rattle.words.specs.declared.units.AskedBit.{AskedBit}

-- what stands at a byte: a position, as the bit that it asks for; the end; or a record that is refused, with the byte that it is told at
abbrev pub Record : Type 0
Record = Result (code.Option AskedBit) ℕ

-- "a four-byte little-endian" number at byte i
unfoldable pub number_at : List ℕ → ℕ → ℕ
number_at bs i = get_or bs i 0 + 256 * get_or bs (i + 1) 0 + 65536 * get_or bs (i + 2) 0 + 16777216 * get_or bs (i + 3) 0

-- "1 and 2: a four-byte [..] position, unstaged and staged": the bit it asks for, as `Asked` of `reads` numbers bits, which has 2^36 (bit 31 of
-- the word) where `staged` is 1. A "cut body" is refused at the record.
unfoldable pub position_at : List ℕ → ℕ → ℕ → Record
position_at bs at staged =
    elim (leb (at + 5) (length bs)) [ true ↦ Ok (Some (record { 0 = 2 ^ 36 * staged + number_at bs (at + 1) })) | false ↦ Err at ]

-- "0: end, no body". "bytes after the end" are refused at "the first one's" byte.
unfoldable pub end_record_at : List ℕ → ℕ → Record
end_record_at bs at = elim (ltb (at + 1) (length bs)) [ true ↦ Err (at + 1) | false ↦ Ok None ]

-- the record at a byte, by its kind; an "unknown kind" is refused
unfoldable pub kind_at : List ℕ → ℕ → ℕ → Record
kind_at bs at zero = end_record_at bs at
kind_at bs at (suc zero) = position_at bs at 0
kind_at bs at (suc (suc zero)) = position_at bs at 1
kind_at bs at (suc (suc (suc k))) = Err at

-- "one byte of kind, then its body". "no end" is refused at "the length".
unfoldable pub record_at : List ℕ → ℕ → Record
record_at bs at = elim (ltb at (length bs)) [ true ↦ kind_at bs at (get_or bs at 0) | false ↦ Err at ]

-- What records say: the bits that the positions ask for, up to the end or the first bad record, and the byte of that record.
pub record Parsed : Type 0 where
  pub keys : List ℕ
  pub fault : Option ℕ

abbrev pub stopped : Option ℕ → Parsed
stopped f = record { keys = []; fault = f }

abbrev pub key_before : ℕ → Parsed → Parsed
key_before q p = record { keys = q ∷ p.keys; fault = p.fault }

-- the records from a byte on, where n more positions may come: one more is refused at its record
unfoldable pub records_from : ℕ → List ℕ → ℕ → Parsed
records_from zero bs at = elim (record_at bs at) [ Ok x ↦ elim x [ Some q ↦ stopped (some at) | None ↦ stopped none ] | Err b ↦ stopped (some b) ]
records_from (suc n) bs at =
    elim (record_at bs at) [ Ok x ↦ elim x [ Some q ↦ key_before q.0 (records_from n bs (at + 5)) | None ↦ stopped none ] | Err b ↦ stopped (some b) ]

-- "over 8192 positions"
abbrev pub records : List ℕ → Parsed
records bs = records_from 8192 bs 0
