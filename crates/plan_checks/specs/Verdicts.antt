-- What the answers of the code stand for.
-- Assumes nothing.
use Rattle.std.specs.Prelude.{ℕ, ⊤, Ok, Err, Some, None}
use Rattle.std.proofs.Math.Option.{Option, none, some}
use Rattle.std.specs.declared.option.Option as code
use Rattle.std.specs.declared.result.Result.{Result}
use Rattle.words.specs.Answer.{at}
use Rattle.words.specs.Tests.{Place}
use Rattle.words.specs.declared.found.Place as found
use Rattle.plan_reads.specs.declared.check.Unread.{Unread}
use Rattle.plan_reads.specs.declared.check.Unread.TheVariants as unread
use Rattle.words.specs.declared.refusals.Refusal.{Refusal}

abbrev pub verdict_of : Option Refusal → Result ⊤ Refusal
verdict_of none = Ok tt
verdict_of (some x) = Err x

-- the places that the steps before answer with
abbrev pub lowest_place : code.Option found.Place → Option Place
lowest_place None = none
lowest_place (Some x) = some (record { part = x.part; item = x.item })

abbrev pub list_place : code.Option ℕ → Option Place
list_place None = none
list_place (Some g) = some (record { part = 0; item = g })

-- 3, 21, 22 and 4 are told at the part, 4 with its word
abbrev pub unread_place : Unread → Place
unread_place (unread.Nothing p) = record { part = p; item = 0 }
unread_place (unread.Bits p) = record { part = p; item = 0 }
unread_place (unread.Wide p) = record { part = p; item = 0 }
unread_place (unread.NoRoom p w) = record { part = p; item = w }

abbrev pub unread_number : Unread → ℕ
unread_number (unread.Nothing p) = 3
unread_number (unread.Bits p) = 21
unread_number (unread.Wide p) = 22
unread_number (unread.NoRoom p w) = 4

abbrev pub checked_refusal : Result ⊤ Unread → Option Refusal
checked_refusal (Ok x) = none
checked_refusal (Err u) = some (at (unread_number u) (unread_place u))
