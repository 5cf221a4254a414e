-- What the answers of the code stand for: no refused item, or the lowest; no refused place, or the lowest.
-- Assumes nothing.
use Rattle.std.proofs.Math.Option.{Option, none, some}
use Rattle.std.specs.Prelude.{ℕ, Some, None}
use Rattle.std.specs.declared.option.Option as code
use Rattle.words.specs.Tests.{Place}
use Rattle.words.specs.declared.found.Place as found

abbrev pub item_of : Option ℕ → code.Option ℕ
item_of none = None
item_of (some i) = Some i

abbrev pub lowest_of : Option Place → code.Option found.Place
lowest_of none = None
lowest_of (some x) = Some (record { part = x.part; item = x.item })
