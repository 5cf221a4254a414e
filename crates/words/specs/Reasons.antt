-- The reasons of the refusals by their numbers: document 01, "Numbered refusals", and those that document 02 adds.
-- Assumes nothing.
use Rattle.std.specs.Prelude.{ℕ}
use Rattle.words.specs.declared.refusals.Reason.{Reason}
use Rattle.words.specs.declared.refusals.Reason.TheVariants as reason

abbrev pub number_of : Reason → ℕ
number_of reason.ManyPairs = 1
number_of reason.PairForm = 2
number_of reason.NothingToRead = 3
number_of reason.NoRoomFound = 4
number_of reason.PlanForm = 5
number_of reason.GateOrder = 6
number_of reason.WriteOuts = 7
number_of reason.Totals = 8
number_of reason.Slot = 9
number_of reason.NotInStageBefore = 10
number_of reason.ReadAndComputed = 11
number_of reason.NoPosition = 12
number_of reason.TableEntry = 13
number_of reason.ResultShort = 14
number_of reason.ScriptForm = 15
number_of reason.Turn = 16
number_of reason.Record = 17
number_of reason.BeforeGates = 18
number_of reason.Difference = 19
number_of reason.CutGates = 20
number_of reason.ManyBits = 21
number_of reason.ManyWide = 22
number_of reason.NotEmpty = 24
number_of reason.Level = 25
number_of reason.NoGate = 26
number_of reason.NoPacking = 27
number_of reason.BatchFull = 28
number_of reason.NoEdition = 29
number_of reason.RoomShort = 32
number_of reason.NotWritable = 33
number_of reason.CountShort = 34
