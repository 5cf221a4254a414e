-- What the answers of the code stand for.
-- Assumes nothing.
use Rattle.std.specs.declared.result.Result.{Result}
use Rattle.words.specs.declared.refusals.Refusal.{Refusal}
use Rattle.words.specs.Answer.{Answer, result_of}
use Rattle.flatten.specs.declared.sizes.Sizes.{Sizes}
use Rattle.flatten.specs.Flatten as flat

-- the four sizes
abbrev pub sizes_in : flat.Sizes → Sizes
sizes_in x = record { starts = x.starts; words = x.words; state = x.state; sram = x.sram }

-- the sizes of a build, or the refusal
abbrev pub flattened_of : Answer flat.Sizes → Result Sizes Refusal
flattened_of o = result_of sizes_in o
