-- What a build answers: document 01, "Numbered refusals" and "Blocks and offsets". n is the number of lanes.
-- Assumes nothing.
use Rattle.std.specs.Prelude.{Bool, true, false, ◌&&◌, List, ℕ, ◌+◌, ◌*◌, leb, length, replicate}
use Rattle.std.proofs.Math.Option.{none, some}
use Rattle.std.proofs.lemmas.List.Edits.{sets}
use Rattle.words.specs.Answer.{Answer, good, refused, nowhere}
use Rattle.words.specs.Section.{list_of}
use Rattle.plan_record.specs.Record.{blocks_of, majors_of, parts_of}
use Rattle.plan_record.specs.Form.{plan_room_words}
use Rattle.plan_blocks.specs.Blocks.{state_words, sram_words}
use Rattle.plan_reads.specs.PartReads.{part_size}
use Rattle.plan_refusals.specs.Refusals.{plan_verdict}
use Rattle.script_assembly.specs.Assembly.{script_words, script_starts}

-- ---- the sizes of a plan

pub record Sizes : Type 0 where
  pub starts : ℕ
  pub words : ℕ
  pub state : ℕ
  pub sram : ℕ

unfoldable pub sizes_of : ℕ → List ℕ → Sizes
sizes_of n d = record {
  starts = blocks_of d * majors_of d + 1;
  words = length (script_words n d);
  state = state_words d;
  sram = sram_words d;
}

-- "A plan: 5 to 13 .., then 3, 4", 32 before them
unfoldable pub sizing : ℕ → List ℕ → ℕ → Answer Sizes
sizing n d r = elim (plan_verdict d r) [ some q ↦ refused q | none ↦ good (sizes_of n d) ]

-- ---- the build: "then 3, 4, 14". Result slices of s starts, w words and k piece sizes

-- document 02, 2/13: the piece size of the winning try, "passed up to the part and plan results": that of each part, parts counted on through the
-- major stages
unfoldable pub piece_sizes : ℕ → List ℕ → List ℕ
piece_sizes n d = list_of (part_size n d) (parts_of d)

unfoldable pub fits : Sizes → ℕ → ℕ → ℕ → ℕ → Bool
fits x parts s w k = leb parts k && (leb x.starts s && leb x.words w)

abbrev pub if_fits : Bool → Sizes → Answer Sizes
if_fits true x = good x
if_fits false x = refused (nowhere 14)

abbrev pub fitted : ℕ → List ℕ → ℕ → ℕ → ℕ → Answer Sizes
fitted n d s w k = if_fits (fits (sizes_of n d) (parts_of d) s w k) (sizes_of n d)

unfoldable pub building : ℕ → List ℕ → ℕ → ℕ → ℕ → ℕ → Answer Sizes
building n d r s w k = elim (plan_verdict d r) [ some q ↦ refused q | none ↦ fitted n d s w k ]

-- what the three result slices then hold, and the room
unfoldable pub laid : Answer Sizes → List ℕ → List ℕ → List ℕ
laid (good x) l before = sets before 0 l
laid (refused q) l before = before

abbrev pub starts_after : ℕ → List ℕ → ℕ → List ℕ → List ℕ → List ℕ → List ℕ
starts_after n d r starts words pieces = laid (building n d r (length starts) (length words) (length pieces)) (script_starts n d) starts

abbrev pub words_after : ℕ → List ℕ → ℕ → List ℕ → List ℕ → List ℕ → List ℕ
words_after n d r starts words pieces = laid (building n d r (length starts) (length words) (length pieces)) (script_words n d) words

abbrev pub pieces_after : ℕ → List ℕ → ℕ → List ℕ → List ℕ → List ℕ → List ℕ
pieces_after n d r starts words pieces = laid (building n d r (length starts) (length words) (length pieces)) (piece_sizes n d) pieces

unfoldable pub build_room_after : List ℕ → List ℕ → List ℕ
build_room_after d room = elim (leb (plan_room_words d) (length room)) [ false ↦ room | true ↦ replicate (length room) 0 ]
