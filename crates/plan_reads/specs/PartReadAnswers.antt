-- What the answers of the code stand for.
-- Assumes nothing.
use Rattle.std.specs.Prelude.{◌≡◌, ⊤, Some, None, Ok, Err, true, false, List, ℕ, eqb}
use Rattle.std.specs.declared.option.Option as code
use Rattle.std.specs.declared.result.Result.{Result}
use Rattle.std.proofs.Math.Option.{Option, none, some}
use Rattle.reads.specs.Search.{longest}
use Rattle.words.specs.declared.found.Place as found
use Rattle.words.specs.declared.refusals.Refusal.{Refusal}
use Rattle.rounds.specs.declared.Placed.{Placed}
use Rattle.plan_record.specs.Record.{plan_lanes, parts_of}
use Rattle.words.specs.Tests.{Place}
use Rattle.plan_rows.specs.Columns as col
use Rattle.plan_blocks.specs.TableFill.{put_cells}
use Rattle.plan_reads.specs.PartReads.{part_lanes, part_size, refused_reads}
use Rattle.plan_reads.specs.declared.check.Unread.{Unread}
use Rattle.plan_reads.specs.declared.check.Unread.TheVariants as unread
use Rattle.plan_reads.specs.declared.check.Firsts.{Firsts}

-- the item that a part is refused at with number k
abbrev pub refused_at : ℕ → Result Placed Refusal → code.Option ℕ
refused_at k (Ok x) = None
refused_at k (Err q) = elim (eqb q.number k) [ true ↦ Some q.item | false ↦ None ]

-- the first place refused with number k, after part p
abbrev pub place_of : ℕ → code.Option ℕ → code.Option found.Place
place_of p None = None
place_of p (Some i) = Some (record { part = p; item = i })

abbrev pub first_after : ℕ → code.Option found.Place → ℕ → Result Placed Refusal → code.Option found.Place
first_after k (Some x) p r = Some x
first_after k None p r = place_of p (refused_at k r)

-- the three of them after part p
pub record FirstsAfter (f : Firsts) (p : ℕ) (r : Result Placed Refusal) (g : Firsts) : Type 0 where
  pub bits : g.bits ≡ first_after 21 f.bits p r
  pub wide : g.wide ≡ first_after 22 f.wide p r
  pub stuck : g.stuck ≡ first_after 4 f.stuck p r

-- what they tell: 21, then 22, then 4
abbrev pub reads_told : (bits wide four : code.Option found.Place) → Result ⊤ Unread
reads_told (Some x) w f = Err (unread.Bits x.part)
reads_told None (Some x) f = Err (unread.Wide x.part)
reads_told None None (Some x) = Err (unread.NoRoom x.part x.item)
reads_told None None None = Ok tt

abbrev pub firsts_told : Firsts → Result ⊤ Unread
firsts_told f = reads_told f.bits f.wide f.stuck

-- 3 over the whole plan, then 21, 22, 4
abbrev pub checked_of : (three bits wide four : Option Place) → Result ⊤ Unread
checked_of (some x) b w f = Err (unread.Nothing x.part)
checked_of none (some x) w f = Err (unread.Bits x.part)
checked_of none none (some x) f = Err (unread.Wide x.part)
checked_of none none none (some x) = Err (unread.NoRoom x.part x.item)
checked_of none none none none = Ok tt

-- the number of rounds and the piece size as they are kept: 0 where there are none
abbrev pub rounds_kept : Result Placed Refusal → ℕ
rounds_kept (Ok x) = x.rounds
rounds_kept (Err q) = 0

abbrev pub size_kept : Result Placed Refusal → ℕ
size_kept (Ok x) = x.size
size_kept (Err q) = 0

abbrev pub rounds_in : List ℕ → ℕ → ℕ
rounds_in d p = longest (part_lanes (plan_lanes d) d p)

-- the parts up to the first with nothing to read
abbrev pub parts_up_to : Option Place → ℕ → ℕ
parts_up_to none n = n
parts_up_to (some x) n = x.part

-- the room with the rounds and the piece sizes of the first n parts in their rows
abbrev pub read_rows : List ℕ → List ℕ → ℕ → List ℕ
read_rows d room n = put_cells (put_cells room col.rounds (λ p. p) (rounds_in d) n) col.piece_size (λ p. p) (part_size (plan_lanes d) d) n

-- and after all parts were searched
unfoldable pub searched_room : List ℕ → List ℕ → List ℕ
searched_room d room = read_rows d room (parts_up_to (refused_reads (plan_lanes d) 3 d) (parts_of d))
