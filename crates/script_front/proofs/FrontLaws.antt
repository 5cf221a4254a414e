-- What an accepted plan gives each step to the front of a part's script, and what the parts of the room and of the result are between the steps.
-- Assumes nothing.
use mathlib.Core.Path.{◌≡◌, refl, sym, ap, ◌∙◌}
use mathlib.Core.List.{List, ◌++◌}
use Prim.Native.Nat.{ℕ, ◌+◌, ◌*◌, ◌-◌, ◌^◌, ◌≤◌, ◌<◌}
use native.Mathlib.Nat.{mul-le-mul_left}
use native.Mathlib.Omega.{arith}
use borrow.Rule.Slice.PartMut.{put_mid, mid_len}
use lib.ListN.{length, get_or, take, drop, length-append, length-drop}
use lib.Seq.{sets, length-sets, length-take-le, take_all, take_at, drop_at}
use Rattle.words.specs.Section.{list_of}
use Rattle.words.proofs.SectionLaws.{length_list_of, get_d_list_of, list_of_ext}
use Rattle.reads.specs.ReadSet.{pairs_of}
use Rattle.reads.specs.Search.{Lane, lanes_of, longest}
use Rattle.reads.specs.ReadSection.{rounds_from, read_section}
use Rattle.reads.proofs.SectionWordLaws.{section_length}
use Rattle.reads_asked.proofs.FrontStoreLaws.{take-front}
use Rattle.reads_try.specs.TableLanes.{lanes_at}
use Rattle.rounds.specs.Rounds.{table_after, Solvable}
use Rattle.rounds.proofs.RoundsAnswerLaws.{Win}
use Rattle.plan_record.specs.declared.bodies.Body.{Body}
use Rattle.plan_record.specs.Record.{plan_lanes, slots_of}
use Rattle.plan_record.proofs.RecordLaws.{lanes_range}
use Rattle.plan_record.proofs.PlanFormLaws.{formed}
use Rattle.plan_winners.specs.Winners.{ListsInRange}
use Rattle.plan_positions.specs.Places.{planned_table}
use Rattle.plan_winners.proofs.WinnerLaws.{listed}
use Rattle.plan_reads.specs.PartReads.{asked_to, read_words, part_packed, part_lanes}
use Rattle.plan_reads.specs.ReadsReady.{AllNarrow, AllPlanned, AllWon, SetRoom}
use Rattle.reads_local.specs.Bases.{store_lanes}
use Rattle.plan_reads.specs.Entries.{first_entry, AllNumbered}
use Rattle.plan_reads.proofs.SearchedLaws.{pins_length, pins_won, won_few}
use Rattle.plan_reads.proofs.FirstEntryLaws.{words_form, words_small, part_win, part_lanes_lem, part_numbered, all_planned}
use Rattle.script.specs.Script.{pin_entry, stage_entry}
use Rattle.script.specs.Writers.{AcceptedPart, EntriesOf}
use Rattle.script.proofs.AcceptedPartLaws.{accepted}
use Rattle.script.proofs.PutMidLaws.{put_rest, put_mid_length}
use Rattle.script_front.specs.Build.{Buildable, FoundRoom, ReadsRoom}

-- ---- what the refusals leave

module _ (d : List ℕ) (p : ℕ) (b : Body) (k : Buildable d p b) where
  pub some_stages : 1 ≤ b.stages
  some_stages = omega (arith, k.body.stages, ((formed d k.form).part p k.part).some_stages)

  pub lists_there : ListsInRange d
  lists_there = listed d k.form

  pub reads_planned : AllPlanned d p
  reads_planned = all_planned d k.positions p k.part

  pub part_accepted : AcceptedPart d p b
  part_accepted = accepted d p b k.body k.part k.gates k.locations k.tables

-- a product with the lanes is no more than with those of the full edition
pub lanes_most : (n x : ℕ) → n ≤ 256 → n * x ≤ 256 * x
lanes_most n x h = omega (arith, mul-le-mul_left {m = n} {n = 256} x h)

-- ---- the room while the reads are found: the pins in its first 32768 words, and the lanes behind them

module _ (d : List ℕ) (p : ℕ) (b : Body) (k : Buildable d p b) (room : List ℕ) (wide : length room ≡ 32768 + 32 * b.lanes)
    (pins : List ℕ) (filled : pins ≡ planned_table d p (length (take 32768 room))) where
  abbrev with-pins : List ℕ
  with-pins = pins ++ drop 32768 room

  front-size : length (take 32768 room) ≡ 32768
  front-size = length-take-le 32768 room (omega arith)

  pins-size : length pins ≡ 32768
  pins-size = pins_length d p (take 32768 room) pins filled ∙ front-size

  pins-front : take 32768 with-pins ≡ pins
  pins-front = take_at pins (drop 32768 room) 32768 pins-size

  room_size : length with-pins ≡ 32768 + 32 * b.lanes
  room_size = omega (arith, length-append pins (drop 32768 room), pins-size, length-drop 32768 room)

  table-size : length (take (length with-pins - 32768) (drop 32768 with-pins)) ≡ 32 * b.lanes
  table-size = mid_len 32768 (length with-pins) with-pins (omega arith) ∙ omega (arith, room_size)

  pub table_solvable : (K S K' S' set : ℕ) → SetRoom K S set → K' ≡ K → S' ≡ S → Solvable (length (take (length with-pins - 32768) (drop 32768 with-pins))) K' S' b.lanes
  table_solvable K S K' S' set r e s = record {
    room = table-size;
    some_lanes = omega (arith, k.body.laid.some_lanes);
    few-lanes = k.body.laid.lanes;
    keys-room = omega (arith, r.keys-room);
    scratch-room = omega (arith, r.scratch-room);
  }

  module _ (t : List ℕ) (kept : length t ≡ length (take (length with-pins - 32768) (drop 32768 with-pins))) where
    pub found_length : length (put_mid 32768 (length with-pins - 32768) with-pins t) ≡ length room
    found_length =
        put_mid_length 32768 (length with-pins) with-pins t (omega (arith, room_size)) (omega arith) (omega (arith, kept, table-size, room_size)) ∙ omega (arith, room_size)

    pub found_room : (ws : List ℕ) → ws ≡ read_words d p → t ≡ table_after b.lanes (lanes_of b.lanes (pairs_of ws)) → FoundRoom d p (put_mid 32768 (length with-pins - 32768) with-pins t)
    found_room ws is e =
        let q : put_mid 32768 (length with-pins - 32768) with-pins t ≡ pins ++ t = put_rest 32768 with-pins t ∙ ap (λ (l : List ℕ). l ++ t) pins-front in
        let lanes : t ≡ table_after (plan_lanes d) (lanes_of (plan_lanes d) (pairs_of (read_words d p))) =
        e ∙ (ap (λ (l : List ℕ). table_after b.lanes (lanes_of b.lanes (pairs_of l))) is ∙ ap (λ (m : ℕ). table_after m (lanes_of m (pairs_of (read_words d p)))) k.body.lanes)
        in
        rw q
        (record {
          pins = take_at pins t 32768 pins-size ∙ (filled ∙ ap (planned_table d p) front-size);
          lanes = drop_at pins t 32768 pins-size ∙ lanes;
        })

-- ---- the read section fills its part

pub section_written : (ls : List Lane) (n m : ℕ) (out out' : List ℕ) → length ls ≡ n → m ≡ longest ls → length out ≡ 2 * (n * m) → out' ≡ sets out 0 (rounds_from ls m 0) → out' ≡ read_section ls
section_written ls n m out out' wide is room e =
    let k : length (read_section ls) ≡ 2 * n * longest ls = section_length n ls wide in
    let r : length out ≡ 2 * (n * longest ls) = room ∙ ap (λ (x : ℕ). 2 * (n * x)) is in
    e
    ∙ ap (λ (x : ℕ). sets out 0 (rounds_from ls x 0)) is
    ∙ sym (take_all (length (read_section ls)) (sets out 0 (read_section ls)) (omega (arith, length-sets out 0 (read_section ls))))
    ∙ take-front out (read_section ls) (omega arith)

-- ---- the entries of the first stage

first_is : (n : ℕ) (d : List ℕ) (p i : ℕ) → first_entry n d p i ≡ stage_entry n d p 0 i
unfolding first_entry stage_entry pin_entry
first_is n d p i = refl

-- the entries of the plan's slots
abbrev first_entries : List ℕ → ℕ → List ℕ
first_entries d p = list_of (first_entry (plan_lanes d) d p) (slots_of d)

-- each is a position
abbrev FirstSmall : List ℕ → ℕ → Type 0
FirstSmall d p = (i : ℕ) → i < slots_of d → first_entry (plan_lanes d) d p i < slots_of d

pub entries_first : (d : List ℕ) (p : ℕ) (entries : List ℕ) → entries ≡ first_entries d p → FirstSmall d p → EntriesOf d p 0 entries
entries_first d p entries e small = record {
  is = e ∙ list_of_ext (first_entry (plan_lanes d) d p) (stage_entry (plan_lanes d) d p 0) (slots_of d) (λ i l. first_is (plan_lanes d) d p i);
  small = λ i l. omega (arith, first_is (plan_lanes d) d p i, small i l);
}

-- entries made in the first m words of a list, and put over the first words of a set
module _ (d : List ℕ) (p m : ℕ) (slots : m ≡ slots_of d) (list made : List ℕ) (is : made ≡ first_entries d p) where
  made-size : length made ≡ m
  made-size = ap length is ∙ (length_list_of (first_entry (plan_lanes d) d p) (slots_of d) ∙ sym slots)

  made-there : take m (made ++ drop m list) ≡ first_entries d p
  made-there = take_at made (drop m list) m made-size ∙ is

  pub made_front : length (take m (made ++ drop m list)) ≡ m
  made_front = ap length made-there ∙ (length_list_of (first_entry (plan_lanes d) d p) (slots_of d) ∙ sym slots)

  pub made_small : FirstSmall d p → (i : ℕ) → i < m → get_or (take m (made ++ drop m list)) i 0 < 2 ^ 32
  made_small small i h =
      let l : i < slots_of d = omega arith in
      omega (arith, ap (λ (x : List ℕ). get_or x i 0) made-there ∙ get_d_list_of (first_entry (plan_lanes d) d p) (slots_of d) i l, small i l, lanes_range d)

  pub put_front : (set put : List ℕ) → put ≡ take m (made ++ drop m list) → take m (put ++ drop m set) ≡ first_entries d p
  put_front set put e =
      let q : put ≡ first_entries d p = e ∙ made-there in
      take_at put (drop m set) m (ap length e ∙ made_front) ∙ q

-- ---- the reads are found: their lanes, and the numbers of their pairs

-- the read set of part p is the first n words of a set, its pins and its lanes are in a room
pub record ReadsFound (d : List ℕ) (p : ℕ) (b : Body) (room set : List ℕ) (n : ℕ) : Type 0 where
  pub part : Buildable d p b
  pub narrow : AllNarrow (asked_to d p (slots_of d))
  pub found : FoundRoom d p room
  pub wide : length room ≡ 32768 + 32 * b.lanes
  pub count : n ≡ length (read_words d p)
  pub few : n ≤ 16384
  pub front : take n set ≡ read_words d p

module _ {d : List ℕ} {p : ℕ} {b : Body} {room set : List ℕ} {n : ℕ} (f : ReadsFound d p b room set n) where
  abbrev table : List ℕ
  table = take (length room - 32768) (drop 32768 room)

  table_is : table ≡ table_after (plan_lanes d) (lanes_of (plan_lanes d) (pairs_of (read_words d p)))
  table_is = take_all (length room - 32768) (drop 32768 room) (omega (arith, length-drop 32768 room)) ∙ f.found.lanes

  table_length : length table ≡ slots_of d
  table_length = mid_len 32768 (length room) room (omega arith) ∙ omega (arith, f.wide, f.part.body.lanes)

  any-room : Solvable (slots_of d) 8192 8192 (plan_lanes d)
  any-room = record { room = refl; some_lanes = omega (arith, lanes_range d); few-lanes = (lanes_range d).1; keys-room = omega arith; scratch-room = omega arith }

  win : Win (read_words d p) table (plan_lanes d)
  win = part_win d p f.narrow any-room (part_packed (plan_lanes d) d p) f.part.reads table table_is table_length

  same_lanes : lanes_at (read_words d p) table (plan_lanes d) ≡ part_lanes (plan_lanes d) d p
  same_lanes = part_lanes_lem d p f.narrow any-room (part_packed (plan_lanes d) d p) f.part.reads table table_is table_length

  pub set_long : n ≡ length (take n set)
  set_long = f.count ∙ sym (ap length f.front)

  pub lanes_are : lanes_at (take n set) table b.lanes ≡ part_lanes (plan_lanes d) d p
  lanes_are = rw (f.front, f.part.body.lanes) same_lanes

  pub pins_won_there : AllWon d p (take 32768 room)
  pins_won_there = rw f.found.pins (pins_won d p 32768 (omega arith) (reads_planned d p b f.part))

  module _ (rounds : ℕ) (are : rounds ≡ longest (part_lanes (plan_lanes d) d p)) where
    pub rounds_few : rounds ≤ 32
    rounds_few = won_few (words_form d p f.narrow) any-room (words_small d p f.narrow) table win rounds (are ∙ ap longest (sym same_lanes))

    pub round_words_lem : b.lanes * rounds ≤ 8192
    round_words_lem = omega (arith, rounds_few, lanes_most b.lanes rounds f.part.body.laid.lanes)

    pub reads_room : (bases out : List ℕ) → 8192 ≤ length bases → length out ≡ 2 * (b.lanes * rounds) + 20 * b.lanes
        → ReadsRoom (take n set) table b.lanes rounds bases (take (2 * (b.lanes * rounds)) out)
    reads_room bases out pairs o = record {
      lanes = rw (f.front, f.part.body.lanes) win.readable;
      rounds_are = are ∙ ap longest (sym lanes_are);
      few = rounds_few;
      pairs = rw f.front (omega (arith, f.count, f.few));
      room = length-take-le (2 * (b.lanes * rounds)) out (omega arith);
    }

  pub pairs_numbered : (bases bases' : List ℕ) → 8192 ≤ length bases → bases' ≡ store_lanes 0 (lanes_at (take n set) table b.lanes) bases → AllNumbered (plan_lanes d) d p (take n set) bases'
  pairs_numbered bases bases' pairs e =
      rw (e, f.front, f.part.body.lanes)
      (part_numbered d p f.narrow any-room (part_packed (plan_lanes d) d p) f.part.reads table bases table_is table_length (omega (arith, f.count, f.few)) (reads_planned d p b f.part))

-- ---- the read section is there, in m words: the rest of its part is for the first stage

module _ (m k : ℕ) (out : List ℕ) (long : length out ≡ m + k) (w : List ℕ) (kept : length w ≡ length (take m out)) where
  pub front_length : length (w ++ drop m out) ≡ m + k
  front_length = omega (arith, length-append w (drop m out), length-take-le m out (omega arith), length-drop m out)

  pub first_length : length (take (length (w ++ drop m out) - m) (drop m (w ++ drop m out))) ≡ k
  first_length = mid_len m (length (w ++ drop m out)) (w ++ drop m out) (omega arith) ∙ omega (arith, front_length)
