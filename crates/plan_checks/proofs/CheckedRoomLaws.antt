-- The room: clear, then with the part table, then with the rounds and the piece sizes; and what it holds in the end.
-- Assumes nothing.
use mathlib.Core.Path.{◌≡◌, refl, sym, ap, ◌∙◌}
use mathlib.Core.Bool.{true}
use mathlib.Core.Option.{Option, none, some}
use mathlib.Core.List.{List, ◌++◌}
use Prim.Native.Nat.{ℕ, ◌≤◌, ◌<◌}
use native.Mathlib.Omega.{arith}
use borrow.Author.Tests.{le-leb, lt-leb}
use lib.ListN.{length, get_or, take, drop, replicate, length-replicate, get_or-replicate, take-append-drop}
use lib.Seq.{length-take-le, get_or-take, ext_get_or}
use Rattle.plan_record.specs.Record.{plan_lanes, parts_of}
use Rattle.plan_record.specs.Form.{plan_room_words}
use Rattle.plan_blocks.specs.Blocks.{totals_fit}
use Rattle.plan_rows.specs.Columns as col
use Rattle.plan_rows.specs.Rows.{row_base, cell_at}
use Rattle.plan_blocks.specs.PartTable.{Tabled}
use Rattle.plan_blocks.specs.TableFill.{TableFillable, tabled_room, allotted_room}
use Rattle.plan_table.proofs.PartTableLaws.{tabled_room_lem, tabled_long, tabled_other}
use Rattle.plan_table.proofs.AllPartsLaws.{fillable}
use Rattle.plan_positions.specs.Places.{Judgeable}
use Rattle.plan_reads.specs.ReadsReady.{ClearRoom, ReadsSearchable}
use Rattle.plan_reads.specs.PartReadAnswers.{rounds_in, parts_up_to, read_rows, searched_room}
use Rattle.plan_reads.specs.PartReads.{part_size}
use Rattle.plan_reads.proofs.ReadRowLaws.{read_long, read_rounds_lem, read_size, read_word, read_low}
use Rattle.words.specs.Tests.{Place}
use Rattle.words.specs.declared.refusals.Refusal.{Refusal}
use Rattle.plan_refusals.specs.Refusals.{plan_refusal}
use Rattle.plan_refusals.specs.RefusalGroups.{list_refusal, total_refusal, place_refusal}
use Rattle.plan_checks.specs.CheckedRoom.{PlanReady, Cleared, ready_room, room_left}
use Rattle.plan_refusals.proofs.PassedLaws.{passed, lists_passed, totals_passed, places_passed}

-- ---- the first words, lent and zero again

pub lent_size : (d room : List ℕ) → ClearRoom d room → length (take 32768 room) ≡ 32768
lent_size d room c = length-take-le 32768 room (omega (arith, c.wide))

pub lent_back : (d room z : List ℕ) → ClearRoom d room → z ≡ replicate (length (take 32768 room)) 0 → z ++ drop 32768 room ≡ room
lent_back d room z c e =
    ap (λ (l : List ℕ). l ++ drop 32768 room) (e ∙ (ap (λ (n : ℕ). replicate n 0) (lent_size d room c) ∙ sym c.clear))
    ∙ take-append-drop 32768 room

pub lent_same : (d room room' : List ℕ) → ClearRoom d room → room' ≡ room → ClearRoom d room'
lent_same d room room' c e = rw e c

-- ---- zeros

zeros_take : (m : ℕ) (l : List ℕ) → m ≤ length l → ((i : ℕ) → i < m → get_or l i 0 ≡ 0) → take m l ≡ replicate m 0
zeros_take m l h z =
    let n : length (take m l) ≡ m = length-take-le m l h in
    ext_get_or 0 _ _ (n ∙ sym (length-replicate {A = ℕ} m 0))
    (λ i g.
    let u : i < m = omega (arith, n) in
    get_or-take m l i 0 u ∙ (z i u ∙ sym (get_or-replicate m i 0 0 u)))

pub room_cleared : (d room z : List ℕ) → plan_room_words d ≤ length room → z ≡ replicate (length room) 0 → Cleared d z
room_cleared d room z h e =
    let n : length z ≡ length room = ap length e ∙ length-replicate (length room) 0 in
    record { enough = omega arith; zeros = e ∙ ap (λ (m : ℕ). replicate m 0) (sym n) }

-- ---- the part table

-- words before the table are zero
module _ (d : List ℕ) (n : ℕ) (h : 65536 ≤ n) where
  table_zero : (i : ℕ) → i < 65536 → get_or (tabled_room d (replicate n 0)) i 0 ≡ 0
  table_zero i l = tabled_other d (replicate n 0) i (λ p k a b e. omega arith) ∙ get_or-replicate n i 0 0 (omega arith)

  table_length : length (tabled_room d (replicate n 0)) ≡ n
  table_length = tabled_long d (replicate n 0) ∙ length-replicate n 0

  table-clear : take 32768 (tabled_room d (replicate n 0)) ≡ replicate 32768 0
  table-clear = zeros_take 32768 (tabled_room d (replicate n 0)) (omega (arith, table_length)) (λ i l. table_zero i (omega arith))

fit_table : (d room : List ℕ) → totals_fit d ≡ true → allotted_room d room ≡ tabled_room d room
unfolding allotted_room
fit_table d room e = rw (allotted_room, e)

module _ (d room₀ : List ℕ) (c : Cleared d room₀) (lists : list_refusal d ≡ none) where
  pub may_fill : TableFillable d room₀
  may_fill = let s = lists_passed d lists in fillable d room₀ s.0 s.2 c.enough

  module _ (totals : total_refusal d ≡ none) (room : List ℕ) (is : room ≡ allotted_room d room₀) where
    inside : row_base (parts_of d) ≤ length room₀
    inside = may_fill.ready.inside

    table_is : room ≡ tabled_room d (replicate (length room₀) 0)
    table_is = is ∙ (fit_table d room₀ (totals_passed d totals) ∙ ap (tabled_room d) c.zeros)

    room_long : length room ≡ length room₀
    room_long = ap length table_is ∙ table_length d (length room₀) (omega (arith, inside))

    pub stays_clear : ClearRoom d room
    stays_clear = record { wide = omega (arith, room_long, inside); clear = ap (take 32768) table_is ∙ table-clear d (length room₀) (omega (arith, inside)) }

    pub may_judge : Judgeable d room
    may_judge = record {
      form = (lists_passed d lists).0;
      table = rw table_is (tabled_room_lem d (replicate (length room₀) 0) (omega (arith, inside, length-replicate {A = ℕ} (length room₀) 0)));
      wide = stays_clear.wide;
      clear = stays_clear.clear;
    }

    pub may_search : place_refusal d ≡ none → ReadsSearchable d room
    may_search places = record { form = (lists_passed d lists).0; planned = (places_passed d places).0; cleared = stays_clear }

    pub room_ready : (last : List ℕ) → last ≡ searched_room d room → plan_refusal d ≡ none → last ≡ ready_room d (length room₀)
    unfolding searched_room ready_room
    room_ready last e h =
        e ∙ (ap (λ (o : Option Place). read_rows d room (parts_up_to o (parts_of d))) (passed d h).nothing ∙ ap (λ (l : List ℕ). read_rows d l (parts_of d)) table_is)

-- ---- what the room of an accepted plan holds

module _ (d room : List ℕ) (n : ℕ) where
  abbrev rows : List ℕ
  rows = read_rows d room n

  rows-word : (p k : ℕ) → k < 10 → cell_at rows p k ≡ cell_at room p k
  rows-word p k h = read_word d room n p k (omega arith) (λ e. omega arith) (λ e. omega arith)

  rows-tabled : Tabled d room → Tabled d rows
  rows-tabled t = record {
    counted = λ p l.
        let c = t.counted p l in
        record {
          body-low = rows-word p 0 (omega arith) ∙ c.body-low;
          body-high = rows-word p 1 (omega arith) ∙ c.body-high;
          locations = rows-word p 2 (omega arith) ∙ c.locations;
          sram-count = rows-word p 3 (omega arith) ∙ c.sram-count;
          duplicate-words = rows-word p 4 (omega arith) ∙ c.duplicate-words;
          write-outs = rows-word p 5 (omega arith) ∙ c.write-outs;
        };
    allotted = λ s i l m.
        let a = t.allotted s i l m in
        record {
          block = rows-word _ 6 (omega arith) ∙ a.block;
          state-start = rows-word _ 7 (omega arith) ∙ a.state-start;
          sram-start = rows-word _ 8 (omega arith) ∙ a.sram-start;
          ranked = rows-word _ 9 (omega arith) ∙ a.ranked;
        };
  }

module _ (d : List ℕ) (n : ℕ) (h : row_base (parts_of d) ≤ n) where
  abbrev table : List ℕ
  table = tabled_room d (replicate n 0)

  some-room : 65536 ≤ n
  some-room = omega arith

  ready-long : length (ready_room d n) ≡ n
  unfolding ready_room
  ready-long = read_long d table (parts_of d) ∙ table_length d n some-room

  ready-zero : (i : ℕ) → i < 65536 → get_or (ready_room d n) i 0 ≡ 0
  unfolding ready_room
  ready-zero i l = read_low d table (parts_of d) i l ∙ table_zero d n some-room i l

  ready-front : take 65536 (ready_room d n) ≡ replicate 65536 0
  ready-front = zeros_take 65536 (ready_room d n) (omega (arith, ready-long)) ready-zero

  ready-rounds : (p : ℕ) → p < parts_of d → cell_at (ready_room d n) p col.rounds ≡ rounds_in d p
  unfolding ready_room
  ready-rounds p l = read_rounds_lem d table (parts_of d) p l (omega (arith, table_length d n some-room))

  ready-sizes : (p : ℕ) → p < parts_of d → cell_at (ready_room d n) p col.piece_size ≡ part_size (plan_lanes d) d p
  unfolding ready_room
  ready-sizes p l = read_size d table (parts_of d) p l (omega (arith, table_length d n some-room))

  ready-tabled : Tabled d (ready_room d n)
  unfolding ready_room
  ready-tabled = rows-tabled d table (parts_of d) (tabled_room_lem d (replicate n 0) (omega (arith, length-replicate {A = ℕ} n 0)))

  pub ready : PlanReady d (ready_room d n)
  ready = record { wide = omega (arith, ready-long); tabled = ready-tabled; rounds = ready-rounds; sizes = ready-sizes; front = ready-front }

-- ---- 32, and the rest

module _ (d room : List ℕ) where
  pub short_room : length room < plan_room_words d → room ≡ room_left d room
  unfolding room_left
  short_room h = rw (room_left, lt-leb _ _ h)

  module _ (enough : plan_room_words d ≤ length room) where
    left : room_left d room ≡ elim (plan_refusal d) [ some x ↦ replicate (length room) 0 | none ↦ ready_room d (length room) ]
    unfolding room_left
    left = rw (room_left, le-leb _ _ enough)

    pub refused_room : (plan_refusal d ≡ none → ⊥) → replicate (length room) 0 ≡ room_left d room
    refused_room h = go (plan_refusal d) refl
      where
        go : (o : Option Refusal) → plan_refusal d ≡ o → replicate (length room) 0 ≡ room_left d room
        go none e = absurd (h e)
        go (some x) e = sym (rw e at left)

    pub ready_room_lem : plan_refusal d ≡ none → ready_room d (length room) ≡ room_left d room
    ready_room_lem e = sym (rw e at left)

    -- the room is cleared once more, or has what an accepted plan leaves
    pub again_room : (z a b : List ℕ) → z ≡ replicate (length room) 0 → length a ≡ length z → b ≡ replicate (length a) 0 → (plan_refusal d ≡ none → ⊥)
        → b ≡ room_left d room
    again_room z a b e n f h =
        let m : length a ≡ length room = n ∙ (ap length e ∙ length-replicate (length room) 0) in
        f ∙ (ap (λ (k : ℕ). replicate k 0) m ∙ refused_room h)

    module _ (z last : List ℕ) (e : z ≡ replicate (length room) 0) (h : plan_refusal d ≡ none) (is : last ≡ ready_room d (length z)) where
      last-is : last ≡ ready_room d (length room)
      last-is = is ∙ ap (ready_room d) (ap length e ∙ length-replicate (length room) 0)

      pub last_room : last ≡ room_left d room
      last_room = last-is ∙ ready_room_lem h

      pub last_ready : PlanReady d last
      last_ready =
          let s = passed d h in
          rw last-is (ready d (length room) (fillable d room s.form s.counts enough).ready.inside)
