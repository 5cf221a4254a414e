-- All parts of a plan: counting them row by row, their totals, and the rows of all major stages.
-- Assumes nothing.
use mathlib.Core.Path.{◌≡◌, refl, sym, ap, ◌∙◌}
use mathlib.Core.Bool.{Bool, true, false, ◌&&◌}
use mathlib.Core.Option.{none}
use mathlib.Core.List.{List}
use Prim.Native.Nat.{ℕ, ◌+◌, ◌-◌, ◌/◌, ◌%◌, ◌^◌, ◌≤◌, ◌<◌, min}
use native.Mathlib.Nat.{min-eq_left}
use native.Mathlib.Numerals.{add-one}
use native.Mathlib.Omega.{arith}
use borrow.Author.Tests.{le-leb, lt-leb}
use lib.Dec.{leb}
use lib.ListN.{length, set}
use Rattle.words.specs.Sum.{sum_to}
use Rattle.plan_record.specs.declared.bodies.Body.{Body}
use Rattle.plan_record.specs.Record.{blocks_of, majors_of, layout_of, count_at, parts_before, parts_of}
use Rattle.plan_record.specs.Body.{BodyOf}
use Rattle.plan_record.specs.Form.{plan_form, plan_room_words}
use Rattle.plan_record.proofs.PlanFormLaws.{formed}
use Rattle.plan_record.proofs.RecordLaws.{lanes_range}
use Rattle.plan_counts.specs.declared.Counts.{Counts}
use Rattle.plan_counts.specs.Counts.{write_outs, refusal7}
use Rattle.plan_counts.specs.Parts.{CountsOf}
use Rattle.plan_counts.proofs.PartCountLaws.{countable, counts_passed}
use Rattle.plan_blocks.specs.declared.firsts.Firsts.{Firsts}
use Rattle.plan_rows.specs.Columns as col
use Rattle.plan_rows.specs.Rows.{cell}
use Rattle.plan_blocks.specs.Blocks.{state_words, sram_words, totals_fit}
use Rattle.plan_blocks.specs.PartTable.{Tabled}
use Rattle.plan_blocks.specs.TableFill.{stage_rows, allot_rows, count_row, count_rows, counted_room, tabled_room, allotted_room, FirstsOf, StageReady, TableFillable, RowReady, Tallied, Allottable}
use Rattle.plan_blocks.proofs.StateStartLaws.{state_first, sram_first}
use Rattle.plan_table.proofs.PartTableLaws.{allot_long, allot_counted, count_long, counted_room_lem, counted_long, tabled_room_lem}

-- ---- ranges

pub majors_few : (d : List ℕ) → plan_form d ≡ true → majors_of d ≤ 64
majors_few d h = (formed d h).head.majors

pub layout_few : (d : List ℕ) → plan_form d ≡ true → layout_of d ≤ 2 ^ 20
layout_few d h = (formed d h).head.layout

-- what `allot` asks for: working room enough, and neither 5 nor 7
pub fillable : (d room : List ℕ) → plan_form d ≡ true → refusal7 d ≡ none → plan_room_words d ≤ length room → TableFillable d room
unfolding plan_room_words
fillable d room f c h =
    let e : min (majors_of d) 64 ≡ majors_of d = min-eq_left (majors_few d f) in
    record { ready = record { form = f; inside = omega (arith, ap (parts_before d) e) }; counts = c }

-- ---- the counts, row by row

pub count_rows_none : (d room : List ℕ) → count_rows d room 0 ≡ room
unfolding count_rows
count_rows_none d room = refl

pub count_more : (d room : List ℕ) (p : ℕ) → count_rows d room (p + 1) ≡ count_row d (count_rows d room p) p
unfolding count_rows
count_more d room p = rw add-one

pub row_ready : (d room₀ room : List ℕ) (p : ℕ) (b : Body) → TableFillable d room₀ → room ≡ count_rows d room₀ p → p < parts_of d → BodyOf d p b → RowReady d room p b
row_ready d room₀ room p b t e l h =
    let g = formed d t.ready.form in
    record {
      part = omega (arith, g.sizes.headed.parts);
      inside = omega (arith, t.ready.inside, ap length e ∙ count_long d room₀ p);
      countable = countable d p b t.ready.form l h;
      few = omega (arith, (counts_passed d t.counts p l).words, lanes_range d);
    }

pub locations_few : (d room : List ℕ) (p : ℕ) (b : Body) → RowReady d room p b → b.locations ≤ 256
unfolding write_outs
locations_few d room p b t = omega (arith, t.few, t.countable.body.locations)

-- three cells, one after the other
pub three_cells : (r r1 r2 r3 : List ℕ) (i j k a b c : ℕ) → r1 ≡ set r i a → r2 ≡ set r1 j b → r3 ≡ set r2 k c → r3 ≡ set (set (set r i a) j b) k c
three_cells r r1 r2 r3 i j k a b c e f g = cc

pub row_filled : (d room bodied filled : List ℕ) (p : ℕ) (b : Body) (c : Counts)
    → bodied ≡ set (set (set room (cell p col.body_low) (b.at % 2 ^ 32)) (cell p col.body_high) (b.at / 2 ^ 32)) (cell p col.locations) b.locations
    → filled ≡ set (set (set bodied (cell p col.srams) c.srams) (cell p col.duplicates) c.duplicates) (cell p col.write_outs) c.words
    → BodyOf d p b → CountsOf d p c → filled ≡ count_row d room p
unfolding count_row
row_filled d room bodied filled p b c e f h g = f ∙ rw (e, h.place, h.locations, g.srams-are, g.duplicates-are, g.words_are)

-- ---- totals

pub state_over : (d : List ℕ) → 134217728 < state_words d → false ≡ totals_fit d
unfolding totals_fit
state_over d h = sym (ap (λ (b : Bool). b && leb (sram_words d) (2 ^ 32 - 1)) (lt-leb _ _ h))

pub state_within : (d : List ℕ) → state_words d ≤ 134217728 → leb (sram_words d) 4294967295 ≡ totals_fit d
unfolding totals_fit
state_within d h = sym (ap (λ (b : Bool). b && leb (sram_words d) (2 ^ 32 - 1)) (le-leb _ _ h))

-- ---- the rows of the major stages

pub allot_none : (d room : List ℕ) → allot_rows d room 0 ≡ room
unfolding allot_rows
allot_none d room = refl

pub allot_more : (d room : List ℕ) (s : ℕ) → allot_rows d room (s + 1) ≡ stage_rows d (allot_rows d room s) s
unfolding allot_rows
allot_more d room s = rw add-one

pub firsts_none : (d : List ℕ) (layout : ℕ) → layout ≡ layout_of d → FirstsOf d 0 (record { parts = 0; state = (layout + 31) / 32; sram = 0 })
unfolding parts_before sum_to
firsts_none d layout e = record { parts = refl; state = ap (λ (x : ℕ). (x + 31) / 32) e ∙ sym (state_first d); sram = sym (sram_first d) }

pub stage_ready : (d room₀ room : List ℕ) (s blocks count : ℕ) (f : Firsts) → Allottable d room₀ → room ≡ allot_rows d room₀ s → s < majors_of d
    → blocks ≡ blocks_of d → count ≡ count_at d s → FirstsOf d s f → StageReady d room s blocks count f
stage_ready d room₀ room s blocks count f t e l b c h = record {
  form = t.tallied.ready.form;
  totals = t.totals;
  inside = omega (arith, t.tallied.ready.inside, ap length e ∙ allot_long d room₀ s);
  counted = λ p u. rw e (allot_counted d room₀ s p (t.tallied.counted p u));
  stage = l;
  blocks-are = b;
  count-is = c;
  firsts = h;
}

-- ---- the whole

module _ (d room₀ room : List ℕ) (t : TableFillable d room₀) (e : room ≡ counted_room d room₀) where
  pub tallied : Tallied d room
  tallied = record {
    ready = record { form = t.ready.form; inside = omega (arith, t.ready.inside, ap length e ∙ counted_long d room₀) };
    counted = λ p l. rw e (counted_room_lem d room₀ t.ready.inside p l);
  }

  pub room_counted : totals_fit d ≡ false → room ≡ allotted_room d room₀
  unfolding allotted_room
  room_counted f = rw (f, allotted_room) e

  module _ (done : List ℕ) (g : done ≡ allot_rows d room (majors_of d)) where
    pub room_full : totals_fit d ≡ true → done ≡ allotted_room d room₀
    unfolding allotted_room tabled_room
    room_full f = rw (f, allotted_room) (g ∙ ap (λ (r : List ℕ). allot_rows d r (majors_of d)) e)

    pub room_tabled : Tabled d done
    unfolding tabled_room
    room_tabled = rw (g, e) (tabled_room_lem d room₀ t.ready.inside)
