-- What the row of a part gives its writer: the place of its body, and its numbers.
-- Assumes nothing.
use mathlib.Core.Path.{◌≡◌, sym, ap, ap₂, ◌∙◌}
use mathlib.Core.List.{List, ◌++◌}
use Prim.Native.Nat.{ℕ, ◌+◌, ◌*◌, ◌-◌, ◌≤◌, ◌<◌}
use native.Mathlib.Omega.{arith}
use borrow.Rule.Slice.PartMut.{put_mid, mid_len}
use lib.ListN.{length, take, drop, replicate, take-append-drop}
use lib.Seq.{sets}
use Rattle.words.specs.Edition.{part_words}
use Rattle.words.proofs.ListLaws.{put_sets}
use Rattle.plan_record.specs.declared.bodies.Body.{Body}
use Rattle.plan_record.specs.Record.{plan_lanes, parts_of}
use Rattle.plan_record.specs.Body.{BodyReady, BodyOf}
use Rattle.plan_record.proofs.PlanFormLaws.{Formed, formed, body_ready}
use Rattle.plan_rows.specs.Columns as col
use Rattle.plan_rows.specs.Rows.{cell_at, CellIn}
use Rattle.script.specs.declared.head.Numbers.{Numbers}
use Rattle.script.specs.Script.{part_script}
use Rattle.script.specs.Writers.{NumbersOf}
use Rattle.script_front.specs.Build.{Buildable}
use Rattle.plan_refusals.proofs.PassedLaws.{Passed, passed, placed_reads}
use Rattle.script_assembly.specs.WrittenSoFar.{length_of}
use Rattle.script_layout.specs.Layout.{AcceptedTabled, PartRoom, row_script}

-- the room of a part that stands for part p
pub room_of_part : {e d room : List ℕ} {q p at m : ℕ} → e ≡ d → q ≡ p → PartRoom d room p at m → PartRoom e room q at m
room_of_part x y r = rw (x, y) r

module _ (d room : List ℕ) (h : AcceptedTabled d room) where
  pub plan_passed : Passed d
  plan_passed = passed d h.accepted

  pub plan_formed : Formed d
  plan_formed = formed d plan_passed.form

  pub parts_few : parts_of d ≤ 262144
  parts_few = plan_formed.sizes.headed.parts

  -- the first words are clear again
  pub room_same : (after : List ℕ) → after ≡ replicate 65536 0 ++ drop 65536 room → after ≡ room
  room_same after e = e ∙ ap (λ (l : List ℕ). l ++ drop 65536 room) (sym h.ready.front) ∙ take-append-drop 65536 room

  module _ (p : ℕ) (l : p < parts_of d) where
    pub cell_in : (k : ℕ) → k < 16 → CellIn room p k
    cell_in k u = record { part = omega (arith, parts_few); column = u; inside = omega (arith, h.ready.wide) }

    pub body_there : (low high : ℕ) → low ≡ cell_at room p col.body_low → high ≡ cell_at room p col.body_high → BodyReady d p (low + 4294967296 * high)
    body_there low high e f =
        let c = h.ready.tabled.counted p l in
        body_ready d plan_formed.sizes p _ l (omega (arith, e ∙ c.body-low, f ∙ c.body-high))

    pub row_numbers : (b : Body) → BodyOf d p b → (x : Numbers) → x.stages ≡ b.stages → x.writeouts ≡ cell_at room p col.write_outs → x.srams ≡ cell_at room p col.srams
        → x.rounds ≡ cell_at room p col.rounds → x.duplicates ≡ cell_at room p col.duplicates → NumbersOf d p x
    row_numbers b is x s w r o u =
        let c = h.ready.tabled.counted p l in
        record {
          stages = s ∙ is.stages;
          writeouts = w ∙ c.write-outs;
          srams = r ∙ c.sram-count;
          rounds = o ∙ h.ready.rounds p l;
          duplicates = u ∙ c.duplicate-words;
        }

    pub buildable : (b : Body) → BodyOf d p b → Buildable d p b
    buildable b is = record {
      form = plan_passed.form;
      part = l;
      body = is;
      gates = plan_passed.gates;
      locations = plan_passed.counts;
      positions = plan_passed.twelve;
      tables = plan_passed.thirteen;
      reads = placed_reads d h.accepted p l;
    }

    module _ (x : Numbers) (are : NumbersOf d p x) where
      part_long : part_words (plan_lanes d) x.rounds x.stages ≡ length_of (plan_lanes d) d p
      unfolding length_of
      part_long = ap₂ (part_words (plan_lanes d)) are.rounds are.stages

      -- the script in the words from `at` on, which were lent
      module _ (at next size n : ℕ) (words : List ℕ) (lanes : n ≡ plan_lanes d) (sized : size ≡ part_words n x.rounds x.stages) (is : next ≡ at + size) (fits : at + length_of (plan_lanes d) d p ≤ length words) where
        sized-as : size ≡ part_words (plan_lanes d) x.rounds x.stages
        sized-as = sized ∙ ap (λ (i : ℕ). part_words i x.rounds x.stages) lanes

        pub next_is : next ≡ at + length_of (plan_lanes d) d p
        next_is = is ∙ ap (λ (i : ℕ). at + i) (sized-as ∙ part_long)

        pub next_in : next ≤ length words
        next_in = omega (arith, next_is)

        between : next - at ≡ size
        between = omega (arith, is)

        pub lent_long : length (take (next - at) (drop at words)) ≡ part_words (plan_lanes d) x.rounds x.stages
        lent_long = mid_len at next words next_in ∙ (between ∙ sized-as)

        pub part_written : (last : ℕ) → (x.last ≡ last) × (x.state ≡ cell_at room p col.state_start) × (x.sram ≡ cell_at room p col.sram_start) → (out : List ℕ)
            → length out ≡ length (take (next - at) (drop at words)) → out ≡ part_script (plan_lanes d) d p x.last x.state x.sram
            → put_mid at (next - at) words out ≡ sets words at (row_script d room p last)
        part_written last (a, b, c) out kept e =
            put_sets words at (next - at) out (omega (arith, is, next_in)) (kept ∙ mid_len at next words next_in)
            ∙ ap (sets words at) (e ∙ ap₂ (λ (u v : ℕ). part_script (plan_lanes d) d p u v x.sram) a b ∙ ap (part_script (plan_lanes d) d p last (cell_at room p col.state_start)) c)
