-- The sums that the sizes are: over the parts by their rows, over the major stages by their counts.
-- Assumes nothing.
use mathlib.Core.Path.{◌≡◌, refl, sym, ap, ap₂, ◌∙◌}
use mathlib.Core.List.{List}
use Prim.Native.Nat.{ℕ, ◌+◌, ◌*◌, ◌-◌, ◌≤◌, ◌<◌}
use native.Mathlib.Nat.{mul-le-mul_left}
use native.Mathlib.Omega.{arith}
use lib.ListN.{length}
use Rattle.words.specs.Edition.{part_words}
use Rattle.words.specs.Sum.{sum_to}
use Rattle.words.proofs.SumLaws.{sum_more}
use Rattle.plan_record.specs.Record.{plan_lanes, blocks_of, majors_of, count_at, parts_of, stages_of}
use Rattle.plan_record.proofs.RecordLaws.{lanes_range}
use Rattle.plan_blocks.specs.Blocks.{state_words, sram_words}
use Rattle.plan_rows.specs.Columns as col
use Rattle.plan_rows.specs.Rows.{cell_at}
use Rattle.plan_blocks.specs.TableFill.{Tallied}
use Rattle.script.proofs.PartLengthLaws.{lanes_even}
use Rattle.script_assembly.specs.Assembly.{script_words}
use Rattle.script_assembly.specs.WrittenSoFar.{length_of, empty_blocks}
use Rattle.script_assembly.proofs.ScriptLengthLaws.{words_sum}
use Rattle.script_layout.specs.Layout.{AcceptedTabled}
use Rattle.script_layout.proofs.RowLaws.{plan_passed, plan_formed}
use Rattle.flatten.specs.declared.sizes.Sizes.{Sizes}
use Rattle.flatten.specs.Flatten.{sizes_of}
use Rattle.flatten.specs.FlattenedAnswer.{sizes_in}

-- ---- the empty blocks

module _ (d : List ℕ) where
  pub empty_none : 0 ≡ empty_blocks d 0
  unfolding empty_blocks sum_to
  empty_none = refl

  pub empty_more : (s sum left blocks count : ℕ) → sum ≡ empty_blocks d s → blocks ≡ blocks_of d → count ≡ count_at d s → left ≡ blocks - count → sum + left ≡ empty_blocks d (s + 1)
  unfolding empty_blocks
  empty_more s sum left blocks count a b c e =
      ap₂ ◌+◌ a (e ∙ ap₂ ◌-◌ b c) ∙ sym (sum_more (λ t. blocks_of d - count_at d t) s)

-- ---- the words of the parts, and of SRAM

module _ (d room : List ℕ) (h : AcceptedTabled d room) where
  pub majors_few : majors_of d ≤ 64
  majors_few = (plan_formed d room h).head.majors

  blocks-few : blocks_of d ≤ 1024
  blocks-few = (plan_formed d room h).head.blocks

  pub starts_few : (blocks majors : ℕ) → blocks ≡ blocks_of d → majors ≡ majors_of d → blocks * majors ≤ 65536
  starts_few blocks majors b m =
      let u : majors ≤ 64 = omega (arith, majors_few) in
      omega (arith, mul-le-mul_left blocks u, blocks-few)

  pub parts_none : 0 ≡ sum_to (length_of (plan_lanes d) d) 0
  unfolding sum_to
  parts_none = refl

  pub parts_next : (n p sum more rounds stages : ℕ) → n ≡ plan_lanes d → p < parts_of d → sum ≡ sum_to (length_of (plan_lanes d) d) p → rounds ≡ cell_at room p col.rounds → stages ≡ stages_of d p
      → more ≡ part_words n rounds stages → sum + more ≡ sum_to (length_of (plan_lanes d) d) (p + 1)
  unfolding length_of
  parts_next n p sum more rounds stages lanes l a r t b =
      let long : more ≡ length_of (plan_lanes d) d p = b ∙ ap (λ (i : ℕ). part_words i rounds stages) lanes ∙ ap₂ (part_words (plan_lanes d)) (r ∙ h.ready.rounds p l) t in
      ap₂ ◌+◌ a long ∙ sym (sum_more (length_of (plan_lanes d) d) p)

  -- as the totals ask for it
  pub tallied : Tallied d room
  tallied = record { ready = record { form = (plan_passed d room h).form; inside = h.ready.wide }; counted = h.ready.tabled.counted }

  -- ---- the whole

  pub script_long : (n parts empty : ℕ) → n ≡ plan_lanes d → parts ≡ sum_to (length_of (plan_lanes d) d) (parts_of d) → empty ≡ plan_lanes d * empty_blocks d (majors_of d)
      → parts + empty + 8 * n ≡ length (script_words (plan_lanes d) d)
  script_long n parts empty lanes a b =
      omega (arith, a, b, lanes, words_sum (plan_lanes d) d (omega (arith, lanes_range d)) (lanes_even d) (plan_formed d room h).head.some_blocks)

  pub sizes_are : (blocks majors words state sram : ℕ) → blocks ≡ blocks_of d → majors ≡ majors_of d → words ≡ length (script_words (plan_lanes d) d) → state ≡ state_words d → sram ≡ sram_words d
      → ◌≡◌ {A = Sizes} (record { starts = blocks * majors + 1; words = words; state = state; sram = sram }) (sizes_in (sizes_of (plan_lanes d) d))
  unfolding sizes_of
  sizes_are blocks majors words state sram b m w t r = rw (b, m, w, t, r)
