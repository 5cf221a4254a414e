-- Stage 0: each of its entries is the local position of a bit that the part requests, so that the read turn left the pin's state bit there.
-- Assumes nothing.
use mathlib.Core.Path.{◌≡◌, refl, sym, ap, ap₂, ◌∙◌}
use mathlib.Core.Bool.{Bool, true, false}
use mathlib.Core.Option.{none, some}
use mathlib.Core.List.{List, [], ◌∷◌}
use mathlib.Core.Logic.{◌⊎◌, ⊎_elim}
use Prim.Native.Nat.{ℕ, zero, suc, ◌+◌, ◌-◌, ◌/◌, ◌%◌, ◌^◌, ◌≤◌, ◌<◌}
use native.Mathlib.Omega.{arith}
use borrow.Author.Tests.{lt-ltb, le-ltb, ne_eqb, eqb-false}
use lib.Dec.{eqb}
use lib.ListN.{get_or}
use Rattle.words.specs.Bit.{bit, bit_at}
use Rattle.reads.specs.ReadSet.{pairs_of, broken}
use Rattle.reads.specs.Packing.{times, Packing}
use Rattle.reads.specs.Local.{local_of}
use Rattle.reads.specs.ReadTurn.{lane_word}
use Rattle.reads.proofs.SetAnswerLaws.{placed_packing}
use Rattle.reads.proofs.SetLaws.{pairs_small}
use Rattle.reads.proofs.LocalLaws.{Requested, own_positions}
use Rattle.reads.proofs.SectionWordLaws.{section_word, section_mask}
use Rattle.reads.proofs.ReadTurnLaws.{ReadBy, read_requested}
use Rattle.reads_asked.proofs.RequestLaws.{set_requests}
use Rattle.plan_record.specs.Record.{plan_lanes, slots_of, majors_of, parts_of, stages_of, level_at}
use Rattle.plan_record.proofs.RecordLaws.{lanes_range}
use Rattle.words.specs.Pins.{empty}
use Rattle.plan_record.proofs.PlanFormLaws.{formed}
use Rattle.plan_gates.specs.Gates.{value}
use Rattle.plan_gates.proofs.ValueLaws.{value_read}
use Rattle.plan_counts.specs.Counts.{write_outs}
use Rattle.plan_counts.proofs.PartCountLaws.{counts_passed}
use Rattle.plan_blocks.specs.Blocks.{state_of, state_words}
use Rattle.plan_blocks.proofs.TotalLaws.{sum-most}
use Rattle.plan_blocks.proofs.StateStartLaws.{state_mono}
use Rattle.plan_positions.specs.Positions.{major_of}
use Rattle.plan_winners.specs.Planned.{Planned, planned}
use Rattle.plan_positions.specs.Input.{planned_bit, input}
use Rattle.plan_positions.proofs.MajorLaws.{major_at}
use Rattle.plan_positions.proofs.PositionLaws.{RightlyPlanned, read_planned, input_read, bit_unstaged, bit_staged}
use Rattle.values.specs.Values.{pin_value}
use Rattle.plan_reads.specs.PartReads.{bit_number, or_zero, asked_by, asked_to, read_words, part_reads, part_packed, part_lanes, local_position}
use Rattle.plan_reads.specs.ReadsReady.{Narrow, AllNarrow}
use Rattle.plan_reads.proofs.AskedLaws.{slot_asks, narrow_append}
use Rattle.plan_reads.proofs.SearchedLaws.{reads_slot}
use Rattle.plan_reads.proofs.FirstEntryLaws.{words_form, words_small, asked_in}
use Rattle.script.specs.Script.{stage_entry, pin_entry}
use Rattle.run_machine.specs.Part.{read_word_at, read_mask_at, entry_at}
use Rattle.run_machine.specs.Turn.{state_word, read_row}
use Rattle.run_machine.proofs.TurnLaws.{read_lane}
use Rattle.promise_decode.specs.Decoded.{Decoded}
use Rattle.promise_meaning.specs.Meaning.{PassedPart, Gathers}

-- ---- the bit of a planned position is that of its word, the state chosen by bit 31

module _ (old new : List ℕ) where
  word-old : (w : ℕ) → w < 2 ^ 31 → state_word old new w ≡ get_or old w 0
  unfolding state_word
  word-old w h = rw (lt-ltb w (2 ^ 31) h, state_word)

  word-new : (w v : ℕ) → w ≡ 2 ^ 31 + v → state_word old new w ≡ get_or new v 0
  unfolding state_word
  word-new w v h =
      let past : 2 ^ 31 ≤ w = omega arith in
      let e : w - 2 ^ 31 ≡ v = omega arith in
      rw (le-ltb w (2 ^ 31) past, state_word, e)

  word-bit : (y : Planned) → y.place < 2 ^ 32 → (y.staged ≡ 0) ⊎ (y.staged ≡ 1)
      → planned_bit old new (some y) ≡ some (bit (state_word old new (bit_number y / 32)) (bit_number y % 32))
  unfolding bit_at
  word-bit y small mark = ⊎_elim
      (λ e.
      let w : bit_number y / 32 ≡ y.place / 32 = omega arith in
      let k : bit_number y % 32 ≡ y.place % 32 = omega arith in
      bit_unstaged old new y e ∙ ap some (sym (ap₂ bit (ap (state_word old new) w ∙ word-old (y.place / 32) (omega arith)) k)))
      (λ e.
      let w : bit_number y / 32 ≡ 2 ^ 31 + y.place / 32 = omega arith in
      let k : bit_number y % 32 ≡ y.place % 32 = omega arith in
      bit_staged old new y e ∙ ap some (sym (ap₂ bit (word-new (bit_number y / 32) (y.place / 32) w) k)))
      mark

-- a pin's value is the gates' value
pub pin_value_lem : (d : List ℕ) (p : ℕ) (old new : List ℕ) (x : ℕ) → (x ≡ empty → ⊥) → pin_value d p old new x ≡ value d (input d p old new) x
unfolding pin_value
pin_value_lem d p old new x h = rw (ne_eqb x empty h, pin_value)

module _ (d : List ℕ) (p : ℕ) (s : PassedPart d p) where
  -- ---- the bits that the part asks for have words of 27 bits

  state-small : state_words d < 2 ^ 27
  unfolding state_of
  state-small =
      let f = formed d s.form in
      let most = sum-most 256 (write_outs d) (parts_of d) (λ q l. omega (arith, (counts_passed d s.seven q l).words, lanes_range d)) in
      omega (arith, f.head.layout, f.sizes.headed.parts, most)

  slot-planned : (j : ℕ) → j < slots_of d → (level_at d p 0 j ≡ empty → ⊥) → RightlyPlanned d (major_of d p) (level_at d p 0 j)
  slot-planned j l full = read_planned d s.twelve p (level_at d p 0 j) s.part (reads_slot d p j l) full

  place_small : (x : ℕ) (r : RightlyPlanned d (major_of d p) x) → r.position.place < 2 ^ 32
  place_small x r = ⊎_elim
      (λ e. omega (arith, r.unstaged e, state-small))
      (λ e. omega (arith, r.before e, state_mono d (major_of d p) (majors_of d) (omega (arith, (major_at d p s.part).within)), state-small))
      r.mark

  place-narrow : (x : ℕ) (r : RightlyPlanned d (major_of d p) x) → Narrow (bit_number r.position)
  place-narrow x r = ⊎_elim
      (λ e. record { small = omega (arith, place_small x r); place = omega (arith, place_small x r) })
      (λ e. record { small = omega (arith, place_small x r); place = omega (arith, place_small x r) })
      r.mark

  slot-narrow : (j : ℕ) → j < slots_of d → AllNarrow (slot_asks d p j)
  unfolding asked_by
  slot-narrow j l = by (eqb (level_at d p 0 j) empty) refl
    where
      one : (q : ℕ) → Narrow q → AllNarrow (q ∷ [])
      one q n zero h = n
      one q n (suc i) h = absurd (omega arith)

      by : (b : Bool) → eqb (level_at d p 0 j) empty ≡ b → AllNarrow (asked_by b (planned d (level_at d p 0 j)))
      by true e = λ i h. absurd (omega arith)
      by false e =
          let r = slot-planned j l (eqb-false _ _ e) in
          rw (r.is, asked_by) (one (bit_number r.position) (place-narrow _ r))

  asked_narrow : (n : ℕ) → n ≤ slots_of d → AllNarrow (asked_to d p n)
  unfolding asked_to
  asked_narrow zero h = λ i l. absurd (omega arith)
  asked_narrow (suc n) h = narrow_append (asked_to d p n) (slot_asks d p n) (asked_narrow n (omega arith)) (slot-narrow n (omega arith))

  -- ---- so the part's lanes are a packing of its set

  narrow : AllNarrow (asked_to d p (slots_of d))
  narrow = asked_narrow (slots_of d) (omega arith)

  packing : Packing (plan_lanes d) (pairs_of (read_words d p)) (part_lanes (plan_lanes d) d p)
  unfolding part_reads
  packing = placed_packing (plan_lanes d) (pairs_of (read_words d p)) (part_packed (plan_lanes d) d p) s.reads (omega (arith, lanes_range d))

  in_form : broken (pairs_of (read_words d p)) ≡ none
  in_form = (words_form d p narrow).form

  masks-small : (w m : ℕ) → 0 < times w m (pairs_of (read_words d p)) → m < 2 ^ 32
  masks-small w m h = (pairs_small 0 (read_words d p) (2 ^ 32) (words_small d p narrow) w m h).1

  slot-requested : (j : ℕ) (l : j < slots_of d) (full : level_at d p 0 j ≡ empty → ⊥)
      → Requested (pairs_of (read_words d p)) (bit_number (slot-planned j l full).position / 32) (bit_number (slot-planned j l full).position % 32)
  unfolding read_words
  slot-requested j l full =
      let r = slot-planned j l full in
      let (i, k, g) = asked_in d p (slots_of d) j r.position l full r.is in
      rw g at (set_requests (asked_to d p (slots_of d)) i k)

  first_entry : (j : ℕ) → (level_at d p 0 j ≡ empty → ⊥) → (y : Planned) → planned d (level_at d p 0 j) ≡ some y
      → stage_entry (plan_lanes d) d p 0 j ≡ or_zero (local_of (part_lanes (plan_lanes d) d p) (bit_number y / 32) (bit_number y % 32))
  unfolding stage_entry pin_entry local_position
  first_entry j full y e = rw (ne_eqb _ _ full, stage_entry, pin_entry, e, local_position)

  -- ---- what the read turn leaves

  module _ (last state sram : ℕ) (W : List ℕ) (o : ℕ) (w : Decoded (plan_lanes d) d p last state sram W o) (old new : List ℕ) where
    read-turn : ReadBy (plan_lanes d) (part_lanes (plan_lanes d) d p) (state_word old new) (λ i r. state_word old new (read_word_at (plan_lanes d) W o r i)) (λ i r. read_mask_at (plan_lanes d) W o r i) (read_row (plan_lanes d) W o old new)
    read-turn = record {
      words = λ i r h l. ap (state_word old new) (w.read_word r i l h ∙ sym (section_word (plan_lanes d) (part_lanes (plan_lanes d) d p) packing.wide r i h));
      masks = λ i r h l. w.read_mask r i l h ∙ sym (section_mask (plan_lanes d) (part_lanes (plan_lanes d) d p) packing.wide r i h);
      left = λ i h. read_lane (plan_lanes d) W o old new i h ∙ ap (lane_word (λ r. state_word old new (read_word_at (plan_lanes d) W o r i)) (λ r. read_mask_at (plan_lanes d) W o r i)) w.rounds;
    }

    pub first_gathers : 0 < stages_of d p → Gathers d p old new W o 0 (read_row (plan_lanes d) W o old new)
    first_gathers some_stages j l full =
        let x = level_at d p 0 j in
        let r = slot-planned j l full in
        let y = r.position in
        let asked = slot-requested j l full in
        let (q, at, low) = (own_positions (plan_lanes d) (pairs_of (read_words d p)) (part_lanes (plan_lanes d) d p) packing in_form masks-small).below (bit_number y / 32) (bit_number y % 32) asked in
        let here : entry_at (plan_lanes d) W o 0 j ≡ q = w.entry 0 j some_stages l ∙ first_entry j full y r.is ∙ ap or_zero at in
        let left = read_requested (plan_lanes d) (pairs_of (read_words d p)) (part_lanes (plan_lanes d) d p) packing in_form masks-small (state_word old new) (λ i r. state_word old new (read_word_at (plan_lanes d) W o r i))
        (λ i r. read_mask_at (plan_lanes d) W o r i) (read_row (plan_lanes d) W o old new) read-turn (bit_number y / 32) (bit_number y % 32) q asked at in
        let bits : input d p old new x ≡ some (bit (state_word old new (bit_number y / 32)) (bit_number y % 32)) =
        input_read d p old new x s.part (reads_slot d p j l) ∙ ap (planned_bit old new) r.is ∙ word-bit old new y (place_small x r) r.mark in
        ap (bit_at (read_row (plan_lanes d) W o old new)) here ∙ left ∙ sym (pin_value_lem d p old new x full ∙ value_read d (input d p old new) x _ bits)
