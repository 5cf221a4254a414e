-- DEMAND 3. Order and frame are those of any run whose blocks are kept apart; the pins come from the part that stores the word.
-- Assumes nothing.
use mathlib.Core.Path.{◌≡◌, refl, sym, ap, ◌∙◌, subst}
use mathlib.Core.Bool.{Bool, true, false}
use mathlib.Core.Option.{Option, none, some}
use mathlib.Core.List.{List}
use Prim.Native.Nat.{ℕ, ◌+◌, ◌*◌, ◌-◌, ◌/◌, ◌%◌, ◌≤◌, ◌<◌}
use lib.Bits.{differ}
use native.Mathlib.Omega.{arith}
use lib.Dec.{leb}
use lib.ListN.{length, get_or, get_or-eq_default}
use Rattle.words.specs.Answer.{Answer, refused, at_item, nowhere}
use Rattle.words.proofs.AnswerLaws.{refused_good}
use Rattle.words.specs.Bit.{bit, bit_at}
use Rattle.words.specs.Edition.{known, levels_for}
use Rattle.words.proofs.BitLaws.{bit_zero}
use Rattle.plan_record.specs.Record.{plan_lanes, slots_of, blocks_of, count_at, parts_before, stages_of, locations_of}
use Rattle.plan_blocks.specs.Blocks.{state_start, sram_start}
use Rattle.values.specs.Values.{pin_value}
use Rattle.script_assembly.specs.WrittenSoFar.{last_mark, parts_in, part_start}
use Rattle.script_assembly.proofs.BlockRankLaws.{in_before, part_at, part_found}
use Rattle.run_machine.specs.Part.{stages_at, start_at, entry_at, lane_word_at}
use Rattle.run_machine.specs.Turn.{read_row, taken, gathered_bit, data_inv, chosen, stored_bit}
use Rattle.run_machine.specs.Room.{block_room}
use Rattle.run_machine.specs.Run.{run_turns, all_left, bad_block, bad_turn, Ran, ran, run_answer}
use Rattle.run_machine.proofs.StageBitLaws.{at_word_lem}
use Rattle.run_machine.proofs.TurnLaws.{taken_cleared, taken_nothing, stored_word_bit}
use Rattle.promise_order.specs.Order.{captured_by, one_after_another}
use Rattle.promise_order.proofs.PartTurnLaws.{caps_length}
use Rattle.promise_order.proofs.StoreTurnLaws.{stores_in, store_at}
use Rattle.promise_order.proofs.AloneLaws.{Laid}
use Rattle.promise_order.proofs.AnyOrderLaws.{in_any_order, untouched, stored}
use Rattle.promise_decode.specs.Decoded.{Decoded}
use Rattle.promise_meaning.specs.Meaning.{PassedPart}
use Rattle.promise_meaning.proofs.MeaningLaws.{captured_pin}
use Rattle.promise.specs.Promise.{assembled, starts_of, stage_run, carried, Carries, enable_entry, inv_of, set0_of, data_inv_of, part_begins_at, enabled, StoredBy, Done, Demand3, AsRun}
use Rattle.promise.proofs.LocationStageLaws.{carried_is}
use Rattle.promise.proofs.AcceptedLaws.{part_there, some_blocks, able, sound}
use Rattle.promise.proofs.AssembledBlockLaws.{starts_are}
use Rattle.promise.proofs.NeverRefusedLaws.{never_refused}
use Rattle.promise.proofs.ApartLaws.{RunPart, planned, run_part, back, stored_by, apart}

module _ (d : List ℕ) (s : ℕ) (turns old new : List ℕ) (done : Done d s turns old new) where
  abbrev W : List ℕ
  W = assembled d

  abbrev after : List ℕ
  after = (stage_run d s turns old new).new

  laid : Laid (plan_lanes d) W (starts_of d s) (length old) (length new) new
  laid = record {
    form = never_refused d s (length old) (length new) done.accepted done.stage (omega (arith, done.old-size)) (omega (arith, done.new_size));
    size = refl;
    apart = apart d done.accepted s done.stage;
  }

  any_order : after ≡ (stage_run d s (one_after_another (plan_lanes d) W (starts_of d s) (blocks_of d)) old new).new
  any_order =
      let many : length (starts_of d s) - 1 ≡ blocks_of d = omega (arith, starts_are d done.accepted s done.stage) in
      in_any_order (plan_lanes d) (levels_for (plan_lanes d)) W (starts_of d s) (length old) (length new) old new laid turns done.named done.all
      ∙ ap (λ (m : ℕ). (run_turns (plan_lanes d) (levels_for (plan_lanes d)) W (starts_of d s) (one_after_another (plan_lanes d) W (starts_of d s) m) old new).new) many

  unchanged : (w : ℕ) → ((i : ℕ) → StoredBy d s i w → ⊥) → get_or after w 0 ≡ get_or new w 0
  unchanged w free =
      untouched (plan_lanes d) (levels_for (plan_lanes d)) W (starts_of d s) (length old) (length new) old new laid turns done.named w
      (λ b j o q h. free _ (stored_by d done.accepted s done.stage b j o w (planned d done.accepted s done.stage b j o q) h))

  -- ---- part i of the stage, where the run finds it

  abbrev captures : ℕ → List ℕ
  captures o = captured_by (plan_lanes d) (levels_for (plan_lanes d)) W o old new

  record Found (i : ℕ) : Type 0 where
    pub b : ℕ
    pub j : ℕ
    pub last : ℕ
    pub run : RunPart d done.accepted s done.stage b j (part_begins_at d s i)
    pub back : Decoded (plan_lanes d) d (parts_before d s + i) last (state_start d s i) (sram_start d s i) W (part_begins_at d s i)
    pub sound : PassedPart d (parts_before d s + i)

  place_is : (b j : ℕ) → j < length (parts_in d s b) → part_begins_at d s (get_or (parts_in d s b) j 0) ≡ part_start (plan_lanes d) d s b j
  unfolding part_begins_at
  place_is b j h =
      let r = part_at d s b (count_at d s) j h in
      ap (λ (x : ℕ). part_start (plan_lanes d) d s x (in_before d s x (get_or (parts_in d s b) j 0))) r.block ∙ ap (part_start (plan_lanes d) d s b) r.place

  found_at_lem : (b j : ℕ) → b < blocks_of d → j < length (parts_in d s b) → get_or (parts_in d s b) j 0 < count_at d s → Found (get_or (parts_in d s b) j 0)
  found_at_lem b j h u there =
      let q = run_part d done.accepted s done.stage b j h u in
      let e = sym (place_is b j u) in
      let r = subst (RunPart d done.accepted s done.stage b j) e q in
      record {
        b = b;
        j = j;
        last = last_mark (length (parts_in d s b)) j;
        run = r;
        back = back d done.accepted s done.stage b j _ (planned d done.accepted s done.stage b j _ r);
        sound = sound d done.accepted _ (part_there d s _ done.stage there);
      }

  found : (i : ℕ) → i < count_at d s → Found i
  found i h =
      let (b, j, block, inside, is) = part_found d s i h (some_blocks d done.accepted) in
      subst Found is (found_at_lem b j block inside (omega arith))

  -- ---- its captured bits, its enable bits, its stored bits

  module _ (i : ℕ) (h : i < count_at d s) where
    abbrev p : ℕ
    p = parts_before d s + i

    abbrev o : ℕ
    o = part_begins_at d s i

    abbrev D : Decoded (plan_lanes d) d p (found i h).last (state_start d s i) (sram_start d s i) W o
    D = (found i h).back

    captured-bit : (l k : ℕ) → l < locations_of d p → k < 32 → Carries d p l k → bit_at (captures o) (32 * l + k) ≡ pin_value d p old new (carried d p l k)
    captured-bit l k inside small carries =
        let is = carried_is d p l k in
        at_word_lem (captures o) l k small
        ∙ captured_pin d p _ _ _ W o old new (found i h).sound D l k inside small carries.position (λ e. carries.some-pin (is ∙ e))
        ∙ ap (pin_value d p old new) (sym is)

    -- past the normal words there is nothing
    captured-none : (e : ℕ) → locations_of d p ≤ e / 32 → bit_at (captures o) e ≡ 0
    unfolding bit_at
    captured-none e g =
        ap (λ (x : ℕ). bit x (e % 32)) (get_or-eq_default (captures o) 0 {n = e / 32} (omega (arith, caps_length (plan_lanes d) (levels_for (plan_lanes d)) W o (read_row (plan_lanes d) W o old new) (stages_at W o), D.normal))) ∙ bit_zero (e % 32)

    lane_word : (q k : ℕ) → lane_word_at (plan_lanes d) W o (stages_at W o + 1) (q / 32) k ≡ lane_word_at (plan_lanes d) W o (stages_of d p + 1) (q / 32) k
    lane_word q k = ap (λ (x : ℕ). lane_word_at (plan_lanes d) W o (x + 1) (q / 32) k) D.stages

    enable_is : (q v : ℕ) → q < slots_of d → bit_at (captures o) (enable_entry d p q) ≡ v → enabled d s i old new q ≡ taken v (set0_of d p q) (inv_of d p q)
    unfolding enabled gathered_bit enable_entry set0_of inv_of
    enable_is q v l e =
        let entry = ap (λ (x : ℕ). entry_at (plan_lanes d) W o (x + 1) q) D.stages ∙ D.enable_entry_lem q l in
        let set0 = lane_word q 1 ∙ D.enable-set0 (q / 32) (omega arith) in
        let inv = lane_word q 0 ∙ D.enable-inv (q / 32) (omega arith) in
        rw (entry, set0, inv, e)

    data-inv-is : (q : ℕ) → q < slots_of d → data_inv (plan_lanes d) W o q ≡ data_inv_of d p q
    unfolding data_inv_of
    data-inv-is q l = ap (λ (x : ℕ). bit x (q % 32)) (lane_word q 2 ∙ D.data-inv (q / 32) (omega arith))

    few : locations_of d p ≤ plan_lanes d
    few = (able d done.accepted p (part_there d s i done.stage h)).locations

    -- the stored bit of place 32l + k
    stored_is : (l k : ℕ) → l < locations_of d p → k < 32
        → bit_at after (32 * (state_start d s i + l) + k) ≡ stored_bit (plan_lanes d) W o old (captures o) (bit_at (captures o) (32 * l + k)) (32 * l + k)
    stored_is l k inside small =
        at_word_lem after (state_start d s i + l) k small
        ∙ ap (λ (x : ℕ). bit (get_or after (x + l) 0) k) (sym D.start)
        ∙ ap (λ (x : ℕ). bit x k)
        (stored (plan_lanes d) (levels_for (plan_lanes d)) W (starts_of d s) (length old) (length new) old new laid turns done.named done.all (found i h).b (found i h).j o (start_at W o + l) (found i h).run
        (stores_in W o _ (omega arith) (omega (arith, D.normal)))
        ∙ store_at (plan_lanes d) W o old (captures o) l)
        ∙ stored_word_bit (plan_lanes d) W o old (captures o) l k small

    pins_are : (l k : ℕ) → l < locations_of d p → k < 32 → Carries d p l k
        → bit_at after (32 * (state_start d s i + l) + k)
        ≡ chosen (enabled d s i old new (32 * l + k)) (differ (pin_value d p old new (carried d p l k)) (data_inv_of d p (32 * l + k))) (bit_at old (32 * (state_start d s i + l) + k))
    unfolding stored_bit enabled
    pins_are l k inside small carries =
        let q : ℕ = 32 * l + k in
        let place : 32 * start_at W o + q ≡ 32 * (state_start d s i + l) + k = omega (arith, D.start) in
        stored_is l k inside small ∙ rw (captured-bit l k inside small carries, data-inv-is q (omega (arith, few)), place)

    enables-are : (q l k : ℕ) → q < slots_of d → enable_entry d p q ≡ 32 * l + k → l < locations_of d p → k < 32 → Carries d p l k
        → enabled d s i old new q ≡ taken (pin_value d p old new (carried d p l k)) (set0_of d p q) (inv_of d p q)
    enables-are q l k u e inside small carries = enable_is q _ u (ap (bit_at (captures o)) e ∙ captured-bit l k inside small carries)

    past_is : (q : ℕ) → q < slots_of d → locations_of d p ≤ enable_entry d p q / 32 → enabled d s i old new q ≡ inv_of d p q
    past_is q u g = enable_is q 0 u (captured-none _ g) ∙ taken_nothing (set0_of d p q) (inv_of d p q)

    cleared-is : (q : ℕ) → q < slots_of d → set0_of d p q ≡ 1 → enabled d s i old new q ≡ inv_of d p q
    cleared-is q u e = enable_is q _ u refl ∙ rw e (taken_cleared (bit_at (captures o) (enable_entry d p q)) (inv_of d p q))

-- DEMAND 3
pub demand3 : Demand3
demand3 d s turns old new done = record {
  order = any_order d s turns old new done;
  frame = unchanged d s turns old new done;
  pins = λ i l k h. pins_are d s turns old new done i h l k;
  enables = λ i q l k h. enables-are d s turns old new done i h q l k;
  past = λ i q h. past_is d s turns old new done i h q;
  cleared = λ i q h. cleared-is d s turns old new done i h q;
}

-- ---- as a run answers it: an answer with turns left was not refused, and is what the turns made

went : (k : ℕ) (after : List ℕ) (fits edition : Bool) (block turn : Option ℕ) (r : Answer Ran)
    → elim fits [
      | false ↦ refused (nowhere 32)
      | true ↦ elim edition [ false ↦ refused (nowhere 29) | true ↦ elim block [ some i ↦ refused (at_item 15 i) | none ↦ elim turn [ some i ↦ refused (at_item 16 i) | none ↦ r ] ] ]
    ] ≡ ran k after
    → (turn ≡ none) × (r ≡ ran k after)
went k after false edition block turn r e = refused_good _ _ e
went k after true false block turn r e = refused_good _ _ e
went k after true true (some i) turn r e = refused_good _ _ e
went k after true true none (some i) r e = refused_good _ _ e
went k after true true none none r e = (refl, e)

pub as_run : AsRun
unfolding run_answer
as_run d s turns old new after room accepted stage old-size new_size e =
    let x = stage_run d s turns old new in
    let q =
    went 0 after (leb (block_room * (length (starts_of d s) - 1)) room) (known (plan_lanes d)) (bad_block (plan_lanes d) (assembled d) (starts_of d s) (length old) (length new))
    (bad_turn (starts_of d s) turns) (ran (all_left (plan_lanes d) (assembled d) x.blocks) x.new) e
    in
    let f = q.1 in
    let same : ◌≡◌ {A = Ran} (record { left = all_left (plan_lanes d) (assembled d) x.blocks; new = x.new }) (record { left = 0; new = after }) = cc in
    let none_left : all_left (plan_lanes d) (assembled d) (stage_run d s turns old new).blocks ≡ 0 = ap (λ (y : Ran). y.left) same in
    let is : (stage_run d s turns old new).new ≡ after = ap (λ (y : Ran). y.new) same in
    rw (← is)
    (demand3 d s turns old new (record { accepted = accepted; stage = stage; old-size = old-size; new_size = new_size; named = q.0; all = none_left }))
