-- One stage: from the values that it gathers, level by level, to the values at its positions. A slot's pin is carried from slot a, or is the gate of
-- slots a and b; the masks make the position's bit the one or the other.
-- Assumes nothing.
use mathlib.Core.Path.{◌≡◌, refl, sym, ap, ap₂, ◌∙◌}
use mathlib.Core.List.{List}
use mathlib.Core.Option.{none}
use Prim.Native.Nat.{ℕ, zero, suc, ◌+◌, ◌*◌, ◌-◌, ◌/◌, ◌%◌, ◌^◌, ◌≤◌, ◌<◌, min}
use native.Mathlib.Omega.{arith}
use lib.Bits.{differ}
use lib.Pow.{pow_pos, pow_mono}
use Rattle.words.specs.Edition.{levels_for}
use Rattle.words.proofs.EditionLaws.{slots_power, levels_most}
use Rattle.plan_record.specs.Record.{plan_lanes, slots_of, stages_of, slot_at, level_at, gate_first, gate_second}
use Rattle.plan_record.proofs.RecordLaws.{lanes_known}
use Rattle.words.specs.Pins.{empty}
use Rattle.plan_gates.specs.Gates.{gate_bit, value}
use Rattle.std.specs.Prelude.{Some}
use Rattle.words.specs.Found.{item_of}
use Rattle.plan_gates.proofs.GateLaws.{first_falls, second_falls}
use Rattle.plan_gates.proofs.ValueLaws.{value_gate}
use Rattle.plan_slots.specs.Slots.{top, slot_a, slot_b}
use Rattle.plan_slots.proofs.SlotLaws.{SlotStands, vacant, carried, computed, position_stands, computed_unread}
use Rattle.plan_slots.proofs.TopLaws.{top_is}
use Rattle.plan_positions.specs.Input.{input}
use Rattle.plan_positions.proofs.PositionLaws.{input_other}
use Rattle.values.specs.Values.{pin_value}
use Rattle.script.specs.Writers.{MaskBits}
use Rattle.script.proofs.MaskLaws.{bits_carried, bits_gate}
use Rattle.run_machine.specs.Turn.{gate, gate_at, level_bit, stage_row}
use Rattle.run_machine.proofs.StageBitLaws.{level_of, level_below, level_bit_lt, position_level, stage_bit}
use Rattle.promise_decode.specs.Decoded.{Decoded}
use Rattle.promise_meaning.specs.Meaning.{PassedPart, Gathers, HoldsValues}
use Rattle.promise_meaning.proofs.ReadLaws.{pin_value_lem}

-- ---- what a position's masks make of its slots' bits

-- orb set and no inversion: the bit of slot a
gate_carried : (a b : ℕ) → a < 2 → gate a b 0 0 1 ≡ a
unfolding gate
gate_carried zero b h = omega arith
gate_carried (suc zero) b h = omega arith
gate_carried (suc (suc a)) b h = absurd (omega arith)

-- orb clear: the AND of both, inversions applied
gate_computed : (a b xa xb : ℕ) → gate a b xa xb 0 ≡ min (differ a xa) (differ b xb)
unfolding gate
gate_computed a b xa xb = omega arith

gate_masks : (a b xa xb ob ya yb pb : ℕ) → xa ≡ ya → xb ≡ yb → ob ≡ pb → gate a b xa xb ob ≡ gate a b ya yb pb
gate_masks a b xa xb ob ya yb pb e f g = rw (e, f, g)

-- as the value of a pin has it
gate_bit_lem : (d : List ℕ) (g : ℕ) (r : ℕ → ℕ)
    → gate_bit d g r ≡ min (differ (r (gate_first d g / 2)) (gate_first d g % 2)) (differ (r (gate_second d g / 2)) (gate_second d g % 2))
unfolding gate_bit
gate_bit_lem d g r = refl

module _ (d : List ℕ) (p : ℕ) (s : PassedPart d p) (last state sram : ℕ) (W : List ℕ) (o : ℕ) (w : Decoded (plan_lanes d) d p last state sram W o) (old new : List ℕ) where
  -- the lanes and the levels of the plan's edition: its slots are 2^H
  abbrev n : ℕ
  n = plan_lanes d

  abbrev H : ℕ
  H = levels_for n

  wide : slots_of d ≡ 2 ^ H
  wide = slots_power n (lanes_known d)

  -- ---- one position

  module _ (k : ℕ) (stage : k < stages_of d p) (q : ℕ) (some-position : 0 < q) (within : q < slots_of d) where
    -- the masks in the words are those of the plan
    at-masks : (a b xa xb ob : ℕ) → MaskBits d p k q (record { xora = xa; xorb = xb; orb = ob }) → gate_at n W o k q a b ≡ gate a b xa xb ob
    unfolding gate_at
    at-masks a b xa xb ob m =
        gate_masks a b _ _ _ xa xb ob (w.xora k q stage within ∙ sym m.xora) (w.xorb k q stage within ∙ sym m.xorb) (w.orb k q stage within ∙ sym m.orb)

    -- the bits of slots a and b being their pins' values, so is the position's
    position-value : (a b : ℕ) → a < 2 → ((slot_a d p k q ≡ empty → ⊥) → a ≡ pin_value d p old new (slot_a d p k q))
        → ((slot_b d p k q ≡ empty → ⊥) → b ≡ pin_value d p old new (slot_b d p k q)) → (slot_at d p k q ≡ empty → ⊥)
        → gate_at n W o k q a b ≡ pin_value d p old new (slot_at d p k q)
    position-value a b small first second full = by (position_stands d s.nine p k s.part stage q some-position within)
      where
        by : SlotStands d (slot_at d p k q) (slot_a d p k q) (slot_b d p k q) → gate_at n W o k q a b ≡ pin_value d p old new (slot_at d p k q)
        by (vacant e) = absurd (full e)
        by (carried r e) =
            at-masks a b 0 0 1 (bits_carried d p k q (slot_at d p k q) refl (λ z. omega arith) full (top q) (slot_a d p k q) refl refl e)
            ∙ gate_carried a b small ∙ first (λ z. full (e ∙ z)) ∙ ap (pin_value d p old new) (sym e)
        by (computed r differs f) =
            let g = f.gate in
            let x = slot_at d p k q in
            let u = gate_first d g in
            let v = gate_second d g in
            let below-first : u / 2 < x = first_falls d s.gates x g f.found in
            let below-second : v / 2 < x = second_falls d s.gates x g f.found in
            let first_pin_lem : u / 2 ≡ empty → ⊥ = λ z. omega arith in
            let second_pin_lem : v / 2 ≡ empty → ⊥ = λ z. omega arith in
            let masks : MaskBits d p k q (record { xora = u % 2; xorb = v % 2; orb = 0 }) =
            bits_gate d p k q x refl (λ z. omega arith) full (top q) (slot_a d p k q) refl refl differs (Some g) (ap item_of (sym f.found)) g u v (u % 2) (v % 2) refl refl refl refl refl in
            let inp = input d p old new in
            let one : a ≡ value d inp (u / 2) =
            first (λ z. first_pin_lem (f.first ∙ z)) ∙ ap (pin_value d p old new) (sym f.first) ∙ pin_value_lem d p old new (u / 2) first_pin_lem in
            let two : b ≡ value d inp (v / 2) =
            second (λ z. second_pin_lem (f.second ∙ z)) ∙ ap (pin_value d p old new) (sym f.second) ∙ pin_value_lem d p old new (v / 2) second_pin_lem in
            let unread : inp x ≡ none = input_other d p old new x (computed_unread d s.eleven p k q s.part stage some-position within full differs) in
            at-masks a b (u % 2) (v % 2) 0 masks ∙ gate_computed a b (u % 2) (v % 2) ∙ ap₂ (λ (i j : ℕ). min (differ i (u % 2)) (differ j (v % 2))) one two
            ∙ sym (pin_value_lem d p old new x full ∙ value_gate d s.gates inp x g unread f.found ∙ gate_bit_lem d g (value d inp))

  -- ---- all levels

  module _ (k : ℕ) (stage : k < stages_of d p) (row : List ℕ) (gathers : Gathers d p old new W o k row) where
    level-value : (h i : ℕ) → h + i ≡ H → (q : ℕ) → 2 ^ i ≤ q → q < 2 * 2 ^ i → (slot_at d p k q ≡ empty → ⊥)
        → level_bit n W o k row h (2 ^ i) q ≡ pin_value d p old new (slot_at d p k q)
    unfolding level_bit
    level-value zero i e q lo hi full =
        let last-level : i ≡ H = omega arith in
        let z : 2 ^ i ≡ 2 ^ H = ap (λ (x : ℕ). 2 ^ x) last-level in
        let j : slots_of d + (q - slots_of d) ≡ q = omega (arith, wide) in
        let same : level_at d p k (q - slots_of d) ≡ slot_at d p k q = ap (slot_at d p k) j in
        gathers (q - slots_of d) (omega (arith, wide)) (λ y. full (sym same ∙ y)) ∙ ap (pin_value d p old new) same
    level-value (suc h) i e q lo hi full =
        let up = level-value h (suc i) (omega arith) in
        let m : 2 ^ suc i ≡ 2 * 2 ^ i = omega arith in
        let least : 1 ≤ 2 ^ i = pow_pos i in
        let lower : suc i ≤ H = omega arith in
        let most : 2 ^ suc i ≤ 2 ^ H = pow_mono lower in
        let t : top q ≡ 2 ^ i = top_is 13 q i (omega (arith, levels_most n (lanes_known d))) (record { least = lo; most = hi }) in
        let a : slot_at d p k (q + 2 ^ i) ≡ slot_a d p k q = ap (λ (x : ℕ). slot_at d p k (q + x)) (sym t) in
        let b : slot_at d p k (q + 2 * 2 ^ i) ≡ slot_b d p k q = ap (λ (x : ℕ). slot_at d p k (q + 2 * x)) (sym t) in
        position-value k stage q (omega arith) (omega (arith, wide)) _ _ (level_bit_lt n W o k row h (2 * 2 ^ i) (q + 2 ^ i))
        (λ y. rw m at (up (q + 2 ^ i) (omega arith) (omega arith) (λ z. y (sym a ∙ z))) ∙ ap (pin_value d p old new) a)
        (λ y. rw m at (up (q + 2 * 2 ^ i) (omega arith) (omega arith) (λ z. y (sym b ∙ z))) ∙ ap (pin_value d p old new) b)
        full

    pub stage_values : HoldsValues d p old new k (stage_row n H W o k row)
    stage_values q some-position within full =
        let l = level_of q some-position in
        let i = l.0 in
        let below : i < H = level_below H i q l.1 (omega (arith, wide)) in
        stage_bit n W o k row H (sym wide) q within ∙ position_level n W o k row H H i q below l.1 l.2
        ∙ level-value (H - i) i (omega arith) q l.1 l.2 full
