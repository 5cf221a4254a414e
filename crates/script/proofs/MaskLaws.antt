-- The masks of a stage in the code's terms: one law for each way out at a position, and a lane's word one bit more.
-- Assumes nothing.
use mathlib.Core.Path.{◌≡◌, sym, ap, ◌∙◌}
use mathlib.Core.Bool.{Bool, true, false, ◌||◌}
use mathlib.Core.List.{List}
use mathlib.Core.Option.{Option, none, some}
use Prim.Native.Nat.{ℕ, ◌+◌, ◌*◌, ◌%◌, ◌^◌, ◌<◌}
use native.Mathlib.Nat.{mod-lt}
use native.Mathlib.Numerals.{add-one}
use native.Mathlib.Omega.{arith}
use borrow.Author.Tests.{eq-eqb, ne_eqb}
use lib.Bits.{bit_or, or_shifted_r}
use lib.Dec.{eqb}
use lib.Pow.{shl_exact}
use Rattle.words.specs.Bit.{word_of}
use Rattle.words.proofs.BitLaws.{word_of_lt}
use Rattle.plan_record.specs.Record.{slot_at, gate_first, gate_second}
use Rattle.words.specs.Pins.{empty}
use Rattle.plan_gates.specs.Gates.{gate_of}
use Rattle.std.specs.Prelude.{Some, None}
use Rattle.std.specs.declared.option.Option as code
use Rattle.words.specs.Found.{item_of}
use Rattle.words.proofs.FoundLaws.{item_some, item_none}
use Rattle.plan_slots.specs.Slots.{top, slot_a}
use Rattle.script.specs.Script.{first_inversion, second_inversion, no_slot, orb_bit, xora_bit, xorb_bit}
use Rattle.script.specs.Writers.{MaskBits}

-- ---- the bits at a position

module _ (d : List ℕ) (p s q : ℕ) where
  bare : no_slot d p s q ≡ true → MaskBits d p s q (record { xora = 0; xorb = 0; orb = 0 })
  unfolding xora_bit xorb_bit orb_bit
  bare h = record { xora = rw (h, xora_bit); xorb = rw (h, xorb_bit); orb = rw (h, orb_bit) }

  pub bits_first : q ≡ 0 → MaskBits d p s q (record { xora = 0; xorb = 0; orb = 0 })
  bits_first h = bare (ap (λ (b : Bool). b || eqb (slot_at d p s q) empty) (eq-eqb q 0 h))

  module _ (x : ℕ) (pin : x ≡ slot_at d p s q) (above : q ≡ 0 → ⊥) where
    slot-test : no_slot d p s q ≡ eqb (slot_at d p s q) empty
    slot-test = ap (λ (b : Bool). b || eqb (slot_at d p s q) empty) (ne_eqb q 0 above)

    pub bits_empty : x ≡ empty → MaskBits d p s q (record { xora = 0; xorb = 0; orb = 0 })
    bits_empty h = bare (slot-test ∙ eq-eqb (slot_at d p s q) empty (sym pin ∙ h))

    module _ (there : x ≡ empty → ⊥) (m a : ℕ) (power : m ≡ top q) (below : a ≡ slot_at d p s (q + m)) where
      full : no_slot d p s q ≡ false
      full = slot-test ∙ ne_eqb (slot_at d p s q) empty (λ e. there (pin ∙ e))

      is-a : a ≡ slot_a d p s q
      is-a = below ∙ ap (λ (k : ℕ). slot_at d p s (q + k)) power

      pub bits_carried : x ≡ a → MaskBits d p s q (record { xora = 0; xorb = 0; orb = 1 })
      unfolding xora_bit xorb_bit orb_bit
      bits_carried h =
          let e : eqb (slot_at d p s q) (slot_a d p s q) ≡ true = eq-eqb _ _ (sym pin ∙ (h ∙ is-a)) in
          record { xora = rw (full, e, xora_bit); xorb = rw (full, e, xorb_bit); orb = rw (full, e, orb_bit) }

      module _ (other : x ≡ a → ⊥) (r : code.Option ℕ) (found : r ≡ item_of (gate_of d x)) where
        gate-bits : (o : Option ℕ) → gate_of d x ≡ o → MaskBits d p s q (record { xora = first_inversion d o; xorb = second_inversion d o; orb = 0 })
        unfolding xora_bit xorb_bit orb_bit
        gate-bits o h =
            let e : eqb (slot_at d p s q) (slot_a d p s q) ≡ false = ne_eqb _ _ (λ z. other (pin ∙ (z ∙ sym is-a))) in
            let i : gate_of d (slot_at d p s q) ≡ o = ap (gate_of d) (sym pin) ∙ h in
            record { xora = rw (full, e, i, xora_bit); xorb = rw (full, e, i, xorb_bit); orb = rw (full, e, orb_bit) }

        pub bits_missing : r ≡ None → MaskBits d p s q (record { xora = 0; xorb = 0; orb = 0 })
        unfolding first_inversion second_inversion
        bits_missing e = gate-bits none (item_none (gate_of d x) (sym found ∙ e))

        pub bits_gate : (g f h u v : ℕ) → r ≡ Some g → f ≡ gate_first d g → u ≡ f % 2 → h ≡ gate_second d g → v ≡ h % 2
            → MaskBits d p s q (record { xora = u; xorb = v; orb = 0 })
        unfolding first_inversion second_inversion
        bits_gate g f h u v e ef eu eh ev =
            let b = gate-bits (some g) (item_some (gate_of d x) g (sym found ∙ e)) in
            record {
              xora = eu ∙ (ap (λ (n : ℕ). n % 2) ef ∙ b.xora);
              xorb = ev ∙ (ap (λ (n : ℕ). n % 2) eh ∙ b.xorb);
              orb = b.orb;
            }

-- ---- each is 0 or 1

pick_lt : (b : Bool) (v w : ℕ) → v < 2 → w < 2 → elim b [ true ↦ v | false ↦ w ] < 2
pick_lt true v w h l = h
pick_lt false v w h l = l

first_lt : (d : List ℕ) (o : Option ℕ) → first_inversion d o < 2
unfolding first_inversion
first_lt d none = omega arith
first_lt d (some g) = mod-lt _ (omega arith)

second_lt : (d : List ℕ) (o : Option ℕ) → second_inversion d o < 2
unfolding second_inversion
second_lt d none = omega arith
second_lt d (some g) = mod-lt _ (omega arith)

pub xora_lt : (d : List ℕ) (p s q : ℕ) → xora_bit d p s q < 2
unfolding xora_bit
xora_lt d p s q = pick_lt (no_slot d p s q || eqb (slot_at d p s q) (slot_a d p s q)) 0 _ (omega arith) (first_lt d (gate_of d (slot_at d p s q)))

pub xorb_lt : (d : List ℕ) (p s q : ℕ) → xorb_bit d p s q < 2
unfolding xorb_bit
xorb_lt d p s q = pick_lt (no_slot d p s q || eqb (slot_at d p s q) (slot_a d p s q)) 0 _ (omega arith) (second_lt d (gate_of d (slot_at d p s q)))

pub orb_lt : (d : List ℕ) (p s q : ℕ) → orb_bit d p s q < 2
unfolding orb_bit
orb_lt d p s q = pick_lt (no_slot d p s q) 0 _ (omega arith) (pick_lt (eqb (slot_at d p s q) (slot_a d p s q)) 1 0 (omega arith) (omega arith))

-- ---- a word built from below

pub word_more : (f : ℕ → ℕ) (k x v : ℕ) → ((i : ℕ) → f i < 2) → k < 32 → x ≡ word_of f k → v ≡ f k → bit_or x ((v * 2 ^ k) % 2 ^ 32) ≡ word_of f (k + 1)
unfolding word_of
word_more f k x v small h e q =
    let one : v < 2 ^ 1 = omega (arith, small k) in
    let low : x < 2 ^ k = rw e (word_of_lt f k (λ i l. small i)) in
    rw (add-one, word_of, shl_exact 1 k 32 one (omega arith), or_shifted_r v k x low, q, e)
