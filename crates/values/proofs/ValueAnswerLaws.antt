-- The answer in the code's terms: the value over the table of state bits is that of the definition, and one law for each way out.
-- Assumes nothing.
use mathlib.Core.Path.{◌≡◌, sym, ap, ◌∙◌}
use mathlib.Core.Bool.{true, false}
use mathlib.Core.Option.{none, some}
use mathlib.Core.List.{List, ◌++◌}
use Prim.Native.Nat.{ℕ, ◌≤◌, ◌<◌}
use native.Mathlib.Omega.{arith}
use borrow.Author.Tests.{eq-eqb, ne_eqb, le-leb, lt-leb}
use lib.ListN.{length, drop, replicate, length-replicate}
use Rattle.words.proofs.ListLaws.{put_sets}
use Rattle.words.proofs.SectionLaws.{length_list_of}
use Rattle.pinmap.specs.PinMap.{look}
use Rattle.words.specs.Edition.{known}
use Rattle.plan_record.specs.Record.{gates_of, edition_of, gate_pin}
use Rattle.words.specs.Pins.{empty}
use Rattle.words.specs.Answer.{Answer, good, refused, at_item, nowhere}
use Rattle.plan_record.specs.Form.{plan_room_words, plan_form}
use Rattle.plan_record.proofs.PlanFormLaws.{formed}
use Rattle.plan_gates.specs.Gates.{bad_gate, value}
use Rattle.plan_gates.specs.GateValues.{gate_words, Given, ValuedBelow, ValuesFillable}
use Rattle.plan_gates.proofs.ValueLaws.{value_ext}
use Rattle.plan_gates.proofs.ValueCodeLaws.{words_valued, words_ext}
use Rattle.plan_slots.specs.Puts.{filled}
use Rattle.plan_slots.proofs.PutLaws.{filled_length}
use Rattle.plan_positions.specs.Input.{input}
use Rattle.plan_known.specs.Known.{known_puts}
use Rattle.values.specs.Values.{ValueAsked, Bits, pin_value, bit_words, gate_values, lent_bits, valued, formed_answer, value_answer, bits_after, value_room_after}
use Rattle.plan_known.proofs.KnownLaws.{known_bit, known_look}

-- ---- the value over the table t of state bits

module _ (d : List ℕ) (p : ℕ) (old new t : List ℕ) (is : t ≡ filled 32768 (known_puts d p old new)) where
  pub known_length : 32768 ≡ length t
  known_length = sym (ap length is ∙ filled_length 32768 (known_puts d p old new))

  pub given : bad_gate d ≡ none → Given d t
  given g = record { gates = g; bits = λ y v h. known_bit d p old new 32768 (omega arith) y v (sym (ap (λ (a : List ℕ). look a y) is) ∙ h) }

  pin_value_lem : (x : ℕ) → (x ≡ empty → ⊥) → pin_value d p old new x ≡ value d (input d p old new) x
  unfolding pin_value
  pin_value_lem x h = rw (ne_eqb _ _ h, pin_value)

  -- below the empty pin the table has what the part reads
  value_same : bad_gate d ≡ none → (x : ℕ) → x < empty → value d (look t) x ≡ value d (input d p old new) x
  value_same g x l =
      value_ext d g (look t) (input d p old new) x
      (λ y m. ap (λ (a : List ℕ). look a y) is ∙ known_look d p old new 32768 (omega arith) y (λ (z : y ≡ empty). omega arith))

  pub value_is : bad_gate d ≡ none → (x r : ℕ) → x < empty → r ≡ value d (look t) x → r ≡ pin_value d p old new x
  value_is g x r l e = e ∙ (value_same g x l ∙ sym (pin_value_lem x (λ (z : x ≡ empty). omega arith)))

  -- all gates' pins are below it
  module _ (form : plan_form d ≡ true) (good : bad_gate d ≡ none) where
    pub fillable : (bits : List ℕ) → length bits ≡ bit_words d → ValuesFillable d t bits
    fillable bits n = record { given = given good; room = omega arith; askable = λ g l. omega (arith, ((formed d form).gate g l).pin) }

    pub all_valued : (n : ℕ) (bits : List ℕ) → n ≡ bit_words d → bits ≡ gate_words d (look t) n → ValuedBelow d t bits (gates_of d)
    all_valued n bits m e = words_valued d t bits n (given good) (omega arith) e

    pub values_are : (n : ℕ) (bits : List ℕ) → n ≡ bit_words d → bits ≡ gate_words d (look t) n → bits ≡ gate_values d p old new
    unfolding gate_values
    values_are n bits m e =
        e
        ∙ (words_ext d (look t) (input d p old new) n (λ g l. value_same good (gate_pin d g) (omega (arith, ((formed d form).gate g l).pin)))
        ∙ ap (gate_words d (input d p old new)) m)

pub value_empty : (d : List ℕ) (p : ℕ) (old new : List ℕ) (x : ℕ) → x ≡ empty → 0 ≡ pin_value d p old new x
unfolding pin_value
value_empty d p old new x h = rw (eq-eqb _ _ h, pin_value)

-- ---- the ways out

module _ (d : List ℕ) (p : ℕ) (old new : List ℕ) (b x : ℕ) where
  pub lent_short : b < bit_words d → lent_bits d p old new b x ≡ refused (nowhere 14)
  unfolding lent_bits
  lent_short h = rw (lt-leb _ _ h, lent_bits)

  pub lent_enough : bit_words d ≤ b → lent_bits d p old new b x ≡ good (record { own = pin_value d p old new x; gates = gate_values d p old new })
  unfolding lent_bits
  lent_enough h = rw (le-leb _ _ h, lent_bits)

  module _ (r : ℕ) where
    pub out_short : r < plan_room_words d → value_answer d p old new r b x ≡ refused (nowhere 32)
    unfolding value_answer
    out_short h = rw (lt-leb _ _ h, value_answer)

    module _ (h : plan_room_words d ≤ r) where
      pub out_edition : known (edition_of d) ≡ false → value_answer d p old new r b x ≡ refused (nowhere 29)
      unfolding value_answer
      out_edition k = rw (le-leb _ _ h, k, value_answer)

      module _ (k : known (edition_of d) ≡ true) where
        pub out_form : plan_form d ≡ false → value_answer d p old new r b x ≡ refused (nowhere 5)
        unfolding value_answer formed_answer
        out_form f = rw (le-leb _ _ h, k, f, value_answer, formed_answer)

        pub out_gate : plan_form d ≡ true → (g : ℕ) → bad_gate d ≡ some g → value_answer d p old new r b x ≡ refused (at_item 6 g)
        unfolding value_answer formed_answer valued
        out_gate f g e = rw (le-leb _ _ h, k, f, e, value_answer, formed_answer)

        pub out_lent : plan_form d ≡ true → bad_gate d ≡ none → value_answer d p old new r b x ≡ lent_bits d p old new b x
        unfolding value_answer formed_answer valued
        out_lent f e = rw (le-leb _ _ h, k, f, e, value_answer, formed_answer)

-- ---- the lent bits

pub bits_kept : (o : Answer Bits) (n i : ℕ) (bits : List ℕ) → o ≡ refused (at_item n i) → bits ≡ bits_after o bits
unfolding bits_after
bits_kept o n i bits e = rw e

-- the first k words come back as ws
pub bits_held : (o : Answer Bits) (v k : ℕ) (ws bits : List ℕ) → o ≡ good (record { own = v; gates = ws }) → length ws ≡ k → k ≤ length bits → ws ++ drop k bits ≡ bits_after o bits
unfolding bits_after
bits_held o v k ws bits e n l = put_sets bits 0 k ws (omega arith) n ∙ rw e

pub values_length : (d : List ℕ) (p : ℕ) (old new : List ℕ) → length (gate_values d p old new) ≡ bit_words d
unfolding gate_values gate_words
values_length d p old new = length_list_of _ (bit_words d)

-- ---- the room

pub lent_cleared : (room u v : List ℕ) → v ≡ replicate (length u) 0 → length u ≡ length room → v ≡ replicate (length room) 0
lent_cleared room u v e l = e ∙ ap (λ (n : ℕ). replicate n 0) l

zeros_size : (n : ℕ) (u : List ℕ) → u ≡ replicate n 0 → length u ≡ n
zeros_size n u e = ap length e ∙ length-replicate n 0

room_size : (d : List ℕ) → 65536 ≤ plan_room_words d
unfolding plan_room_words
room_size d = omega arith

module _ (d room : List ℕ) where
  pub room_short : length room < plan_room_words d → room ≡ value_room_after d room
  unfolding value_room_after
  room_short h = rw (lt-leb _ _ h, value_room_after)

  zeros-after : plan_room_words d ≤ length room → replicate (length room) 0 ≡ value_room_after d room
  unfolding value_room_after
  zeros-after h = rw (le-leb _ _ h, value_room_after)

  module _ (h : plan_room_words d ≤ length room) (u : List ℕ) (zeros : u ≡ replicate (length room) 0) where
    pub room_zeros : u ≡ value_room_after d room
    room_zeros = zeros ∙ zeros-after h

    pub room_again : (v : List ℕ) → v ≡ replicate (length u) 0 → v ≡ value_room_after d room
    room_again v e = lent_cleared room u v e (zeros_size (length room) u zeros) ∙ zeros-after h

    pub room_asked : plan_form d ≡ true → bad_gate d ≡ none → ValueAsked d u
    room_asked f g = record {
      form = f;
      gates = g;
      clear = record {
        wide = omega (arith, room_size d, zeros_size (length room) u zeros);
        is = zeros ∙ ap (λ (n : ℕ). replicate n 0) (sym (zeros_size (length room) u zeros));
      };
    }
