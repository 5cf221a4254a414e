-- The value of a pin and the values of all gates in the code's terms: what an answer says, one law for each way out, and what one more gate
-- makes of the bits stored so far.
-- Assumes nothing.
use Rattle.std.proofs.Common.{◌≡◌, ℕ, zero, suc, ◌+◌, ◌*◌, ◌/◌, ◌%◌, ◌^◌, ◌<◌, ◌≤◌, min, List, length, get_or, replicate, sym, refl, ap, ◌∙◌, ap₂, ⊎_elim, arith, get_or-set_other, get_or-set_same, pow_pos, le-ltb, lt-ltb, eq-eqb, ne_eqb}
use mathlib.Core.Path.{fun_ext}
use mathlib.Core.Option.{Option, none, some}
use native.Mathlib.Decide.{ℕ_discrete}
use lib.Bits.{differ}
use lib.ListN.{length-replicate}
use Rattle.words.specs.Bit.{bit, bit_at, word_of, set_bit}
use Rattle.words.specs.Section.{list_of}
use Rattle.words.proofs.BitLaws.{lt_or_ge, bit_zero, bit_ext, bit_word_of, word_of_lt, with_lt, at_lt, at_set-bit, set-bit_length}
use Rattle.words.proofs.ListLaws.{zeros_at}
use Rattle.words.proofs.SectionLaws.{length_list_of, get_d_list_of, list_of-is}
use Rattle.std.specs.Prelude.{Some, None}
use Rattle.std.specs.declared.option.Option as code
use Rattle.words.specs.Found.{item_of}
use Rattle.words.proofs.FoundLaws.{item_some, item_none}
use Rattle.pinmap.specs.PinMap.{look}
use Rattle.plan_record.specs.Record.{gates_of, gate_pin, gate_first, gate_second}
use Rattle.plan_gates.specs.Gates.{bad_gate, gate_of, gate_bit, value}
use Rattle.plan_gates.specs.GateValues.{gate_value, gate_words, store_bit, Given, ValuedBelow}
use Rattle.plan_gates.proofs.GateLaws.{gate_at_lem, first_falls, second_falls}
use Rattle.plan_gates.proofs.ValueLaws.{value_read, value_gate, value_else, value_lt}

-- ---- the fan-ins' pins, as the code has them, of a gate found by its pin

module _ (d : List ℕ) (good : bad_gate d ≡ none) (x : ℕ) (q : code.Option ℕ) (answer : q ≡ item_of (gate_of d x)) (g : ℕ) (is : q ≡ Some g) where
  pub first_under : (f u : ℕ) → f ≡ gate_first d g → u ≡ f / 2 → u < x
  first_under f u ef eu = let o = first_falls d good x g (item_some _ g (sym answer ∙ is)) in omega arith

  pub second_under : (f u : ℕ) → f ≡ gate_second d g → u ≡ f / 2 → u < x
  second_under f u ef eu = let o = second_falls d good x g (item_some _ g (sym answer ∙ is)) in omega arith

-- ---- the ways out

module _ (d known : List ℕ) (given : Given d known) (x : ℕ) (r : code.Option ℕ) (answer : r ≡ item_of (look known x)) where
  pub bit_known : (v : ℕ) → r ≡ Some v → (v ≡ value d (look known) x) × (v < 2)
  bit_known v e =
      let i = item_some (look known x) v (sym answer ∙ e) in
      (sym (value_read d (look known) x v i), given.bits x v i)

  pub bit_neither : (q : code.Option ℕ) → r ≡ None → q ≡ item_of (gate_of d x) → q ≡ None → (0 ≡ value d (look known) x) × (0 < 2)
  bit_neither q e p n =
      let i = item_none (look known x) (sym answer ∙ e) in
      let o = item_none (gate_of d x) (sym p ∙ n) in
      (sym (value_else d (look known) x i o), omega arith)

  -- u and w are the fan-ins' pins, a and b their values, y the gate's bit
  pub bit_gate : (g f s u w a b y : ℕ) → r ≡ None → gate_of d x ≡ some g → f ≡ gate_first d g → s ≡ gate_second d g → u ≡ f / 2 → w ≡ s / 2
      → a ≡ value d (look known) u → b ≡ value d (look known) w → y ≡ min (differ a (f % 2)) (differ b (s % 2)) → y ≡ value d (look known) x
  unfolding gate_bit
  bit_gate g f s u w a b y e o ef es eu ew ea eb ey =
      let i = item_none (look known x) (sym answer ∙ e) in
      let p : a ≡ value d (look known) (gate_first d g / 2) = ea ∙ ap (value d (look known)) (eu ∙ ap (λ (n : ℕ). n / 2) ef) in
      let q : b ≡ value d (look known) (gate_second d g / 2) = eb ∙ ap (value d (look known)) (ew ∙ ap (λ (n : ℕ). n / 2) es) in
      ey ∙ ap₂ (λ (m : ℕ) (n : ℕ). min (differ m (f % 2)) (differ n (s % 2))) p q
      ∙ ap₂ (λ (m : ℕ) (n : ℕ). min (differ (value d (look known) (gate_first d g / 2)) (m % 2)) (differ (value d (look known) (gate_second d g / 2)) (n % 2))) ef es
      ∙ sym (value_gate d given.gates (look known) x g i o)

-- ---- all gates

pub value_of_gate : (d : List ℕ) (inp : ℕ → Option ℕ) (g : ℕ) → g < gates_of d → gate_value d inp g ≡ value d inp (gate_pin d g)
unfolding gate_value
value_of_gate d inp g h = rw (lt-ltb g (gates_of d) h, gate_value)

pub value_past : (d : List ℕ) (inp : ℕ → Option ℕ) (g : ℕ) → gates_of d ≤ g → gate_value d inp g ≡ 0
unfolding gate_value
value_past d inp g h = rw (le-ltb g (gates_of d) h, gate_value)

-- y is the bit of the pin's gate, which is one of the first n
pub bit_stored : (d known bits : List ℕ) (n x g y : ℕ) → ValuedBelow d known bits n → gate_of d x ≡ some g → g < n → y ≡ bit_at bits g
    → (y ≡ value d (look known) x) × (y < 2)
bit_stored d known bits n x g y v o h e =
    let (l, p) = gate_at_lem d x g o in
    (e ∙ (v.held g h ∙ (value_of_gate d (look known) g l ∙ ap (value d (look known)) p)), omega (arith, at_lt bits g))

pub gate_value_lt : (d : List ℕ) (inp : ℕ → Option ℕ) → ((x v : ℕ) → inp x ≡ some v → v < 2) → (g : ℕ) → gate_value d inp g < 2
gate_value_lt d inp h g = ⊎_elim
    (λ l. rw (value_of_gate d inp g l) (value_lt d inp h (gate_pin d g)))
    (λ l. rw (value_past d inp g l) (omega arith))
    (lt_or_ge g (gates_of d))

-- w is the value as the code has it
pub store_none : (l : List ℕ) (p v w : ℕ) → w ≡ v → w ≡ 0 → l ≡ store_bit l p v
unfolding store_bit
store_none l p v w e z = rw (sym e ∙ z)

pub store_some : (l : List ℕ) (p v w : ℕ) → w ≡ v → (w ≡ 0 → ⊥) → set_bit l p ≡ store_bit l p v
unfolding store_bit
store_some l p zero w e n = absurd (n e)
store_some l p (suc v) w e n = refl

-- n words in which the gates before g have their values, and no other bit is set
pub record Stored (d known l : List ℕ) (n g : ℕ) : Type 0 where
  pub size : length l ≡ n
  pub fits : (w : ℕ) → get_or l w 0 < 2 ^ 32
  pub held : (q : ℕ) → q < g → bit_at l q ≡ gate_value d (look known) q
  pub free : (q : ℕ) → g ≤ q → bit_at l q ≡ 0

pub stored_none : (d known l : List ℕ) (n : ℕ) → l ≡ replicate n 0 → Stored d known l n 0
unfolding bit_at
stored_none d known l n e = rw e (record {
  size = length-replicate {A = ℕ} n 0;
  fits = λ w. rw (zeros_at n w) (pow_pos 32);
  held = λ q h. absurd (omega arith);
  free = λ q h. ap (λ (x : ℕ). bit x (q % 32)) (zeros_at n (q / 32)) ∙ bit_zero (q % 32);
})

pub stored_below : (d known l : List ℕ) (n g : ℕ) → gates_of d ≤ 32 * n → Stored d known l n g → ValuedBelow d known l g
stored_below d known l n g room s = record { room = omega (arith, s.size); held = s.held }

set-fits : (l : List ℕ) (p : ℕ) → p / 32 < length l → ((w : ℕ) → get_or l w 0 < 2 ^ 32) → (w : ℕ) → get_or (set_bit l p) w 0 < 2 ^ 32
unfolding set_bit
set-fits l p h f w = by (ℕ_discrete w (p / 32))
  where
    by : Dec (w ≡ p / 32) → get_or (set_bit l p) w 0 < 2 ^ 32
    by (yes e) = rw (e, get_or-set_same l (p / 32) _ 0 h) (with_lt 32 (get_or l (p / 32) 0) (p % 32) (f (p / 32)) (omega arith))
    by (no n) = rw (get_or-set_other l (p / 32) w _ 0 n) (f w)

other_bit : (l : List ℕ) (p q : ℕ) → p / 32 < length l → (q ≡ p → ⊥) → bit_at (set_bit l p) q ≡ bit_at l q
other_bit l p q h n = at_set-bit l p q h ∙ rw (ne_eqb q p n)

same_bit : (l : List ℕ) (p : ℕ) → p / 32 < length l → bit_at (set_bit l p) p ≡ 1
same_bit l p h = at_set-bit l p p h ∙ rw (eq-eqb p p refl)

-- one gate more
pub gates_stored_more : (d known l m : List ℕ) (n g : ℕ) → Given d known → gates_of d ≤ 32 * n → g < gates_of d → Stored d known l n g
    → m ≡ store_bit l g (value d (look known) (gate_pin d g)) → Stored d known m n (g + 1)
unfolding store_bit
gates_stored_more d known l m n g given room h s e =
    rw e (go (value d (look known) (gate_pin d g)) (value_of_gate d (look known) g h) (value_lt d (look known) given.bits (gate_pin d g)))
  where
    inside : g / 32 < length l
    inside = omega (arith, s.size)

    go : (v : ℕ) → gate_value d (look known) g ≡ v → v < 2 → Stored d known (store_bit l g v) n (g + 1)
    go zero p k = record {
      size = s.size;
      fits = s.fits;
      held = λ q i. ⊎_elim (λ t. s.held q t) (λ t. let z : q ≡ g = omega arith in rw z (s.free g (omega arith) ∙ sym p)) (lt_or_ge q g);
      free = λ q i. s.free q (omega arith);
    }
    go (suc zero) p k = record {
      size = set-bit_length l g ∙ s.size;
      fits = set-fits l g inside s.fits;
      held = λ q i. ⊎_elim
          (λ t. other_bit l g q inside (λ z. omega arith) ∙ s.held q t)
          (λ t. let z : q ≡ g = omega arith in rw z (same_bit l g inside ∙ sym p))
          (lt_or_ge q g);
      free = λ q i. other_bit l g q inside (λ z. omega arith) ∙ s.free q (omega arith);
    }
    go (suc (suc v)) p k = absurd (omega arith)

-- and all of them
pub stored_all : (d known l : List ℕ) (n g : ℕ) → Given d known → gates_of d ≤ g → g ≤ gates_of d → Stored d known l n g → l ≡ gate_words d (look known) n
unfolding gate_words bit_at
stored_all d known l n g given h k s =
    list_of-is (λ w. word_of (λ i. gate_value d (look known) (32 * w + i)) 32) n l s.size
    (λ w t.
    bit_ext 32 (get_or l w 0) (word_of (λ i. gate_value d (look known) (32 * w + i)) 32) (s.fits w)
    (word_of_lt (λ i. gate_value d (look known) (32 * w + i)) 32 (λ i z. small (32 * w + i)))
    (λ i z. at w i z ∙ every (32 * w + i) ∙ sym (bit_word_of (λ i. gate_value d (look known) (32 * w + i)) 32 (λ i z. small (32 * w + i)) i z)))
  where
    small : (q : ℕ) → gate_value d (look known) q < 2
    small = gate_value_lt d (look known) given.bits

    at : (w i : ℕ) → i < 32 → bit (get_or l w 0) i ≡ bit_at l (32 * w + i)
    at w i z =
        let a : w ≡ (32 * w + i) / 32 = omega arith in
        let b : i ≡ (32 * w + i) % 32 = omega arith in
        ap₂ (λ (x : ℕ) (y : ℕ). bit (get_or l x 0) y) a b

    every : (q : ℕ) → bit_at l q ≡ gate_value d (look known) q
    every q = ⊎_elim (λ t. s.held q t) (λ t. s.free q t ∙ sym (value_past d (look known) q (omega arith))) (lt_or_ge q g)

-- words that hold all values hold each gate's
pub words_valued : (d known l : List ℕ) (n : ℕ) → Given d known → gates_of d ≤ 32 * n → l ≡ gate_words d (look known) n → ValuedBelow d known l (gates_of d)
unfolding gate_words bit_at
words_valued d known l n given room e = record {
  room = omega (arith, ap length e ∙ length_list_of (λ w. word_of (λ i. gate_value d (look known) (32 * w + i)) 32) n);
  held = λ g h.
      ap (λ (m : List ℕ). bit (get_or m (g / 32) 0) (g % 32)) e
      ∙ (ap (λ (w : ℕ). bit w (g % 32)) (get_d_list_of (λ w. word_of (λ i. gate_value d (look known) (32 * w + i)) 32) n (g / 32) (omega arith))
      ∙ (bit_word_of (λ i. gate_value d (look known) (32 * (g / 32) + i)) 32 (λ i z. gate_value_lt d (look known) given.bits (32 * (g / 32) + i)) (g % 32) (omega arith)
      ∙ ap (gate_value d (look known)) (omega arith)));
}

-- only the values of the gates' pins matter
pub words_ext : (d : List ℕ) (inp jnp : ℕ → Option ℕ) (n : ℕ) → ((g : ℕ) → g < gates_of d → value d inp (gate_pin d g) ≡ value d jnp (gate_pin d g))
    → gate_words d inp n ≡ gate_words d jnp n
unfolding gate_words
words_ext d inp jnp n e = ap (λ (f : ℕ → ℕ). list_of (λ w. word_of (λ k. f (32 * w + k)) 32) n) (fun_ext same)
  where
    same : (g : ℕ) → gate_value d inp g ≡ gate_value d jnp g
    same g = ⊎_elim
        (λ l. value_of_gate d inp g l ∙ (e g l ∙ sym (value_of_gate d jnp g l)))
        (λ l. value_past d inp g l ∙ sym (value_past d jnp g l))
        (lt_or_ge g (gates_of d))
