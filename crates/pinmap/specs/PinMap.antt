-- Pins to numbers in a lent list of words, by open addressing. Slot i has its key at word 2i (0: free, else a pin and 1) and its value at
-- word 2i + 1; an odd last word belongs to no slot. Zeros are the empty map. A pin has 32 homes, each found from the one before; it stands
-- in the first that was free. Only where all of them are taken by others does probing go round the slots.
-- Assumes nothing.
use Rattle.std.specs.Prelude.{◌≡◌, ⊤, Ok, Err, true, false, List, [], ◌∷◌, ℕ, zero, suc, ◌+◌, ◌*◌, ◌/◌, ◌%◌, ◌^◌, ◌≤◌, ◌<◌, eqb, ltb, length, get_or, set}
use Rattle.std.proofs.Math.Option.{Option, none, some}
use Rattle.words.specs.Round.{next}
use Rattle.pinmap.specs.declared.Slot.{Slot}
use Rattle.pinmap.specs.declared.Slot.TheVariants.{Free, Taken, Nowhere}
use Rattle.std.specs.declared.result.Result.{Result}
use Rattle.pinmap.specs.declared.Full.{Full}

-- how many slots a table has
abbrev pub capacity : List ℕ → ℕ
capacity t = length t / 2

-- the key and the value of slot i
abbrev pub key_at : List ℕ → ℕ → ℕ
key_at t i = get_or t (2 * i) 0

abbrev pub value_at : List ℕ → ℕ → ℕ
value_at t i = get_or t (2 * i + 1) 0

-- a pin scattered over 2^32 numbers, each pin to one of its own; and the next such number, the halves exchanged before
abbrev pub scattered : ℕ → ℕ
scattered p = p * 2654435769 % 2 ^ 32

abbrev pub scattered_on : ℕ → ℕ
scattered_on s = (s / 65536 + s % 65536 * 65536 + 1) * 2654435769 % 2 ^ 32

-- the home of a scattered pin s among c slots: its high bits say it
unfoldable pub home : ℕ → ℕ → ℕ
home c s = s * elim (ltb c (2 ^ 32)) [ true ↦ c | false ↦ 2 ^ 32 ] / 2 ^ 32

-- how many homes a pin has
abbrev pub homes : ℕ
homes = 32

-- the first of f slots, going round from slot i, that is free or has pin p
unfoldable pub probe_from : List ℕ → ℕ → ℕ → ℕ → Slot
probe_from t p zero i = Nowhere
probe_from t p (suc f) i =
    elim (eqb (key_at t i) 0) [
      | true ↦ Free i
      | false ↦ elim (eqb (key_at t i) (p + 1)) [ true ↦ Taken i | false ↦ probe_from t p f (next (capacity t) i) ]
    ]

-- the first of n homes, from that of s on, that is free or has pin p; else round from the home behind them
unfoldable pub home_from : List ℕ → ℕ → ℕ → ℕ → Slot
home_from t p zero s = probe_from t p (capacity t) (home (capacity t) s)
home_from t p (suc n) s =
    elim (eqb (key_at t (home (capacity t) s)) 0) [
      | true ↦ Free (home (capacity t) s)
      | false ↦ elim (eqb (key_at t (home (capacity t) s)) (p + 1)) [ true ↦ Taken (home (capacity t) s) | false ↦ home_from t p n (scattered_on s) ]
    ]

unfoldable pub slot_of : List ℕ → ℕ → Slot
slot_of t p = elim (eqb (capacity t) 0) [ true ↦ Nowhere | false ↦ home_from t p homes (scattered p) ]

-- what is found for pin p
unfoldable pub look_at : List ℕ → Slot → Option ℕ
look_at t (Free i) = none
look_at t (Taken i) = some (value_at t i)
look_at t Nowhere = none

abbrev pub look : List ℕ → ℕ → Option ℕ
look t p = look_at t (slot_of t p)

-- the words after a put of value v for pin p, and its answer
unfoldable pub put_at : List ℕ → ℕ → ℕ → Slot → List ℕ
put_at t p v (Free i) = set (set t (2 * i) (p + 1)) (2 * i + 1) v
put_at t p v (Taken i) = set t (2 * i + 1) v
put_at t p v Nowhere = t

abbrev pub put_in : List ℕ → ℕ → ℕ → List ℕ
put_in t p v = put_at t p v (slot_of t p)

unfoldable pub answer_at : Slot → Result ⊤ Full
answer_at (Free i) = Ok tt
answer_at (Taken i) = Ok tt
answer_at Nowhere = Err (record {})

abbrev pub put_answer : List ℕ → ℕ → Result ⊤ Full
put_answer t p = answer_at (slot_of t p)

-- the words after a put of value v for pin p where p is there already
unfoldable pub put_there_at : List ℕ → ℕ → Slot → List ℕ
put_there_at t v (Free i) = t
put_there_at t v (Taken i) = set t (2 * i + 1) v
put_there_at t v Nowhere = t

abbrev pub put_there : List ℕ → ℕ → ℕ → List ℕ
put_there t p v = put_there_at t v (slot_of t p)

-- how many of the first n slots are taken, and how many of all
unfoldable pub used_to : List ℕ → ℕ → ℕ
used_to t zero = 0
used_to t (suc n) = elim (eqb (key_at t n) 0) [ true ↦ used_to t n | false ↦ suc (used_to t n) ]

abbrev pub used : List ℕ → ℕ
used t = used_to t (capacity t)

-- slot i is taken by another pin than p
abbrev pub HasOther : List ℕ → ℕ → ℕ → Type 0
HasOther t p i = (key_at t i ≡ 0 → ⊥) × (key_at t i ≡ p + 1 → ⊥)

-- what every put keeps: probing for a pin that has a slot finds that slot
unfoldable pub Findable : List ℕ → Type 0
Findable t = (i q : ℕ) → i < capacity t → key_at t i ≡ q + 1 → slot_of t q ≡ Taken i

-- ---- many puts, one after the other

pub record Entry : Type 0 where
  pub pin : ℕ
  pub value : ℕ

abbrev pub entry : ℕ → ℕ → Entry
entry p v = record { pin = p; value = v }

-- what stands for pin q after one entry, and after many, where o stood before: the last one's value
abbrev pub replaced : Entry → ℕ → Option ℕ → Option ℕ
replaced e q o = elim (eqb q e.pin) [ true ↦ some e.value | false ↦ o ]

unfoldable pub last_from : Option ℕ → List Entry → ℕ → Option ℕ
last_from o [] q = o
last_from o (e ∷ es) q = last_from (replaced e q o) es q

abbrev pub last_put : List Entry → ℕ → Option ℕ
last_put es q = last_from none es q

-- the same where entries only renew what is there
unfoldable pub renewed : Option ℕ → List Entry → ℕ → Option ℕ
renewed none es q = none
renewed (some w) es q = last_from (some w) es q

-- the words after many puts, and after many puts where the pin is there
unfoldable pub after_puts : List ℕ → List Entry → List ℕ
after_puts t [] = t
after_puts t (e ∷ es) = after_puts (put_in t e.pin e.value) es

unfoldable pub after_renewals : List ℕ → List Entry → List ℕ
after_renewals t [] = t
after_renewals t (e ∷ es) = after_renewals (put_there t e.pin e.value) es

-- a table that finds just what was put
pub record Holds (t : List ℕ) (puts : List Entry) : Type 0 where
  pub good : Findable t
  pub finds : (q : ℕ) → look t q ≡ last_put puts q
  pub few : used t ≤ length puts

-- the same where renewals came after the puts
pub record Renewed (t : List ℕ) (puts renewals : List Entry) : Type 0 where
  pub good : Findable t
  pub finds : (q : ℕ) → look t q ≡ renewed (last_put puts q) renewals q
  pub few : used t ≤ length puts
