-- The set that asks for bits has the read-set form: whole pairs, words strictly ascending, and whatever holds of each new pair and of each
-- bit more. Its length, its last pair, and what asking for a bit at the end does to it.
-- Assumes nothing.
use mathlib.Core.Path.{◌≡◌, refl, sym, ap, ◌∙◌}
use mathlib.Core.Bool.{true}
use mathlib.Core.Option.{none}
use mathlib.Core.List.{List, [], ◌∷◌, ◌++◌}
use mathlib.Core.Logic.{◌⊎◌, inl, inr, ⊎_elim}
use Prim.Native.Nat.{ℕ, zero, suc, ◌+◌, ◌*◌, ◌-◌, ◌/◌, ◌%◌, ◌^◌, ◌≤◌, ◌<◌}
use native.Mathlib.Nat.{not-suc-le-zero, mod-lt}
use native.Mathlib.Omega.{arith}
use borrow.Author.Tests.{le-leb, lt-ltb}
use lib.Bits.{or_add_and, and_le_l}
use lib.Dec.{leb, ltb}
use lib.ListN.{length, get_or, set}
use lib.Pow.{pow_pos, pow-lt}
use Rattle.words.specs.Bit.{with_bit}
use Rattle.words.proofs.BitLaws.{with_lt}
use Rattle.reads.specs.ReadSet.{pairs_from, pairs_of, pair_form, broken_from, broken}
use Rattle.reads.specs.Asked.{ask, read_set_of}
use Rattle.reads_asked.specs.Rising.{Rising}
use Rattle.reads_asked.proofs.AskLaws.{ask_new, ask_below, ask_same, ask_above, Compared, less, same, more, compared}

-- ---- ascending words

pub rising_ask : (low q : ℕ) (s : List ℕ) → Rising low s → low ≤ q / 32 → Rising low (ask q s)
unfolding Rising
rising_ask low q [] r h = rw (ask_new q) (h, tt)
rising_ask low q (w ∷ []) r h = absurd r
rising_ask low q (w ∷ m ∷ ws) r h = by (compared (q / 32) w) (rising_ask (w + 1) q ws r.1)
  where
    by : Compared (q / 32) w → (w + 1 ≤ q / 32 → Rising (w + 1) (ask q ws)) → Rising low (ask q (w ∷ m ∷ ws))
    by (less a) i = rw (ask_below q w m ws a) (h, (omega arith, r.1))
    by (same a) i = rw (ask_same q w m ws a) r
    by (more a) i = rw (ask_above q w m ws a) (r.0, i (omega arith))

pub set_rising : (qs : List ℕ) → Rising 0 (read_set_of qs)
unfolding Rising read_set_of
set_rising [] = tt
set_rising (q ∷ qs) = rising_ask 0 q (read_set_of qs) (set_rising qs) (omega arith)

-- ---- lengths

pub rising_even : (low : ℕ) (s : List ℕ) → Rising low s → length s % 2 ≡ 0
unfolding Rising
rising_even low [] r = refl
rising_even low (w ∷ []) r = absurd r
rising_even low (w ∷ m ∷ ws) r = omega (arith, rising_even (w + 1) ws r.1)

-- a pair more, or none
pub ask_length : (low q : ℕ) (s : List ℕ) → Rising low s → (length (ask q s) ≡ length s + 2) ⊎ ((length (ask q s) ≡ length s) × (0 < length s))
unfolding Rising
ask_length low q [] r = inl (rw (ask_new q))
ask_length low q (w ∷ []) r = absurd r
ask_length low q (w ∷ m ∷ ws) r = by (compared (q / 32) w) (ask_length (w + 1) q ws r.1)
  where
    by : Compared (q / 32) w → (length (ask q ws) ≡ length ws + 2) ⊎ ((length (ask q ws) ≡ length ws) × (0 < length ws))
        → (length (ask q (w ∷ m ∷ ws)) ≡ length (w ∷ m ∷ ws) + 2) ⊎ ((length (ask q (w ∷ m ∷ ws)) ≡ length (w ∷ m ∷ ws)) × (0 < length (w ∷ m ∷ ws)))
    by (less a) i = rw (ask_below q w m ws a) (inl (omega arith))
    by (same a) i = rw (ask_same q w m ws a) (inr (refl, omega arith))
    by (more a) (inl e) = rw (ask_above q w m ws a) (inl (omega arith))
    by (more a) (inr e) = rw (ask_above q w m ws a) (inr (omega (arith, e.0), omega arith))

pub ask_longer : (low q : ℕ) (s : List ℕ) → Rising low s → length s ≤ length (ask q s)
ask_longer low q s r = ⊎_elim (λ e. omega arith) (λ e. omega (arith, e.0)) (ask_length low q s r)

pub set_length_le : (qs : List ℕ) → length (read_set_of qs) ≤ 2 * length qs
unfolding read_set_of
set_length_le [] = omega arith
set_length_le (q ∷ qs) =
    let h = set_length_le qs in
    ⊎_elim (λ e. omega arith) (λ e. omega (arith, e.0)) (ask_length 0 q (read_set_of qs) (set_rising qs))

pub set_even : (qs : List ℕ) → length (read_set_of qs) % 2 ≡ 0
set_even qs = rising_even 0 (read_set_of qs) (set_rising qs)

-- ---- what holds of each pair

unfoldable pub EachPair : (ℕ → ℕ → Type 0) → List ℕ → Type 0
EachPair P [] = Unit
EachPair P (w ∷ []) = ⊥
EachPair P (w ∷ m ∷ ws) = P w m × EachPair P ws

-- a bit that keeps it: in a pair of its own, and in a pair that has its word
pub record Keeps (P : ℕ → ℕ → Type 0) (q : ℕ) : Type 0 where
  pub alone : P (q / 32) (2 ^ (q % 32))
  pub joins : (w m : ℕ) → q / 32 ≡ w → P w m → P w (with_bit m (q % 32))

module _ (P : ℕ → ℕ → Type 0) where
  each-ask : (q : ℕ) (s : List ℕ) → Keeps P q → EachPair P s → EachPair P (ask q s)
  unfolding EachPair
  each-ask q [] k e = rw (ask_new q) (k.alone, tt)
  each-ask q (w ∷ []) k e = absurd e
  each-ask q (w ∷ m ∷ ws) k e = by (compared (q / 32) w) (each-ask q ws k e.1)
    where
      by : Compared (q / 32) w → EachPair P (ask q ws) → EachPair P (ask q (w ∷ m ∷ ws))
      by (less a) i = rw (ask_below q w m ws a) (k.alone, e)
      by (same a) i = rw (ask_same q w m ws a) (k.joins w m a e.0, e.1)
      by (more a) i = rw (ask_above q w m ws a) (e.0, i)

  pub set-each : (qs : List ℕ) → ((i : ℕ) → i < length qs → Keeps P (get_or qs i 0)) → EachPair P (read_set_of qs)
  unfolding EachPair read_set_of
  set-each [] k = tt
  set-each (q ∷ qs) k = each-ask q (read_set_of qs) (k zero (omega arith)) (set-each qs (λ i h. k (suc i) (omega arith)))

  pub each_at : (s : List ℕ) (j : ℕ) → EachPair P s → 2 * j + 1 < length s → P (get_or s (2 * j) 0) (get_or s (2 * j + 1) 0)
  unfolding EachPair
  each_at [] j e h = absurd (not-suc-le-zero h)
  each_at (w ∷ []) j e h = absurd e
  each_at (w ∷ m ∷ ws) zero e h = e.0
  each_at (w ∷ m ∷ ws) (suc j) e h =
      let a : 2 * suc j ≡ suc (suc (2 * j)) = omega arith in
      let b : suc (suc (2 * j)) + 1 ≡ suc (suc (2 * j + 1)) = omega arith in
      rw (a, b) (each_at ws j e.1 (omega arith))

-- ---- the form of document 01

pub with_positive : (m k : ℕ) → 0 < with_bit m k
unfolding with_bit
with_positive m k = omega (arith, or_add_and m (2 ^ k), and_le_l m (2 ^ k), pow_pos k)

abbrev Good : ℕ → ℕ → Type 0
Good w m = (w % 2 ^ 31 < 2 ^ 27) × (0 < m)

form_from : (i low : ℕ) (s : List ℕ) → Rising low s → EachPair Good s → broken_from low (pairs_from i s) ≡ none
unfolding Rising EachPair broken_from pairs_from pair_form
form_from i low [] r e = refl
form_from i low (w ∷ []) r e = absurd r
form_from i low (w ∷ m ∷ ws) r e =
    let a : leb low w ≡ true = le-leb low w r.0 in
    let b : ltb (w % 2 ^ 31) (2 ^ 27) ≡ true = lt-ltb (w % 2 ^ 31) (2 ^ 27) e.0.0 in
    let c : ltb 0 m ≡ true = lt-ltb 0 m e.0.1 in
    rw (a, b, c, broken_from) (form_from (i + 1) (w + 1) ws r.1 e.1)

pub set-form : (qs : List ℕ) → ((i : ℕ) → i < length qs → get_or qs i 0 / 32 % 2 ^ 31 < 2 ^ 27) → broken (pairs_of (read_set_of qs)) ≡ none
set-form qs h =
    let good : EachPair Good (read_set_of qs) =
    set-each Good qs (λ i l. record { alone = (h i l, pow_pos _); joins = λ w m e g. (g.0, with_positive m _) }) in
    form_from 0 0 (read_set_of qs) (set_rising qs) good

-- ---- each word of the set fits 32 bits

each_small : (b : ℕ) (s : List ℕ) → 0 < b → EachPair (λ w m. (w < b) × (m < b)) s → (x : ℕ) → get_or s x 0 < b
unfolding EachPair
each_small b [] p e x = p
each_small b (w ∷ []) p e x = absurd e
each_small b (w ∷ m ∷ ws) p e zero = e.0.0
each_small b (w ∷ m ∷ ws) p e (suc zero) = e.0.1
each_small b (w ∷ m ∷ ws) p e (suc (suc x)) = each_small b ws p e.1 x

pub set_small : (qs : List ℕ) → ((i : ℕ) → i < length qs → get_or qs i 0 < 2 ^ 37) → (x : ℕ) → get_or (read_set_of qs) x 0 < 2 ^ 32
set_small qs h =
    each_small (2 ^ 32) (read_set_of qs) (pow_pos 32)
    (set-each (λ w m. (w < 2 ^ 32) × (m < 2 ^ 32)) qs (λ i l. record {
      alone = (omega (arith, h i l), pow-lt (mod-lt (get_or qs i 0) (omega arith)));
      joins = λ w m e g. (g.0, with_lt 32 m (get_or qs i 0 % 32) g.1 (mod-lt (get_or qs i 0) (omega arith)));
    }))

-- ---- the last pair

last_on : (w m : ℕ) (s : List ℕ) → 2 ≤ length s → get_or (w ∷ m ∷ s) (length (w ∷ m ∷ s) - 2) 0 ≡ get_or s (length s - 2) 0
last_on w m s h =
    let e : length (w ∷ m ∷ s) - 2 ≡ suc (suc (length s - 2)) = omega arith in
    rw e

two_more : (low x : ℕ) (ws : List ℕ) → Rising low (x ∷ ws) → 2 ≤ length (x ∷ ws)
unfolding Rising
two_more low x [] r = absurd r
two_more low x (m ∷ ws) r = omega arith

last_from_lem : (low : ℕ) (s : List ℕ) → Rising low s → 2 ≤ length s → low ≤ get_or s (length s - 2) 0
unfolding Rising
last_from_lem low [] r h = absurd (not-suc-le-zero h)
last_from_lem low (w ∷ []) r h = absurd r
last_from_lem low (w ∷ m ∷ []) r h = r.0
last_from_lem low (w ∷ m ∷ x ∷ ws) r h =
    let two = two_more (w + 1) x ws r.1 in
    omega (arith, last_on w m (x ∷ ws) two, last_from_lem (w + 1) (x ∷ ws) r.1 two)

-- a bit whose word is above the last comes behind it, and one that has the last word joins it
pub ask_end : (low q : ℕ) (s : List ℕ) → Rising low s → (2 ≤ length s → get_or s (length s - 2) 0 < q / 32) → ask q s ≡ s ++ ((q / 32) ∷ (2 ^ (q % 32)) ∷ [])
unfolding Rising
ask_end low q [] r h = ask_new q
ask_end low q (w ∷ []) r h = absurd r
ask_end low q (w ∷ m ∷ []) r h = ask_above q w m [] (h (omega arith)) ∙ ap (λ (t : List ℕ). w ∷ m ∷ t) (ask_new q)
ask_end low q (w ∷ m ∷ x ∷ ws) r h =
    let two = two_more (w + 1) x ws r.1 in
    let after : w < q / 32 = omega (arith, h (omega arith), last_on w m (x ∷ ws) two, last_from_lem (w + 1) (x ∷ ws) r.1 two) in
    ask_above q w m (x ∷ ws) after
    ∙ ap (λ (t : List ℕ). w ∷ m ∷ t) (ask_end (w + 1) q (x ∷ ws) r.1 (λ l. omega (arith, h (omega arith), last_on w m (x ∷ ws) two)))

pub ask_last : (low q : ℕ) (s : List ℕ) → Rising low s → 2 ≤ length s → get_or s (length s - 2) 0 ≡ q / 32
    → ask q s ≡ set s (length s - 1) (with_bit (get_or s (length s - 1) 0) (q % 32))
unfolding Rising
ask_last low q [] r h e = absurd (not-suc-le-zero h)
ask_last low q (w ∷ []) r h e = absurd r
ask_last low q (w ∷ m ∷ []) r h e = ask_same q w m [] (sym e)
ask_last low q (w ∷ m ∷ x ∷ ws) r h e =
    let two = two_more (w + 1) x ws r.1 in
    let on = last_on w m (x ∷ ws) two in
    let after : w < q / 32 = omega (arith, e, on, last_from_lem (w + 1) (x ∷ ws) r.1 two) in
    let at : length (w ∷ m ∷ x ∷ ws) - 1 ≡ suc (suc (length (x ∷ ws) - 1)) = omega arith in
    ask_above q w m (x ∷ ws) after ∙ ap (λ (t : List ℕ). w ∷ m ∷ t) (ask_last (w + 1) q (x ∷ ws) r.1 two (sym on ∙ e)) ∙ rw at
