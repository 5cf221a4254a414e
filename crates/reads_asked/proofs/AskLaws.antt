-- Asking for bits, in any order: each way to ask has its law, two of them commute, and so the set is that of the sorted bits.
-- Assumes nothing.
use mathlib.Core.Path.{◌≡◌, refl, sym, ap, ap₂, ◌∙◌}
use mathlib.Core.Bool.{Bool, true, false}
use mathlib.Core.List.{List, [], ◌∷◌, ◌++◌}
use Prim.Native.Nat.{ℕ, zero, suc, ◌+◌, ◌/◌, ◌%◌, ◌^◌, ◌<◌}
use native.Mathlib.Nat.{lt_of_lt_of_le, not-suc-le-zero}
use native.Mathlib.Omega.{arith}
use borrow.Author.Tests.{lt-ltb, le-ltb, eq-eqb, ne_eqb}
use lib.Bits.{or_comm, or_self}
use lib.Dec.{leb, ltb, eqb}
use lib.ListN.{length, get_or}
use lib.Pow.{pow_mono}
use Rattle.words.specs.Bit.{bit, with_bit}
use Rattle.words.proofs.BitLaws.{bit_ext, bit_with}
use Rattle.reads.specs.Asked.{ask, read_set_of}
use Rattle.sort.specs.Sorted.{insert, sort_of}

-- ---- two bits of one word

lt_pow : (n : ℕ) → n < 2 ^ n
lt_pow zero = omega arith
lt_pow (suc n) = omega (arith, lt_pow n)

-- numbers of any size with the same bits are equal
pub bit_same : (a b : ℕ) → ((k : ℕ) → bit a k ≡ bit b k) → a ≡ b
bit_same a b h =
    bit_ext (a + b) a b (lt_of_lt_of_le (lt_pow a) (pow_mono (omega arith))) (lt_of_lt_of_le (lt_pow b) (pow_mono (omega arith))) (λ k l. h k)

-- 1 where the test holds
abbrev pub pick : Bool → ℕ → ℕ
pick t x = elim t [ true ↦ 1 | false ↦ x ]

-- the bits of a word with two bits set
two : (m a b k : ℕ) → bit (with_bit (with_bit m a) b) k ≡ pick (eqb k b) (pick (eqb k a) (bit m k))
two m a b k = bit_with (with_bit m a) b k ∙ ap (pick (eqb k b)) (bit_with m a k)

pub with_comm : (m a b : ℕ) → with_bit (with_bit m a) b ≡ with_bit (with_bit m b) a
with_comm m a b =
    bit_same (with_bit (with_bit m a) b) (with_bit (with_bit m b) a)
    (λ k. two m a b k ∙ turned (eqb k b) (eqb k a) (bit m k) ∙ sym (two m b a k))
  where
    turned : (s t : Bool) (x : ℕ) → pick s (pick t x) ≡ pick t (pick s x)
    turned true true x = refl
    turned true false x = refl
    turned false true x = refl
    turned false false x = refl

pub with_twice : (m a : ℕ) → with_bit (with_bit m a) a ≡ with_bit m a
with_twice m a = bit_same (with_bit (with_bit m a) a) (with_bit m a) (λ k. two m a a k ∙ once (eqb k a) (bit m k) ∙ sym (bit_with m a k))
  where
    once : (t : Bool) (x : ℕ) → pick t (pick t x) ≡ pick t x
    once true x = refl
    once false x = refl

pow_comm : (a b : ℕ) → with_bit (2 ^ a) b ≡ with_bit (2 ^ b) a
unfolding with_bit
pow_comm a b = or_comm (2 ^ a) (2 ^ b)

pow_twice : (a : ℕ) → with_bit (2 ^ a) a ≡ 2 ^ a
unfolding with_bit
pow_twice a = or_self (2 ^ a)

-- ---- how a bit is asked for: its word's pair is new, before the first pair or after it, or the first pair has the word

pub ask_new : (q : ℕ) → ask q [] ≡ (q / 32) ∷ (2 ^ (q % 32)) ∷ []
unfolding ask
ask_new q = refl

module _ (q w m : ℕ) (ws : List ℕ) where
  -- by the two tests: the word is below the first, or it is the first
  abbrev tested : Bool → Bool → List ℕ
  tested below first =
      elim below [
        | true ↦ (q / 32) ∷ (2 ^ (q % 32)) ∷ w ∷ m ∷ ws
        | false ↦ elim first [ true ↦ w ∷ with_bit m (q % 32) ∷ ws | false ↦ w ∷ m ∷ ask q ws ]
      ]

  ask-tested : (b f : Bool) → ltb (q / 32) w ≡ b → eqb (q / 32) w ≡ f → ask q (w ∷ m ∷ ws) ≡ tested b f
  unfolding ask
  ask-tested b f e g = ap₂ tested e g

  pub ask_below : q / 32 < w → ask q (w ∷ m ∷ ws) ≡ (q / 32) ∷ (2 ^ (q % 32)) ∷ w ∷ m ∷ ws
  ask_below h = ask-tested true false (lt-ltb (q / 32) w h) (ne_eqb (q / 32) w (λ e. omega arith))

  pub ask_same : q / 32 ≡ w → ask q (w ∷ m ∷ ws) ≡ w ∷ with_bit m (q % 32) ∷ ws
  ask_same h = ask-tested false true (le-ltb (q / 32) w (omega arith)) (eq-eqb (q / 32) w h)

  pub ask_above : w < q / 32 → ask q (w ∷ m ∷ ws) ≡ w ∷ m ∷ ask q ws
  ask_above h = ask-tested false false (le-ltb (q / 32) w (omega arith)) (ne_eqb (q / 32) w (λ e. omega arith))

pub data Compared (a b : ℕ) : Type 0 where
  less : a < b → Compared a b
  same : a ≡ b → Compared a b
  more : b < a → Compared a b

pub compared : (a b : ℕ) → Compared a b
compared zero zero = same refl
compared zero (suc b) = less (omega arith)
compared (suc a) zero = more (omega arith)
compared (suc a) (suc b) = on (compared a b)
  where
    on : Compared a b → Compared (suc a) (suc b)
    on (less h) = less (omega arith)
    on (same h) = same (ap suc h)
    on (more h) = more (omega arith)

-- ---- the order of two does not matter

-- a pair in front
abbrev front : ℕ → ℕ → List ℕ → List ℕ
front w m ws = w ∷ m ∷ ws

module _ (p q : ℕ) (l : p / 32 < q / 32) where
  -- p's word comes first: what q makes of the set stays behind it
  first : (w m : ℕ) (ws : List ℕ) → p / 32 < w → (x y : ℕ) (zs : List ℕ) → ask q (w ∷ m ∷ ws) ≡ x ∷ y ∷ zs → p / 32 < x
      → ask p (ask q (w ∷ m ∷ ws)) ≡ ask q (ask p (w ∷ m ∷ ws))
  first w m ws b x y zs e h =
      ap (ask p) e ∙ ask_below p x y zs h
      ∙ sym (ap (ask q) (ask_below p w m ws b) ∙ ask_above q (p / 32) (2 ^ (p % 32)) (w ∷ m ∷ ws) l ∙ ap (front (p / 32) (2 ^ (p % 32))) e)

  comm-less : (s : List ℕ) → ask p (ask q s) ≡ ask q (ask p s)
  unfolding ask
  comm-less [] = ask_below p (q / 32) (2 ^ (q % 32)) [] l ∙ sym (ask_above q (p / 32) (2 ^ (p % 32)) [] l)
  comm-less (w ∷ []) = refl
  comm-less (w ∷ m ∷ ws) = by (compared (q / 32) w) (compared (p / 32) w) (comm-less ws)
    where
      by : Compared (q / 32) w → Compared (p / 32) w → ask p (ask q ws) ≡ ask q (ask p ws) → ask p (ask q (w ∷ m ∷ ws)) ≡ ask q (ask p (w ∷ m ∷ ws))
      by (less a) (less b) r = first w m ws b (q / 32) (2 ^ (q % 32)) (w ∷ m ∷ ws) (ask_below q w m ws a) l
      by (less a) (same b) r = absurd (omega arith)
      by (less a) (more b) r = absurd (omega arith)
      by (same a) (less b) r = first w m ws b w (with_bit m (q % 32)) ws (ask_same q w m ws a) b
      by (same a) (same b) r = absurd (omega arith)
      by (same a) (more b) r = absurd (omega arith)
      by (more a) (less b) r = first w m ws b w m (ask q ws) (ask_above q w m ws a) b
      by (more a) (same b) r =
          ap (ask p) (ask_above q w m ws a) ∙ ask_same p w m (ask q ws) b
          ∙ sym (ap (ask q) (ask_same p w m ws b) ∙ ask_above q w (with_bit m (p % 32)) ws a)
      by (more a) (more b) r =
          ap (ask p) (ask_above q w m ws a) ∙ ask_above p w m (ask q ws) b ∙ ap (front w m) r
          ∙ sym (ap (ask q) (ask_above p w m ws b) ∙ ask_above q w m (ask p ws) a)

module _ (p q : ℕ) (e : p / 32 ≡ q / 32) where
  -- both bits in one new pair
  joint : (ws : List ℕ) → ask p (front (q / 32) (2 ^ (q % 32)) ws) ≡ ask q (front (p / 32) (2 ^ (p % 32)) ws)
  joint ws =
      ask_same p (q / 32) (2 ^ (q % 32)) ws e ∙ ap₂ (λ (w m : ℕ). front w m ws) (sym e) (pow_comm (q % 32) (p % 32))
      ∙ sym (ask_same q (p / 32) (2 ^ (p % 32)) ws (sym e))

  comm-same : (s : List ℕ) → ask p (ask q s) ≡ ask q (ask p s)
  unfolding ask
  comm-same [] = joint []
  comm-same (w ∷ []) = refl
  comm-same (w ∷ m ∷ ws) = by (compared (q / 32) w) (comm-same ws)
    where
      by : Compared (q / 32) w → ask p (ask q ws) ≡ ask q (ask p ws) → ask p (ask q (w ∷ m ∷ ws)) ≡ ask q (ask p (w ∷ m ∷ ws))
      by (less a) r = ap (ask p) (ask_below q w m ws a) ∙ joint (w ∷ m ∷ ws) ∙ sym (ap (ask q) (ask_below p w m ws (omega arith)))
      by (same a) r =
          ap (ask p) (ask_same q w m ws a) ∙ ask_same p w (with_bit m (q % 32)) ws (e ∙ a) ∙ ap (λ (x : ℕ). front w x ws) (with_comm m (q % 32) (p % 32))
          ∙ sym (ap (ask q) (ask_same p w m ws (e ∙ a)) ∙ ask_same q w (with_bit m (p % 32)) ws a)
      by (more a) r =
          let b : w < p / 32 = omega arith in
          ap (ask p) (ask_above q w m ws a) ∙ ask_above p w m (ask q ws) b ∙ ap (front w m) r
          ∙ sym (ap (ask q) (ask_above p w m ws b) ∙ ask_above q w m (ask p ws) a)

pub ask_comm : (p q : ℕ) (s : List ℕ) → ask p (ask q s) ≡ ask q (ask p s)
ask_comm p q s = by (compared (p / 32) (q / 32))
  where
    by : Compared (p / 32) (q / 32) → ask p (ask q s) ≡ ask q (ask p s)
    by (less l) = comm-less p q l s
    by (same e) = comm-same p q e s
    by (more l) = sym (comm-less q p l s)

-- ---- asked for twice is asked for

module _ (q : ℕ) where
  again : (ws : List ℕ) → ask q (front (q / 32) (2 ^ (q % 32)) ws) ≡ front (q / 32) (2 ^ (q % 32)) ws
  again ws = ask_same q (q / 32) (2 ^ (q % 32)) ws refl ∙ ap (λ (x : ℕ). front (q / 32) x ws) (pow_twice (q % 32))

  pub ask_twice : (s : List ℕ) → ask q (ask q s) ≡ ask q s
  unfolding ask
  ask_twice [] = again []
  ask_twice (w ∷ []) = refl
  ask_twice (w ∷ m ∷ ws) = by (compared (q / 32) w) (ask_twice ws)
    where
      by : Compared (q / 32) w → ask q (ask q ws) ≡ ask q ws → ask q (ask q (w ∷ m ∷ ws)) ≡ ask q (w ∷ m ∷ ws)
      by (less a) r = ap (ask q) (ask_below q w m ws a) ∙ again (w ∷ m ∷ ws) ∙ sym (ask_below q w m ws a)
      by (same a) r =
          ap (ask q) (ask_same q w m ws a) ∙ ask_same q w (with_bit m (q % 32)) ws a ∙ ap (λ (x : ℕ). front w x ws) (with_twice m (q % 32)) ∙ sym (ask_same q w m ws a)
      by (more a) r = ap (ask q) (ask_above q w m ws a) ∙ ask_above q w m (ask q ws) a ∙ ap (front w m) r ∙ sym (ask_above q w m ws a)

-- ---- the set of bits in any order

pub set_snoc : (qs : List ℕ) (q : ℕ) → read_set_of (qs ++ (q ∷ [])) ≡ ask q (read_set_of qs)
unfolding read_set_of
set_snoc [] q = refl
set_snoc (p ∷ qs) q = ap (ask p) (set_snoc qs q) ∙ ask_comm p q (read_set_of qs)

set-insert : (x : ℕ) (qs : List ℕ) → read_set_of (insert x qs) ≡ ask x (read_set_of qs)
unfolding read_set_of insert
set-insert x [] = refl
set-insert x (y ∷ qs) = go (leb x y) refl (set-insert x qs)
  where
    go : (b : Bool) → leb x y ≡ b → read_set_of (insert x qs) ≡ ask x (read_set_of qs) → read_set_of (insert x (y ∷ qs)) ≡ ask x (ask y (read_set_of qs))
    go true e r = rw (e, insert) refl
    go false e r = rw (e, insert) (ap (ask y) r ∙ ask_comm y x (read_set_of qs))

-- THE ORDER LAW
pub set_sort : (qs : List ℕ) → read_set_of (sort_of qs) ≡ read_set_of qs
unfolding read_set_of sort_of
set_sort [] = refl
set_sort (q ∷ qs) = set-insert q (sort_of qs) ∙ ap (ask q) (set_sort qs)

-- a bit that is given already adds nothing
pub set-again : (qs : List ℕ) (q i : ℕ) → i < length qs → get_or qs i 0 ≡ q → ask q (read_set_of qs) ≡ read_set_of qs
unfolding read_set_of
set-again [] q i h e = absurd (not-suc-le-zero h)
set-again (p ∷ qs) q zero h e = rw (← e) (ask_twice p (read_set_of qs))
set-again (p ∷ qs) q (suc i) h e = ask_comm q p (read_set_of qs) ∙ ap (ask p) (set-again qs q i (omega arith) e)
