-- A bit that is among the given ones is requested by the set.
-- Assumes nothing.
use mathlib.Core.Path.{◌≡◌, refl, sym, ◌∙◌}
use mathlib.Core.Bool.{Bool, true, false}
use mathlib.Core.Logic.{◌⊎◌, inl, inr}
use mathlib.Core.List.{List, [], ◌∷◌}
use Prim.Native.Nat.{ℕ, zero, suc, ◌+◌, ◌/◌, ◌%◌, ◌^◌, ◌<◌}
use native.Mathlib.Nat.{not-suc-le-zero}
use native.Mathlib.Omega.{arith}
use borrow.Author.Tests.{eq-eqb}
use lib.Dec.{eqb}
use lib.ListN.{length, get_or}
use Rattle.words.specs.Bit.{bit, with_bit}
use Rattle.words.proofs.BitLaws.{bit_pow, bit_with}
use Rattle.reads.specs.ReadSet.{pairs_from, pairs_of}
use Rattle.reads.specs.Asked.{ask, read_set_of}
use Rattle.reads.proofs.PackingLaws.{times_cons}
use Rattle.reads.proofs.SetLaws.{times_here}
use Rattle.reads.proofs.LocalLaws.{Requested}
use Rattle.reads_asked.specs.Rising.{Rising}
use Rattle.reads_asked.proofs.AskLaws.{pick, ask_new, ask_below, ask_same, ask_above, Compared, less, same, more, compared}
use Rattle.reads_asked.proofs.AskedFormLaws.{set_rising}

-- ---- the bits of a mask

pow_bit : (j : ℕ) → bit (2 ^ j) j ≡ 1
pow_bit j = bit_pow j j ∙ rw (eq-eqb j j refl)

with_bit_lem : (m j : ℕ) → bit (with_bit m j) j ≡ 1
with_bit_lem m j = bit_with m j j ∙ rw (eq-eqb j j refl)

with_keeps : (m j k : ℕ) → bit m k ≡ 1 → bit (with_bit m j) k ≡ 1
with_keeps m j k h = bit_with m j k ∙ by (eqb k j)
  where
    by : (t : Bool) → pick t (bit m k) ≡ 1
    by true = refl
    by false = h

-- ---- a pair of the set has word w and bit k

unfoldable InSet : ℕ → ℕ → List ℕ → Type 0
InSet w k [] = ⊥
InSet w k (x ∷ []) = ⊥
InSet w k (x ∷ m ∷ ws) = ((x ≡ w) × (bit m k ≡ 1)) ⊎ InSet w k ws

in_requested : (i w k : ℕ) (s : List ℕ) → InSet w k s → Requested (pairs_from i s) w k
unfolding InSet pairs_from
in_requested i w k [] h = absurd h
in_requested i w k (x ∷ []) h = absurd h
in_requested i w k (x ∷ m ∷ ws) (inl h) = rw (← h.0) (record { mask = m; stands = times_here _ _; set = h.1 })
in_requested i w k (x ∷ m ∷ ws) (inr h) =
    let r = in_requested (i + 1) w k ws h in
    record { mask = r.mask; stands = omega (arith, times_cons w r.mask (record { at = i; word = x; mask = m }) (pairs_from (i + 1) ws), r.stands); set = r.set }

-- ---- asking for bit q puts it in, keeps what is in, and puts in no other

in_new : (low q : ℕ) (s : List ℕ) → Rising low s → InSet (q / 32) (q % 32) (ask q s)
unfolding InSet Rising
in_new low q [] r = rw (ask_new q) (inl (refl, pow_bit (q % 32)))
in_new low q (x ∷ []) r = absurd r
in_new low q (x ∷ m ∷ ws) r = by (compared (q / 32) x) (in_new (x + 1) q ws r.1)
  where
    by : Compared (q / 32) x → InSet (q / 32) (q % 32) (ask q ws) → InSet (q / 32) (q % 32) (ask q (x ∷ m ∷ ws))
    by (less a) i = rw (ask_below q x m ws a) (inl (refl, pow_bit (q % 32)))
    by (same a) i = rw (ask_same q x m ws a) (inl (sym a, with_bit_lem m (q % 32)))
    by (more a) i = rw (ask_above q x m ws a) (inr i)

in_old : (q w k : ℕ) (s : List ℕ) → InSet w k s → InSet w k (ask q s)
unfolding InSet
in_old q w k [] h = absurd h
in_old q w k (x ∷ []) h = absurd h
in_old q w k (x ∷ m ∷ ws) h = by (compared (q / 32) x) h (in_old q w k ws)
  where
    by : Compared (q / 32) x → ((x ≡ w) × (bit m k ≡ 1)) ⊎ InSet w k ws → (InSet w k ws → InSet w k (ask q ws)) → InSet w k (ask q (x ∷ m ∷ ws))
    by (less a) h i = rw (ask_below q x m ws a) (inr h)
    by (same a) (inl h) i = rw (ask_same q x m ws a) (inl (h.0, with_keeps m (q % 32) k h.1))
    by (same a) (inr h) i = rw (ask_same q x m ws a) (inr h)
    by (more a) (inl h) i = rw (ask_above q x m ws a) (inl h)
    by (more a) (inr h) i = rw (ask_above q x m ws a) (inr (i h))

-- ---- all bits

in_set : (qs : List ℕ) (i : ℕ) → i < length qs → InSet (get_or qs i 0 / 32) (get_or qs i 0 % 32) (read_set_of qs)
unfolding read_set_of
in_set [] i h = absurd (not-suc-le-zero h)
in_set (q ∷ qs) zero h = in_new 0 q (read_set_of qs) (set_rising qs)
in_set (q ∷ qs) (suc i) h = in_old q _ _ (read_set_of qs) (in_set qs i (omega arith))

-- THE REQUESTS: each given bit is requested
pub set_requests : (qs : List ℕ) (i : ℕ) → i < length qs → Requested (pairs_of (read_set_of qs)) (get_or qs i 0 / 32) (get_or qs i 0 % 32)
set_requests qs i h = in_requested 0 (get_or qs i 0 / 32) (get_or qs i 0 % 32) (read_set_of qs) (in_set qs i h)
