-- 02's laws of joining: order and grouping don't change the set, a set joined with itself or the empty one is that set, positions in any order give
-- the same pairs. A set in form is its bits, and a join requests what either set requests.
-- Assumes nothing.
use mathlib.Core.Path.{◌≡◌, refl, sym, ap, ◌∙◌}
use mathlib.Core.List.{List, [], ◌∷◌, ◌++◌}
use mathlib.Core.Logic.{◌⊎◌, inl, inr, ⊎_elim}
use Prim.Native.Nat.{ℕ, suc, ◌+◌, ◌/◌, ◌%◌, ◌^◌, max, ◌<◌}
use native.Mathlib.Omega.{arith}
use lib.Bits.{bit_or, or_self, or_zero_r}
use lib.ListN.{length, get_or}
use Rattle.words.specs.Bit.{bit, with_bit}
use Rattle.words.proofs.BitLaws.{bit_or_lem, bit_lt, bit_zero}
use Rattle.reads.specs.ReadSet.{pairs_from, pairs_of}
use Rattle.reads.specs.Asked.{ask, read_set_of}
use Rattle.reads.specs.Packing.{times}
use Rattle.reads.proofs.PackingLaws.{times_nil, times_cons}
use Rattle.reads.proofs.SetLaws.{times_here, times_cases}
use Rattle.reads.proofs.LocalLaws.{Requested}
use Rattle.reads_asked.specs.Rising.{Rising}
use Rattle.reads_asked.proofs.AskLaws.{bit_same, ask_below, ask_same, ask_above, Compared, less, same, more, compared, set-again}
use Rattle.joins_sets.specs.Join.{put_pair, join}
use Rattle.joins_sets.proofs.JoinPutLaws.{put_below, put_same, put_above, rising_join, each_join}
use Rattle.joins_sets.proofs.JoinMaskLaws.{or_positive, mask_of, no_mask, mask_here, mask_behind, mask_low, equal_or_not}
use Rattle.joins_sets.proofs.JoinKeptLaws.{InForm, Right, formed_set, unbroken_from, kept, kept_none, kept_join, kept_set, kept_same, masks_both, kept_comm, kept_assoc}

-- a join of sets in form is in form
pub join_form : (a b : List ℕ) → InForm a → InForm b → InForm (join a b)
join_form a b e f =
    let p = formed_set a e in
    let q = formed_set b f in
    unbroken_from 0 0 (join a b)
    (record {
      rising = rising_join 0 a b p.rising q.rising;
      right = each_join Right (λ w m n x y. (x.0, or_positive n m y.1)) a b p.right q.right;
    })

-- "Order and grouping don't change the set"
pub join_comm : (a b : List ℕ) → InForm a → InForm b → join a b ≡ join b a
join_comm a b e f = kept_comm (kept a e) (kept b f)

pub join_assoc : (a b c : List ℕ) → InForm a → InForm b → InForm c → join (join a b) c ≡ join a (join b c)
join_assoc a b c e f g = kept_assoc (kept a e) (kept b f) (kept c g)

-- "joining a set with itself or the empty one changes nothing"
pub join_self : (a : List ℕ) → InForm a → join a a ≡ a
join_self a e = let p = kept a e in kept_same (kept_join p p) p (λ x. masks_both p p x ∙ or_self (mask_of x a))

pub join_empty : (a : List ℕ) → InForm a → (join a [] ≡ a) × (join [] a ≡ a)
unfolding join
join_empty a e =
    let p = kept a e in
    let q = kept_none in
    (kept_same (kept_join p q) p (λ x. masks_both p q x ∙ ap (bit_or (mask_of x a)) (no_mask x) ∙ or_zero_r (mask_of x a)), refl)

-- ---- a set's bits are those of its masks

no_bit : {A : Type 0} (k : ℕ) → bit 0 k ≡ 1 → A
no_bit k e = absurd (omega (arith, bit_zero k))

mask_requested : (i w k : ℕ) (s : List ℕ) → bit (mask_of w s) k ≡ 1 → Requested (pairs_from i s) w k
unfolding mask_of pairs_from
mask_requested i w k [] e = no_bit k e
mask_requested i w k (x ∷ []) e = no_bit k e
mask_requested i w k (x ∷ m ∷ ws) e = by (equal_or_not w x) (mask_requested (i + 1) w k ws)
  where
    by : (w ≡ x) ⊎ (w ≡ x → ⊥) → (bit (mask_of w ws) k ≡ 1 → Requested (pairs_from (i + 1) ws) w k) → Requested (pairs_from i (x ∷ m ∷ ws)) w k
    by (inl f) r = rw f (record { mask = m; stands = times_here _ _; set = sym (ap (λ (y : ℕ). bit y k) (mask_here w x m ws f)) ∙ e })
    by (inr f) r =
        let q = r (sym (ap (λ (y : ℕ). bit y k) (mask_behind w x m ws f)) ∙ e) in
        record { mask = q.mask; stands = omega (arith, times_cons w q.mask (record { at = i; word = x; mask = m }) (pairs_from (i + 1) ws), q.stands); set = q.set }

requested_mask : (i low w k : ℕ) (s : List ℕ) → Rising low s → Requested (pairs_from i s) w k → bit (mask_of w s) k ≡ 1
unfolding Rising pairs_from
requested_mask i low w k [] r q = absurd (omega (arith, times_nil w q.mask, q.stands))
requested_mask i low w k (x ∷ []) r q = absurd r
requested_mask i low w k (x ∷ m ∷ ws) r q = by (times_cases w q.mask _ (pairs_from (i + 1) ws) q.stands) (requested_mask (i + 1) (x + 1) w k ws r.1)
  where
    behind : bit (mask_of w ws) k ≡ 1 → w ≡ x → ⊥
    behind e f = no_bit k (sym (ap (λ (y : ℕ). bit y k) (mask_low w (x + 1) ws r.1 (omega arith))) ∙ e)

    by : ((x ≡ w) × (m ≡ q.mask)) ⊎ (0 < times w q.mask (pairs_from (i + 1) ws)) → (Requested (pairs_from (i + 1) ws) w k → bit (mask_of w ws) k ≡ 1)
        → bit (mask_of w (x ∷ m ∷ ws)) k ≡ 1
    by (inl f) g = ap (λ (y : ℕ). bit y k) (mask_here w x m ws (sym f.0) ∙ f.1) ∙ q.set
    by (inr f) g =
        let e = g (record { mask = q.mask; stands = f; set = q.set }) in
        ap (λ (y : ℕ). bit y k) (mask_behind w x m ws (behind e)) ∙ e

both_ways : (p q : ℕ) → p < 2 → q < 2 → (p ≡ 1 → q ≡ 1) → (q ≡ 1 → p ≡ 1) → p ≡ q
both_ways p q l h f g = by (equal_or_not p 1) (equal_or_not q 1)
  where
    by : (p ≡ 1) ⊎ (p ≡ 1 → ⊥) → (q ≡ 1) ⊎ (q ≡ 1 → ⊥) → p ≡ q
    by (inl e) t = e ∙ sym (f e)
    by (inr e) (inl t) = absurd (e (g t))
    by (inr e) (inr t) = omega arith

-- A SET IN FORM IS ITS BITS: two that request the same are the same
pub same_bits : (a b : List ℕ) → InForm a → InForm b → ((w k : ℕ) → Requested (pairs_of a) w k → Requested (pairs_of b) w k)
    → ((w k : ℕ) → Requested (pairs_of b) w k → Requested (pairs_of a) w k) → a ≡ b
same_bits a b e f there back =
    let p = kept a e in
    let q = kept b f in
    kept_same p q (λ w. bit_same (mask_of w a) (mask_of w b) (λ k. both_ways (bit (mask_of w a) k) (bit (mask_of w b) k) (bit_lt (mask_of w a) k) (bit_lt (mask_of w b) k)
    (λ t. requested_mask 0 0 w k b q.rising (there w k (mask_requested 0 w k a t)))
    (λ t. requested_mask 0 0 w k a p.rising (back w k (mask_requested 0 w k b t)))))

-- a join requests what either set requests, and nothing else
module _ (a b : List ℕ) (e : InForm a) (f : InForm b) (w k : ℕ) where
  bits-both : bit (mask_of w (join a b)) k ≡ max (bit (mask_of w a) k) (bit (mask_of w b) k)
  bits-both = ap (λ (y : ℕ). bit y k) (masks_both (kept a e) (kept b f) w) ∙ bit_or_lem (mask_of w a) (mask_of w b) k

  pub join_requests : Requested (pairs_of (join a b)) w k → Requested (pairs_of a) w k ⊎ Requested (pairs_of b) w k
  join_requests q =
      let one = requested_mask 0 0 w k (join a b) (kept_join (kept a e) (kept b f)).rising q in
      ⊎_elim (λ t. inl (mask_requested 0 w k a t))
      (λ t. inr (mask_requested 0 w k b (omega (arith, one, bits-both, bit_lt (mask_of w a) k, bit_lt (mask_of w b) k))))
      (equal_or_not (bit (mask_of w a) k) 1)

  pub join_requested : Requested (pairs_of a) w k ⊎ Requested (pairs_of b) w k → Requested (pairs_of (join a b)) w k
  join_requested (inl q) =
      let one = requested_mask 0 0 w k a (kept a e).rising q in
      mask_requested 0 w k (join a b) (omega (arith, one, bits-both, bit_lt (mask_of w b) k))
  join_requested (inr q) =
      let one = requested_mask 0 0 w k b (kept b f).rising q in
      mask_requested 0 w k (join a b) (omega (arith, one, bits-both, bit_lt (mask_of w a) k))

-- ---- positions

-- a bit more is a pair more, and so a join
ask_put : (q : ℕ) (s : List ℕ) → ask q s ≡ put_pair (q / 32) (2 ^ (q % 32)) s
unfolding ask put_pair with_bit
ask_put q [] = refl
ask_put q (w ∷ []) = refl
ask_put q (w ∷ m ∷ ws) = by (compared (q / 32) w) (ask_put q ws)
  where
    by : Compared (q / 32) w → ask q ws ≡ put_pair (q / 32) (2 ^ (q % 32)) ws → ask q (w ∷ m ∷ ws) ≡ put_pair (q / 32) (2 ^ (q % 32)) (w ∷ m ∷ ws)
    by (less a) i = ask_below q w m ws a ∙ sym (put_below (q / 32) (2 ^ (q % 32)) w m ws a)
    by (same a) i = ask_same q w m ws a ∙ sym (put_same (q / 32) (2 ^ (q % 32)) w m ws a)
    by (more a) i = ask_above q w m ws a ∙ ap (λ (t : List ℕ). w ∷ m ∷ t) i ∙ sym (put_above (q / 32) (2 ^ (q % 32)) w m ws a)

ask_join : (q : ℕ) (s : List ℕ) → ask q s ≡ join (read_set_of (q ∷ [])) s
unfolding read_set_of ask join
ask_join q s = ask_put q s

-- the join of two lists' sets is the set of both lists
pub join_asks : (ps qs : List ℕ) → join (read_set_of ps) (read_set_of qs) ≡ read_set_of (ps ++ qs)
unfolding read_set_of join
join_asks [] qs = refl
join_asks (p ∷ ps) qs =
    ap (λ (s : List ℕ). join s (read_set_of qs)) (ask_join p (read_set_of ps))
    ∙ kept_assoc (kept_set (p ∷ [])) (kept_set ps) (kept_set qs)
    ∙ ap (join (read_set_of (p ∷ []))) (join_asks ps qs) ∙ sym (ask_join p (read_set_of (ps ++ qs)))

-- a position is among those of a list
abbrev pub Among : List ℕ → ℕ → Type 0
Among qs q = (i : ℕ) × (i < length qs) × (get_or qs i 0 ≡ q)

abbrev pub AllAmong : List ℕ → List ℕ → Type 0
AllAmong ps qs = (i : ℕ) → i < length ps → Among qs (get_or ps i 0)

set_more : (ps qs : List ℕ) → AllAmong ps qs → read_set_of (ps ++ qs) ≡ read_set_of qs
unfolding read_set_of
set_more [] qs h = refl
set_more (p ∷ ps) qs h =
    let m = h 0 (omega arith) in
    ap (ask p) (set_more ps qs (λ i l. h (suc i) (omega arith))) ∙ set-again qs p m.0 m.1 m.2

-- "positions taken in any order give the same pairs", repeated or not
pub set-order : (ps qs : List ℕ) → AllAmong ps qs → AllAmong qs ps → read_set_of ps ≡ read_set_of qs
set-order ps qs h g =
    sym (set_more qs ps g) ∙ sym (join_asks qs ps) ∙ kept_comm (kept_set qs) (kept_set ps) ∙ join_asks ps qs ∙ set_more ps qs h
