-- A set in order is its masks: that of each word, 0 where the word does not stand in it. A join has the masks of both, or'ed.
-- Assumes nothing.
use mathlib.Core.Path.{◌≡◌, refl, sym, ap, ap₂, ◌∙◌}
use mathlib.Core.Bool.{Bool, true, false}
use mathlib.Core.List.{List, [], ◌∷◌}
use mathlib.Core.Logic.{◌⊎◌, inl, inr}
use Prim.Native.Nat.{ℕ, ◌+◌, max, ◌<◌}
use native.Mathlib.Omega.{arith}
use borrow.Author.Tests.{eq-eqb, ne_eqb, eqb-true, eqb-false}
use lib.Bits.{bit_or, or_comm, or_zero_r, or_add_and, and_le_l}
use lib.Dec.{eqb}
use Rattle.words.specs.Bit.{bit}
use Rattle.words.proofs.BitLaws.{bit_or_lem}
use Rattle.reads_asked.specs.Rising.{Rising}
use Rattle.reads_asked.proofs.AskLaws.{bit_same, Compared, less, same, more, compared}
use Rattle.reads_asked.proofs.AskedFormLaws.{EachPair}
use Rattle.joins_sets.specs.Join.{put_pair, join}
use Rattle.joins_sets.proofs.JoinPutLaws.{put_new, put_below, put_same, put_above, rising_lower, rising_join}

-- ---- or

max_assoc : (a b c : ℕ) → max (max a b) c ≡ max a (max b c)
max_assoc a b c = omega arith

pub or_assoc : (a b c : ℕ) → bit_or (bit_or a b) c ≡ bit_or a (bit_or b c)
or_assoc a b c =
    bit_same (bit_or (bit_or a b) c) (bit_or a (bit_or b c))
    (λ k. bit_or_lem (bit_or a b) c k ∙ ap (λ (x : ℕ). max x (bit c k)) (bit_or_lem a b k) ∙ max_assoc (bit a k) (bit b k) (bit c k)
    ∙ sym (bit_or_lem a (bit_or b c) k ∙ ap (max (bit a k)) (bit_or_lem b c k)))

or_last : (a b c : ℕ) → bit_or (bit_or a b) c ≡ bit_or (bit_or a c) b
or_last a b c = or_assoc a b c ∙ ap (bit_or a) (or_comm b c) ∙ sym (or_assoc a c b)

pub or_positive : (a b : ℕ) → 0 < b → 0 < bit_or a b
or_positive a b h = omega (arith, or_add_and a b, and_le_l a b)

-- ---- the mask of a word

unfoldable pub mask_of : ℕ → List ℕ → ℕ
mask_of x [] = 0
mask_of x (w ∷ []) = 0
mask_of x (w ∷ m ∷ ws) = elim (eqb x w) [ true ↦ m | false ↦ mask_of x ws ]

module _ (x w m : ℕ) (ws : List ℕ) where
  -- by the test whether the first pair has the word
  abbrev maskBy : Bool → ℕ
  maskBy t = elim t [ true ↦ m | false ↦ mask_of x ws ]

  pub mask_here : x ≡ w → mask_of x (w ∷ m ∷ ws) ≡ m
  unfolding mask_of
  mask_here e = ap maskBy (eq-eqb x w e)

  pub mask_behind : (x ≡ w → ⊥) → mask_of x (w ∷ m ∷ ws) ≡ mask_of x ws
  unfolding mask_of
  mask_behind e = ap maskBy (ne_eqb x w e)

pub no_mask : (x : ℕ) → mask_of x [] ≡ 0
unfolding mask_of
no_mask x = refl

pub equal_or_not : (x w : ℕ) → (x ≡ w) ⊎ (x ≡ w → ⊥)
equal_or_not x w = by (eqb x w) refl
  where
    by : (t : Bool) → eqb x w ≡ t → (x ≡ w) ⊎ (x ≡ w → ⊥)
    by true e = inl (eqb-true x w e)
    by false e = inr (eqb-false x w e)

-- a word before all of a set's
pub mask_low : (x low : ℕ) (s : List ℕ) → Rising low s → x < low → mask_of x s ≡ 0
unfolding Rising
mask_low x low [] r h = no_mask x
mask_low x low (w ∷ []) r h = absurd r
mask_low x low (w ∷ m ∷ ws) r h =
    mask_behind x w m ws (λ e. omega (arith, r.0)) ∙ mask_low x (w + 1) ws r.1 (omega (arith, r.0))

-- ---- the masks of a join

-- of one pair
abbrev own : ℕ → ℕ → ℕ → ℕ
own w m x = mask_of x (w ∷ m ∷ [])

own_other : (w m x : ℕ) → (x ≡ w → ⊥) → own w m x ≡ 0
own_other w m x h = mask_behind x w m [] h ∙ no_mask x

or_none_lem : (w m x k : ℕ) → (x ≡ w → ⊥) → k ≡ bit_or k (own w m x)
or_none_lem w m x k h = sym (ap (bit_or k) (own_other w m x h) ∙ or_zero_r k)

mask_cons : (x low w m : ℕ) (ws : List ℕ) → Rising low (w ∷ m ∷ ws) → mask_of x (w ∷ m ∷ ws) ≡ bit_or (mask_of x ws) (own w m x)
unfolding Rising
mask_cons x low w m ws r = by (equal_or_not x w)
  where
    by : (x ≡ w) ⊎ (x ≡ w → ⊥) → mask_of x (w ∷ m ∷ ws) ≡ bit_or (mask_of x ws) (own w m x)
    by (inl e) = mask_here x w m ws e ∙ sym (ap₂ bit_or (mask_low x (w + 1) ws r.1 (omega arith)) (mask_here x w m [] e))
    by (inr e) = mask_behind x w m ws e ∙ or_none_lem w m x (mask_of x ws) e

put_mask : (x low w m : ℕ) (s : List ℕ) → Rising low s → mask_of x (put_pair w m s) ≡ bit_or (mask_of x s) (own w m x)
unfolding Rising
put_mask x low w m [] r = ap (mask_of x) (put_new w m) ∙ sym (ap (λ (k : ℕ). bit_or k (own w m x)) (no_mask x))
put_mask x low w m (v ∷ []) r = absurd r
put_mask x low w m (v ∷ n ∷ ws) r = by (compared w v) (equal_or_not x w) (equal_or_not x v) (put_mask x (v + 1) w m ws r.1)
  where
    by : Compared w v → (x ≡ w) ⊎ (x ≡ w → ⊥) → (x ≡ v) ⊎ (x ≡ v → ⊥) → mask_of x (put_pair w m ws) ≡ bit_or (mask_of x ws) (own w m x)
        → mask_of x (put_pair w m (v ∷ n ∷ ws)) ≡ bit_or (mask_of x (v ∷ n ∷ ws)) (own w m x)
    by (less a) (inl e) f i =
        let low-here : Rising v (v ∷ n ∷ ws) = (omega arith, r.1) in
        ap (mask_of x) (put_below w m v n ws a) ∙ mask_here x w m (v ∷ n ∷ ws) e
        ∙ sym (ap₂ bit_or (mask_low x v (v ∷ n ∷ ws) low-here (omega arith)) (mask_here x w m [] e))
    by (less a) (inr e) f i = ap (mask_of x) (put_below w m v n ws a) ∙ mask_behind x w m (v ∷ n ∷ ws) e ∙ or_none_lem w m x (mask_of x (v ∷ n ∷ ws)) e
    by (same a) e (inl f) i =
        ap (mask_of x) (put_same w m v n ws a) ∙ mask_here x v (bit_or n m) ws f
        ∙ sym (ap₂ bit_or (mask_here x v n ws f) (mask_here x w m [] (f ∙ sym a)))
    by (same a) e (inr f) i =
        ap (mask_of x) (put_same w m v n ws a) ∙ mask_behind x v (bit_or n m) ws f ∙ sym (mask_behind x v n ws f)
        ∙ or_none_lem w m x (mask_of x (v ∷ n ∷ ws)) (λ q. f (q ∙ a))
    by (more a) e (inl f) i =
        ap (mask_of x) (put_above w m v n ws a) ∙ mask_here x v n (put_pair w m ws) f ∙ sym (mask_here x v n ws f)
        ∙ or_none_lem w m x (mask_of x (v ∷ n ∷ ws)) (λ q. omega arith)
    by (more a) e (inr f) i =
        ap (mask_of x) (put_above w m v n ws a) ∙ mask_behind x v n (put_pair w m ws) f ∙ i
        ∙ ap (λ (k : ℕ). bit_or k (own w m x)) (sym (mask_behind x v n ws f))

pub join_mask : (x low : ℕ) (a b : List ℕ) → Rising low a → Rising 0 b → mask_of x (join a b) ≡ bit_or (mask_of x a) (mask_of x b)
unfolding Rising join
join_mask x low [] b r q = sym (ap (λ (k : ℕ). bit_or k (mask_of x b)) (no_mask x))
join_mask x low (w ∷ []) b r q = absurd r
join_mask x low (w ∷ m ∷ ws) b r q =
    let rest = rising_join 0 ws b (rising_lower 0 (w + 1) ws (omega arith) r.1) q in
    put_mask x 0 w m (join ws b) rest ∙ ap (λ (k : ℕ). bit_or k (own w m x)) (join_mask x (w + 1) ws b r.1 q)
    ∙ or_last (mask_of x ws) (mask_of x b) (own w m x) ∙ ap (λ (k : ℕ). bit_or k (mask_of x b)) (sym (mask_cons x low w m ws r))

-- ---- sets with the same masks

-- no mask is 0
abbrev pub Some : ℕ → ℕ → Type 0
Some w m = 0 < m

pub same_masks : (low high : ℕ) (a b : List ℕ) → Rising low a → Rising high b → EachPair Some a → EachPair Some b → ((x : ℕ) → mask_of x a ≡ mask_of x b) → a ≡ b
unfolding Rising EachPair
same_masks low high [] [] r q e f h = refl
same_masks low high [] (v ∷ []) r q e f h = absurd q
same_masks low high [] (v ∷ n ∷ ys) r q e f h =
    absurd (omega (arith, f.0, sym (no_mask v) ∙ h v ∙ mask_here v v n ys refl))
same_masks low high (w ∷ []) b r q e f h = absurd r
same_masks low high (w ∷ m ∷ xs) [] r q e f h =
    absurd (omega (arith, e.0, sym (no_mask w) ∙ sym (h w) ∙ mask_here w w m xs refl))
same_masks low high (w ∷ m ∷ xs) (v ∷ []) r q e f h = absurd q
same_masks low high (w ∷ m ∷ xs) (v ∷ n ∷ ys) r q e f h = by (compared w v) (same_masks (w + 1) (v + 1) xs ys r.1 q.1 e.1 f.1)
  where
    by : Compared w v → (((x : ℕ) → mask_of x xs ≡ mask_of x ys) → xs ≡ ys) → w ∷ m ∷ xs ≡ v ∷ n ∷ ys
    by (less a) i =
        let above : Rising v (v ∷ n ∷ ys) = (omega arith, q.1) in
        absurd (omega (arith, e.0, sym (mask_here w w m xs refl) ∙ h w ∙ mask_low w v (v ∷ n ∷ ys) above a))
    by (more a) i =
        let above : Rising w (w ∷ m ∷ xs) = (omega arith, r.1) in
        absurd (omega (arith, f.0, sym (mask_here v v n ys refl) ∙ sym (h v) ∙ mask_low v w (w ∷ m ∷ xs) above a))
    by (same a) i =
        let masks : m ≡ n = sym (mask_here w w m xs refl) ∙ h w ∙ mask_here w v n ys a in
        let rests : xs ≡ ys = i (λ x. behind x (equal_or_not x w)) in
        cc
      where
        behind : (x : ℕ) → (x ≡ w) ⊎ (x ≡ w → ⊥) → mask_of x xs ≡ mask_of x ys
        behind x (inl g) = mask_low x (w + 1) xs r.1 (omega arith) ∙ sym (mask_low x (v + 1) ys q.1 (omega arith))
        behind x (inr g) = sym (mask_behind x w m xs g) ∙ h x ∙ mask_behind x v n ys (λ y. g (y ∙ sym a))
