-- A section of n lanes: entries and places are the same numbers in other digits, so each entry has a half of its own, and the entries fix the words.
-- Everything is argued once, over n. Assumes nothing.
use mathlib.Core.Path.{◌≡◌, refl, sym, ap, ap₂, ◌∙◌, subst}
use mathlib.Core.List.{List, [], ◌∷◌}
use mathlib.Core.Logic.{◌≢◌, ⊎_elim}
use Prim.Native.Nat.{ℕ, zero, suc, ◌+◌, ◌*◌, ◌/◌, ◌%◌, ◌^◌, ◌≤◌, ◌<◌}
use native.Mathlib.Nat.{add-zero, mod-lt, div-lt_iff_lt-mul, div-add-mod', not-suc-le-zero, eq-or-lt_of_le, le_of_suc-le-suc}
use native.Mathlib.Decide.{ℕ_discrete}
use native.Mathlib.Omega.{arith}
use lib.Arith.{digits_div, digits_mod, digits_lt}
use lib.Bits.{bit_or, or_shifted_r}
use lib.ListN.{length, get_or, set, length-append, get_or-append}
use lib.Pow.{shl_exact}
use lib.Seq.{sets, length-sets, get_or-set_same, get_or-set_other, get_or_at, ext_get_or}
use Rattle.words.specs.Section.{word_of_entry, entry_of, half_of, half_at, list_of, section_of}
use Rattle.words.proofs.ListLaws.{sets_append}

-- ---- lists from a function of the index

pub length_list_of : (f : ℕ → ℕ) (m : ℕ) → length (list_of f m) ≡ m
unfolding list_of
length_list_of f zero = refl
length_list_of f (suc m) = omega (arith, length-append (list_of f m) (f m ∷ []), length_list_of f m)

pub get_d_list_of : (f : ℕ → ℕ) (m i : ℕ) → i < m → get_or (list_of f m) i 0 ≡ f i
unfolding list_of
get_d_list_of f zero i h = absurd (not-suc-le-zero h)
get_d_list_of f (suc m) i h = ⊎_elim
    (λ e. rw e (get_or_at (list_of f m) (f m) [] 0 m (length_list_of f m)))
    (λ l. get_or-append (list_of f m) (f m ∷ []) 0 i (omega (arith, length_list_of f m)) ∙ get_d_list_of f m i l)
    (eq-or-lt_of_le (le_of_suc-le-suc h))

-- a list of m numbers that are those of f is the list of f
pub list_of-is : (f : ℕ → ℕ) (m : ℕ) (s : List ℕ) → length s ≡ m → ((i : ℕ) → i < m → get_or s i 0 ≡ f i) → s ≡ list_of f m
list_of-is f m s e h = ext_get_or 0 s (list_of f m) (e ∙ sym (length_list_of f m)) (λ i l. h i (omega arith) ∙ sym (get_d_list_of f m i (omega arith)))

pub list_of_ext : (f g : ℕ → ℕ) (m : ℕ) → ((i : ℕ) → i < m → f i ≡ g i) → list_of f m ≡ list_of g m
list_of_ext f g m h = list_of-is g m (list_of f m) (length_list_of f m) (λ i l. get_d_list_of f m i l ∙ h i l)

-- ---- the places

low_part : (n i : ℕ) → i < 32 * n → i / 32 * 4 + i % 8 / 2 < 4 * n
low_part n i h = omega arith

pub place_lt : (n i : ℕ) → i < 32 * n → word_of_entry n i < 16 * n
unfolding word_of_entry
place_lt n i h = subst (λ (x : ℕ). word_of_entry n i < x) (omega arith) (digits_lt {m = 4} (omega arith) (low_part n i h))

-- an entry's word and half give the entry back
pub entry_place : (n i : ℕ) → i < 32 * n → entry_of n (word_of_entry n i) (i % 2) ≡ i
unfolding word_of_entry entry_of
entry_place n i h =
    let lo : word_of_entry n i % (4 * n) ≡ i / 32 * 4 + i % 8 / 2 = digits_mod (i / 8 % 4) (low_part n i h) in
    let hi : word_of_entry n i / (4 * n) ≡ i / 8 % 4 = digits_div (i / 8 % 4) (low_part n i h) in
    let t : (i / 32 * 4 + i % 8 / 2) / 4 ≡ i / 32 = omega arith in
    let h : (i / 32 * 4 + i % 8 / 2) % 4 ≡ i % 8 / 2 = omega arith in
    rw (lo, hi, t, h) (omega arith)

-- the digits of an entry
digit_k : (t k h e : ℕ) → k < 4 → h < 4 → e < 2 → (t * 32 + k * 8 + h * 2 + e) / 8 % 4 ≡ k
digit_k t k h e a b c = omega arith

digit_t : (t k h e : ℕ) → k < 4 → h < 4 → e < 2 → (t * 32 + k * 8 + h * 2 + e) / 32 ≡ t
digit_t t k h e a b c = omega arith

digit_h : (t k h e : ℕ) → k < 4 → h < 4 → e < 2 → (t * 32 + k * 8 + h * 2 + e) % 8 / 2 ≡ h
digit_h t k h e a b c = omega arith

-- the other way round: a word and a half are those of their entry
pub place_entry : (n w e : ℕ) → w < 16 * n → e < 2 → (entry_of n w e < 32 * n) × (word_of_entry n (entry_of n w e) ≡ w) × (entry_of n w e % 2 ≡ e)
unfolding word_of_entry entry_of
place_entry n w e h l = at (w / (4 * n)) (w % (4 * n)) ((div-lt_iff_lt-mul some).1 (omega arith)) (mod-lt w some) (div-add-mod' w (4 * n))
  where
    some : 0 < 4 * n
    some = omega arith

    at : (q r : ℕ) → q < 4 → r < 4 * n → q * (4 * n) + r ≡ w
        → (r / 4 * 32 + q * 8 + r % 4 * 2 + e < 32 * n)
        × ((r / 4 * 32 + q * 8 + r % 4 * 2 + e) / 8 % 4 * (4 * n) + ((r / 4 * 32 + q * 8 + r % 4 * 2 + e) / 32 * 4 + (r / 4 * 32 + q * 8 + r % 4 * 2 + e) % 8 / 2) ≡ w)
        × ((r / 4 * 32 + q * 8 + r % 4 * 2 + e) % 2 ≡ e)
    at q r hq hr is =
        let m : r % 4 < 4 = omega arith in
        let b : r / 4 * 4 + r % 4 ≡ r = div-add-mod' r 4 in
        (omega arith, rw (digit_k (r / 4) q (r % 4) e hq m l, digit_t (r / 4) q (r % 4) e hq m l, digit_h (r / 4) q (r % 4) e hq m l, b) is, omega arith)

-- two entries with the same word and the same half are one
pub place_apart : (n i j : ℕ) → i < 32 * n → j < 32 * n → word_of_entry n j ≡ word_of_entry n i → j % 2 ≡ i % 2 → j ≡ i
place_apart n i j hi hj p q = sym (entry_place n j hj) ∙ ap₂ (entry_of n) p q ∙ entry_place n i hi

-- ---- the halves of a word

-- the halves of a word put together from two
pub half_two : (g : ℕ → ℕ) (e : ℕ) → e < 2 → g 0 < 2 ^ 16 → half_of (g 1 * 2 ^ 16 + g 0) e ≡ g e
unfolding half_of
half_two g zero l h = digits_mod (g 1) h
half_two g (suc zero) l h = digits_div (g 1) h
half_two g (suc (suc e)) l h = absurd (omega arith)

-- a word is its two halves
pub half_join : (x : ℕ) → x ≡ half_of x 1 * 2 ^ 16 + half_of x 0
unfolding half_of
half_join x = omega arith

-- two halves in one word, as the code joins them
pub halves_join : (low high : ℕ) → low < 2 ^ 16 → high < 2 ^ 16 → bit_or low ((high * 2 ^ 16) % 2 ^ 32) ≡ high * 2 ^ 16 + low
halves_join low high a b = rw (shl_exact 16 16 32 b (omega arith)) (or_shifted_r high 16 low a)

-- ---- a whole section

pub section_length : (n : ℕ) (f : ℕ → ℕ) → length (section_of n f) ≡ 16 * n
unfolding section_of
section_length n f = length_list_of _ (16 * n)

pub section_word : (n : ℕ) (f : ℕ → ℕ) (w : ℕ) → w < 16 * n → get_or (section_of n f) w 0 ≡ f (entry_of n w 1) * 2 ^ 16 + f (entry_of n w 0)
unfolding section_of
section_word n f w h = get_d_list_of (λ w. f (entry_of n w 1) * 2 ^ 16 + f (entry_of n w 0)) (16 * n) w h

pub half_section : (n : ℕ) (f : ℕ → ℕ) → ((j : ℕ) → j < 32 * n → f j < 2 ^ 16) → (i : ℕ) → i < 32 * n → half_at n (section_of n f) i ≡ f i
unfolding half_at
half_section n f small i h =
    let w = word_of_entry n i in
    let fits = (place_entry n w 0 (place_lt n i h) (omega arith)).0 in
    ap (λ (x : ℕ). half_of x (i % 2)) (section_word n f w (place_lt n i h))
    ∙ half_two (λ e. f (entry_of n w e)) (i % 2) (mod-lt i (omega arith)) (small (entry_of n w 0) fits)
    ∙ ap f (entry_place n i h)

-- the entries fix the words
pub section_is : (n : ℕ) (f : ℕ → ℕ) (s : List ℕ) → length s ≡ 16 * n → ((i : ℕ) → i < 32 * n → half_at n s i ≡ f i) → s ≡ section_of n f
unfolding section_of half_at
section_is n f s e h = list_of-is (λ w. f (entry_of n w 1) * 2 ^ 16 + f (entry_of n w 0)) (16 * n) s e (λ w l. half_join (get_or s w 0) ∙ ap₂ (λ (a : ℕ) (b : ℕ). a * 2 ^ 16 + b) (half w 1 l (omega arith)) (half w 0 l (omega arith)))
  where
    half : (w e : ℕ) → w < 16 * n → e < 2 → half_of (get_or s w 0) e ≡ f (entry_of n w e)
    half w e g l =
        let k = place_entry n w e g l in
        rw (k.1, k.2) at (h (entry_of n w e) k.0)

-- a section looks at no entry past its own
pub section_ext : (n : ℕ) (f g : ℕ → ℕ) → ((i : ℕ) → i < 32 * n → f i ≡ g i) → section_of n f ≡ section_of n g
unfolding section_of
section_ext n f g h = list_of_ext _ _ (16 * n) (λ w l. ap₂ (λ (a : ℕ) (b : ℕ). a * 2 ^ 16 + b) (same w 1 l (omega arith)) (same w 0 l (omega arith)))
  where
    same : (w e : ℕ) → w < 16 * n → e < 2 → f (entry_of n w e) ≡ g (entry_of n w e)
    same w e l d = h (entry_of n w e) (place_entry n w e l d).0

-- ---- two entries at a time: entries 2p and 2p + 1 are the halves of one word

place_even : (n i : ℕ) → word_of_entry n i ≡ word_of_entry n (2 * (i / 2))
unfolding word_of_entry
place_even n i =
    let k : 2 * (i / 2) / 8 % 4 ≡ i / 8 % 4 = omega arith in
    let t : 2 * (i / 2) / 32 ≡ i / 32 = omega arith in
    let h : 2 * (i / 2) % 8 / 2 ≡ i % 8 / 2 = omega arith in
    rw (k, t, h)

place_pair : (n i j : ℕ) → i < 32 * n → j < 32 * n → word_of_entry n j ≡ word_of_entry n i → j / 2 ≡ i / 2
place_pair n i j hi hj e =
    let a = place_apart n (2 * (i / 2)) (2 * (j / 2)) (omega arith) (omega arith) (sym (place_even n j) ∙ e ∙ place_even n i) (omega arith) in
    omega arith

-- a word more of a section that is filled pair by pair
pair_more_lem : (n : ℕ) (f : ℕ → ℕ) (s : List ℕ) (p : ℕ) → ((j : ℕ) → j < 32 * n → f j < 2 ^ 16) → 16 * n ≤ length s → p < 16 * n
    → ((i : ℕ) → i < 2 * p → half_at n s i ≡ f i)
    → (i : ℕ) → i < 2 * (p + 1) → half_at n (set s (word_of_entry n (2 * p)) (f (2 * p + 1) * 2 ^ 16 + f (2 * p))) i ≡ f i
unfolding half_at
pair_more_lem n f s p small room h done i l = by (ℕ_discrete (word_of_entry n i) w)
  where
    w : ℕ
    w = word_of_entry n (2 * p)

    x : ℕ
    x = f (2 * p + 1) * 2 ^ 16 + f (2 * p)

    by : Dec (word_of_entry n i ≡ w) → half_of (get_or (set s w x) (word_of_entry n i) 0) (i % 2) ≡ f i
    by (yes e) =
        let half : i / 2 ≡ 2 * p / 2 = place_pair n (2 * p) i (omega arith) (omega arith) e in
        let is : 2 * p + i % 2 ≡ i = omega arith in
        ap (λ (w : ℕ). half_of (get_or (set s (word_of_entry n (2 * p)) x) w 0) (i % 2)) e
        ∙ ap (λ (y : ℕ). half_of y (i % 2)) (get_or-set_same s w x 0 (omega (arith, place_lt n (2 * p) (omega arith))))
        ∙ ap (λ (y : ℕ). half_of (f (2 * p + 1) * 2 ^ 16 + f y) (i % 2)) (sym (add-zero (2 * p)))
        ∙ half_two (λ e. f (2 * p + e)) (i % 2) (mod-lt i (omega arith)) (small (2 * p + 0) (omega arith))
        ∙ ap f is
    by (no d) =
        let other : i / 2 ≢ p = λ e. d (place_even n i ∙ ap (λ (q : ℕ). word_of_entry n (2 * q)) e) in
        ap (λ (y : ℕ). half_of y (i % 2)) (get_or-set_other s w (word_of_entry n i) x 0 d) ∙ done i (omega arith)

-- ---- four words at a time: the words of eight entries are next to one another

place_next : (n p m : ℕ) → p % 4 + m < 4 → word_of_entry n (2 * (p + m)) ≡ word_of_entry n (2 * p) + m
unfolding word_of_entry
place_next n p m h =
    let k : 2 * (p + m) / 8 % 4 ≡ 2 * p / 8 % 4 = omega arith in
    let t : 2 * (p + m) / 32 ≡ 2 * p / 32 = omega arith in
    let l : 2 * (p + m) % 8 / 2 ≡ 2 * p % 8 / 2 + m = omega arith in
    rw (k, t, l) (omega arith)

-- the words of row k of lane t
place_row : (n t k : ℕ) → k < 4 → word_of_entry n (2 * (16 * t + 4 * k)) ≡ k * (4 * n) + 4 * t
unfolding word_of_entry
place_row n t k h =
    let a : 2 * (16 * t + 4 * k) / 8 % 4 ≡ k = omega arith in
    let b : 2 * (16 * t + 4 * k) / 32 ≡ t = omega arith in
    let e : 2 * (16 * t + 4 * k) % 8 / 2 ≡ 0 = omega arith in
    rw (a, b, e) (omega arith)

-- word h of those from entry 2p on
abbrev pub pair_from : (ℕ → ℕ) → ℕ → ℕ → ℕ
pair_from f p h = f (2 * (p + h) + 1) * 2 ^ 16 + f (2 * (p + h))

-- the first 2p entries are in place
pub record HalvesFilled (n : ℕ) (f : ℕ → ℕ) (s : List ℕ) (p : ℕ) : Type 0 where
  pub long : length s ≡ 16 * n
  pub done : (i : ℕ) → i < 2 * p → half_at n s i ≡ f i

module _ (n : ℕ) (f : ℕ → ℕ) (small : (j : ℕ) → j < 32 * n → f j < 2 ^ 16) where
  run_more : (s : List ℕ) (p m : ℕ) → 16 * n ≤ length s → p + m ≤ 16 * n → p % 4 + m ≤ 4 → ((i : ℕ) → i < 2 * p → half_at n s i ≡ f i)
      → (i : ℕ) → i < 2 * (p + m) → half_at n (sets s (word_of_entry n (2 * p)) (list_of (pair_from f p) m)) i ≡ f i
  unfolding list_of
  run_more s p zero room fits row done i l = done i (omega arith)
  run_more s p (suc m) room fits row done i l =
      let g = pair_from f p in
      let w = word_of_entry n (2 * p) in
      let next : word_of_entry n (2 * (p + m)) ≡ w + length (list_of g m) = omega (arith, place_next n p m (omega arith), length_list_of g m) in
      let is : set (sets s w (list_of g m)) (word_of_entry n (2 * (p + m))) (g m) ≡ sets s w (list_of g (suc m)) =
      ap (λ (x : ℕ). set (sets s w (list_of g m)) x (g m)) next ∙ sym (sets_append s w (list_of g m) (g m ∷ [])) in
      subst (λ (u : List ℕ). half_at n u i ≡ f i) is
      (pair_more_lem n f (sets s w (list_of g m)) (p + m) small (omega (arith, length-sets s w (list_of g m))) (omega arith) (run_more s p m room (omega arith) (omega arith) done) i (omega arith))

  -- the four words of row k of lane t
  row_more : (t k p w : ℕ) (s s' : List ℕ) → t < n → k < 4 → p ≡ 16 * t + 4 * k → w ≡ k * (4 * n) + 4 * t
      → s' ≡ sets s w (list_of (pair_from f p) 4) → HalvesFilled n f s (16 * t + 4 * k) → HalvesFilled n f s' (16 * t + 4 * suc k)
  row_more t k p w s s' in-n in-k p-is w-is e filled =
      let place : w ≡ word_of_entry n (2 * p) = w-is ∙ sym (ap (λ (x : ℕ). word_of_entry n (2 * x)) p-is ∙ place_row n t k in-k) in
      let is : s' ≡ sets s (word_of_entry n (2 * p)) (list_of (pair_from f p) 4) = e ∙ ap (λ (x : ℕ). sets s x (list_of (pair_from f p) 4)) place in
      record {
        long = ap length e ∙ length-sets s w (list_of (pair_from f p) 4) ∙ filled.long;
        done = λ i l. ap (λ (u : List ℕ). half_at n u i) is ∙ run_more s p 4 (omega (arith, filled.long)) (omega arith) (omega arith) (λ i l. filled.done i (omega arith)) i (omega arith);
      }

  -- a lane more of a section that is filled lane by lane
  pub lane_more : (t : ℕ) (s s₁ s₂ s₃ s₄ : List ℕ) → t < n
      → s₁ ≡ sets s (4 * t) (list_of (pair_from f (16 * t)) 4)
      → s₂ ≡ sets s₁ (4 * n + 4 * t) (list_of (pair_from f (16 * t + 4)) 4)
      → s₃ ≡ sets s₂ (8 * n + 4 * t) (list_of (pair_from f (16 * t + 8)) 4)
      → s₄ ≡ sets s₃ (12 * n + 4 * t) (list_of (pair_from f (16 * t + 12)) 4)
      → HalvesFilled n f s (16 * t) → HalvesFilled n f s₄ (16 * (t + 1))
  lane_more t s s₁ s₂ s₃ s₄ l e₁ e₂ e₃ e₄ filled =
      let f₀ : HalvesFilled n f s (16 * t + 4 * 0) = subst (HalvesFilled n f s) (omega arith) filled in
      let f₁ : HalvesFilled n f s₁ (16 * t + 4 * 1) = row_more t 0 (16 * t) (4 * t) s s₁ l (omega arith) (omega arith) (omega arith) e₁ f₀ in
      let f₂ : HalvesFilled n f s₂ (16 * t + 4 * 2) = row_more t 1 (16 * t + 4) (4 * n + 4 * t) s₁ s₂ l (omega arith) (omega arith) (omega arith) e₂ f₁ in
      let f₃ : HalvesFilled n f s₃ (16 * t + 4 * 3) = row_more t 2 (16 * t + 8) (8 * n + 4 * t) s₂ s₃ l (omega arith) (omega arith) (omega arith) e₃ f₂ in
      let f₄ : HalvesFilled n f s₄ (16 * t + 4 * 4) = row_more t 3 (16 * t + 12) (12 * n + 4 * t) s₃ s₄ l (omega arith) (omega arith) (omega arith) e₄ f₃ in
      subst (HalvesFilled n f s₄) (omega arith) f₄

-- the four stores of the code are one run
pub four_sets : (f : ℕ → ℕ) (s : List ℕ) (w p a b c e : ℕ)
    → a ≡ f (2 * p + 1) * 2 ^ 16 + f (2 * p) → b ≡ pair_from f p 1 → c ≡ pair_from f p 2 → e ≡ pair_from f p 3
    → set (set (set (set s w a) (w + 1) b) (w + 2) c) (w + 3) e ≡ sets s w (list_of (pair_from f p) 4)
unfolding list_of
four_sets f s w p a b c e ha hb hc he =
    let w₁ : w + 1 ≡ suc w = omega arith in
    let w₂ : w + 2 ≡ suc (suc w) = omega arith in
    let w₃ : w + 3 ≡ suc (suc (suc w)) = omega arith in
    rw (ha, hb, hc, he, w₁, w₂, w₃, add-zero p)
