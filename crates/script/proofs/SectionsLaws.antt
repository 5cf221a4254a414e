-- Sections in the code's terms: four words a lane, stored one after the other, and lists that hold the definition's words.
-- Assumes nothing.
use mathlib.Core.Path.{◌≡◌, refl, sym, ap, ap₂, ◌∙◌}
use mathlib.Core.List.{List, [], ◌∷◌, ◌++◌}
use Prim.Native.Nat.{ℕ, zero, suc, ◌+◌, ◌*◌, ◌-◌, ◌^◌, ◌≤◌, ◌<◌}
use native.Mathlib.Nat.{zero-add}
use native.Mathlib.Numerals.{add-one}
use native.Mathlib.Omega.{arith}
use borrow.Rule.Slice.PartMut.{put_mid}
use lib.ListN.{length, get_or, take, length-append}
use lib.Seq.{take_all}
use Rattle.words.specs.Section.{list_of, section_of}
use Rattle.words.proofs.SectionLaws.{length_list_of, get_d_list_of, list_of_ext, section_ext}
use Rattle.script.specs.Script.{lane_list}
use Rattle.script.specs.Writers.{words_in, FourOf, SectionRoom}
use Rattle.script.proofs.PutMidLaws.{put_next}

module _ (a b c : ℕ → ℕ) where
  pub lanes_none : [] ≡ lane_list a b c 0
  unfolding lane_list
  lanes_none = refl

  pub lanes_more : (l x : List ℕ) (w : ℕ) → 4 * w + 4 ≤ length l → FourOf a b c w x → take (4 * w) l ≡ lane_list a b c w
      → take (4 * (w + 1)) (put_mid (4 * w) (4 * w + 4 - 4 * w) l x) ≡ lane_list a b c (w + 1)
  unfolding lane_list
  lanes_more l x w h is e =
      let more : lane_list a b c (w + 1) ≡ lane_list a b c w ++ (a w ∷ b w ∷ c w ∷ 0 ∷ []) = rw (add-one, lane_list) in
      let next : 4 * (w + 1) ≡ 4 * w + 4 = omega arith in
      let long : length x ≡ 4 * w + 4 - 4 * w = omega (arith, ap length is) in
      rw (more, next) (put_next (4 * w) (4 * w + 4) l x (omega arith) h long ∙ ap₂ ◌++◌ e is)

  pub lanes_end : (l : List ℕ) (w n : ℕ) → length l ≡ 4 * n → w ≤ n → n ≤ w → take (4 * w) l ≡ lane_list a b c w → l ≡ lane_list a b c n
  lanes_end l w n h i j e =
      let q : w ≡ n = omega arith in
      sym (take_all (4 * w) l (omega arith)) ∙ e ∙ ap (lane_list a b c) q

  pub lanes_length : (n : ℕ) → length (lane_list a b c n) ≡ 4 * n
  unfolding lane_list
  lanes_length zero = refl
  lanes_length (suc n) = omega (arith, length-append (lane_list a b c n) (a n ∷ b n ∷ c n ∷ 0 ∷ []), lanes_length n)

pub lanes_ext : (a b c f g h : ℕ → ℕ) (n : ℕ) → ((w : ℕ) → w < n → a w ≡ f w) → ((w : ℕ) → w < n → b w ≡ g w) → ((w : ℕ) → w < n → c w ≡ h w)
    → lane_list a b c n ≡ lane_list f g h n
unfolding lane_list
lanes_ext a b c f g h zero i j k = refl
lanes_ext a b c f g h (suc n) i j k =
    let r = lanes_ext a b c f g h n (λ w l. i w (omega arith)) (λ w l. j w (omega arith)) (λ w l. k w (omega arith)) in
    rw (r, i n (omega arith), j n (omega arith), k n (omega arith), lane_list)

-- a section of m lanes, which are n, from the list of its entries
pub section_held : (m n : ℕ) → m ≡ n → (out : List ℕ) (e a b c : ℕ → ℕ) (es : List ℕ) → out ≡ section_of m (words_in es) ++ lane_list a b c m → es ≡ list_of e (32 * n)
    → out ≡ section_of n e ++ lane_list a b c n
section_held m n q out e a b c es is he =
    is
    ∙ (ap (λ (k : ℕ). section_of k (words_in es) ++ lane_list a b c k) q
    ∙ ap (λ (l : List ℕ). l ++ lane_list a b c n) (section_ext n (words_in es) e (λ i l. ap (λ (x : List ℕ). words_in x i) he ∙ get_d_list_of e (32 * n) i l)))

-- the entries of a table are below its slots, and fit a half
pub entries_small : (f : ℕ → ℕ) (l : List ℕ) (n : ℕ) → n ≤ 8192 → l ≡ list_of f n → ((i : ℕ) → i < n → f i < n) → (i : ℕ) → i < n → get_or l i 0 < 2 ^ 16
entries_small f l n few e small i h = omega (arith, ap (λ (x : List ℕ). get_or x i 0) e ∙ get_d_list_of f n i h, small i h)

-- so a section of m lanes, which are n, can be written from them
pub section_room : (m n : ℕ) → m ≡ n → m ≤ 256 → (f : ℕ → ℕ) (es out : List ℕ) → es ≡ list_of f (32 * n) → ((i : ℕ) → i < 32 * n → f i < 32 * n) → length out ≡ 20 * n → SectionRoom m es out
section_room m n q most f es out e small room = record {
  lanes = most;
  many = ap length e ∙ (length_list_of f (32 * n) ∙ ap (λ (i : ℕ). 32 * i) (sym q));
  small = λ i h. entries_small f es (32 * n) (omega arith) e small i (omega arith);
  room = omega arith;
}

pub from_zero : (f : ℕ → ℕ) (n : ℕ) → list_of (λ i. f (0 + i)) n ≡ list_of f n
from_zero f n = list_of_ext (λ i. f (0 + i)) f n (λ i l. ap f (zero-add i))
