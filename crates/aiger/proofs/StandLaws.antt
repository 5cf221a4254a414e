-- A text that stands in a file, from one byte up to another: how reading and writing are held beside each other.
-- Assumes nothing.
use mathlib.Core.Path.{◌≡◌, refl, sym, ap, ap₂, ◌∙◌}
use mathlib.Core.Bool.{Bool, true, false}
use mathlib.Core.List.{List, [], ◌∷◌, ◌++◌, append_assoc}
use Prim.Native.Nat.{ℕ, suc, ◌+◌, ◌<◌, ◌≤◌}
use native.Mathlib.Nat.{add-zero}
use native.Mathlib.Omega.{arith}
use borrow.Author.Tests.{ltb-true, ltb-false}
use lib.Dec.{ltb}
use lib.ListN.{length, get_or, drop, length-append, get_or-eq_default}
use lib.Seq.{drop-cons, drop-drop, drop-append_seam, get_or-drop}

pub record Stands (text bs : List ℕ) (at next : ℕ) : Type 0 where
  pub is : drop at bs ≡ text ++ drop next bs
  pub ends : next ≡ at + length text

-- a text with whatever is behind it
pub stands_made : (text bs behind : List ℕ) {at next : ℕ} → drop at bs ≡ text ++ behind → next ≡ at + length text → Stands text bs at next
stands_made text bs behind {at} {next} e n =
    let rest : drop next bs ≡ behind =
    ap (λ (k : ℕ). drop k bs) n ∙ sym (drop-drop (length text) at bs) ∙ ap (drop (length text)) e ∙ drop-append_seam text behind in
    record { is = e ∙ ap (λ (l : List ℕ). text ++ l) (sym rest); ends = n }

-- one text after the other, and the two of which one is made
pub stands_then : (xs ys bs : List ℕ) {at mid next : ℕ} → Stands xs bs at mid → Stands ys bs mid next → Stands (xs ++ ys) bs at next
stands_then xs ys bs {at} {mid} {next} f g =
    record {
      is = f.is ∙ ap (λ (l : List ℕ). xs ++ l) g.is ∙ sym (append_assoc xs ys (drop next bs));
      ends = omega (arith, f.ends, g.ends, length-append xs ys);
    }

pub stands_first : (xs ys bs : List ℕ) {at next : ℕ} → Stands (xs ++ ys) bs at next → Stands xs bs at (at + length xs)
stands_first xs ys bs {at} {next} f = stands_made xs bs (ys ++ drop next bs) (f.is ∙ append_assoc xs ys (drop next bs)) refl

pub stands_second : (xs ys bs : List ℕ) {at next : ℕ} → Stands (xs ++ ys) bs at next → Stands ys bs (at + length xs) next
stands_second xs ys bs {at} {next} f =
    let first : Stands xs bs at (at + length xs) = stands_first xs ys bs f in
    let rest : drop (at + length xs) bs ≡ ys ++ drop next bs =
    sym (drop-drop (length xs) at bs) ∙ ap (drop (length xs)) (f.is ∙ append_assoc xs ys (drop next bs)) ∙ drop-append_seam xs (ys ++ drop next bs) in
    record { is = rest; ends = omega (arith, f.ends, length-append xs ys) }

-- ---- bytes

pub stands_byte : (e : ℕ) (bs : List ℕ) {at next : ℕ} → Stands (e ∷ []) bs at next → get_or bs at 0 ≡ e
stands_byte e bs {at} {next} f =
    let here : get_or bs (at + 0) 0 ≡ e = sym (get_or-drop at bs 0 0) ∙ ap (λ (l : List ℕ). get_or l 0 0) f.is in
    ap (λ (k : ℕ). get_or bs k 0) (sym (add-zero at)) ∙ here

abbrev pub Bytes : List ℕ → Type 0
Bytes bs = (i : ℕ) → get_or bs i 0 < 256

pub bytes_drop : (bs : List ℕ) (at : ℕ) → Bytes bs → Bytes (drop at bs)
bytes_drop bs at h i = rw (get_or-drop at bs i 0) (h (at + i))

-- a byte that is not 0 is there
pub byte_inside : (e : ℕ) (bs : List ℕ) {at : ℕ} → 0 < e → get_or bs at 0 ≡ e → at < length bs
byte_inside e bs {at} p h = go (ltb at (length bs)) refl
  where
    go : (t : Bool) → ltb at (length bs) ≡ t → at < length bs
    go true t = ltb-true _ _ t
    go false t =
        let past : length bs ≤ at = ltb-false _ _ t in
        let none : get_or bs at 0 ≡ 0 = get_or-eq_default bs 0 past in
        absurd (omega arith)

pub byte_stands : (e : ℕ) (bs : List ℕ) {at : ℕ} → 0 < e → get_or bs at 0 ≡ e → Stands (e ∷ []) bs at (at + 1)
byte_stands e bs {at} p h =
    let step : suc at ≡ at + 1 = omega arith in
    record { is = drop-cons bs at 0 (byte_inside e bs p h) ∙ ap₂ (λ (b k : ℕ). b ∷ drop k bs) h step; ends = refl }
