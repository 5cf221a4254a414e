-- A slice whose parts are lent and written one after the other: `put_mid a k xs ys` has ys in the place of the k words from a on.
-- Assumes nothing.
use mathlib.Core.Path.{◌≡◌, sym, ap, ◌∙◌}
use mathlib.Core.List.{List, ◌++◌, append_assoc, append-nil}
use Prim.Native.Nat.{ℕ, ◌-◌, ◌≤◌}
use native.Mathlib.Omega.{arith}
use borrow.Rule.Slice.PartMut.{put_mid}
use lib.ListN.{length, take, drop, length-append, length-drop, drop_of_length-le}
use lib.Seq.{take_at, length-take-le}

-- the last part
pub put_rest : (a : ℕ) (xs ys : List ℕ) → put_mid a (length xs - a) xs ys ≡ take a xs ++ ys
put_rest a xs ys =
    let none : length (drop a xs) ≤ length xs - a = omega (arith, length-drop a xs) in
    ap (λ (z : List ℕ). take a xs ++ (ys ++ z)) (drop_of_length-le (drop a xs) none) ∙ ap (λ (z : List ℕ). take a xs ++ z) (append-nil ys)

-- a part behind what is written already
pub put_next : (a e : ℕ) (xs ys : List ℕ) → a ≤ e → e ≤ length xs → length ys ≡ e - a → take e (put_mid a (e - a) xs ys) ≡ take a xs ++ ys
put_next a e xs ys h l k =
    let m : a ≤ length xs = omega arith in
    let n : length (take a xs ++ ys) ≡ e = omega (arith, length-append (take a xs) ys, length-take-le a xs m) in
    ap (take e) (sym (append_assoc (take a xs) ys (drop (e - a) (drop a xs)))) ∙ take_at (take a xs ++ ys) (drop (e - a) (drop a xs)) e n

pub put_mid_length : (a e : ℕ) (xs ys : List ℕ) → a ≤ e → e ≤ length xs → length ys ≡ e - a → length (put_mid a (e - a) xs ys) ≡ length xs
put_mid_length a e xs ys h l k =
    let m : a ≤ length xs = omega arith in
    omega (
      arith,
      length-append (take a xs) (ys ++ drop (e - a) (drop a xs)),
      length-take-le a xs m,
      length-append ys (drop (e - a) (drop a xs)),
      length-drop (e - a) (drop a xs),
      length-drop a xs,
    )

-- the first n words, then the rest
pub two_parts : (n : ℕ) (xs ys zs : List ℕ) → length ys ≡ n → put_mid n (length (ys ++ drop n xs) - n) (ys ++ drop n xs) zs ≡ ys ++ zs
two_parts n xs ys zs h = put_rest n (ys ++ drop n xs) zs ∙ ap (λ (z : List ℕ). z ++ zs) (take_at ys (drop n xs) n h)
