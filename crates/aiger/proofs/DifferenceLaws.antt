-- Differences, read and written, both ways, by recursion over the groups: a number is its low group and 128 times the rest. What is read as a number is
-- how it is written, since the last group is not 0.
-- Assumes nothing.
use mathlib.Core.Path.{◌≡◌, refl, sym, ap, ap₂, ◌∙◌}
use mathlib.Core.Bool.{Bool, true, false}
use mathlib.Core.List.{List, [], ◌∷◌, ◌++◌}
use Prim.Native.Nat.{ℕ, zero, suc, ◌+◌, ◌*◌, ◌-◌, ◌/◌, ◌%◌, ◌^◌, ◌<◌, ◌≤◌}
use native.Mathlib.Nat.{pow-suc, one-le-pow}
use native.Mathlib.Omega.{arith}
use borrow.Author.Tests.{ltb-true, ltb-false, lt-ltb, le-ltb, ne_eqb}
use lib.Dec.{ltb, lit<}
use lib.ListN.{length, drop}
use Rattle.aiger.specs.Reading.{Difference, whole, wrong, cut, above, groups_in, difference_in, difference_at}
use Rattle.aiger.specs.Writing.{group_bytes, difference_bytes}
use Rattle.aiger.proofs.StandLaws.{Stands, stands_made, Bytes, bytes_drop}

-- ---- a group, written

pub group_last : (k x : ℕ) → x < 128 → group_bytes (suc k) x ≡ x ∷ []
unfolding group_bytes
group_last k x h = rw (lt-ltb _ _ h, group_bytes)

pub group_more : (k x : ℕ) → 128 ≤ x → group_bytes (suc k) x ≡ (x % 128 + 128) ∷ group_bytes k (x / 128)
unfolding group_bytes
group_more k x h = rw (le-ltb _ _ h, group_bytes)

-- ---- a group, read

pub groups_last : (k at b : ℕ) (bs : List ℕ) → 0 < b → b < 128 → groups_in (suc k) at (b ∷ bs) ≡ whole b (at + 1)
unfolding groups_in
groups_last k at b bs p h = rw (lt-ltb b 128 h, ne_eqb b 0 (λ e. omega arith), groups_in)

pub groups_none : (at : ℕ) (bs : List ℕ) → groups_in 0 at bs ≡ wrong
unfolding groups_in
groups_none at bs = refl

pub groups_empty : (k at : ℕ) → groups_in (suc k) at [] ≡ cut
unfolding groups_in
groups_empty k at = refl

pub groups_zero : (k at : ℕ) (bs : List ℕ) → groups_in (suc k) at (0 ∷ bs) ≡ wrong
unfolding groups_in
groups_zero k at bs = refl

pub groups_more : (k at b : ℕ) (bs : List ℕ) → 128 ≤ b → groups_in (suc k) at (b ∷ bs) ≡ above (b - 128) (groups_in k (at + 1) bs)
unfolding groups_in
groups_more k at b bs h = rw (le-ltb b 128 h, groups_in)

pub difference_one : (at b : ℕ) (bs : List ℕ) → b < 128 → difference_in at (b ∷ bs) ≡ whole b (at + 1)
unfolding difference_in
difference_one at b bs h = rw (lt-ltb b 128 h, difference_in)

pub difference_more : (at b : ℕ) (bs : List ℕ) → 128 ≤ b → difference_in at (b ∷ bs) ≡ above (b - 128) (groups_in 4 (at + 1) bs)
unfolding difference_in
difference_more at b bs h = rw (le-ltb b 128 h, difference_in)

-- ---- written, then read

-- the low group is put before what is read of the rest
more_read : (x at n : ℕ) → above (x % 128 + 128 - 128) (whole (x / 128) (at + 1 + n)) ≡ whole x (at + suc n)
more_read x at n = ap₂ whole (omega arith) (omega arith)

groups_read : (k x at : ℕ) (ys : List ℕ) → 0 < x → x < 128 ^ k → groups_in k at (group_bytes k x ++ ys) ≡ whole x (at + length (group_bytes k x))
groups_read zero x at ys p h = absurd (omega arith)
groups_read (suc k) x at ys p h = go (ltb x 128) refl (λ q. groups_read k (x / 128) (at + 1) ys q (omega (arith, h, pow-suc 128 k)))
  where
    go : (t : Bool) → ltb x 128 ≡ t
        → (0 < x / 128 → groups_in k (at + 1) (group_bytes k (x / 128) ++ ys) ≡ whole (x / 128) (at + 1 + length (group_bytes k (x / 128))))
        → groups_in (suc k) at (group_bytes (suc k) x ++ ys) ≡ whole x (at + length (group_bytes (suc k) x))
    go true e r = let small : x < 128 = ltb-true _ _ e in rw (group_last k x small) (groups_last k at x ys p small)
    go false e r =
        let large : 128 ≤ x = ltb-false _ _ e in
        let low : 128 ≤ x % 128 + 128 = omega arith in
        rw (group_more k x large) (groups_more k at (x % 128 + 128) _ low ∙ ap (above (x % 128 + 128 - 128)) (r (omega arith)) ∙ more_read x at _)

bytes_read : (x at : ℕ) (ys : List ℕ) → x < 2 ^ 35 → difference_in at (difference_bytes x ++ ys) ≡ whole x (at + length (difference_bytes x))
bytes_read x at ys h = go (ltb x 128) refl
  where
    go : (t : Bool) → ltb x 128 ≡ t → difference_in at (difference_bytes x ++ ys) ≡ whole x (at + length (difference_bytes x))
    go true e = let small : x < 128 = ltb-true _ _ e in rw (group_last 4 x small) (difference_one at x ys small)
    go false e =
        let large : 128 ≤ x = ltb-false _ _ e in
        let low : 128 ≤ x % 128 + 128 = omega arith in
        let rest = groups_read 4 (x / 128) (at + 1) ys (omega arith) (omega arith) in
        rw (group_more 4 x large) (difference_more at (x % 128 + 128) _ low ∙ ap (above (x % 128 + 128 - 128)) rest ∙ more_read x at _)

pub difference_read : (x : ℕ) (bs : List ℕ) {at next : ℕ} → x < 2 ^ 35 → Stands (difference_bytes x) bs at next → difference_at bs at ≡ whole x next
difference_read x bs {at} {next} h f = ap (difference_in at) f.is ∙ bytes_read x at (drop next bs) h ∙ ap (whole x) (sym f.ends)

-- ---- read, then written

-- a number's bytes stand at the front of a list
pub record Spelled (text bs : List ℕ) (at next : ℕ) : Type 0 where
  pub behind : List ℕ
  pub is : bs ≡ text ++ behind
  pub ends : next ≡ at + length text

pub spelled_stands : (text bs : List ℕ) {at next : ℕ} → Spelled text (drop at bs) at next → Stands text bs at next
spelled_stands text bs s = stands_made text bs s.behind s.is s.ends

-- a difference under a low group is a difference, and conversely
record Above (low : ℕ) (d : Difference) (x next : ℕ) : Type 0 where
  rest : ℕ
  is : d ≡ whole rest next
  value : x ≡ low + 128 * rest

above_whole : (low : ℕ) (d : Difference) (x next : ℕ) → above low d ≡ whole x next → Above low d x next
above_whole low (whole y at) x next e =
    let v : low + 128 * y ≡ x = cc in
    let n : at ≡ next = cc in
    record { rest = y; is = ap (whole y) n; value = sym v }
above_whole low wrong x next e = let z : ◌≡◌ {A = ℕ} 0 1 = cc in absurd (omega arith)
above_whole low cut x next e = let z : ◌≡◌ {A = ℕ} 0 1 = cc in absurd (omega arith)

record Grouped (k x at : ℕ) (bs : List ℕ) (next : ℕ) : Type 0 where
  some : 0 < x
  fits : x < 128 ^ k
  text : Spelled (group_bytes k x) bs at next

-- one byte of 128 or more before groups
more_spelled : (k b at x y next : ℕ) (bs : List ℕ) → 128 ≤ b → b < 256 → x ≡ b - 128 + 128 * y → 0 < y → Spelled (group_bytes k y) bs (at + 1) next
    → Spelled (group_bytes (suc k) x) (b ∷ bs) at next
more_spelled k b at x y next bs lo hi e p s =
    let large : 128 ≤ x = omega arith in
    let low : x % 128 + 128 ≡ b = omega arith in
    let high : x / 128 ≡ y = omega arith in
    let text : group_bytes (suc k) x ≡ b ∷ group_bytes k y = group_more k x large ∙ ap₂ (λ (c z : ℕ). c ∷ group_bytes k z) low high in
    record {
      behind = s.behind;
      is = rw text (ap (λ (l : List ℕ). b ∷ l) s.is);
      ends = rw text (omega (arith, s.ends));
    }

one_spelled : (k b at next : ℕ) (bs : List ℕ) → b < 128 → at + 1 ≡ next → Spelled (group_bytes (suc k) b) (b ∷ bs) at next
one_spelled k b at next bs h e = record { behind = bs; is = rw (group_last k b h); ends = rw (group_last k b h) (sym e) }

groups_written : (k at : ℕ) (bs : List ℕ) (x next : ℕ) → Bytes bs → groups_in k at bs ≡ whole x next → Grouped k x at bs next
unfolding groups_in
groups_written zero at bs x next B e = let z : ◌≡◌ {A = ℕ} 0 1 = cc in absurd (omega arith)
groups_written (suc k) at [] x next B e = let z : ◌≡◌ {A = ℕ} 0 1 = cc in absurd (omega arith)
groups_written (suc k) at (zero ∷ bs) x next B e = let z : ◌≡◌ {A = ℕ} 0 1 = cc in absurd (omega arith)
groups_written (suc k) at (suc c ∷ bs) x next B e = go (ltb (suc c) 128) refl (λ y f. groups_written k (at + 1) bs y next (λ i. B (suc i)) f)
  where
    b : ℕ
    b = suc c

    go : (t : Bool) → ltb b 128 ≡ t → ((y : ℕ) → groups_in k (at + 1) bs ≡ whole y next → Grouped k y (at + 1) bs next) → Grouped (suc k) x at (b ∷ bs) next
    go true p r =
        let small : b < 128 = ltb-true _ _ p in
        let f : whole b (at + 1) ≡ whole x next = sym (groups_last k at b bs (omega arith) small) ∙ e in
        let v : b ≡ x = cc in
        let n : at + 1 ≡ next = cc in
        record { some = rw (← v) (omega arith); fits = omega (arith, pow-suc 128 k, one-le-pow k 128 (lit< tt)); text = rw (← v) (one_spelled k b at next bs small n) }
    go false p r =
        let large : 128 ≤ b = ltb-false _ _ p in
        let a = above_whole (b - 128) (groups_in k (at + 1) bs) x next (sym (groups_more k at b bs large) ∙ e) in
        let g = r a.rest a.is in
        record {
          some = omega (arith, g.some, a.value);
          fits = omega (arith, g.fits, a.value, pow-suc 128 k, B 0);
          text = more_spelled k b at x a.rest next bs large (B 0) a.value g.some g.text;
        }

record Decoded (x : ℕ) (bs : List ℕ) (at next : ℕ) : Type 0 where
  fits : x < 2 ^ 35
  text : Spelled (difference_bytes x) bs at next

bytes_written : (at : ℕ) (bs : List ℕ) (x next : ℕ) → Bytes bs → difference_in at bs ≡ whole x next → Decoded x bs at next
unfolding difference_in
bytes_written at [] x next B e = let z : ◌≡◌ {A = ℕ} 0 1 = cc in absurd (omega arith)
bytes_written at (b ∷ bs) x next B e = go (ltb b 128) refl
  where
    go : (t : Bool) → ltb b 128 ≡ t → Decoded x (b ∷ bs) at next
    go true p =
        let small : b < 128 = ltb-true _ _ p in
        let f : whole b (at + 1) ≡ whole x next = sym (difference_one at b bs small) ∙ e in
        let v : b ≡ x = cc in
        let n : at + 1 ≡ next = cc in
        record { fits = omega arith; text = rw (← v) (one_spelled 4 b at next bs small n) }
    go false p =
        let large : 128 ≤ b = ltb-false _ _ p in
        let a = above_whole (b - 128) (groups_in 4 (at + 1) bs) x next (sym (difference_more at b bs large) ∙ e) in
        let g = groups_written 4 (at + 1) bs a.rest next (λ i. B (suc i)) a.is in
        record {
          fits = omega (arith, g.fits, a.value, B 0);
          text = more_spelled 4 b at x a.rest next bs large (B 0) a.value g.some g.text;
        }

pub difference_written : (bs : List ℕ) (at x next : ℕ) → Bytes bs → difference_at bs at ≡ whole x next → Stands (difference_bytes x) bs at next
difference_written bs at x next B e = spelled_stands (difference_bytes x) bs (bytes_written at (drop at bs) x next (bytes_drop bs at B) e).text
