-- Laws of a difference's bytes and what a writer wrote of them: how many there are, and one after the other.
-- Assumes nothing.
use mathlib.Core.Path.{◌≡◌, refl, sym, ap, subst, ◌∙◌}
use mathlib.Core.Bool.{Bool, true, false}
use mathlib.Core.List.{List, [], ◌∷◌, ◌++◌}
use Prim.Native.Nat.{ℕ, zero, suc, ◌+◌, ◌*◌, ◌-◌, ◌/◌, ◌%◌, ◌^◌, ◌<◌, ◌≤◌}
use native.Mathlib.Nat.{pow-suc}
use native.Mathlib.Omega.{arith}
use borrow.Author.Tests.{ltb-true, ltb-false}
use lib.Dec.{ltb}
use lib.ListN.{length, length-append}
use Rattle.text.specs.Wrote.{Wrote}
use Rattle.text.specs.declared.Writer.{Writer}
use Rattle.text.proofs.WritingLaws.{Writing, writing_start, writing_more, writing_done, wrote_then}
use Rattle.aiger.specs.Writing.{group_bytes, difference_bytes}
use Rattle.aiger.proofs.DifferenceLaws.{group_last, group_more}

-- ---- how many

one_long : (k x : ℕ) → x < 128 → length (group_bytes (suc k) x) ≡ 1
one_long k x h = ap length (group_last k x h)

more_long : (k x n : ℕ) → 128 ≤ x → length (group_bytes k (x / 128)) ≡ n → length (group_bytes (suc k) x) ≡ suc n
more_long k x n h e = ap length (group_more k x h) ∙ ap suc e

pub length-one : (x : ℕ) → x < 2 ^ 7 → 1 ≡ length (difference_bytes x)
length-one x h = sym (one_long 4 x h)

pub length_two : (x : ℕ) → 2 ^ 7 ≤ x → x < 2 ^ 14 → 2 ≡ length (difference_bytes x)
length_two x lo hi = sym (more_long 4 x 1 lo (one_long 3 (x / 128) (omega arith)))

pub length_three : (x : ℕ) → 2 ^ 14 ≤ x → x < 2 ^ 21 → 3 ≡ length (difference_bytes x)
length_three x lo hi =
    let y : ℕ = x / 128 in
    let a : 128 ≤ y = omega arith in
    let b : y < 2 ^ 14 = omega arith in
    sym (more_long 4 x 2 (omega arith) (more_long 3 y 1 a (one_long 2 (y / 128) (omega arith))))

pub length-four : (x : ℕ) → 2 ^ 21 ≤ x → x < 2 ^ 28 → 4 ≡ length (difference_bytes x)
length-four x lo hi =
    let y : ℕ = x / 128 in
    let a : 2 ^ 14 ≤ y = omega arith in
    let b : y < 2 ^ 21 = omega arith in
    let z : ℕ = y / 128 in
    let c : 2 ^ 7 ≤ z = omega arith in
    let d : z < 2 ^ 14 = omega arith in
    sym (more_long 4 x 3 (omega arith) (more_long 3 y 2 (omega arith) (more_long 2 z 1 c (one_long 1 (z / 128) (omega arith)))))

pub length_five : (x : ℕ) → 2 ^ 28 ≤ x → x < 2 ^ 32 → 5 ≡ length (difference_bytes x)
length_five x lo hi =
    let y : ℕ = x / 128 in
    let a : 2 ^ 21 ≤ y = omega arith in
    let b : y < 2 ^ 28 = omega arith in
    let z : ℕ = y / 128 in
    let c : 2 ^ 14 ≤ z = omega arith in
    let d : z < 2 ^ 21 = omega arith in
    let w : ℕ = z / 128 in
    let e : 2 ^ 7 ≤ w = omega arith in
    let f : w < 2 ^ 14 = omega arith in
    sym (more_long 4 x 4 (omega arith) (more_long 3 y 3 (omega arith) (more_long 2 z 2 (omega arith) (more_long 1 w 1 e (one_long 0 (w / 128) (omega arith))))))

-- a gate's two: w is twice its pin
pub gate_long : (v a b w m n : ℕ) → w ≡ 2 * v + 0 → m ≡ length (difference_bytes (w - a)) → n ≡ length (difference_bytes (a - b))
    → m + n ≡ length (difference_bytes (2 * v - a) ++ difference_bytes (a - b))
gate_long v a b w m n e p q =
    let twice : w ≡ 2 * v = omega arith in
    let first : m ≡ length (difference_bytes (2 * v - a)) = p ∙ ap (λ (x : ℕ). length (difference_bytes (x - a))) twice in
    omega (arith, length-append (difference_bytes (2 * v - a)) (difference_bytes (a - b)))

pub gate_wrote : (v a b w : ℕ) {p q r : Writer} → w ≡ 2 * v + 0 → Wrote 5 (difference_bytes (w - a)) p q → Wrote 5 (difference_bytes (a - b)) q r
    → Wrote 10 (difference_bytes (2 * v - a) ++ difference_bytes (a - b)) p r
gate_wrote v a b w {p} {q} {r} e f g =
    let twice : w ≡ 2 * v = omega arith in
    wrote_then (difference_bytes (2 * v - a)) (difference_bytes (a - b)) (subst (λ (x : ℕ). Wrote 5 (difference_bytes (x - a)) p q) twice f) g

-- ---- one after the other

-- one group more than a number has changes nothing
group_enough : (k x : ℕ) → x < 128 ^ suc k → group_bytes (suc k) x ≡ group_bytes (suc (suc k)) x
group_enough zero x h = group_last 0 x h ∙ sym (group_last 1 x h)
group_enough (suc k) x h = go (ltb x 128) refl (group_enough k (x / 128) (omega (arith, h, pow-suc 128 (suc k))))
  where
    go : (t : Bool) → ltb x 128 ≡ t → group_bytes (suc k) (x / 128) ≡ group_bytes (suc (suc k)) (x / 128) → group_bytes (suc (suc k)) x ≡ group_bytes (suc (suc (suc k))) x
    go true e r = group_last _ x (ltb-true _ _ e) ∙ sym (group_last _ x (ltb-true _ _ e))
    go false e r = group_more _ x (ltb-false _ _ e) ∙ ap (λ (l : List ℕ). (x % 128 + 128) ∷ l) r ∙ sym (group_more _ x (ltb-false _ _ e))

difference_rest : (x : ℕ) → 128 ≤ x → x < 2 ^ 32 → difference_bytes x ≡ (x % 128 + 128) ∷ difference_bytes (x / 128)
difference_rest x h k = group_more 4 x h ∙ ap (λ (l : List ℕ). (x % 128 + 128) ∷ l) (group_enough 3 (x / 128) (omega arith))

group_short : (k x : ℕ) → length (group_bytes k x) ≤ k
unfolding group_bytes
group_short zero x = omega arith
group_short (suc k) x = go (ltb x 128) refl (group_short k (x / 128))
  where
    go : (t : Bool) → ltb x 128 ≡ t → length (group_bytes k (x / 128)) ≤ k → length (group_bytes (suc k) x) ≤ suc k
    go true e r = omega (arith, one_long k x (ltb-true _ _ e))
    go false e r = omega (arith, more_long k x _ (ltb-false _ _ e) refl)

-- the bytes that are put, with those of the rest, make the whole
pub record Putting (x : ℕ) (old new : Writer) (rest : ℕ) : Type 0 where
  pub small : rest < 2 ^ 32
  pub going : Writing (difference_bytes rest) (difference_bytes x) (length (difference_bytes x) - length (difference_bytes rest)) old new
  pub less : length (difference_bytes rest) ≤ length (difference_bytes x)

pub putting_start : (x : ℕ) (w : Writer) → x < 2 ^ 32 → Putting x w w x
putting_start x w h =
    let none : length (difference_bytes x) - length (difference_bytes x) ≡ 0 = omega arith in
    record { small = h; going = rw none (writing_start (difference_bytes x) w); less = omega arith }

module _ {x : ℕ} {old new : Writer} {rest : ℕ} (P : Putting x old new rest) where
  pub putting_short : new.at ≤ old.at + 5
  putting_short = omega (arith, P.going.count, group_short 5 x)

  pub putting_more : {new' : Writer} → 128 ≤ rest → Wrote 1 ((rest % 128 + 128) ∷ []) new new' → Putting x old new' (rest / 128)
  putting_more h f =
      let small = P.small in
      let less = P.less in
      let here = difference_rest rest h small in
      let one : length (difference_bytes rest) ≡ suc (length (difference_bytes (rest / 128))) = ap length here in
      record { small = omega arith; going = writing_more P.going ((rest % 128 + 128) ∷ []) (difference_bytes (rest / 128)) here f (omega arith); less = omega arith }

  pub putting_done : {new' : Writer} → rest < 128 → Wrote 1 (rest ∷ []) new new' → Wrote 5 (difference_bytes x) old new'
  putting_done {new' = new'} h f =
      let less = P.less in
      let here : difference_bytes rest ≡ rest ∷ [] = group_last 4 rest h in
      let one : length (difference_bytes rest) ≡ 1 = ap length here in
      let all = group_short 5 x in
      let end : Writing [] (difference_bytes x) (length (difference_bytes x)) old new' = writing_more P.going (rest ∷ []) [] here f (omega arith) in
      writing_done end 5 refl all
