-- Laws of numbers as text, and of what a writer wrote of them.
-- Assumes nothing.
use mathlib.Core.Path.{◌≡◌, refl, sym, ap, ◌∙◌}
use mathlib.Core.Bool.{Bool, true, false}
use mathlib.Core.List.{List, [], ◌∷◌, ◌++◌}
use Prim.Native.Nat.{ℕ, zero, suc, ◌+◌, ◌/◌, ◌%◌, ◌^◌, ◌≤◌, ◌<◌}
use native.Mathlib.Nat.{pow-suc}
use native.Mathlib.Omega.{arith}
use borrow.Author.Tests.{ltb-true, ltb-false, lt-ltb, le-ltb}
use lib.Dec.{ltb}
use lib.ListN.{length, length-append}
use Rattle.text.specs.Text.{decimal_in, decimal}
use Rattle.text.specs.Wrote.{Wrote}
use Rattle.text.specs.declared.Writer.{Writer}
use Rattle.text.proofs.WritingLaws.{wrote_then, wrote_as}

pub decimal_one : (f n : ℕ) → n < 10 → decimal_in (suc f) n ≡ (48 + n) ∷ []
unfolding decimal_in
decimal_one f n h = rw (lt-ltb _ _ h, decimal_in)

pub decimal_more : (f n : ℕ) → 10 ≤ n → decimal_in (suc f) n ≡ decimal_in f (n / 10) ++ ((48 + n % 10) ∷ [])
unfolding decimal_in
decimal_more f n h = rw (le-ltb _ _ h, decimal_in)

-- one digit more than a number has changes nothing
pub decimal_enough : (f n : ℕ) → n < 10 ^ suc f → decimal_in (suc f) n ≡ decimal_in (suc (suc f)) n
decimal_enough zero n h = decimal_one 0 n h ∙ sym (decimal_one 1 n h)
decimal_enough (suc f) n h = go (ltb n 10) refl (decimal_enough f (n / 10) (omega (arith, h, pow-suc 10 (suc f))))
  where
    go : (b : Bool) → ltb n 10 ≡ b → decimal_in (suc f) (n / 10) ≡ decimal_in (suc (suc f)) (n / 10) → decimal_in (suc (suc f)) n ≡ decimal_in (suc (suc (suc f))) n
    go true e r = decimal_one _ n (ltb-true _ _ e) ∙ sym (decimal_one _ n (ltb-true _ _ e))
    go false e r = decimal_more _ n (ltb-false _ _ e) ∙ ap (λ (l : List ℕ). l ++ ((48 + n % 10) ∷ [])) r ∙ sym (decimal_more _ n (ltb-false _ _ e))

pub decimal_rest : (n : ℕ) → 10 ≤ n → n < 2 ^ 64 → decimal n ≡ decimal (n / 10) ++ ((48 + n % 10) ∷ [])
decimal_rest n h k = decimal_more 19 n h ∙ ap (λ (l : List ℕ). l ++ ((48 + n % 10) ∷ [])) (decimal_enough 18 (n / 10) (omega arith))

pub decimal_short : (f n : ℕ) → length (decimal_in f n) ≤ f
unfolding decimal_in
decimal_short zero n = omega arith
decimal_short (suc f) n = go (ltb n 10) refl (decimal_short f (n / 10))
  where
    go : (b : Bool) → ltb n 10 ≡ b → length (decimal_in f (n / 10)) ≤ f → length (decimal_in (suc f) n) ≤ suc f
    go true e r = rw (e, decimal_in) (omega arith)
    go false e r = rw (e, decimal_in, length-append) (omega arith)

-- the last digit, behind those before it
pub wrote_last : (n : ℕ) {a b c : Writer} → 10 ≤ n → n < 2 ^ 64 → Wrote 20 (decimal (n / 10)) a b → Wrote 1 ((48 + n % 10) ∷ []) b c → Wrote 20 (decimal n) a c
wrote_last n h k f g =
    wrote_as (decimal (n / 10) ++ ((48 + n % 10) ∷ [])) (decimal n) (sym (decimal_rest n h k)) (decimal_short 20 n) (wrote_then (decimal (n / 10)) ((48 + n % 10) ∷ []) f g)

pub wrote_only : (n : ℕ) {a b : Writer} → n < 10 → Wrote 1 ((48 + n % 10) ∷ []) a b → Wrote 20 (decimal n) a b
wrote_only n h f =
    let same : n % 10 ≡ n = omega arith in
    wrote_as ((48 + n % 10) ∷ []) (decimal n) (rw same (sym (decimal_one 19 n h))) (decimal_short 20 n) f
