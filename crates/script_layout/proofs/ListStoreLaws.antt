-- Words stored one list after the other.
-- Assumes nothing.
use mathlib.Core.Path.{◌≡◌, sym, ap, ap₂, ◌∙◌}
use mathlib.Core.List.{List, ◌++◌}
use Prim.Native.Nat.{ℕ, ◌+◌}
use native.Mathlib.Omega.{arith}
use lib.ListN.{length}
use lib.Seq.{sets, length-sets}
use Rattle.words.proofs.ListLaws.{sets_append}
use Rattle.plan_reads.specs.ReadsReady.{SetRoom}

-- a list behind one that is stored already
pub sets-next : (l l₁ l₂ xs ys : List ℕ) (at next : ℕ) → l₁ ≡ sets l at xs → next ≡ at + length xs → l₂ ≡ sets l₁ next ys → l₂ ≡ sets l at (xs ++ ys)
sets-next l l₁ l₂ xs ys at next a b c = c ∙ ap₂ (λ (x : List ℕ) (n : ℕ). sets x n ys) a b ∙ sym (sets_append l at xs ys)

pub sets_behind : (l l₁ l₂ xs ys : List ℕ) (next : ℕ) → l₁ ≡ sets l 0 xs → next ≡ length xs → l₂ ≡ sets l₁ next ys → l₂ ≡ sets l 0 (xs ++ ys)
sets_behind l l₁ l₂ xs ys next a b c = sets-next l l₁ l₂ xs ys 0 next a (omega arith) c

pub stores_length : (l l₁ : List ℕ) (at : ℕ) (xs : List ℕ) → l₁ ≡ sets l at xs → length l₁ ≡ length l
stores_length l l₁ at xs e = ap length e ∙ length-sets l at xs

-- lent lists that keep their lengths stay long enough
pub lists_long : {K S T K' S' T' : ℕ} → SetRoom K S T → K' ≡ K → S' ≡ S → T' ≡ T → SetRoom K' S' T'
lists_long r k s t = record { keys-room = omega (arith, r.keys-room); scratch-room = omega (arith, r.scratch-room); set_room = omega (arith, r.set_room) }
