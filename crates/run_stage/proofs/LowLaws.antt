-- The levels inside the two lowest words: a gate on words is a gate on each bit, so one step fills one level, and five steps fill word 0.
-- Assumes nothing.
use mathlib.Core.Path.{◌≡◌, sym, ap, ap₂, ◌∙◌, subst}
use mathlib.Core.Logic.{⊎_elim}
use Prim.Native.Nat.{ℕ, suc, ◌+◌, ◌-◌, ◌*◌, ◌/◌, ◌%◌, ◌^◌, ◌≤◌, ◌<◌}
use native.Mathlib.Nat.{eq-or-lt_of_le, mod-lt, not-le_of_lt, add-zero, add_comm, mod-eq_of_lt}
use native.Mathlib.Omega.{arith}
use lib.Pow.{pow_pos, pow_mono}
use lib.Bits.{bit_and, bit_or, and_mask}
use Rattle.words.specs.Bit.{bit}
use Rattle.words.proofs.BitLaws.{lt_or_ge, bit_lt, bit_and_lem, bit_or_lem, bit_xor_lem, bit_shr, bit_ext, bit_low, bit_high, bit_mod, bit_zero, bit_above, bit_ones}
use Rattle.run_machine.specs.Turn.{gate}
use Rattle.run_stage.specs.Level.{gate_word, Stepped, Low}

pub bit_gate : (a b xa xb ob k : ℕ) → bit (gate_word a b xa xb ob) k ≡ gate (bit a k) (bit b k) (bit xa k) (bit xb k) (bit ob k)
unfolding gate gate_word
bit_gate a b xa xb ob k = simp (bit_and_lem, bit_or_lem, bit_xor_lem)

-- ---- the mask of a level: the bits m .. 2m - 1

mask_is : (m : ℕ) → (2 ^ m - 1) * 2 ^ m ≡ (2 ^ m - 1) * 2 ^ m + 0
mask_is m = sym (add-zero _)

mask_under : (m p : ℕ) → p < m → bit ((2 ^ m - 1) * 2 ^ m) p ≡ 0
mask_under m p h = ap (λ (x : ℕ). bit x p) (mask_is m) ∙ bit_low (2 ^ m - 1) m p (pow_pos m) h ∙ bit_zero p

mask_from : (m p : ℕ) → bit ((2 ^ m - 1) * 2 ^ m) (m + p) ≡ bit (2 ^ m - 1) p
mask_from m p = ap (λ (x : ℕ). bit x (m + p)) (mask_is m) ∙ bit_high (2 ^ m - 1) m p (pow_pos m)

mask_in_lem : (m p : ℕ) → m ≤ p → p < 2 * m → bit ((2 ^ m - 1) * 2 ^ m) p ≡ 1
mask_in_lem m p lo hi =
    let e : m + (p - m) ≡ p = omega arith in
    rw e at (mask_from m (p - m)) ∙ bit_ones m (p - m) (omega arith)

mask_over : (m p : ℕ) → 2 * m ≤ p → bit ((2 ^ m - 1) * 2 ^ m) p ≡ 0
mask_over m p h =
    let e : m + (p - m) ≡ p = omega arith in
    let small : 2 ^ m - 1 < 2 ^ m = omega (arith, pow_pos m) in
    rw e at (mask_from m (p - m)) ∙ bit_above m (p - m) small (omega arith)

-- a mask bit of 0 leaves x's bit, and one of 1 where x's bit is 0 lets t's through
unmasked : (x t k p : ℕ) → bit k p ≡ 0 → bit (bit_or x (bit_and t k)) p ≡ bit x p
unmasked x t k p e = rw (bit_or_lem, bit_and_lem) (omega arith)

masked : (x t k p : ℕ) → bit k p ≡ 1 → bit x p ≡ 0 → bit (bit_or x (bit_and t k)) p ≡ bit t p
masked x t k p e z = rw (bit_or_lem, bit_and_lem) (omega (arith, bit_lt t p))

-- ---- one step, and five

shifted : (x s p : ℕ) → bit (x / 2 ^ s) p ≡ bit x (p + s)
shifted x s p = bit_shr x s p ∙ ap (bit x) (add_comm s p)

pub step_law : (x m xa xb ob : ℕ) → ((p : ℕ) → p < 2 * m → bit x p ≡ 0)
    → Stepped x (bit_or x (bit_and (gate_word (x / 2 ^ m) (x / 2 ^ (2 * m)) xa xb ob) ((2 ^ m - 1) * 2 ^ m))) m xa xb ob
step_law x m xa xb ob z =
    let t = gate_word (x / 2 ^ m) (x / 2 ^ (2 * m)) xa xb ob in
    let k = (2 ^ m - 1) * 2 ^ m in record {
      none = λ p h. unmasked x t k p (mask_under m p h) ∙ z p (omega arith);
      new = λ p lo hi. masked x t k p (mask_in_lem m p lo hi) (z p hi) ∙ bit_gate _ _ _ _ _ _ ∙ rw (shifted, shifted);
      keep = λ p h. unmasked x t k p (mask_over m p h);
    }

low_more : (x y s xa xb ob : ℕ) → Low x (suc s) xa xb ob → Stepped x y (2 ^ s) xa xb ob → Low y s xa xb ob
low_more x y s xa xb ob l st = record {
  zeros = st.none;
  levels = λ e se e5. ⊎_elim
      (λ q. rw (← q) (λ p lo hi. st.new p lo hi ∙ sym (rw (st.keep (p + 2 ^ s) (omega arith), st.keep (p + 2 * 2 ^ s) (omega arith)))))
      (λ lt p lo hi.
      let up : 2 ^ suc s ≤ 2 ^ e = pow_mono lt in
      rw (st.keep p (omega arith), st.keep (p + 2 ^ e) (omega arith), st.keep (p + 2 * 2 ^ e) (omega arith)) (l.levels e lt e5 p lo hi))
      (eq-or-lt_of_le se);
}

pub low_start : (one xa xb ob : ℕ) → Low (one * 2 ^ 32) 5 xa xb ob
low_start one xa xb ob = record {
  zeros = λ p h. ap (λ (x : ℕ). bit x p) (sym (add-zero _)) ∙ bit_low one 32 p (pow_pos 32) h ∙ bit_zero p;
  levels = λ e l h. absurd (not-le_of_lt h l);
}

-- the number that came out is word 1 above its low word
joined : (one x : ℕ) → one < 2 ^ 32 → x < 2 ^ 64 → ((p : ℕ) → 32 ≤ p → bit x p ≡ bit (one * 2 ^ 32) p) → one * 2 ^ 32 + x % 2 ^ 32 ≡ x
joined one x h l same = bit_ext 64 _ x (omega arith) l (λ p _. ⊎_elim (λ s. bit_low one 32 p (mod-lt x (pow_pos 32)) s ∙ bit_mod x 32 p s) (over p) (lt_or_ge p 32))
  where
    over : (p : ℕ) → 32 ≤ p → bit (one * 2 ^ 32 + x % 2 ^ 32) p ≡ bit x p
    over p g =
        let e : p ≡ 32 + (p - 32) = omega arith in
        ap (bit _) e ∙ bit_high one 32 (p - 32) (mod-lt x (pow_pos 32))
        ∙ sym (bit_high one 32 (p - 32) (pow_pos 32)) ∙ ap₂ bit (add-zero _) (sym e) ∙ sym (same p g)

pub low_start_is : (one : ℕ) → one < 2 ^ 32 → (one * 2 ^ 32) % 2 ^ 64 ≡ one * 2 ^ 32
low_start_is one h = mod-eq_of_lt (omega arith)

pub low_chain : (one x₁ x₂ x₃ x₄ x₅ xa xb ob : ℕ) → one < 2 ^ 32 → x₅ < 2 ^ 64
    → Stepped ((one * 2 ^ 32) % 2 ^ 64) x₁ 16 xa xb ob → Stepped x₁ x₂ 8 xa xb ob → Stepped x₂ x₃ 4 xa xb ob → Stepped x₃ x₄ 2 xa xb ob → Stepped x₄ x₅ 1 xa xb ob
    → Low (one * 2 ^ 32 + bit_and x₅ (2 ^ 32 - 1)) 0 xa xb ob
low_chain one x₁ x₂ x₃ x₄ x₅ xa xb ob h l s₁ s₂ s₃ s₄ s₅ =
    let same : (p : ℕ) → 32 ≤ p → bit x₅ p ≡ bit (one * 2 ^ 32) p = λ p g.
    s₅.keep p (omega arith) ∙ s₄.keep p (omega arith) ∙ s₃.keep p (omega arith) ∙ s₂.keep p (omega arith) ∙ s₁.keep p (omega arith)
    ∙ ap (λ (x : ℕ). bit x p) (low_start_is one h) in
    subst (λ (x : ℕ). Low x 0 xa xb ob) (sym (ap (λ (x : ℕ). one * 2 ^ 32 + x) (and_mask x₅ 32) ∙ joined one x₅ h l same))
    (low_more x₄ x₅ 0 xa xb ob
    (low_more x₃ x₄ 1 xa xb ob
    (low_more x₂ x₃ 2 xa xb ob
    (low_more x₁ x₂ 3 xa xb ob
    (low_more _ x₁ 4 xa xb ob (subst (λ (x : ℕ). Low x 5 xa xb ob) (sym (low_start_is one h)) (low_start one xa xb ob)) s₁) s₂) s₃) s₄) s₅)
