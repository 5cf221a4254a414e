-- What gathering and the levels leave is the stage of the definition: the section's two parts are cut out of the script's words, and the bits keep
-- the levels' rule. Argued over n = 2^j lanes.
-- Assumes nothing.
use mathlib.Core.Path.{◌≡◌, refl, sym, ap, ap₂, ◌∙◌}
use mathlib.Core.List.{List, ◌++◌}
use Prim.Native.Nat.{ℕ, suc, ◌+◌, ◌-◌, ◌*◌, ◌/◌, ◌%◌, ◌^◌, ◌≤◌, ◌<◌}
use native.Mathlib.Nat.{add-zero, mul_comm}
use native.Mathlib.Omega.{arith}
use lib.ListN.{length, get_or, take, drop, length-drop, take-append-drop}
use lib.Pow.{pow-add, pow_mono}
use lib.Seq.{get_or-take, get_or-drop, length-take-le}
use Rattle.words.specs.Bit.{bit, bit_at}
use Rattle.words.specs.Edition.{Known, levels_for}
use Rattle.words.proofs.EditionLaws.{by_edition}
use Rattle.words.specs.Section.{word_of_entry, half_of, half_at}
use Rattle.words.proofs.SectionLaws.{place_lt}
use Rattle.run_machine.specs.Part.{stages_at, section_at, entry_at, lane_word_at}
use Rattle.run_machine.specs.Turn.{gate_at, stage_row}
use Rattle.run_machine.proofs.StageBitLaws.{at_word_lem, words_of, StageBits, stage_is}
use Rattle.run_machine.specs.Well.{EntriesIn, Entries}
use Rattle.run_stage.specs.Gather.{Gathered, gathered_row}
use Rattle.run_stage.specs.Level.{lane_gate, Staged}

-- the lanes of an edition are a power of two, and so many levels are above those inside one word
pub lane_power : (n : ℕ) → Known n → (j : ℕ) × (n ≡ 2 ^ j) × (j + 5 ≡ levels_for n)
unfolding levels_for
lane_power = by_edition (λ n. (j : ℕ) × (n ≡ 2 ^ j) × (j + 5 ≡ levels_for n)) (8, refl, refl) (7, refl, refl)

-- ---- a part of the words

pub record Cut (W p : List ℕ) (s m : ℕ) : Type 0 where
  pub long : length p ≡ m
  pub each : (i : ℕ) → i < m → get_or p i 0 ≡ get_or W (s + i) 0

pub cut : (W : List ℕ) (s e s' m : ℕ) → s ≡ s' → e ≡ s + m → e ≤ length W → Cut W (take (e - s) (drop s W)) s' m
cut W s e s' m f h l =
    let d : e - s ≡ m = omega arith in
    rw (d, ← f) (record { long = length-take-le m (drop s W) (rw length-drop (omega arith)); each = λ i k. get_or-take m (drop s W) i 0 k ∙ get_or-drop s W i 0 })

-- the bits of the first n words, and of those after them
take-bit : (n : ℕ) (l : List ℕ) (q : ℕ) → q < 32 * n → bit_at (take n l) q ≡ bit_at l q
unfolding bit_at
take-bit n l q h = ap (λ (x : ℕ). bit x (q % 32)) (get_or-take n l (q / 32) 0 (omega arith))

drop-bit : (n : ℕ) (l : List ℕ) (q : ℕ) → bit_at (drop n l) q ≡ bit_at l (32 * n + q)
unfolding bit_at
drop-bit n l q =
    let w : (32 * n + q) / 32 ≡ n + q / 32 = omega arith in
    let b : (32 * n + q) % 32 ≡ q % 32 = omega arith in
    rw (w, b) (ap (λ (x : ℕ). bit x (q % 32)) (get_or-drop n l (q / 32) 0))

module _ (n : ℕ) (W : List ℕ) (o k : ℕ) where
  pub entry_cut : (p : List ℕ) → Cut W p (section_at n W o k) (16 * n) → (i : ℕ) → i < 32 * n → half_at n p i ≡ entry_at n W o k i
  unfolding half_at entry_at
  entry_cut p c i h = ap (λ (x : ℕ). half_of x (i % 2)) (c.each (word_of_entry n i) (place_lt n i h))

  pub entries_cut : (p : List ℕ) → Cut W p (section_at n W o k) (16 * n) → k < stages_at W o + 2 → EntriesIn n W o → Entries n p
  entries_cut p c h ok i l = rw (entry_cut p c i l) (ok k i h l)

  gate-cut : (t : List ℕ) → Cut W t (section_at n W o k + 16 * n) (4 * n) → (q a b : ℕ) → q < 32 * n → lane_gate t q a b ≡ gate_at n W o k q a b
  unfolding lane_gate gate_at lane_word_at
  gate-cut t c q a b h =
      let w = q / 32 in
      let s = section_at n W o k + 16 * n in
      let x : get_or t (4 * w) 0 ≡ get_or W (s + 4 * w + 0) 0 = c.each (4 * w) (omega arith) ∙ ap (λ (i : ℕ). get_or W i 0) (sym (add-zero (s + 4 * w))) in
      let y : get_or t (4 * w + 1) 0 ≡ get_or W (s + 4 * w + 1) 0 = c.each (4 * w + 1) (omega arith) ∙ ap (λ (i : ℕ). get_or W i 0) (omega arith) in
      let z : get_or t (4 * w + 2) 0 ≡ get_or W (s + 4 * w + 2) 0 = c.each (4 * w + 2) (omega arith) ∙ ap (λ (i : ℕ). get_or W i 0) (omega arith) in
      rw (x, y, z)

  module _ (j : ℕ) (is : n ≡ 2 ^ j) (p t l₀ l l' : List ℕ) (cp : Cut W p (section_at n W o k) (16 * n)) (ct : Cut W t (section_at n W o k + 16 * n) (4 * n))
      (ok : Entries n p) (long : length l₀ ≡ 2 * n) (g : Gathered n p l₀ l n) (st : Staged t l l' j) where
    wide : 2 ^ (j + 5) ≡ 32 * n
    wide = pow-add 2 j 5 ∙ mul_comm (2 ^ j) 32 ∙ ap (λ (x : ℕ). 32 * x) (sym is)

    gathered-bit : (i : ℕ) → i < 32 * n → bit_at l' (32 * n + i) ≡ bit_at (take n l₀) (entry_at n W o k i)
    gathered-bit i h =
        let w = n + i / 32 in
        let b = i % 32 in
        let place : 32 * w + b ≡ 32 * n + i = omega arith in
        let back : 32 * (w - n) + b ≡ i = omega arith in
        let word : get_or l' w 0 ≡ get_or l w 0 = st.over w (omega arith) in
        ap (bit_at l') (sym place) ∙ at_word_lem l' w b (omega arith) ∙ ap (λ (x : ℕ). bit x b) word ∙ (g.done w (omega arith) (omega arith)).each b (omega arith)
        ∙ ap (λ (x : ℕ). bit_at l₀ (half_at n p x)) back ∙ sym (take-bit n l₀ (half_at n p i) (ok i h)) ∙ ap (bit_at (take n l₀)) (entry_cut p cp i h)

    stage-bits : StageBits n W o k (take n l₀) (j + 5) (bit_at l')
    stage-bits = record {
      zeroth = st.zeroth;
      gathered = λ i h. rw wide (gathered-bit i (omega (arith, wide)));
      levels = λ s h q lo hi.
          let up : 2 ^ suc s ≤ 2 ^ (j + 5) = pow_mono h in
          st.levels s h q lo hi ∙ gate-cut t ct q _ _ (omega (arith, wide));
    }

    all-long : length l' ≡ 2 * n
    all-long = st.long ∙ g.long ∙ long

    pub stage_end : (H : ℕ) → j + 5 ≡ H → ((i : ℕ) → get_or l' i 0 < 2 ^ 32) → l' ≡ stage_row n H W o k (take n l₀) ++ gathered_row n W o k (take n l₀)
    unfolding gathered_row
    stage_end H top small = sym (take-append-drop n l') ∙ ap₂ ◌++◌ (low ∙ ap (λ (h : ℕ). stage_row n h W o k (take n l₀)) top) high
      where
        low : take n l' ≡ stage_row n (j + 5) W o k (take n l₀)
        low =
            stage_is n W o k (take n l₀) (j + 5) wide (bit_at l') stage-bits (take n l') (length-take-le n l' (omega (arith, all-long)))
            (λ w h. rw (get_or-take n l' w 0 h) (small w)) (take-bit n l')

        high : drop n l' ≡ gathered_row n W o k (take n l₀)
        high =
            words_of (λ q. bit_at (take n l₀) (entry_at n W o k q)) n (drop n l') (length-drop n l' ∙ omega (arith, all-long))
            (λ w h. rw (get_or-drop n l' w 0) (small (n + w))) (λ q h. drop-bit n l' q ∙ gathered-bit q h)
