-- The lines that a read section's words give are those of its lanes: the words stand where the lanes have their pairs, and no pair has mask 0.
-- Assumes nothing.
use mathlib.Core.Path.{◌≡◌, refl, sym, ap, ◌∙◌}
use mathlib.Core.Option.{none}
use mathlib.Core.List.{List, [], ◌∷◌, ◌++◌}
use Prim.Native.Nat.{ℕ, zero, suc, ◌+◌, ◌≤◌, ◌<◌}
use native.Mathlib.Nat.{not-suc-le-zero, add-zero, zero-add, add-suc, suc-add, le_of_suc-le-suc}
use native.Mathlib.Numerals.{add-one}
use native.Mathlib.Omega.{arith}
use lib.ListN.{length, get_or, drop, replicate, length-replicate}
use lib.Seq.{sets, sets-eq, get_or-drop}
use Rattle.words.proofs.ListLaws.{zeros_at}
use Rattle.reads.specs.ReadSet.{Pair, pairs_of, broken}
use Rattle.reads.specs.Search.{Lane, longest}
use Rattle.reads.specs.ReadSection.{read_section}
use Rattle.reads.specs.Local.{word_in, mask_in}
use Rattle.reads.specs.Packing.{Packing}
use Rattle.words.specs.Answer.{good}
use Rattle.reads.specs.SetAnswer.{Packed, read_set, set_fitted}
use Rattle.reads.proofs.SetLaws.{times_at, mask_some}
use Rattle.reads.proofs.RoundCountLaws.{in_lanes, longest_ge}
use Rattle.reads.proofs.SectionWordLaws.{section_length, section_word, section_mask}
use Rattle.reads.proofs.SetAnswerLaws.{placed_packing, SetPassed, placed_passed, fitted_placed}
use Rattle.listing.specs.SectionLines.{pair_start, lane_round_lines, section_lines}
use Rattle.listing.specs.Listing.{lane_lines, lines}
use Rattle.listing.proofs.SectionLineLaws.{no_line, one_line}

-- ---- from words to lanes

-- the words of a lane from round r on, for t rounds, are those of the list of pairs
pub record LaneStands (n : ℕ) (s : List ℕ) (i r t : ℕ) (l : Lane) : Type 0 where
  pub word : (k : ℕ) → k < t → get_or s (pair_start n i (r + k)) 0 ≡ word_in l k
  pub mask : (k : ℕ) → k < t → get_or s (pair_start n i (r + k) + 1) 0 ≡ mask_in l k
  pub full : (k : ℕ) → k < length l → 0 < mask_in l k
  pub fits : length l ≤ t

module _ (n : ℕ) (s : List ℕ) (i : ℕ) where
  next-none : (r t : ℕ) → LaneStands n s i r (suc t) [] → LaneStands n s i (r + 1) t []
  unfolding word_in mask_in
  next-none r t S =
      record {
        word = λ k h. (rw (add-one r, suc-add r k, ← (add-suc r k)) (S.word (suc k) (omega arith)));
        mask = λ k h. (rw (add-one r, suc-add r k, ← (add-suc r k)) (S.mask (suc k) (omega arith)));
        full = λ k h. absurd (not-suc-le-zero h);
        fits = omega arith;
      }

  next-some : (r t : ℕ) (p : Pair) (l : Lane) → LaneStands n s i r (suc t) (p ∷ l) → LaneStands n s i (r + 1) t l
  unfolding word_in mask_in
  next-some r t p l S =
      record {
        word = λ k h. (rw (add-one r, suc-add r k, ← (add-suc r k)) (S.word (suc k) (omega arith)));
        mask = λ k h. (rw (add-one r, suc-add r k, ← (add-suc r k)) (S.mask (suc k) (omega arith)));
        full = λ k h. S.full (suc k) (omega arith);
        fits = omega (arith, S.fits);
      }

  pub lane_lines_lem : (t r : ℕ) (l : Lane) → LaneStands n s i r t l → lane_round_lines n s i t r ≡ lane_lines i r l
  unfolding lane_round_lines lane_lines word_in mask_in
  lane_lines_lem zero r [] S = refl
  lane_lines_lem zero r (p ∷ l) S = absurd (not-suc-le-zero S.fits)
  lane_lines_lem (suc t) r [] S =
      let m : get_or s (pair_start n i r + 1) 0 ≡ 0 = (rw add-zero at (S.mask 0 (omega arith))) in
      rw (← (no_line n s i r m)) (lane_lines_lem t (r + 1) [] (next-none r t S))
  lane_lines_lem (suc t) r (p ∷ l) S =
      let w : p.word ≡ get_or s (pair_start n i r) 0 = sym (rw add-zero at (S.word 0 (omega arith))) in
      let m : p.mask ≡ get_or s (pair_start n i r + 1) 0 = sym (rw add-zero at (S.mask 0 (omega arith))) in
      let z : 0 < p.mask = S.full 0 (omega arith) in
      rw (← (one_line n s i r p.word p.mask w m (λ e. absurd (omega arith))), lane_lines_lem t (r + 1) l (next-some r t p l S))

pub lane_all : (n : ℕ) (s : List ℕ) (t i : ℕ) (ls : List Lane) → ((j : ℕ) → j < length ls → LaneStands n s (i + j) 0 t (get_or ls j [])) → section_lines n s t (length ls) i ≡ lines i ls
unfolding section_lines lines
lane_all n s t i [] S = refl
lane_all n s t i (l ∷ ls) S =
    let here : LaneStands n s i 0 t l = (rw add-zero at (S 0 (omega arith))) in
    rw (
      lane_lines_lem n s i t 0 l here,
      lane_all n s t (i + 1) ls (λ j h. (rw (add-one i, suc-add i j, ← (add-suc i j)) (S (suc j) (omega arith)))),
    )

-- ---- the section in lent words that held zeros

after_at : (vs : List ℕ) (k n x : ℕ) → get_or (vs ++ drop k (replicate n 0)) x 0 ≡ get_or vs x 0
after_at [] k n x = get_or-drop k (replicate n 0) x 0 ∙ zeros_at n (k + x)
after_at (v ∷ vs) k n zero = refl
after_at (v ∷ vs) k n (suc x) = after_at vs k n x

pub zeros_hold : (n : ℕ) (vs : List ℕ) (x : ℕ) → length vs ≤ n → get_or (sets (replicate n 0) 0 vs) x 0 ≡ get_or vs x 0
zeros_hold n vs x h =
    let g : 0 + length vs ≤ length (replicate {A = ℕ} n 0) = (rw (length-replicate {A = ℕ} n 0) (omega arith)) in
    ap (λ (l : List ℕ). get_or l x 0) (sets-eq vs (replicate n 0) 0 g) ∙ after_at vs (0 + length vs) n x

-- ---- a set that is placed

mask_at : (l : Lane) (k : ℕ) (d : Pair) → k < length l → mask_in l k ≡ (get_or l k d).mask
unfolding mask_in
mask_at [] k d h = absurd (not-suc-le-zero h)
mask_at (p ∷ l) zero d h = refl
mask_at (p ∷ l) (suc k) d h = mask_at l k d (le_of_suc-le-suc h)

-- in every lane every pair has a mask that is not 0
pub masks_some : (n : ℕ) (ps : List Pair) (lanes : List Lane) → Packing n ps lanes → broken ps ≡ none → (i k : ℕ) → k < length (get_or lanes i []) → 0 < mask_in (get_or lanes i []) k
masks_some n ps lanes packing form i k h =
    let l = get_or lanes i [] in
    let d : Pair = record { at = 0; word = 0; mask = 0 } in
    rw (mask_at l k d h)
    (mask_some ps form (get_or l k d).word (get_or l k d).mask
    (rw (← (packing.once (get_or l k d).word (get_or l k d).mask)) (in_lanes (get_or l k d).word (get_or l k d).mask lanes i (times_at l k d h))))

section_stands : (o : ℕ) (lanes : List Lane) → length (read_section lanes) ≤ o → ((i k : ℕ) → k < length (get_or lanes i []) → 0 < mask_in (get_or lanes i []) k)
    → (j : ℕ) → j < length lanes → LaneStands (length lanes) (sets (replicate o 0) 0 (read_section lanes)) (0 + j) 0 (longest lanes) (get_or lanes j [])
section_stands o lanes long full j h =
    record {
      word = λ k g. (rw (zero-add, zero-add) (zeros_hold o (read_section lanes) _ long ∙ section_word (length lanes) lanes refl k j h));
      mask = λ k g. (rw (zero-add, zero-add) (zeros_hold o (read_section lanes) _ long ∙ section_mask (length lanes) lanes refl k j h));
      full = full j;
      fits = longest_ge lanes j;
    }

pub placed_lines : (n o : ℕ) (ws : List ℕ) (x : Packed) → 0 < n → set_fitted n o (read_set n (pairs_of ws)) ≡ good x
    → section_lines n (sets (replicate o 0) 0 (read_section x.lanes)) (longest x.lanes) n 0 ≡ lines 0 x.lanes
placed_lines n o ws x pos e =
    let lanes = x.lanes in
    let f = fitted_placed n o (read_set n (pairs_of ws)) x e in
    let p : SetPassed n (pairs_of ws) x = placed_passed n (pairs_of ws) x f.0 in
    let q : Packing n (pairs_of ws) lanes = placed_packing n (pairs_of ws) x p.placed pos in
    let long : length (read_section lanes) ≤ o = (rw (section_length n lanes q.wide) f.1) in
    rw (← q.wide)
    (lane_all (length lanes) (sets (replicate o 0) 0 (read_section lanes)) (longest lanes) 0 lanes (section_stands o lanes long (masks_some n (pairs_of ws) lanes q p.form)))
