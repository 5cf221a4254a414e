-- What a filled table says, word by word, and the loops over it: a lane or a round more is a step of the definition's own recursion.
-- Assumes nothing.
use mathlib.Core.Path.{◌≡◌, refl, sym, ap, ◌∙◌}
use mathlib.Core.List.{List, [], ◌∷◌}
use Prim.Native.Nat.{ℕ, zero, suc, ◌+◌, ◌*◌, ◌-◌, ◌≤◌, ◌<◌, max}
use native.Mathlib.Nat.{zero-add, add-zero, mul-suc, mul-le-mul_left, not-suc-le-zero, le_of_suc-le-suc}
use native.Mathlib.Numerals.{add-one, sub-one}
use native.Mathlib.Omega.{arith}
use lib.ListN.{length, get_or, set, drop, drop_of_length-le, get_or-append}
use lib.Seq.{drop-cons, sets, get_or-append-add}
use Rattle.words.proofs.ListLaws.{sets_append}
use Rattle.reads.specs.ReadSet.{Pair}
use Rattle.reads.specs.Search.{Lane, longest}
use Rattle.reads.specs.ReadSection.{round_words, rounds_from}
use Rattle.reads.specs.Local.{word_in, mask_in}
use Rattle.reads.proofs.SectionWordLaws.{place_words_lem, round_length}
use Rattle.reads_try.specs.LaneTable.{row, table_of}
use Rattle.reads_try.specs.TableLanes.{lane_of, row_at, lanes_at, Each, Drawn}
use Rattle.reads_try.proofs.LaneTableLaws.{row_length, lane_at, kept_sound, filled_length}
use Rattle.reads_section.specs.Readout.{entry_word, TableReadable}

-- ---- the table, word by word

-- word r of a lane's row
abbrev pub entry_of : Lane → ℕ → ℕ
entry_of [] r = 0
entry_of (p ∷ l) zero = p.at + 1
entry_of (p ∷ l) (suc r) = entry_of l r

row_at_lem : (n : ℕ) (l : Lane) (r : ℕ) → r < n → get_or (row n l) r 0 ≡ entry_of l r
unfolding row
row_at_lem zero l r h = absurd (not-suc-le-zero h)
row_at_lem (suc n) [] zero h = refl
row_at_lem (suc n) [] (suc r) h = row_at_lem n [] r (le_of_suc-le-suc h)
row_at_lem (suc n) (p ∷ l) zero h = refl
row_at_lem (suc n) (p ∷ l) (suc r) h = row_at_lem n l r (le_of_suc-le-suc h)

table_at : (ls : List Lane) (i r : ℕ) → i < length ls → r < 32 → get_or (table_of ls) (32 * i + r) 0 ≡ entry_of (get_or ls i []) r
unfolding table_of
table_at [] i r h k = absurd (not-suc-le-zero h)
table_at (l ∷ ls) zero r h k =
    let e : r < length (row 32 l) = omega (arith, row_length 32 l) in
    rw zero-add (get_or-append (row 32 l) (table_of ls) 0 r e ∙ row_at_lem 32 l r k)
table_at (l ∷ ls) (suc i) r h k =
    let e : 32 * suc i + r ≡ length (row 32 l) + (32 * i + r) = omega (arith, row_length 32 l) in
    rw e (get_or-append-add (row 32 l) (table_of ls) (32 * i + r) 0 ∙ table_at ls i r (le_of_suc-le-suc h) k)

pub word_is : (ws : List ℕ) (l : Lane) → Each (Drawn ws) l → (r : ℕ) → entry_word ws (entry_of l r) 0 ≡ word_in l r
unfolding entry_word word_in
word_is ws [] d r = refl
word_is ws (p ∷ l) d zero = rw (add-one p.at, entry_word, add-zero) (sym (ap (λ (q : Pair). q.word) d.0.same))
word_is ws (p ∷ l) d (suc r) = word_is ws l d.1 r

pub mask_is : (ws : List ℕ) (l : Lane) → Each (Drawn ws) l → (r : ℕ) → entry_word ws (entry_of l r) 1 ≡ mask_in l r
unfolding entry_word mask_in
mask_is ws [] d r = refl
mask_is ws (p ∷ l) d zero = rw (add-one p.at, entry_word) (sym (ap (λ (q : Pair). q.mask) d.0.same))
mask_is ws (p ∷ l) d (suc r) = mask_is ws l d.1 r

-- the word that the code takes, of none or of a pair's
pub entry_none : (ws : List ℕ) (e h : ℕ) → e ≡ 0 → 0 ≡ entry_word ws e h
unfolding entry_word
entry_none ws e h z = rw (z, entry_word)

pub entry_word_lem : (ws : List ℕ) (e h : ℕ) → (e ≡ 0 → ⊥) → get_or ws (2 * (e - 1) + h) 0 ≡ entry_word ws e h
unfolding entry_word
entry_word_lem ws zero h n = absurd (n refl)
entry_word_lem ws (suc e) h n = rw (sub-one, entry_word)

module _ {ws t : List ℕ} {n : ℕ} (h : TableReadable ws t n) where
  abbrev lanes : List Lane
  lanes = lanes_at ws t n

  entry_at : (i r : ℕ) → i < n → r < 32 → get_or t (32 * i + r) 0 ≡ entry_of (get_or lanes i []) r
  entry_at i r l k =
      let m : 32 * i + r < length (table_of lanes) = omega (arith, filled_length h.filled) in
      ap (λ (x : List ℕ). get_or x (32 * i + r) 0) h.filled.table
      ∙ get_or-append (table_of lanes) (drop (32 * n) t) 0 (32 * i + r) m
      ∙ table_at lanes i r (omega (arith, h.filled.kept.wide)) k

  pub read_word : (i r : ℕ) → i < n → r < 32 → entry_word ws (get_or t (32 * i + r) 0) 0 ≡ word_in (get_or lanes i []) r
  read_word i r l k = rw (entry_at i r l k) (word_is ws (get_or lanes i []) (kept_sound h.filled.kept i l).drawn r)

  pub read_mask : (i r : ℕ) → i < n → r < 32 → entry_word ws (get_or t (32 * i + r) 0) 1 ≡ mask_in (get_or lanes i []) r
  read_mask i r l k = rw (entry_at i r l k) (mask_is ws (get_or lanes i []) (kept_sound h.filled.kept i l).drawn r)

  -- ---- the longest lane

  pub longest_step : (j : ℕ) → j < n → longest (drop j lanes) ≡ max (length (lane_of ws (row_at t j))) (longest (drop (j + 1) lanes))
  unfolding longest
  longest_step j l = ap longest (drop-cons lanes j [] (omega (arith, h.filled.kept.wide))) ∙ rw (add-one j, lane_at ws t n j l, longest)

  pub longest_end : (j : ℕ) → n ≤ j → longest (drop j lanes) ≡ 0
  unfolding longest
  longest_end j l = let q : length lanes ≤ j = omega (arith, h.filled.kept.wide) in rw (drop_of_length-le lanes q)

-- ---- a round, lane by lane

module _ (ls : List Lane) (r : ℕ) (out : List ℕ) (at i : ℕ) where
  pub round_step : i < length ls
      → sets (set (set out (at + 2 * i) (word_in (get_or ls i []) r)) (at + 2 * i + 1) (mask_in (get_or ls i []) r)) (at + 2 * (i + 1)) (round_words (drop (i + 1) ls) r)
      ≡ sets out (at + 2 * i) (round_words (drop i ls) r)
  unfolding round_words
  round_step h =
      let b : at + 2 * (i + 1) ≡ suc (suc (at + 2 * i)) = omega arith in
      rw (drop-cons ls i [] h, b, add-one (at + 2 * i), add-one i, round_words, place_words_lem (get_or ls i []) r)

  pub round_end : length ls ≤ i → sets out (at + 2 * i) (round_words (drop i ls) r) ≡ out
  unfolding round_words
  round_end h = rw (drop_of_length-le ls h, round_words)

-- ---- rounds, one after the other

module _ (ls : List Lane) (rounds : ℕ) (out : List ℕ) (at r : ℕ) where
  pub rounds_step : (n : ℕ) → length ls ≡ n → r < rounds
      → sets (sets out at (round_words ls r)) (at + 2 * n) (rounds_from ls (rounds - (r + 1)) (r + 1)) ≡ sets out at (rounds_from ls (rounds - r) r)
  unfolding rounds_from
  rounds_step n w h =
      let a : rounds - r ≡ suc (rounds - (r + 1)) = omega arith in
      let b : 2 * n ≡ length (round_words ls r) = omega (arith, round_length ls r) in
      rw (a, b, rounds_from) (sym (sets_append out at (round_words ls r) (rounds_from ls (rounds - (r + 1)) (r + 1))))

  pub rounds_end : rounds ≤ r → sets out at (rounds_from ls (rounds - r) r) ≡ out
  unfolding rounds_from
  rounds_end h = let z : rounds - r ≡ 0 = omega arith in rw (z, rounds_from)

pub at_step : (w r n : ℕ) → r < n → w * r + w ≤ w * n
at_step w r n h = rw (← (mul-suc w r)) (mul-le-mul_left w h)

pub at_next : (w r a : ℕ) → a ≡ w * r → a + w ≡ w * (r + 1)
at_next w r a e = ap (λ (x : ℕ). x + w) e ∙ sym (mul-suc w r) ∙ ap (λ (x : ℕ). w * x) (sym (add-one r))
