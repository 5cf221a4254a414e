-- No text of the full edition is longer than 237578 bytes: a line has at most 29, there are at most 32 in each of the 256 lanes, and the first line has at most 10.
-- Assumes nothing.
use mathlib.Core.Path.{◌≡◌, refl, sym, ap, ◌∙◌}
use mathlib.Core.Bool.{Bool, true, false}
use mathlib.Core.Logic.{inl}
use mathlib.Core.Option.{Option, none, some}
use mathlib.Core.List.{List, [], ◌∷◌, ◌++◌}
use Prim.Native.Nat.{ℕ, zero, suc, ◌+◌, ◌*◌, ◌/◌, ◌%◌, ◌^◌, ◌≤◌, ◌<◌}
use native.Mathlib.Nat.{pow-suc}
use native.Mathlib.Omega.{arith}
use Rattle.std.specs.Prelude.{Ok}
use Rattle.std.specs.declared.result.Result.{Result}
use borrow.Author.Tests.{ltb-true, ltb-false}
use lib.Dec.{ltb}
use lib.ListN.{length, get_or, take, length-append}
use lib.Seq.{sets, length-sets, length-take-le}
use Rattle.words.specs.declared.refusals.Refusal.{Refusal}
use Rattle.words.proofs.EditionLaws.{known_passes}
use Rattle.reads.specs.ReadSet.{pairs_of}
use Rattle.reads.specs.Search.{Lane, longest}
use Rattle.reads.specs.Asked.{read_set_of}
use Rattle.reads.specs.Packing.{Packing}
use Rattle.words.specs.Answer.{Answer, good, refused, result_of}
use Rattle.reads.specs.SetAnswer.{Packed, read_set, set_fitted}
use Rattle.reads.proofs.RoundCountLaws.{longest_ge}
use Rattle.reads.proofs.SetAnswerLaws.{placed_packing, placed_passed, fitted_placed}
use Rattle.listing_records.specs.Records.{records}
use Rattle.text.specs.Text.{decimal_in, decimal, field}
use Rattle.listing_line.specs.Line.{hex, kind_letter, line}
use Rattle.listing.specs.Listing.{lane_lines, lines, refused_word, records_answer, printed, printed_at, said, listing, listed, text_after}
use Rattle.text.proofs.TextLaws.{decimal_one, decimal_more, decimal_short}
use Rattle.listing_line.proofs.LineLaws.{hex_length}
use Rattle.listing.proofs.ListedTextLaws.{is_text}

-- a number below 10^(k+1) has at most k+1 digits
decimal_digits : (f k n : ℕ) → n < 10 ^ suc k → length (decimal_in f n) ≤ suc k
unfolding decimal_in
decimal_digits zero k n h = omega arith
decimal_digits (suc f) zero n h = rw (decimal_one f n h) (omega arith)
decimal_digits (suc f) (suc k) n h = go (ltb n 10) refl (decimal_digits f k (n / 10) (omega (arith, h, pow-suc 10 (suc k))))
  where
    go : (b : Bool) → ltb n 10 ≡ b → length (decimal_in f (n / 10)) ≤ suc k → length (decimal_in (suc f) n) ≤ suc (suc k)
    go true e r = rw (decimal_one f n (ltb-true _ _ e)) (omega arith)
    go false e r = rw (decimal_more f n (ltb-false _ _ e), length-append) (omega arith)

field_length : (k n : ℕ) → n < 10 ^ suc k → length (field n) ≤ suc (suc k)
field_length k n h = rw length-append (omega (arith, decimal_digits 20 k n h))

line_length : (i r w m : ℕ) → i < 1000 → r < 100 → length (line i r w m) ≤ 29
unfolding line
line_length i r w m a b =
    omega (
      arith,
      field_length 2 i a,
      field_length 1 r b,
      field_length 9 (w % 2 ^ 31) (omega arith),
      hex_length 8 m,
      length-append (field i) (field r ++ ((kind_letter w ∷ 32 ∷ []) ++ (field (w % 2 ^ 31) ++ (hex m ++ (10 ∷ []))))),
      length-append (field r) ((kind_letter w ∷ 32 ∷ []) ++ (field (w % 2 ^ 31) ++ (hex m ++ (10 ∷ [])))),
      length-append (field (w % 2 ^ 31)) (hex m ++ (10 ∷ [])),
      length-append (hex m) (10 ∷ []),
    )

lane_length : (i r : ℕ) (l : Lane) → i < 1000 → r + length l ≤ 100 → length (lane_lines i r l) ≤ 29 * length l
unfolding lane_lines
lane_length i r [] a b = omega arith
lane_length i r (p ∷ l) a b =
    omega (
      arith,
      length-append (line i r p.word p.mask) (lane_lines i (r + 1) l),
      line_length i r p.word p.mask a (omega arith),
      lane_length i (r + 1) l a (omega arith),
    )

lines_length : (i : ℕ) (ls : List Lane) → i + length ls ≤ 1000 → ((j : ℕ) → length (get_or ls j []) ≤ 32) → length (lines i ls) ≤ 928 * length ls
unfolding lines
lines_length i [] a b = omega arith
lines_length i (l ∷ ls) a b =
    omega (
      arith,
      b 0,
      length-append (lane_lines i 0 l) (lines (i + 1) ls),
      lane_length i 0 l (omega arith) (omega (arith, b 0)),
      lines_length (i + 1) ls (omega arith) (λ j. b (suc j)),
    )

printed_length : (ws : List ℕ) (o : Answer Packed) → set_fitted 256 16384 (read_set 256 (pairs_of ws)) ≡ o → length (printed o) ≤ 237578
unfolding printed
printed_length ws (refused q) e =
    let n = q.number in
    omega (arith, length-append refused_word (decimal n ++ (10 ∷ [])), length-append (decimal n) (10 ∷ []), decimal_short 20 n)
printed_length ws (good x) e =
    let lanes = x.lanes in
    let f = fitted_placed 256 16384 (read_set 256 (pairs_of ws)) x e in
    let q : Packing 256 (pairs_of ws) lanes = placed_packing 256 (pairs_of ws) x (placed_passed 256 (pairs_of ws) x f.0).placed (omega arith) in
    let few : longest lanes ≤ 32 = omega (arith, f.1) in
    omega (
      arith,
      q.wide,
      length-append (decimal (longest lanes)) ((10 ∷ []) ++ lines 0 lanes),
      decimal_digits 20 1 (longest lanes) (omega arith),
      lines_length 0 lanes (omega (arith, q.wide)) (λ j. omega (arith, longest_ge lanes j)),
    )

bad_length : (b : ℕ) → length (printed_at b) ≤ 237578
unfolding printed_at
bad_length b = omega (arith, length-append (decimal b) (10 ∷ []), decimal_short 20 b)

pub listing_length : (bs : List ℕ) → length (listing 256 bs) ≤ 237578
unfolding listing said
listing_length bs = go (records bs).fault refl
  where
    go : (f : Option ℕ) → (records bs).fault ≡ f → length (said 256 (records bs)) ≤ 237578
    go none t = rw (t, said) (printed_length (read_set_of (records bs).keys) (records_answer 256 (records bs)) refl)
    go (some b) t = rw (t, said) (bad_length b)

-- so with such bytes and enough working room `list` gives the text
module _ (bs out : List ℕ) (r : ℕ) (h : 237578 ≤ length out) (k : 16384 ≤ r) where
  text-listed : listed 256 bs (length out) r ≡ good (listing 256 bs)
  text-listed = is_text 256 bs out r k (known_passes 256 (inl refl)) (omega (arith, listing_length bs))

  pub text_ok : (x : Result ℕ Refusal) → x ≡ result_of length (listed 256 bs (length out) r) → x ≡ Ok (length (listing 256 bs))
  text_ok x e = e ∙ ap (result_of length) text-listed

  -- what a caller then holds: n bytes of text at the front
  pub text_given : (n : ℕ) (new : List ℕ) → Ok n ≡ result_of length (listed 256 bs (length out) r) → new ≡ text_after (listed 256 bs (length out) r) out
      → ((n ≤ length new) × (n ≡ length (take n new))) × ((n ≡ length (listing 256 bs)) × (new ≡ sets out 0 (listing 256 bs)))
  unfolding text_after
  text_given n new e g =
      let q = text_ok (Ok n) e in
      let s : n ≡ length (listing 256 bs) = cc in
      let w : new ≡ sets out 0 (listing 256 bs) = g ∙ (rw text-listed) in
      let l : length new ≡ length out = ap length w ∙ length-sets out 0 (listing 256 bs) in
      let m : n ≤ length new = omega (arith, listing_length bs) in
      ((m, sym (length-take-le n new m)), (s, w))
