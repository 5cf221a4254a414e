-- 3, 21 and 22, which need no search: a set that meets one of them has no lanes, because it has no packing.
-- Assumes nothing.
use mathlib.Core.Path.{◌≡◌, refl, sym, ap, ◌∙◌}
use mathlib.Core.Bool.{Bool, true, false}
use mathlib.Core.Option.{Option, none, some}
use mathlib.Core.List.{List, [], ◌∷◌}
use Prim.Native.Nat.{ℕ, ◌*◌, ◌/◌, ◌%◌, ◌≤◌, ◌<◌, zero-le}
use native.Mathlib.Omega.{arith}
use borrow.Author.Tests.{leb-true, leb-false, le-leb, lt-leb, ltb-true, ltb-false, lt-ltb, le-ltb}
use lib.Dec.{leb, ltb}
use lib.ListN.{length, replicate}
use lib.Seq.{slice}
use Rattle.words.specs.Bit.{pop}
use Rattle.words.specs.Answer.{refused, nowhere}
use Rattle.reads.specs.ReadSet.{Pair, total, pairs_of}
use Rattle.reads.specs.Search.{Lane, first_win, lanes_found, lanes_of}
use Rattle.reads.specs.Packing.{Packing, weigh, wide_mask, wide_pairs}
use Rattle.reads.specs.SetAnswer.{searched, packed}
use Rattle.reads.proofs.SearchLaws.{win_none}
use Rattle.reads.proofs.PackingLaws.{lanes_packing}
use Rattle.reads.proofs.BoundLaws.{too_many_bits, too_many_wide}
use Rattle.reads_try.proofs.SetPairLaws.{pairs_length, total_le}
use Rattle.reads_pieces.proofs.PieceKeyLaws.{slice_whole, wide_le}
use Rattle.std.specs.Prelude.{Some, None, Err}
use Rattle.std.specs.declared.option.Option as code
use Rattle.std.specs.declared.result.Result.{Result}
use Rattle.words.specs.declared.refusals.Reason.{Reason}
use Rattle.words.specs.declared.refusals.Reason.TheVariants as why
use Rattle.words.specs.declared.refusals.Refusal.{Refusal}
use Rattle.words.specs.Reasons.{number_of}
use Rattle.rounds.specs.Rounds.{searched_of, reason_before, table_after}

-- ---- few pairs, or few bits, have few wide pairs

pub wide_pairs_few : (ps : List Pair) → wide_pairs ps ≤ length ps
unfolding weigh
wide_pairs_few [] = omega arith
wide_pairs_few (p ∷ ps) = omega (arith, wide_le p.mask, wide_pairs_few ps)

wide_bits : (m : ℕ) → 17 * wide_mask m ≤ pop m
unfolding wide_mask
wide_bits m = go (leb 17 (pop m)) refl
  where
    go : (t : Bool) → leb 17 (pop m) ≡ t → 17 * wide_mask m ≤ pop m
    go true e = rw (e, wide_mask) (leb-true 17 (pop m) e)
    go false e = rw (e, wide_mask) zero-le

pub wide_pairs_bits : (ps : List Pair) → 17 * wide_pairs ps ≤ total ps
unfolding weigh total
wide_pairs_bits [] = omega arith
wide_pairs_bits (p ∷ ps) = omega (arith, wide_bits p.mask, wide_pairs_bits ps)

-- ---- the reason, as the code comes to it: b bits, w wide pairs

module _ (n : ℕ) (ws : List ℕ) (whole : length ws % 2 ≡ 0) where
  pub before_none : length ws / 2 ≡ 0 → Some why.NothingToRead ≡ reason_before n (pairs_of ws)
  unfolding reason_before
  before_none z = rw (le-ltb 0 (length (pairs_of ws)) (omega (arith, pairs_length 0 ws)), reason_before)

  -- no more pairs than lanes
  pub before_small : (length ws / 2 ≡ 0 → ⊥) → length ws / 2 ≤ n → None ≡ reason_before n (pairs_of ws)
  unfolding reason_before
  before_small some_pairs h =
      let ps = pairs_of ws in
      let long : length ps ≡ length ws / 2 = omega (arith, pairs_length 0 ws) in
      let there : ltb 0 (length ps) ≡ true = lt-ltb 0 (length ps) (omega arith) in
      let few_bits : leb (total ps) (32 * n) ≡ true = le-leb (total ps) (32 * n) (omega (arith, total_le ps)) in
      let few-wide : leb (wide_pairs ps) n ≡ true = le-leb (wide_pairs ps) n (omega (arith, wide_pairs_few ps)) in
      rw (there, few_bits, few-wide, reason_before)

  module _ (some_pairs : length ws / 2 ≡ 0 → ⊥) (b : ℕ) (eb : b ≡ total (slice 0 (length ws / 2) (pairs_of ws))) where
    there : ltb 0 (length (pairs_of ws)) ≡ true
    there = lt-ltb 0 (length (pairs_of ws)) (omega (arith, pairs_length 0 ws))

    bits_are : b ≡ total (pairs_of ws)
    bits_are = eb ∙ ap total (slice_whole ws whole)

    pub before_bits : 32 * n < b → Some why.ManyBits ≡ reason_before n (pairs_of ws)
    unfolding reason_before
    before_bits h = rw (there, lt-leb (total (pairs_of ws)) (32 * n) (omega (arith, bits_are)), reason_before)

    module _ (few : b ≤ 32 * n) (w : ℕ) (ew : w ≡ wide_pairs (pairs_of ws)) where
      few_bits : leb (total (pairs_of ws)) (32 * n) ≡ true
      few_bits = le-leb (total (pairs_of ws)) (32 * n) (omega (arith, bits_are))

      pub before_wide : n < w → Some why.ManyWide ≡ reason_before n (pairs_of ws)
      unfolding reason_before
      before_wide h = rw (there, few_bits, lt-leb (wide_pairs (pairs_of ws)) n (omega (arith, ew)), reason_before)

      pub before_fine : w ≤ n → None ≡ reason_before n (pairs_of ws)
      unfolding reason_before
      before_fine h = rw (there, few_bits, le-leb (wide_pairs (pairs_of ws)) n (omega (arith, ew)), reason_before)

    -- no more than 17 bits a lane
    pub before_narrow : b ≤ 17 * n → None ≡ reason_before n (pairs_of ws)
    before_narrow h = before_fine (omega arith) (wide_pairs (pairs_of ws)) refl (omega (arith, bits_are, wide_pairs_bits (pairs_of ws)))

-- ---- what it says of the set

module _ (n : ℕ) (ps : List Pair) (some_lanes : 0 < n) where
  -- lanes would be a packing
  no-lanes : ((lanes : List Lane) → Packing n ps lanes → ⊥) → lanes_of n ps ≡ none
  no-lanes h = go (lanes_of n ps) refl
    where
      go : (o : Option (List Lane)) → lanes_of n ps ≡ o → lanes_of n ps ≡ none
      go none e = e
      go (some lanes) e = absurd (h lanes (lanes_packing n ps lanes e some_lanes))

  -- refused, and without lanes
  abbrev Out : ℕ → Type 0
  Out m = (packed n ps ≡ refused (nowhere m)) × (lanes_of n ps ≡ none)

  pub before_lost : (o : code.Option Reason) → o ≡ reason_before n ps → (r : Reason) → o ≡ Some r → Out (number_of r)
  unfolding reason_before packed lanes_found
  before_lost o e r h = go (ltb 0 (length ps)) refl (leb (total ps) (32 * n)) refl (leb (wide_pairs ps) n) refl
    where
      go : (a : Bool) → ltb 0 (length ps) ≡ a → (b : Bool) → leb (total ps) (32 * n) ≡ b → (c : Bool) → leb (wide_pairs ps) n ≡ c → Out (number_of r)
      go false ea b eb c ec =
          let told : Some r ≡ Some why.NothingToRead = sym h ∙ rw (ea, reason_before) at e in
          let is : r ≡ why.NothingToRead = cc in
          let none-there : length ps ≡ 0 = omega (arith, ltb-false 0 (length ps) ea) in
          rw is (rw (ea, packed), ap lanes_found (ap (λ (k : ℕ). first_win n ps 14 k) none-there ∙ win_none n ps 14))
      go true ea false eb c ec =
          let told : Some r ≡ Some why.ManyBits = sym h ∙ rw (ea, eb, reason_before) at e in
          let is : r ≡ why.ManyBits = cc in
          rw is (rw (ea, eb, packed), no-lanes (λ lanes p. too_many_bits n ps lanes (leb-false (total ps) (32 * n) eb) p))
      go true ea true eb false ec =
          let told : Some r ≡ Some why.ManyWide = sym h ∙ rw (ea, eb, ec, reason_before) at e in
          let is : r ≡ why.ManyWide = cc in
          rw is (rw (ea, eb, ec, packed), no-lanes (λ lanes p. too_many_wide n ps lanes (leb-false (wide_pairs ps) n ec) p))
      go true ea true eb true ec =
          let told : Some r ≡ None = sym h ∙ rw (ea, eb, ec, reason_before) at e in
          let z : ◌≡◌ {A = ℕ} 0 1 = cc in
          absurd (omega arith)

  pub before_passed : (o : code.Option Reason) → o ≡ reason_before n ps → o ≡ None → (packed n ps ≡ searched n ps) × (0 < length ps)
  unfolding reason_before packed
  before_passed o e h = go (ltb 0 (length ps)) refl (leb (total ps) (32 * n)) refl (leb (wide_pairs ps) n) refl
    where
      go : (a : Bool) → ltb 0 (length ps) ≡ a → (b : Bool) → leb (total ps) (32 * n) ≡ b → (c : Bool) → leb (wide_pairs ps) n ≡ c
          → (packed n ps ≡ searched n ps) × (0 < length ps)
      go false ea b eb c ec =
          let told : None ≡ Some why.NothingToRead = sym h ∙ rw (ea, reason_before) at e in
          let z : ◌≡◌ {A = ℕ} 0 1 = cc in
          absurd (omega arith)
      go true ea false eb c ec =
          let told : None ≡ Some why.ManyBits = sym h ∙ rw (ea, eb, reason_before) at e in
          let z : ◌≡◌ {A = ℕ} 0 1 = cc in
          absurd (omega arith)
      go true ea true eb false ec =
          let told : None ≡ Some why.ManyWide = sym h ∙ rw (ea, eb, ec, reason_before) at e in
          let z : ◌≡◌ {A = ℕ} 0 1 = cc in
          absurd (omega arith)
      go true ea true eb true ec = (rw (ea, eb, ec, packed), ltb-true 0 (length ps) ea)

  -- so a set that meets one is not searched, and the search answers for the others
  pub lost_post : (o : code.Option Reason) → o ≡ reason_before n ps → (r : Reason) → o ≡ Some r → (q : Refusal) → q ≡ nowhere (number_of r) → (table : List ℕ)
      → table ≡ replicate (32 * n) 0 → (Err q ≡ searched_of (packed n ps)) × (table ≡ table_after n (lanes_of n ps))
  lost_post o e r h q eq table et =
      let out = before_lost o e r h in
      (ap Err eq ∙ ap searched_of (sym out.0), et ∙ ap (λ (o : Option (List Lane)). table_after n o) (sym out.1))

  pub passed_post : (o : code.Option Reason) → o ≡ reason_before n ps → o ≡ None → (r : Result ℕ Refusal) → r ≡ searched_of (searched n ps) → r ≡ searched_of (packed n ps)
  passed_post o e h r er = er ∙ ap searched_of (sym (before_passed o e h).0)
