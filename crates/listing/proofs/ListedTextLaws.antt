-- The answer's text is the listing, and what `list` answers with it.
-- Assumes nothing.
use mathlib.Core.Path.{◌≡◌, refl, sym, ap, ◌∙◌}
use mathlib.Core.Bool.{true, false}
use mathlib.Core.Option.{Option, none, some}
use mathlib.Core.List.{List, [], ◌∷◌, ◌++◌}
use Prim.Native.Nat.{ℕ, ◌≤◌, ◌<◌}
use native.Mathlib.Omega.{arith}
use Rattle.std.specs.Prelude.{Ok, Err}
use Rattle.std.specs.declared.result.Result.{Result}
use Rattle.words.specs.declared.refusals.Refusal.{Refusal}
use borrow.Author.Tests.{le-leb, lt-leb}
use lib.ListN.{length, take, replicate}
use lib.Seq.{sets}
use Rattle.reads.specs.Search.{longest}
use Rattle.reads.specs.Asked.{read_set_of}
use Rattle.words.specs.Answer.{Answer, good, refused, nowhere, result_of}
use Rattle.words.specs.Edition.{known}
use Rattle.words.proofs.EditionLaws.{known_least, known_number}
use Rattle.reads.specs.ReadSet.{pairs_of}
use Rattle.reads.specs.SetAnswer.{Packed, read_set, set_fitted, result_after, set_room_after}
use Rattle.listing_records.specs.Records.{Parsed, records}
use Rattle.listing_records.proofs.PrefixLaws.{records_prefix}
use Rattle.text.specs.Text.{decimal}
use Rattle.listing.specs.Listing.{rounds_word, records_answer, printed, printed_at, said, listing, listed, text_after}
use Rattle.listing.specs.ListingAnswer.{answered, answer_to, section_after, answer_text}
use Rattle.listing.specs.declared.answer.Unlisted.{Unlisted}
use Rattle.listing.specs.declared.answer.Unlisted.TheVariants as unlisted
use Rattle.listing.proofs.LaneLaws.{placed_lines}

-- ---- the answer's text

text_bad : (lanes b : ℕ) → answer_text lanes (Err (unlisted.Record b)) (replicate 16384 0) ≡ printed_at b
unfolding answer_text printed_at
text_bad lanes b = refl

module _ (lanes : ℕ) (some_lanes : 0 < lanes) where
  text-printed : (ws : List ℕ) (o : Answer Packed) → set_fitted lanes 16384 (read_set lanes (pairs_of ws)) ≡ o → answer_text lanes (answered o) (result_after o (replicate 16384 0)) ≡ printed o
  unfolding answer_text answered result_after printed
  text-printed ws (refused q) e = refl
  text-printed ws (good x) e =
      ap (λ (l : List ℕ). rounds_word ++ (decimal (longest x.lanes) ++ ((10 ∷ []) ++ l))) (placed_lines lanes 16384 ws x some_lanes e)

  pub text_said : (p : Parsed) → answer_text lanes (answer_to lanes p) (section_after lanes p (replicate 16384 0)) ≡ said lanes p
  unfolding answer_to section_after said
  text_said p = go p.fault refl
    where
      go : (f : Option ℕ) → p.fault ≡ f → answer_text lanes (answer_to lanes p) (section_after lanes p (replicate 16384 0)) ≡ said lanes p
      go none e = rw (e, answer_to, section_after, said) (text-printed (read_set_of p.keys) (records_answer lanes p) refl)
      go (some b) e = rw (e, answer_to, section_after, said) (text_bad lanes b)

-- only the first 40962 bytes matter
pub listing_prefix : (lanes : ℕ) (bs : List ℕ) → listing lanes (take 40962 bs) ≡ listing lanes bs
unfolding listing
listing_prefix lanes bs = ap (said lanes) (records_prefix bs)

-- ---- what `list` answers, and what the lent bytes then hold

module _ (lanes : ℕ) (bs out : List ℕ) (r : ℕ) where
  abbrev pub Listing : Result ℕ Refusal → List ℕ → Type 0
  Listing x new = (x ≡ result_of length (listed lanes bs (length out) r)) × (new ≡ text_after (listed lanes bs (length out) r) out)

  pub list_short_room : r < 16384 → Listing (Err (nowhere 32)) out
  unfolding listed text_after
  list_short_room h = (rw (lt-leb _ _ h, listed), rw (lt-leb _ _ h, listed))

  pub list_unknown : 16384 ≤ r → known lanes ≡ false → Listing (Err (nowhere 29)) out
  unfolding listed text_after
  list_unknown h k = (rw (le-leb _ _ h, k, listed), rw (le-leb _ _ h, k, listed))

  module _ (h : 16384 ≤ r) (k : known lanes ≡ true) where
    list-short : length out < length (listing lanes bs) → Listing (Err (nowhere 14)) out
    unfolding listed text_after
    list-short g = (rw (le-leb _ _ h, k, lt-leb _ _ g, listed), rw (le-leb _ _ h, k, lt-leb _ _ g, listed))

    pub is_text : length (listing lanes bs) ≤ length out → listed lanes bs (length out) r ≡ good (listing lanes bs)
    unfolding listed
    is_text g = rw (le-leb _ _ h, k, le-leb _ _ g, listed)

    list-text : length (listing lanes bs) ≤ length out → Listing (Ok (length (listing lanes bs))) (sets out 0 (listing lanes bs))
    unfolding text_after
    list-text g = rw (is_text g) (refl, refl)

pub room_kept : (room : List ℕ) → length room < 16384 → room ≡ set_room_after room
unfolding set_room_after
room_kept room h = rw (lt-leb _ _ h, set_room_after)

pub room_zeros : (room : List ℕ) → 16384 ≤ length room → set_room_after room ≡ replicate (length room) 0
unfolding set_room_after
room_zeros room h = rw (le-leb _ _ h, set_room_after)

-- room that was used, and cleared
pub cleared : (room used new : List ℕ) → 16384 ≤ length room → length used ≡ length room → new ≡ replicate (length used) 0 → new ≡ set_room_after room
cleared room used new h e f = f ∙ ap (λ (n : ℕ). replicate n 0) e ∙ sym (room_zeros room h)

-- ---- how `list` comes to it

module _ (lanes : ℕ) (bs room out : List ℕ) (h : 16384 ≤ length room) (k : known lanes ≡ true) {s : List ℕ} (sect : s ≡ section_after lanes (records bs) (replicate 16384 0)) {a : Result ℕ Unlisted}
    (ans : a ≡ answer_to lanes (records bs)) where
  text-is : answer_text lanes a s ≡ listing lanes bs
  unfolding listing
  text-is = (rw (ans, sect)) ∙ text_said lanes (omega (arith, known_least lanes (known_number lanes k))) (records bs)

  module _ {n : ℕ} (len : n ≡ length (answer_text lanes a s)) where
    size : n ≡ length (listing lanes bs)
    size = len ∙ ap length text-is

    pub lists_short : length out < n → Listing lanes bs out (length room) (Err (nowhere 14)) out
    lists_short g = list-short lanes bs out (length room) h k (rw size at g)

    pub lists_text : {new : List ℕ} → n ≤ length out → new ≡ sets out 0 (answer_text lanes a s) → Listing lanes bs out (length room) (Ok n) new
    lists_text g e =
        let l = list-text lanes bs out (length room) h k (rw size at g) in
        (ap Ok size ∙ l.0, e ∙ ap (sets out 0) text-is ∙ l.1)
