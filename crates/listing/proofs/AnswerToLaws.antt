-- From a read set in lent words to the answer.
-- Assumes nothing.
use mathlib.Core.Path.{◌≡◌, sym, ap, ◌∙◌}
use mathlib.Core.Option.{none, some}
use mathlib.Core.List.{List, ◌++◌}
use Prim.Native.Nat.{ℕ, ◌≤◌}
use Rattle.std.specs.Prelude.{Ok, Err}
use Rattle.std.specs.declared.result.Result.{Result}
use native.Mathlib.Omega.{arith}
use lib.ListN.{length, take, drop, length-append, length-drop}
use lib.Seq.{sets, length-sets, length-take-le, take-append-le}
use Rattle.words.specs.declared.refusals.Refusal.{Refusal}
use Rattle.reads.specs.ReadSet.{pairs_of}
use Rattle.reads.specs.Search.{longest}
use Rattle.reads.specs.Asked.{read_set_of}
use Rattle.words.specs.Answer.{Answer, good, refused}
use Rattle.reads.specs.SetAnswer.{Packed, read_set, set_fitted, result_after}
use Rattle.reads_asked.proofs.AskedFormLaws.{set_length_le}
use Rattle.reads_asked.proofs.FrontStoreLaws.{take-front}
use Rattle.rounds.specs.Rounds.{rounds_of}
use Rattle.rounds.specs.declared.Placed.{Placed}
use Rattle.listing.specs.declared.answer.Unlisted.{Unlisted}
use Rattle.listing.specs.declared.answer.Unlisted.TheVariants as unlisted
use Rattle.listing_records.specs.Records.{Parsed}
use Rattle.listing_records.specs.RecordsRead.{set_of, set_after}
use Rattle.listing.specs.ListingAnswer.{answered, answer_to, section_after}
use Rattle.listing_records.proofs.RecordBitLaws.{read_asked}

pub to_bad : (lanes : ℕ) (p : Parsed) (b : ℕ) (section : List ℕ) → p.fault ≡ some b → (Err (unlisted.Record b) ≡ answer_to lanes p) × (section ≡ section_after lanes p section)
unfolding answer_to section_after
to_bad lanes p b section t = (rw (t, answer_to), rw (t, section_after))

as_rounds : (o : Answer Packed) (x : Placed) → Ok x ≡ rounds_of o → Ok x.rounds ≡ answered o
unfolding answered
as_rounds (good y) x e = let f : x ≡ record { rounds = longest y.lanes; size = y.size } = cc in let s : x.rounds ≡ longest y.lanes = ap (λ (p : Placed). p.rounds) f in ap Ok s
as_rounds (refused q) x e = let z : ◌≡◌ {A = ℕ} 0 1 = cc in absurd (omega arith)

as_refused : (o : Answer Packed) (f : Refusal) → Err f ≡ rounds_of o → Err (unlisted.Set f) ≡ answered o
unfolding answered
as_refused (good x) f e = let z : ◌≡◌ {A = ℕ} 0 1 = cc in absurd (omega arith)
as_refused (refused q) f e = let s : f ≡ q = cc in ap (λ (g : Refusal). Err (unlisted.Set g)) s

-- `rounds_of`: the answer to a read set, in a section of 16384 words
module _ (lanes : ℕ) (ws : List ℕ) (o : ℕ) (size : o ≡ 16384) where
  fitted-is : set_fitted lanes o (read_set lanes (pairs_of ws)) ≡ set_fitted lanes 16384 (read_set lanes (pairs_of ws))
  fitted-is = rw size

  pub of_rounds : (x : Placed) → Ok x ≡ rounds_of (set_fitted lanes o (read_set lanes (pairs_of ws))) → Ok x.rounds ≡ answered (set_fitted lanes 16384 (read_set lanes (pairs_of ws)))
  of_rounds x e = as_rounds (set_fitted lanes 16384 (read_set lanes (pairs_of ws))) x (e ∙ ap rounds_of fitted-is)

  pub of_refused : (f : Refusal) → Err f ≡ rounds_of (set_fitted lanes o (read_set lanes (pairs_of ws))) → Err (unlisted.Set f) ≡ answered (set_fitted lanes 16384 (read_set lanes (pairs_of ws)))
  of_refused f e = as_refused (set_fitted lanes 16384 (read_set lanes (pairs_of ws))) f (e ∙ ap rounds_of fitted-is)

  pub of_section : (s new : List ℕ) → new ≡ result_after (set_fitted lanes o (read_set lanes (pairs_of ws))) s → new ≡ result_after (set_fitted lanes 16384 (read_set lanes (pairs_of ws))) s
  of_section s new e = e ∙ ap (λ (x : Answer Packed). result_after x s) fitted-is

pub room_size : (room set : List ℕ) → 16384 ≤ length room → length set ≡ length (take 16384 room) → length (set ++ drop 16384 room) ≡ length room
room_size room set wide kept = omega (arith, length-append set (drop 16384 room), length-take-le 16384 room wide, length-drop 16384 room)

-- the set at the front of 16384 words, which are the first of the room
module _ (p : Parsed) (small : length p.keys ≤ 8192) (room : List ℕ) (wide : 16384 ≤ length room) {set : List ℕ} (held : set ≡ set_after p (take 16384 room)) (n : ℕ)
    (asked : Ok n ≡ set_of p) where
  told : (p.fault ≡ none) × (n ≡ length (read_set_of p.keys))
  told = read_asked p.fault (length (read_set_of p.keys)) n asked

  lent : length (take 16384 room) ≡ 16384
  lent = length-take-le 16384 room wide

  is : set ≡ sets (take 16384 room) 0 (read_set_of p.keys)
  unfolding set_after
  is = held ∙ (rw (told.0, set_after))

  size : length set ≡ 16384
  size = ap length is ∙ (length-sets (take 16384 room) 0 (read_set_of p.keys) ∙ lent)

  few : n ≤ 16384
  few = omega (arith, told.1, set_length_le p.keys)

  pub to_few : n ≤ length (set ++ drop 16384 room)
  to_few = omega (arith, room_size room set wide (size ∙ sym lent), few)

  pub to_front : n ≡ length (take n (set ++ drop 16384 room))
  to_front = sym (length-take-le n (set ++ drop 16384 room) to_few)

  to_set : take n (set ++ drop 16384 room) ≡ read_set_of p.keys
  to_set =
      take-append-le n set (drop 16384 room) (omega (arith, size, few))
      ∙ (ap (λ (m : ℕ). take m set) told.1
      ∙ (ap (take (length (read_set_of p.keys))) is ∙ take-front (take 16384 room) (read_set_of p.keys) (omega (arith, lent, set_length_le p.keys))))

  pub to_said : (lanes : ℕ) (a : Result ℕ Unlisted) → a ≡ answered (set_fitted lanes 16384 (read_set lanes (pairs_of (take n (set ++ drop 16384 room))))) → a ≡ answer_to lanes p
  unfolding answer_to
  to_said lanes a e = e ∙ (rw (to_set, told.0, answer_to))

  pub to_section : (lanes : ℕ) (s new : List ℕ) → new ≡ result_after (set_fitted lanes 16384 (read_set lanes (pairs_of (take n (set ++ drop 16384 room))))) s → new ≡ section_after lanes p s
  unfolding section_after
  to_section lanes s new e = e ∙ (rw (to_set, told.0, section_after))
