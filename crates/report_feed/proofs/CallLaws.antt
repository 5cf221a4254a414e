-- The call: which number each way through the code has, what a call that passes leaves, and 32 before all.
-- Assumes nothing.
use mathlib.Core.Path.{◌≡◌, refl, ap, ◌∙◌}
use mathlib.Core.Bool.{true, false}
use mathlib.Core.List.{List}
use Prim.Native.Nat.{ℕ, zero, suc, ◌≤◌, ◌<◌}
use native.Mathlib.Omega.{arith}
use borrow.Author.Tests.{le-leb, lt-leb, lt-ltb, le-ltb}
use lib.Dec.{leb}
use lib.ListN.{length, replicate}
use Rattle.std.specs.Prelude.{Ok, Err}
use Rattle.std.specs.declared.result.Result.{Result}
use Rattle.words.specs.Answer.{nowhere, result_of}
use Rattle.words.specs.declared.refusals.Refusal.{Refusal}
use Rattle.words.specs.Edition.{known}
use Rattle.reads.specs.SetAnswer.{set_room_after}
use Rattle.report.specs.Report.{Part, part_outcome}
use Rattle.report.specs.Batch.{batch_at, most_parts, batch_form, same_edition, call_number, called, fed_with, feed_answer, batch_after}
use Rattle.report.proofs.BatchLaws.{call_passed}
use Rattle.report_feed.specs.declared.Fed.{Fed}
use Rattle.report_feed.specs.FeedTold.{part_fed, call_told, Feedable}

-- ---- 29, 5, 28, 14

module _ (n : ℕ) (b : List ℕ) where
  pub call_unknown : known n ≡ false → Err (nowhere 29) ≡ call_told (call_number n b)
  unfolding call_number
  call_unknown e = rw (e, call_number)

  module _ (edition : known n ≡ true) where
    pub call_form : batch_form b ≡ false → Err (nowhere 5) ≡ call_told (call_number n b)
    unfolding call_number
    call_form e = rw (edition, e, call_number)

    module _ (form : batch_form b ≡ true) where
      pub call_other : same_edition n b ≡ false → Err (nowhere 5) ≡ call_told (call_number n b)
      unfolding call_number
      call_other e = rw (edition, form, e, call_number)

      module _ (same-one : same_edition n b ≡ true) where
        pub call_full : most_parts ≤ batch_at b 0 → Err (nowhere 28) ≡ call_told (call_number n b)
        unfolding call_number
        call_full h = rw (edition, form, same-one, le-ltb (batch_at b 0) most_parts h, call_number)

        pub call_short : batch_at b 0 < most_parts → length b < 48 → Err (nowhere 14) ≡ call_told (call_number n b)
        unfolding call_number
        call_short h l = rw (edition, form, same-one, lt-ltb (batch_at b 0) most_parts h, lt-leb 48 (length b) l, call_number)

        pub call_passes : batch_at b 0 < most_parts → 48 ≤ length b → Ok tt ≡ call_told (call_number n b)
        unfolding call_number
        call_passes h l = rw (edition, form, same-one, lt-ltb (batch_at b 0) most_parts h, le-leb 48 (length b) l, call_number)

  told_passed : (k : ℕ) → call_told k ≡ Ok tt → k ≡ 0
  told_passed zero e = refl
  told_passed (suc k) e = let z : ◌≡◌ {A = ℕ} 0 1 = cc in absurd (omega arith)

  pub call_passed_lem : call_told (call_number n b) ≡ Ok tt → call_number n b ≡ 0
  call_passed_lem e = told_passed (call_number n b) e

  pub call_feedable : call_number n b ≡ 0 → Feedable n b
  call_feedable e = let c = call_passed n b e in record { edition = c.edition; form = c.form; room = c.room; whole = c.whole }

-- ---- the answer of a call

abbrev pub CallMade : ℕ → Part → List ℕ → Result Fed Refusal → List ℕ → Type 0
CallMade n p b r new =
    (r ≡ result_of part_fed (called (call_number n b) (part_outcome n p))) × (new ≡ batch_after n p (called (call_number n b) (part_outcome n p)) b)

pub call_refused : (n : ℕ) (p : Part) (b : List ℕ) (q : Refusal) → call_told (call_number n b) ≡ Err q → CallMade n p b (Err q) b
unfolding batch_after
call_refused n p b q e = go (call_number n b) refl e
  where
    go : (k : ℕ) → call_number n b ≡ k → call_told k ≡ Err q → CallMade n p b (Err q) b
    go zero is e = let z : ◌≡◌ {A = ℕ} 0 1 = cc in absurd (omega arith)
    go (suc k) is e = let f : nowhere (suc k) ≡ q = cc in rw (is, ← f) (refl, refl)

pub call_good : (n : ℕ) (p : Part) (b : List ℕ) (r : Fed) (new : List ℕ) → call_number n b ≡ 0 → r ≡ part_fed (part_outcome n p)
    → new ≡ fed_with n p (part_outcome n p) b → CallMade n p b (Ok r) new
unfolding batch_after
call_good n p b r new e er eb = rw e (ap Ok er, eb)

-- ---- 32 before all others

abbrev pub FeedMade : ℕ → Part → List ℕ → List ℕ → Result Fed Refusal → (new room : List ℕ) → Type 0
FeedMade n p b room r new room' =
    (r ≡ result_of part_fed (feed_answer (length room) n p b)) × ((new ≡ batch_after n p (feed_answer (length room) n p b) b) × (room' ≡ set_room_after room))

pub feed_short : (n : ℕ) (p : Part) (b room : List ℕ) → length room < 16384 → FeedMade n p b room (Err (nowhere 32)) b room
unfolding feed_answer batch_after set_room_after
feed_short n p b room h =
    let t : leb 16384 (length room) ≡ false = lt-leb 16384 (length room) h in
    (rw (t, feed_answer), (rw (t, feed_answer), rw (t, set_room_after)))

pub feed_long : (n : ℕ) (p : Part) (b room : List ℕ) (r : Result Fed Refusal) (new room' used : List ℕ) → 16384 ≤ length room → CallMade n p b r new
    → room' ≡ replicate (length used) 0 → length used ≡ length room → FeedMade n p b room r new room'
unfolding feed_answer set_room_after
feed_long n p b room r new room' used h made e long =
    let t : leb 16384 (length room) ≡ true = le-leb 16384 (length room) h in
    let o : feed_answer (length room) n p b ≡ called (call_number n b) (part_outcome n p) = rw (t, feed_answer) in
    (rw o made.0, (rw o made.1, e ∙ rw (t, set_room_after, long)))
