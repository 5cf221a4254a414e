-- Only the first 40962 bytes matter: 8192 positions and the end are 40961 bytes, and one byte more tells whether any come after.
-- Assumes nothing.
use mathlib.Core.Path.{◌≡◌, refl, sym, ap, ◌∙◌}
use mathlib.Core.Bool.{Bool, true, false}
use mathlib.Core.Logic.{⊎_elim}
use mathlib.Core.Option.{some}
use mathlib.Core.List.{List}
use Rattle.std.specs.Prelude.{Some, None, Ok, Err}
use Prim.Native.Nat.{ℕ, zero, suc, ◌+◌, ◌*◌, ◌^◌, ◌≤◌, ◌<◌}
use native.Mathlib.Numerals.{sub-one}
use native.Mathlib.Omega.{arith}
use borrow.Author.Tests.{lt-ltb, le-leb}
use lib.Dec.{leb}
use lib.ListN.{length, get_or, take}
use lib.Seq.{take_all, length-take-le, get_or-take}
use Rattle.words.proofs.BitLaws.{lt_or_ge}
use Rattle.listing_records.specs.Records.{Record, number_at, position_at, end_record_at, kind_at, record_at, records_from, records, stopped, key_before}
use Rattle.listing_records.proofs.ListingRecordLaws.{by_kind, stop_end, stop_bad, one_more}

-- where bytes come after, an end is refused there
end_refused : (bs : List ℕ) (at : ℕ) → at + 1 < length bs → end_record_at bs at ≡ Err (at + 1)
unfolding end_record_at
end_refused bs at h = rw (lt-ltb _ _ h, end_record_at)

-- the position of a body, by its number
abbrev numbered : ℕ → ℕ → Record
numbered staged x = Ok (Some (record { 0 = 2 ^ 36 * staged + x }))

whole_body : (bs : List ℕ) (at staged : ℕ) → at + 5 ≤ length bs → position_at bs at staged ≡ numbered staged (number_at bs (at + 1))
unfolding position_at
whole_body bs at staged h = rw (le-leb _ _ h, position_at)

-- what is told where no position may come: of an end, the byte after it; else the record
stop_byte : ℕ → ℕ → ℕ
stop_byte at zero = at + 1
stop_byte at (suc k) = at

full_stop : (bs : List ℕ) (at : ℕ) → at + 1 < length bs → records_from 0 bs at ≡ stopped (some (stop_byte at (get_or bs at 0)))
unfolding records_from kind_at position_at stop_byte
full_stop bs at h = go (get_or bs at 0) refl
  where
    cut : (staged : ℕ) (b : Bool) → position_at bs at staged ≡ record_at bs at → leb (at + 5) (length bs) ≡ b → records_from 0 bs at ≡ stopped (some at)
    cut staged true e t = rw (← e, t, position_at, records_from)
    cut staged false e t = rw (← e, t, position_at, records_from)

    go : (k : ℕ) → get_or bs at 0 ≡ k → records_from 0 bs at ≡ stopped (some (stop_byte at k))
    go zero e = rw (← (by_kind bs at (omega arith) 0 e), end_refused bs at h, records_from)
    go (suc zero) e = cut 0 (leb (at + 5) (length bs)) (by_kind bs at (omega arith) 1 e) refl
    go (suc (suc zero)) e = cut 1 (leb (at + 5) (length bs)) (by_kind bs at (omega arith) 2 e) refl
    go (suc (suc (suc k))) e = rw (← (by_kind bs at (omega arith) (suc (suc (suc k))) e), records_from)

module _ (N : ℕ) (bs : List ℕ) (long : N < length bs) where
  len : length (take N bs) ≡ N
  len = length-take-le N bs (omega arith)

  same_number : (i : ℕ) → i + 4 ≤ N → number_at (take N bs) i ≡ number_at bs i
  unfolding number_at
  same_number i h = rw (get_or-take N bs i 0 (omega arith), get_or-take N bs (i + 1) 0 (omega arith), get_or-take N bs (i + 2) 0 (omega arith), get_or-take N bs (i + 3) 0 (omega arith))

  same-position : (at staged : ℕ) → at + 5 ≤ N → position_at (take N bs) at staged ≡ position_at bs at staged
  same-position at staged h =
      whole_body (take N bs) at staged (omega (arith, len)) ∙ ap (numbered staged) (same_number (at + 1) (omega arith))
      ∙ sym (whole_body bs at staged (omega arith))

  same_kind : (at k : ℕ) → at + 5 ≤ N → kind_at (take N bs) at k ≡ kind_at bs at k
  unfolding kind_at
  same_kind at zero h = end_refused (take N bs) at (omega (arith, len)) ∙ sym (end_refused bs at (omega arith))
  same_kind at (suc zero) h = same-position at 0 h
  same_kind at (suc (suc zero)) h = same-position at 1 h
  same_kind at (suc (suc (suc k))) h = refl

  same-record : (at : ℕ) → at + 5 ≤ N → record_at (take N bs) at ≡ record_at bs at
  same-record at h =
      sym (by_kind (take N bs) at (omega (arith, len)) (get_or bs at 0) (get_or-take N bs at 0 (omega arith)))
      ∙ same_kind at (get_or bs at 0) h ∙ by_kind bs at (omega arith) (get_or bs at 0) refl

  same-records : (n at : ℕ) → at + 5 * n + 2 ≤ N → records_from n (take N bs) at ≡ records_from n bs at
  unfolding records_from
  same-records zero at h =
      full_stop (take N bs) at (omega (arith, len)) ∙ (rw (get_or-take N bs at 0 (omega arith)) (sym (full_stop bs at (omega arith))))
  same-records (suc n) at h = go (record_at bs at) refl (same-records n (at + 5) (omega arith))
    where
      here : record_at (take N bs) at ≡ record_at bs at
      here = same-record at (omega arith)

      go : (x : Record) → record_at bs at ≡ x → records_from n (take N bs) (at + 5) ≡ records_from n bs (at + 5) → records_from (suc n) (take N bs) at ≡ records_from (suc n) bs at
      go (Ok (Some q)) e r =
          one_more (suc n) (take N bs) at q (here ∙ e) (omega arith) ∙ (rw sub-one (ap (key_before q.0) r)) ∙ sym (one_more (suc n) bs at q e (omega arith))
      go (Ok None) e r = stop_end (suc n) (take N bs) at (here ∙ e) ∙ sym (stop_end (suc n) bs at e)
      go (Err b) e r = stop_bad (suc n) (take N bs) at b (here ∙ e) ∙ sym (stop_bad (suc n) bs at b e)

pub records_prefix : (bs : List ℕ) → records (take 40962 bs) ≡ records bs
records_prefix bs =
    ⊎_elim (λ h. same-records 40962 bs h 8192 0 (omega arith)) (λ h. ap records (take_all 40962 bs h)) (lt_or_ge 40962 (length bs))
