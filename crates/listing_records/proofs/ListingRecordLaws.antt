-- Laws of the records: one for each end of reading a record, and one for each step of reading them all, in the code's terms.
-- Assumes nothing.
use mathlib.Core.Path.{◌≡◌, refl, sym, ap, ◌∙◌}
use mathlib.Core.Option.{Option, none, some}
use mathlib.Core.List.{List}
use Rattle.std.specs.Prelude.{Some, None, Ok, Err}
use Prim.Native.Nat.{ℕ, zero, suc, ◌+◌, ◌-◌, ◌*◌, ◌≤◌, ◌<◌}
use native.Mathlib.Nat.{not-suc-le-zero, add-zero, zero-add, sub-zero}
use native.Mathlib.Numerals.{add-one, sub-one}
use native.Mathlib.Omega.{arith}
use borrow.Author.Tests.{lt-ltb}
use lib.ListN.{length, get_or, set, length-set}
use lib.Seq.{sets}
use Rattle.listing_records.specs.Records.{kind_at, record_at, Parsed, records_from, stopped, key_before}
use Rattle.words.specs.declared.units.AskedBit.{AskedBit}
use Rattle.listing_records.specs.RecordsRead.{read_of}

-- the record at a byte of a list, by its kind
pub by_kind : (bs : List ℕ) (at : ℕ) → at < length bs → (k : ℕ) → get_or bs at 0 ≡ k → kind_at bs at k ≡ record_at bs at
unfolding record_at
by_kind bs at h k e = ap (kind_at bs at) (sym e) ∙ rw (lt-ltb _ _ h, record_at)

-- ---- all records

module _ (n : ℕ) (bs : List ℕ) (at : ℕ) where
  pub stop_end : record_at bs at ≡ Ok None → records_from n bs at ≡ stopped none
  unfolding records_from
  stop_end e = go n
    where
      go : (n : ℕ) → records_from n bs at ≡ stopped none
      go zero = rw (e, records_from)
      go (suc n) = rw (e, records_from)

  pub stop_bad : (b : ℕ) → record_at bs at ≡ Err b → records_from n bs at ≡ stopped (some b)
  unfolding records_from
  stop_bad b e = go n
    where
      go : (n : ℕ) → records_from n bs at ≡ stopped (some b)
      go zero = rw (e, records_from)
      go (suc n) = rw (e, records_from)

  pub stop_full : (q : AskedBit) → record_at bs at ≡ Ok (Some q) → n ≡ 0 → records_from n bs at ≡ stopped (some at)
  unfolding records_from
  stop_full q e z = rw (z, e, records_from)

  pub one_more : (q : AskedBit) → record_at bs at ≡ Ok (Some q) → 0 < n → records_from n bs at ≡ key_before q.0 (records_from (n - 1) bs (at + 5))
  unfolding records_from
  one_more q e h = go n h
    where
      go : (n : ℕ) → 0 < n → records_from n bs at ≡ key_before q.0 (records_from (n - 1) bs (at + 5))
      go zero h = absurd (not-suc-le-zero h)
      go (suc n) h = rw (sub-one, e, records_from)

-- ---- the loop over them: n keys are stored, and those that come with them make the whole

pub record Reading (m : ℕ) (bs keys₀ keys : List ℕ) (n at : ℕ) : Type 0 where
  pub few : n ≤ m
  pub place : at ≡ 5 * n
  pub long : length keys ≡ length keys₀
  pub held : sets keys n (records_from (m - n) bs at).keys ≡ sets keys₀ 0 (records_from m bs 0).keys
  pub counted : n + length (records_from (m - n) bs at).keys ≡ length (records_from m bs 0).keys
  pub fault : (records_from (m - n) bs at).fault ≡ (records_from m bs 0).fault

pub reading_start : (m : ℕ) (bs keys : List ℕ) → Reading m bs keys keys 0 0
reading_start m bs keys =
    record { few = omega arith; place = refl; long = refl; held = rw sub-zero; counted = rw (sub-zero, zero-add); fault = rw sub-zero }

module _ {m : ℕ} {bs keys₀ keys : List ℕ} {n at : ℕ} (R : Reading m bs keys₀ keys n at) where
  pub reading_more : (q : AskedBit) → record_at bs at ≡ Ok (Some q) → n < m → Reading m bs keys₀ (set keys n q.0) (n + 1) (at + 5)
  reading_more q e h =
      let s : records_from (m - n) bs at ≡ key_before q.0 (records_from (m - n - 1) bs (at + 5)) = one_more (m - n) bs at q e (omega arith) in
      let d : m - (n + 1) ≡ m - n - 1 = omega arith in
      record {
        few = omega arith;
        place = omega (arith, R.place);
        long = length-set keys n q.0 ∙ R.long;
        held = (rw (d, add-one n) (ap (λ (p : Parsed). sets keys n p.keys) (sym s))) ∙ R.held;
        counted = (rw d (omega (arith, ap (λ (p : Parsed). length p.keys) s))) ∙ R.counted;
        fault = (rw d (ap (λ (p : Parsed). p.fault) (sym s))) ∙ R.fault;
      }

  -- where reading stops, the answer is there
  pub reading_stops : (f : Option ℕ) → records_from (m - n) bs at ≡ stopped f
      → (length (records_from m bs 0).keys ≡ n) × ((records_from m bs 0).fault ≡ f) × (keys ≡ sets keys₀ 0 (records_from m bs 0).keys)
  reading_stops f e = (
    sym R.counted ∙ ap (λ (p : Parsed). n + length p.keys) e ∙ add-zero n,
    sym R.fault ∙ ap (λ (p : Parsed). p.fault) e,
    ap (λ (p : Parsed). sets keys n p.keys) (sym e) ∙ R.held,
  )

  pub reading_asked : record_at bs at ≡ Ok None → (Ok n ≡ read_of (records_from m bs 0)) × (keys ≡ sets keys₀ 0 (records_from m bs 0).keys)
  reading_asked e =
      let s = reading_stops none (stop_end (m - n) bs at e) in
      (rw (s.1, s.0), s.2)

  pub reading_refused : (b : ℕ) → records_from (m - n) bs at ≡ stopped (some b) → (Err b ≡ read_of (records_from m bs 0)) × (keys ≡ sets keys₀ 0 (records_from m bs 0).keys)
  reading_refused b e = let s = reading_stops (some b) e in (rw s.1, s.2)
