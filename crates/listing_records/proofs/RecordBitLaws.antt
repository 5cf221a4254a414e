-- The bits that records ask for: no more than positions may come, each of the form that a read set needs; and the front of lent words that hold them.
-- Assumes nothing.
use mathlib.Core.Path.{◌≡◌, refl, sym, ap, ◌∙◌}
use mathlib.Core.Bool.{Bool, true, false}
use mathlib.Core.Option.{Option, none, some}
use mathlib.Core.List.{List}
use Rattle.std.specs.Prelude.{Some, None, Ok, Err}
use Prim.Native.Nat.{ℕ, zero, suc, ◌+◌, ◌*◌, ◌/◌, ◌%◌, ◌^◌, ◌≤◌, ◌<◌}
use native.Mathlib.Numerals.{sub-one}
use native.Mathlib.Omega.{arith}
use lib.Dec.{leb, ltb}
use lib.ListN.{length, get_or, take}
use lib.Seq.{sets, length-sets, length-take-le}
use Rattle.reads.specs.Asked.{read_set_of}
use Rattle.reads_asked.specs.Rising.{Settable}
use Rattle.reads_asked.proofs.FrontStoreLaws.{take-front}
use Rattle.listing_records.specs.Records.{Record, number_at, position_at, end_record_at, kind_at, record_at, Parsed, records_from, records}
use Rattle.listing_records.specs.RecordsRead.{read_as, read_of, set_of, set_after}
use Rattle.listing_records.proofs.ListingRecordLaws.{stop_end, stop_bad, stop_full, one_more}

-- what a record asks for, 0 where it asks for nothing
abbrev key_of : Record → ℕ
key_of (Ok (Some q)) = q.0
key_of (Ok None) = 0
key_of (Err b) = 0

-- below 2^37, and its word, without the flag, below 2^27
abbrev pub BitAsking : ℕ → Type 0
BitAsking q = (q < 2 ^ 37) × (q / 32 % 2 ^ 31 < 2 ^ 27)

module _ (bs : List ℕ) (bytes : (i : ℕ) → get_or bs i 0 < 256) where
  number_small : (i : ℕ) → number_at bs i < 2 ^ 32
  unfolding number_at
  number_small i = omega (arith, bytes i, bytes (i + 1), bytes (i + 2), bytes (i + 3))

  position-asks : (at staged : ℕ) → ((x : ℕ) → x < 2 ^ 32 → BitAsking (2 ^ 36 * staged + x)) → BitAsking (key_of (position_at bs at staged))
  unfolding position_at
  position-asks at staged f = go (leb (at + 5) (length bs)) refl
    where
      go : (b : Bool) → leb (at + 5) (length bs) ≡ b → BitAsking (key_of (position_at bs at staged))
      go true e = rw (e, position_at) (f (number_at bs (at + 1)) (number_small (at + 1)))
      go false e = rw (e, position_at) (omega arith, omega arith)

  kind-asks : (at k : ℕ) → BitAsking (key_of (kind_at bs at k))
  unfolding kind_at end_record_at
  kind-asks at zero = go (ltb (at + 1) (length bs)) refl
    where
      go : (b : Bool) → ltb (at + 1) (length bs) ≡ b → BitAsking (key_of (end_record_at bs at))
      go true e = rw (e, end_record_at) (omega arith, omega arith)
      go false e = rw (e, end_record_at) (omega arith, omega arith)
  kind-asks at (suc zero) = position-asks at 0 (λ x h. (omega arith, omega arith))
  kind-asks at (suc (suc zero)) = position-asks at 1 (λ x h. (omega arith, omega arith))
  kind-asks at (suc (suc (suc k))) = (omega arith, omega arith)

  record-asks : (at : ℕ) → BitAsking (key_of (record_at bs at))
  unfolding record_at
  record-asks at = go (ltb at (length bs)) refl
    where
      go : (b : Bool) → ltb at (length bs) ≡ b → BitAsking (key_of (record_at bs at))
      go true e = rw (e, record_at) (kind-asks at (get_or bs at 0))
      go false e = rw (e, record_at) (omega arith, omega arith)

  pub keys_ask : (n at i : ℕ) → BitAsking (get_or (records_from n bs at).keys i 0)
  keys_ask zero at i = go (record_at bs at) refl
    where
      go : (x : Record) → record_at bs at ≡ x → BitAsking (get_or (records_from 0 bs at).keys i 0)
      go (Ok (Some q)) e = rw (stop_full 0 bs at q e refl) (omega arith, omega arith)
      go (Ok None) e = rw (stop_end 0 bs at e) (omega arith, omega arith)
      go (Err b) e = rw (stop_bad 0 bs at b e) (omega arith, omega arith)
  keys_ask (suc n) at i = go (record_at bs at) refl i (keys_ask n (at + 5))
    where
      go : (x : Record) → record_at bs at ≡ x → (i : ℕ) → ((i : ℕ) → BitAsking (get_or (records_from n bs (at + 5)).keys i 0)) → BitAsking (get_or (records_from (suc n) bs at).keys i 0)
      go (Ok (Some q)) e zero r = rw (one_more (suc n) bs at q e (omega arith)) (rw e at (record-asks at))
      go (Ok (Some q)) e (suc i) r = rw (one_more (suc n) bs at q e (omega arith), sub-one) (r i)
      go (Ok None) e i r = rw (stop_end (suc n) bs at e) (omega arith, omega arith)
      go (Err b) e i r = rw (stop_bad (suc n) bs at b e) (omega arith, omega arith)

pub keys_few : (bs : List ℕ) (n at : ℕ) → length (records_from n bs at).keys ≤ n
keys_few bs zero at = go (record_at bs at) refl
  where
    go : (x : Record) → record_at bs at ≡ x → length (records_from 0 bs at).keys ≤ 0
    go (Ok (Some q)) e = rw (stop_full 0 bs at q e refl) (omega arith)
    go (Ok None) e = rw (stop_end 0 bs at e) (omega arith)
    go (Err b) e = rw (stop_bad 0 bs at b e) (omega arith)
keys_few bs (suc n) at = go (record_at bs at) refl (keys_few bs n (at + 5))
  where
    go : (x : Record) → record_at bs at ≡ x → length (records_from n bs (at + 5)).keys ≤ n → length (records_from (suc n) bs at).keys ≤ suc n
    go (Ok (Some q)) e r = rw (one_more (suc n) bs at q e (omega arith), sub-one) (omega arith)
    go (Ok None) e r = rw (stop_end (suc n) bs at e) (omega arith)
    go (Err b) e r = rw (stop_bad (suc n) bs at b e) (omega arith)

-- ---- what reading told

pub read_asked : (f : Option ℕ) (k n : ℕ) → Ok n ≡ read_as f k → (f ≡ none) × (n ≡ k)
read_asked none k n e = (refl, cc)
read_asked (some b) k n e = let z : ◌≡◌ {A = ℕ} 0 1 = cc in absurd (omega arith)

pub refused_in : (f : Option ℕ) (k b : ℕ) → Err b ≡ read_as f k → f ≡ some b
refused_in none k b e = let z : ◌≡◌ {A = ℕ} 0 1 = cc in absurd (omega arith)
refused_in (some d) k b e = let s : d ≡ b = cc in ap some s

pub set-refused : (p : Parsed) (b : ℕ) (set : List ℕ) → p.fault ≡ some b → (Err b ≡ set_of p) × (set ≡ set_after p set)
unfolding set_after
set-refused p b set t = (rw t, rw (t, set_after))

pub set_asked : (p : Parsed) (ks set new : List ℕ) (r : ℕ) → p.fault ≡ none → ks ≡ p.keys → r ≡ length (read_set_of ks) → new ≡ sets set 0 (read_set_of ks)
    → (Ok r ≡ set_of p) × (new ≡ set_after p set)
unfolding set_after
set_asked p ks set new r t k e h = (
  ap Ok (e ∙ ap (λ (l : List ℕ). length (read_set_of l)) k) ∙ (rw t),
  h ∙ ap (λ (l : List ℕ). sets set 0 (read_set_of l)) k ∙ (rw (t, set_after)),
)

-- the keys that `read_records` put into 8192 words
module _ (bs keys₀ : List ℕ) (wide : length keys₀ ≡ 8192) {keys : List ℕ} (held : keys ≡ sets keys₀ 0 (records_from (length keys₀) bs 0).keys) (n : ℕ)
    (asked : Ok n ≡ read_of (records_from (length keys₀) bs 0)) where
  is : keys ≡ sets keys₀ 0 (records bs).keys
  is = rw wide at held

  told : ((records bs).fault ≡ none) × (n ≡ length (records bs).keys)
  told = read_asked (records bs).fault (length (records bs).keys) n (rw wide at asked)

  pub told_none : (records bs).fault ≡ none
  told_none = told.0

  few : n ≤ 8192
  few = omega (arith, told.1, keys_few bs 8192 0)

  pub told_few : n ≤ length keys
  told_few = omega (arith, ap length is ∙ length-sets keys₀ 0 (records bs).keys, few)

  pub told_keys : take n keys ≡ (records bs).keys
  told_keys =
      ap (λ (m : ℕ). take m keys) told.1
      ∙ ap (take (length (records bs).keys)) is
      ∙ take-front keys₀ (records bs).keys (omega (arith, keys_few bs 8192 0))

  pub told_front : n ≡ length (take n keys)
  told_front = sym (length-take-le n keys told_few)

  pub told_settable : (scratch set : List ℕ) → ((i : ℕ) → get_or bs i 0 < 256) → length scratch ≡ 8192 → length set ≡ 16384 → Settable (take n keys) scratch set
  told_settable scratch set bytes s t =
      record {
        small = λ i h. (rw told_keys (keys_ask bs bytes 8192 0 i).0);
        scratch-room = omega (arith, told_front, few);
        room = omega (arith, told_front, few);
      }
