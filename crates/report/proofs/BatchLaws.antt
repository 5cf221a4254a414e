-- Feeding: each word of the batch gains the part's share, so after any parts the words are plain sums; and a batch in form stays in form.
-- Assumes nothing.
use mathlib.Core.Path.{◌≡◌, refl, sym, ap, ◌∙◌}
use mathlib.Core.Bool.{Bool, true, false, ◌&&◌}
use mathlib.Core.List.{List, [], ◌∷◌}
use Prim.Native.Nat.{ℕ, zero, suc, ◌+◌, ◌*◌, ◌≤◌, ◌<◌}
use native.Mathlib.Nat.{le_trans, mul-le-mul_left}
use native.Mathlib.Omega.{arith}
use borrow.Author.Tests.{leb-true, ltb-true, eqb-true, eqb-false, le-leb, eq-eqb, ne_eqb}
use lib.Dec.{leb, ltb, eqb}
use lib.ListN.{length, set, length-set}
use lib.Seq.{get_or-set_same, get_or-set_other, get_or-append-add}
use Rattle.words.specs.Sum.{sum_to}
use Rattle.words.specs.Count.{same}
use Rattle.words.specs.Answer.{Answer, good, refused}
use Rattle.words.specs.Edition.{Known, known}
use Rattle.words.proofs.CountLaws.{same_refl, same_not}
use Rattle.words.proofs.EditionLaws.{known_least, known_most, known_number, known_passes}
use Rattle.words.proofs.ListLaws.{zeros_at}
use Rattle.words.proofs.SumLaws.{sum_more, sum_le}
use Rattle.words.proofs.TestLaws.{and_true}
use Rattle.reads.specs.SetAnswer.{Packed}
use Rattle.reads_try.specs.TableLanes.{Each}
use Rattle.report.specs.Report.{Part, Gain, part_outcome, gain_of}
use Rattle.report.specs.Batch.{empty_batch, batch_at, refused_below, most_parts, good_fed, refused_fed, fed_with, fed, fed_all, sum_over, gain_in, gained, refused_as, refused_with, edition_right, totals_right, batch_form, same_edition, call_number}
use Rattle.report.proofs.PartLaws.{Lent, GainFits, gain_fits, part_sound, KnownNumber, part_numbered}

-- ---- one part

-- a batch by its first eight words
by_eight : (P : List ℕ → Type 0) → ((a b c d e f g h : ℕ) (rest : List ℕ) → P (a ∷ b ∷ c ∷ d ∷ e ∷ f ∷ g ∷ h ∷ rest)) → (l : List ℕ) → 8 ≤ length l → P l
by_eight P all [] l = absurd (omega arith)
by_eight P all (a ∷ []) l = absurd (omega arith)
by_eight P all (a ∷ b ∷ []) l = absurd (omega arith)
by_eight P all (a ∷ b ∷ c ∷ []) l = absurd (omega arith)
by_eight P all (a ∷ b ∷ c ∷ d ∷ []) l = absurd (omega arith)
by_eight P all (a ∷ b ∷ c ∷ d ∷ e ∷ []) l = absurd (omega arith)
by_eight P all (a ∷ b ∷ c ∷ d ∷ e ∷ f ∷ []) l = absurd (omega arith)
by_eight P all (a ∷ b ∷ c ∷ d ∷ e ∷ f ∷ g ∷ []) l = absurd (omega arith)
by_eight P all (a ∷ b ∷ c ∷ d ∷ e ∷ f ∷ g ∷ h ∷ rest) l = all a b c d e f g h rest

-- what a part with outcome o adds to the words of a batch
pub record Added (n : ℕ) (p : Part) (o : Answer Packed) (b new : List ℕ) : Type 0 where
  pub fed-one : batch_at new 0 ≡ batch_at b 0 + 1
  pub parts : batch_at new 1 ≡ batch_at b 1 + gain_in (λ g. 1) n p o
  pub bits : batch_at new 2 ≡ batch_at b 2 + gain_in (λ g. g.bits) n p o
  pub lanes : batch_at new 3 ≡ batch_at b 3 + gain_in (λ g. g.lanes) n p o
  pub rounds : batch_at new 4 ≡ batch_at b 4 + gain_in (λ g. g.rounds) n p o
  pub empty : batch_at new 5 ≡ batch_at b 5 + gain_in (λ g. g.empty) n p o
  pub words : batch_at new 6 ≡ batch_at b 6 + gain_in (λ g. g.words) n p o
  pub edition : batch_at new 7 ≡ n
  pub refusals : (k : ℕ) → k < 40 → batch_at new (8 + k) ≡ batch_at b (8 + k) + refused_as k o
  pub long : length new ≡ length b

added_good : (n : ℕ) (p : Part) (x : Packed) (b : List ℕ) → 48 ≤ length b → Added n p (good x) b (good_fed n (gain_of n p x.lanes) b)
unfolding good_fed
added_good n p x b many = by_eight (λ b. Added n p (good x) b (good_fed n g b)) each b (omega arith)
  where
    g : Gain
    g = gain_of n p x.lanes

    each : (a₀ a₁ a₂ a₃ a₄ a₅ a₆ a₇ : ℕ) (rest : List ℕ)
        → Added n p (good x) (a₀ ∷ a₁ ∷ a₂ ∷ a₃ ∷ a₄ ∷ a₅ ∷ a₆ ∷ a₇ ∷ rest) (good_fed n g (a₀ ∷ a₁ ∷ a₂ ∷ a₃ ∷ a₄ ∷ a₅ ∷ a₆ ∷ a₇ ∷ rest))
    each a₀ a₁ a₂ a₃ a₄ a₅ a₆ a₇ rest =
        let old : List ℕ = a₀ ∷ a₁ ∷ a₂ ∷ a₃ ∷ a₄ ∷ a₅ ∷ a₆ ∷ a₇ ∷ [] in
        let new : List ℕ = (a₀ + 1) ∷ (a₁ + 1) ∷ (a₂ + g.bits) ∷ (a₃ + g.lanes) ∷ (a₄ + g.rounds) ∷ (a₅ + g.empty) ∷ (a₆ + g.words) ∷ n ∷ [] in
        record {
          fed-one = refl;
          parts = refl;
          bits = refl;
          lanes = refl;
          rounds = refl;
          empty = refl;
          words = refl;
          edition = refl;
          refusals = λ k l. omega (arith, get_or-append-add new rest k 0, get_or-append-add old rest k 0);
          long = refl;
        }

added_refused : (n : ℕ) (p : Part) (b : List ℕ) (o : Answer Packed) (q : ℕ) → q < 40 → 48 ≤ length b → ((f : Gain → ℕ) → gain_in f n p o ≡ 0)
    → ((k : ℕ) → refused_as k o ≡ same k q) → Added n p o b (refused_fed n q b)
unfolding refused_fed
added_refused n p b o q few many none counts =
    record {
      fed-one = front 0 (omega arith) ∙ get_or-set_other one 7 0 n 0 (λ e. absurd (omega arith)) ∙ get_or-set_same b 0 (batch_at b 0 + 1) 0 (omega arith);
      parts = kept 1 (omega arith) (omega arith) (omega arith) (none (λ g. 1));
      bits = kept 2 (omega arith) (omega arith) (omega arith) (none (λ g. g.bits));
      lanes = kept 3 (omega arith) (omega arith) (omega arith) (none (λ g. g.lanes));
      rounds = kept 4 (omega arith) (omega arith) (omega arith) (none (λ g. g.rounds));
      empty = kept 5 (omega arith) (omega arith) (omega arith) (none (λ g. g.empty));
      words = kept 6 (omega arith) (omega arith) (omega arith) (none (λ g. g.words));
      edition = front 7 (omega arith) ∙ get_or-set_same one 7 n 0 (omega (arith, length-set b 0 (batch_at b 0 + 1)));
      refusals = λ k l. at-refusal k (eqb k q) refl;
      long = length-set two (8 + q) (batch_at b (8 + q) + 1) ∙ length-set one 7 n ∙ length-set b 0 (batch_at b 0 + 1);
    }
  where
    one : List ℕ
    one = set b 0 (batch_at b 0 + 1)

    two : List ℕ
    two = set one 7 n

    front : (i : ℕ) → i < 8 → batch_at (set two (8 + q) (batch_at b (8 + q) + 1)) i ≡ batch_at two i
    front i h = get_or-set_other two (8 + q) i (batch_at b (8 + q) + 1) 0 (λ e. absurd (omega arith))

    kept : (i : ℕ) → i < 8 → 0 < i → i < 7 → {x : ℕ} → x ≡ 0 → batch_at (set two (8 + q) (batch_at b (8 + q) + 1)) i ≡ batch_at b i + x
    kept i h l m z = omega (arith, front i h, get_or-set_other one 7 i n 0 (λ e. absurd (omega arith)), get_or-set_other b 0 i (batch_at b 0 + 1) 0 (λ e. absurd (omega arith)), z)

    past : (k : ℕ) → batch_at two (8 + k) ≡ batch_at b (8 + k)
    past k = get_or-set_other one 7 (8 + k) n 0 (λ e. absurd (omega arith)) ∙ get_or-set_other b 0 (8 + k) (batch_at b 0 + 1) 0 (λ e. absurd (omega arith))

    at-refusal : (k : ℕ) (t : Bool) → eqb k q ≡ t → batch_at (set two (8 + q) (batch_at b (8 + q) + 1)) (8 + k) ≡ batch_at b (8 + k) + refused_as k o
    at-refusal k true t =
        let e : k ≡ q = eqb-true k q t in
        let long : 8 + q < length two = omega (arith, length-set one 7 n, length-set b 0 (batch_at b 0 + 1)) in
        let here : batch_at (set two (8 + q) (batch_at b (8 + q) + 1)) (8 + q) ≡ batch_at b (8 + q) + 1 = get_or-set_same two (8 + q) (batch_at b (8 + q) + 1) 0 long in
        rw e (omega (arith, here, counts q, same_refl q))
    at-refusal k false t =
        let other = get_or-set_other two (8 + q) (8 + k) (batch_at b (8 + q) + 1) 0 (λ e. eqb-false k q t (omega arith)) in
        omega (arith, other, past k, counts k, same_not k q (eqb-false k q t))

added_by : (n : ℕ) (p : Part) (o : Answer Packed) (b : List ℕ) → KnownNumber o → 48 ≤ length b → Added n p o b (fed_with n p o b)
unfolding fed_with
added_by n p (good x) b h many = added_good n p x b many
added_by n p (refused q) b h many = added_refused n p b (refused q) q.number h many (λ f. refl) (λ k. refl)

-- THE SHARES: what one feeding adds
pub added : (n : ℕ) (p : Part) (b : List ℕ) → 48 ≤ length b → Added n p (part_outcome n p) b (fed n p b)
added n p b many = added_by n p (part_outcome n p) b (part_numbered n p) many

-- ---- any parts

pub record Sums (n : ℕ) (ps : List Part) (b new : List ℕ) : Type 0 where
  pub fed-all : batch_at new 0 ≡ batch_at b 0 + length ps
  pub parts : batch_at new 1 ≡ batch_at b 1 + sum_over (gained (λ g. 1) n) ps
  pub bits : batch_at new 2 ≡ batch_at b 2 + sum_over (gained (λ g. g.bits) n) ps
  pub lanes : batch_at new 3 ≡ batch_at b 3 + sum_over (gained (λ g. g.lanes) n) ps
  pub rounds : batch_at new 4 ≡ batch_at b 4 + sum_over (gained (λ g. g.rounds) n) ps
  pub empty : batch_at new 5 ≡ batch_at b 5 + sum_over (gained (λ g. g.empty) n) ps
  pub words : batch_at new 6 ≡ batch_at b 6 + sum_over (gained (λ g. g.words) n) ps
  pub edition : 0 < length ps → batch_at new 7 ≡ n
  pub refusals : (k : ℕ) → k < 40 → batch_at new (8 + k) ≡ batch_at b (8 + k) + sum_over (refused_with k n) ps

sums : (n : ℕ) (ps : List Part) (b : List ℕ) → 48 ≤ length b → Sums n ps b (fed_all n ps b)
unfolding fed_all sum_over
sums n [] b many = record {
  fed-all = omega arith;
  parts = omega arith;
  bits = omega arith;
  lanes = omega arith;
  rounds = omega arith;
  empty = omega arith;
  words = omega arith;
  edition = λ h. absurd (omega arith);
  refusals = λ k h. omega arith;
}
sums n (p ∷ ps) b many =
    let a = added n p b many in
    let s = sums n ps (fed n p b) (omega (arith, a.long)) in
    record {
      fed-all = omega (arith, a.fed-one, s.fed-all);
      parts = omega (arith, a.parts, s.parts);
      bits = omega (arith, a.bits, s.bits);
      lanes = omega (arith, a.lanes, s.lanes);
      rounds = omega (arith, a.rounds, s.rounds);
      empty = omega (arith, a.empty, s.empty);
      words = omega (arith, a.words, s.words);
      edition = λ h. last ps a s;
      refusals = λ k h. omega (arith, a.refusals k h, s.refusals k h);
    }
  where
    last : (qs : List Part) → Added n p (part_outcome n p) b (fed n p b) → Sums n qs (fed n p b) (fed_all n qs (fed n p b)) → batch_at (fed_all n qs (fed n p b)) 7 ≡ n
    last [] a s = a.edition
    last (q ∷ qs) a s = s.edition (omega arith)

-- PLAIN SUMS: of zeros, each word is the sum over the parts
pub plain_sums : (n : ℕ) (ps : List Part) → Sums n ps empty_batch (fed_all n ps empty_batch)
plain_sums n ps = sums n ps empty_batch (omega arith)

-- ---- the form

pub record BatchInForm (b : List ℕ) : Type 0 where
  pub few : batch_at b 0 ≤ most_parts
  pub counted : batch_at b 0 ≡ batch_at b 1 + refused_below b 40
  pub no-edition : batch_at b 0 ≡ 0 → batch_at b 7 ≡ 0
  pub edition : (batch_at b 0 ≡ 0 → ⊥) → Known (batch_at b 7)
  pub bits : batch_at b 2 ≤ 32 * (batch_at b 7 * batch_at b 1)
  pub lanes : batch_at b 3 ≤ batch_at b 7 * batch_at b 1
  pub rounds : batch_at b 4 ≤ 32 * batch_at b 1
  pub empty : batch_at b 5 ≤ 32 * (batch_at b 7 * batch_at b 1)
  pub words : batch_at b 6 ≤ 5205 * (batch_at b 7 * batch_at b 1)

edition_first : (b : List ℕ) → edition_right b ≡ true → batch_at b 0 ≡ 0 → batch_at b 7 ≡ 0
edition_first b e z = eqb-true (batch_at b 7) 0 (rw (eq-eqb (batch_at b 0) 0 z, edition_right) at e)

edition_later : (b : List ℕ) → edition_right b ≡ true → (batch_at b 0 ≡ 0 → ⊥) → Known (batch_at b 7)
edition_later b e h = known_number (batch_at b 7) (rw (ne_eqb (batch_at b 0) 0 h, edition_right) at e)

pub form_in : (b : List ℕ) → batch_form b ≡ true → BatchInForm b
unfolding batch_form
form_in b e =
    let m : ℕ = batch_at b 7 * batch_at b 1 in
    let few : Bool = leb (batch_at b 0) most_parts in
    let counted : Bool = eqb (batch_at b 0) (batch_at b 1 + refused_below b 40) in
    let t = and_true (few && counted && edition_right b) (totals_right m b) e in
    let s = and_true (few && counted) (edition_right b) t.0 in
    let c = and_true few counted s.0 in
    let bits : Bool = leb (batch_at b 2) (32 * m) in
    let lanes : Bool = leb (batch_at b 3) m in
    let rounds : Bool = leb (batch_at b 4) (32 * batch_at b 1) in
    let empty : Bool = leb (batch_at b 5) (32 * m) in
    let words : Bool = leb (batch_at b 6) (5205 * m) in
    let w = and_true (bits && lanes && rounds && empty) words t.1 in
    let y = and_true (bits && lanes && rounds) empty w.0 in
    let r = and_true (bits && lanes) rounds y.0 in
    let l = and_true bits lanes r.0 in
    record {
      few = leb-true (batch_at b 0) most_parts c.0;
      counted = eqb-true (batch_at b 0) (batch_at b 1 + refused_below b 40) c.1;
      no-edition = edition_first b s.1;
      edition = edition_later b s.1;
      bits = leb-true (batch_at b 2) (32 * m) l.0;
      lanes = leb-true (batch_at b 3) m l.1;
      rounds = leb-true (batch_at b 4) (32 * batch_at b 1) r.1;
      empty = leb-true (batch_at b 5) (32 * m) y.1;
      words = leb-true (batch_at b 6) (5205 * m) w.1;
    }

-- no word of it is long
form_lanes : (b : List ℕ) → BatchInForm b → batch_at b 7 ≤ 256
form_lanes b f = go (eqb (batch_at b 0) 0) refl
  where
    go : (t : Bool) → eqb (batch_at b 0) 0 ≡ t → batch_at b 7 ≤ 256
    go true t = let z : batch_at b 7 ≡ 0 = f.no-edition (eqb-true (batch_at b 0) 0 t) in omega arith
    go false t = known_most (batch_at b 7) (f.edition (eqb-false (batch_at b 0) 0 t))

pub form_product : (b : List ℕ) → BatchInForm b → batch_at b 7 * batch_at b 1 ≤ 25600000
form_product b f =
    let parts : batch_at b 1 ≤ 100000 = omega (arith, f.few, f.counted) in
    le_trans (mul-le-mul_left (batch_at b 7) parts) (omega (arith, form_lanes b f))

pub form_count : (b : List ℕ) → BatchInForm b → (k : ℕ) → k < 40 → batch_at b (8 + k) ≤ most_parts
form_count b f k h =
    let more = sum_more (λ i. batch_at b (8 + i)) k in
    let all = sum_le (λ i. batch_at b (8 + i)) (k + 1) 40 (omega arith) in
    omega (arith, f.few, f.counted, more, all)

edition_passes : (b : List ℕ) → (batch_at b 0 ≡ 0 → batch_at b 7 ≡ 0) → ((batch_at b 0 ≡ 0 → ⊥) → Known (batch_at b 7)) → edition_right b ≡ true
edition_passes b first later = go (eqb (batch_at b 0) 0) refl
  where
    go : (t : Bool) → eqb (batch_at b 0) 0 ≡ t → edition_right b ≡ true
    go true e = rw (e, edition_right) (eq-eqb (batch_at b 7) 0 (first (eqb-true (batch_at b 0) 0 e)))
    go false e = rw (e, edition_right) (known_passes (batch_at b 7) (later (eqb-false (batch_at b 0) 0 e)))

pub in_form : (b : List ℕ) → BatchInForm b → batch_form b ≡ true
unfolding batch_form
in_form b f =
    let m : ℕ = batch_at b 7 * batch_at b 1 in
    rw (
      le-leb (batch_at b 0) most_parts f.few,
      eq-eqb (batch_at b 0) (batch_at b 1 + refused_below b 40) f.counted,
      edition_passes b f.no-edition f.edition,
      le-leb (batch_at b 2) (32 * m) f.bits,
      le-leb (batch_at b 3) m f.lanes,
      le-leb (batch_at b 4) (32 * batch_at b 1) f.rounds,
      le-leb (batch_at b 5) (32 * m) f.empty,
      le-leb (batch_at b 6) (5205 * m) f.words,
    )

-- ---- feeding keeps it

sum_added : (f g h : ℕ → ℕ) (m : ℕ) → ((k : ℕ) → k < m → h k ≡ f k + g k) → sum_to h m ≡ sum_to f m + sum_to g m
unfolding sum_to
sum_added f g h zero e = refl
sum_added f g h (suc m) e = omega (arith, e m (omega arith), sum_added f g h m (λ k l. e k (omega arith)))

sum_none : (q m : ℕ) → m ≤ q → sum_to (λ k. same k q) m ≡ 0
unfolding sum_to
sum_none q zero h = refl
sum_none q (suc m) h = omega (arith, sum_none q m (omega arith), same_not m q (λ e. absurd (omega arith)))

sum_one : (q m : ℕ) → q < m → sum_to (λ k. same k q) m ≡ 1
unfolding sum_to
sum_one q zero h = absurd (omega arith)
sum_one q (suc m) h = go (eqb m q) refl (sum_one q m)
  where
    go : (t : Bool) → eqb m q ≡ t → (q < m → sum_to (λ k. same k q) m ≡ 1) → sum_to (λ k. same k q) m + same m q ≡ 1
    go true t r =
        let e : m ≡ q = eqb-true m q t in
        let one : same m q ≡ 1 = rw e (same_refl q) in
        omega (arith, sum_none q m (omega arith), one)
    go false t r =
        let ne : m ≡ q → ⊥ = eqb-false m q t in
        omega (arith, r (omega arith), same_not m q ne)

sum_zeros : (m : ℕ) → sum_to (λ k. 0) m ≡ 0
unfolding sum_to
sum_zeros zero = refl
sum_zeros (suc m) = omega (arith, sum_zeros m)

-- a part is counted once: as a good one, or as refused with one number
counted_once : (n : ℕ) (p : Part) (o : Answer Packed) → KnownNumber o → gain_in (λ g. 1) n p o + sum_to (λ k. refused_as k o) 40 ≡ 1
counted_once n p (good x) h = omega (arith, sum_zeros 40)
counted_once n p (refused q) h = omega (arith, sum_one q.number 40 h)

-- what a part adds is at most one part's share
share_fits : (n : ℕ) (p : Part) (o : Answer Packed) → ((x : Packed) → o ≡ good x → GainFits n (gain_of n p x.lanes))
    → (gain_in (λ g. g.bits) n p o ≤ 32 * (n * gain_in (λ g. 1) n p o)) × (gain_in (λ g. g.lanes) n p o ≤ n * gain_in (λ g. 1) n p o)
    × (gain_in (λ g. g.rounds) n p o ≤ 32 * gain_in (λ g. 1) n p o) × (gain_in (λ g. g.empty) n p o ≤ 32 * (n * gain_in (λ g. 1) n p o))
    × (gain_in (λ g. g.words) n p o ≤ 5205 * (n * gain_in (λ g. 1) n p o))
share_fits n p (good x) h =
    let f = h x refl in
    (omega (arith, f.bits), omega (arith, f.lanes), omega (arith, f.rounds), omega (arith, f.empty), omega (arith, f.words))
share_fits n p (refused q) h = (omega arith, omega arith, omega arith, omega arith, omega arith)

-- the parts before it are of its edition
abbrev pub OfEdition : ℕ → List ℕ → Type 0
OfEdition n b = (batch_at b 0 ≡ 0 → ⊥) → batch_at b 7 ≡ n

-- with no part yet, both products are 0
same_product : (n : ℕ) (b : List ℕ) → BatchInForm b → OfEdition n b → batch_at b 7 * batch_at b 1 ≡ n * batch_at b 1
same_product n b f same-one = go (eqb (batch_at b 0) 0) refl
  where
    go : (t : Bool) → eqb (batch_at b 0) 0 ≡ t → batch_at b 7 * batch_at b 1 ≡ n * batch_at b 1
    go true e =
        let z : batch_at b 0 ≡ 0 = eqb-true (batch_at b 0) 0 e in
        let y : batch_at b 1 ≡ 0 = omega (arith, f.counted) in
        rw y (omega arith)
    go false e = ap (λ (l : ℕ). l * batch_at b 1) (same-one (eqb-false (batch_at b 0) 0 e))

module _ (n : ℕ) (edition : Known n) where
  form-added : (p : Part) (o : Answer Packed) (b new : List ℕ) → KnownNumber o → ((x : Packed) → o ≡ good x → GainFits n (gain_of n p x.lanes))
      → BatchInForm b → batch_at b 0 < most_parts → OfEdition n b → Added n p o b new → BatchInForm new
  form-added p o b new low fits f room same-one a =
      let refusals = sum_added (λ k. batch_at b (8 + k)) (λ k. refused_as k o) (λ k. batch_at new (8 + k)) 40 a.refusals in
      let before = same_product n b f same-one in
      let after : batch_at new 7 * batch_at new 1 ≡ n * batch_at b 1 + n * gain_in (λ g. 1) n p o = rw (a.edition, a.parts) (omega arith) in
      let s = share_fits n p o fits in
      record {
        few = omega (arith, a.fed-one);
        counted = omega (arith, a.fed-one, f.counted, a.parts, refusals, counted_once n p o low);
        no-edition = λ z. absurd (omega (arith, a.fed-one));
        edition = λ h. rw a.edition edition;
        bits = omega (arith, a.bits, f.bits, before, after, s.0);
        lanes = omega (arith, a.lanes, f.lanes, before, after, s.1);
        rounds = omega (arith, a.rounds, f.rounds, a.parts, s.2);
        empty = omega (arith, a.empty, f.empty, before, after, s.3);
        words = omega (arith, a.words, f.words, before, after, s.4);
      }

  -- A batch in form that is not full is in form after a feeding.
  pub form_fed : (p : Part) (b : List ℕ) → Lent p → 48 ≤ length b → BatchInForm b → batch_at b 0 < most_parts → OfEdition n b → BatchInForm (fed n p b)
  form_fed p b lent many f room same-one =
      form-added p (part_outcome n p) b (fed n p b) (part_numbered n p) (λ x e. gain_fits n p x.lanes edition (part_sound n p x (omega (arith, known_least n edition)) lent e)) f room same-one (added n p b many)

  form-all : (ps : List Part) → Each Lent ps → (b : List ℕ) → 48 ≤ length b → BatchInForm b → batch_at b 0 + length ps ≤ most_parts → OfEdition n b → BatchInForm (fed_all n ps b)
  unfolding fed_all
  form-all [] lent b many f room same-one = f
  form-all (p ∷ ps) lent b many f room same-one =
      let a = added n p b many in
      form-all ps lent.1 (fed n p b) (omega (arith, a.long)) (form_fed p b lent.0 many f (omega arith) same-one) (omega (arith, a.fed-one)) (λ h. a.edition)

  none-form : BatchInForm empty_batch
  unfolding sum_to
  none-form = record {
    few = omega arith;
    counted = sym (nothing 40);
    no-edition = λ z. refl;
    edition = λ h. absurd (h refl);
    bits = omega arith;
    lanes = omega arith;
    rounds = omega arith;
    empty = omega arith;
    words = omega arith;
  }
    where
      nothing : (m : ℕ) → refused_below empty_batch m ≡ 0
      nothing zero = refl
      nothing (suc m) = omega (arith, nothing m, zeros_at 48 (8 + m))

  -- IN FORM: what at most 100,000 feedings make of zeros
  pub fed_form : (ps : List Part) → Each Lent ps → length ps ≤ most_parts → batch_form (fed_all n ps empty_batch) ≡ true
  fed_form ps lent h = in_form (fed_all n ps empty_batch) (form-all ps lent empty_batch (omega arith) none-form (omega arith) (λ z. absurd (z refl)))

-- ---- a call that is not refused

pub record CallPassed (n : ℕ) (b : List ℕ) : Type 0 where
  pub edition : Known n
  pub form : batch_form b ≡ true
  pub of-edition : same_edition n b ≡ true
  pub room : batch_at b 0 < most_parts
  pub whole : 48 ≤ length b

pub call_passed : (n : ℕ) (b : List ℕ) → call_number n b ≡ 0 → CallPassed n b
unfolding call_number
call_passed n b e = go (known n) refl (batch_form b && same_edition n b) refl (ltb (batch_at b 0) most_parts) refl (leb 48 (length b)) refl
  where
    go : (a : Bool) → known n ≡ a → (c : Bool) → (batch_form b && same_edition n b) ≡ c → (d : Bool) → ltb (batch_at b 0) most_parts ≡ d
        → (f : Bool) → leb 48 (length b) ≡ f → CallPassed n b
    go false ea c ec d ed f ef = let z : ◌≡◌ {A = ℕ} 29 0 = rw (ea, call_number) at e in absurd (omega arith)
    go true ea false ec d ed f ef = let z : ◌≡◌ {A = ℕ} 5 0 = rw (ea, ec, call_number) at e in absurd (omega arith)
    go true ea true ec false ed f ef = let z : ◌≡◌ {A = ℕ} 28 0 = rw (ea, ec, ed, call_number) at e in absurd (omega arith)
    go true ea true ec true ed false ef = let z : ◌≡◌ {A = ℕ} 14 0 = rw (ea, ec, ed, ef, call_number) at e in absurd (omega arith)
    go true ea true ec true ed true ef =
        let both = and_true (batch_form b) (same_edition n b) ec in
        record { edition = known_number n ea; form = both.0; of-edition = both.1; room = ltb-true (batch_at b 0) most_parts ed; whole = leb-true 48 (length b) ef }

edition_same : (n : ℕ) (b : List ℕ) → same_edition n b ≡ true → OfEdition n b
edition_same n b e h = eqb-true (batch_at b 7) n (rw (ne_eqb (batch_at b 0) 0 h, same_edition) at e)

-- KEPT: a feeding that is not refused leaves a batch
pub call_keeps : (n : ℕ) (p : Part) (b : List ℕ) → Lent p → call_number n b ≡ 0 → batch_form (fed n p b) ≡ true
call_keeps n p b lent e =
    let c = call_passed n b e in
    in_form (fed n p b) (form_fed n c.edition p b lent c.whole (form_in b c.form) c.room (edition_same n b c.of-edition))
