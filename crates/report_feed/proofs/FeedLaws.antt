-- A part of a batch that is not full: no word of the batch becomes too long, and what is stored is what a feeding says.
-- Assumes nothing.
use mathlib.Core.Path.{◌≡◌, refl, sym, ap, subst, ◌∙◌}
use mathlib.Core.List.{List, [], ◌∷◌, ◌++◌}
use Prim.Native.Nat.{ℕ, ◌+◌, ◌^◌, ◌≤◌, ◌<◌}
use native.Mathlib.Omega.{arith}
use lib.ListN.{length, get_or, set, drop}
use lib.Seq.{sets-eq}
use Rattle.words.specs.Answer.{Answer, good, refused}
use Rattle.words.specs.Edition.{Known}
use Rattle.words.specs.declared.refusals.Refusal.{Refusal}
use Rattle.words.proofs.EditionLaws.{known_least, known_most}
use Rattle.reads.specs.Search.{Lane}
use Rattle.reads.specs.SetAnswer.{Packed}
use Rattle.reads_try.specs.TableLanes.{lanes_at}
use Rattle.reads_section.specs.Readout.{TableReadable}
use Rattle.report.specs.Report.{Part, part_given, part_outcome, Gain, gain_of}
use Rattle.report.specs.Batch.{batch_at, good_fed, refused_fed, fed_with}
use Rattle.report.proofs.PartLaws.{PartSound, part_sound, GainFits, gain_fits, KnownNumber, part_numbered}
use Rattle.report.proofs.BatchLaws.{form_in, form_product, form_count}
use Rattle.report_part.specs.declared.counts.Gained.{Gained}
use Rattle.report_part.specs.PartOutcome.{outcome_of, gained_of, Gainable}
use Rattle.std.specs.Prelude.{Ok, Err}
use Rattle.report_feed.specs.FeedTold.{part_fed, Feedable, GainFeedable}

-- ---- how long the words are

pub record Short (b : List ℕ) : Type 0 where
  pub fed : batch_at b 0 < 100000
  pub parts : batch_at b 1 ≤ 100000
  pub bits : batch_at b 2 < 2 ^ 40
  pub lanes : batch_at b 3 < 2 ^ 40
  pub rounds : batch_at b 4 < 2 ^ 40
  pub empty : batch_at b 5 < 2 ^ 40
  pub words : batch_at b 6 < 2 ^ 40
  pub refusals : (k : ℕ) → k < 40 → batch_at b (8 + k) ≤ 100000

pub feedable_short : {n : ℕ} {b : List ℕ} → Feedable n b → Short b
feedable_short {n} {b} h =
    let f = form_in b h.form in
    let m = form_product b f in
    record {
      fed = h.room;
      parts = omega (arith, f.few, f.counted);
      bits = omega (arith, f.bits, m);
      lanes = omega (arith, f.lanes, m);
      rounds = omega (arith, f.rounds, f.few, f.counted);
      empty = omega (arith, f.empty, m);
      words = omega (arith, f.words, m);
      refusals = form_count b f;
    }

-- ---- what is stored

pub good_is : (n : ℕ) (g : Gain) (b : List ℕ) → 8 ≤ length b
    → ((batch_at b 0 + 1) ∷ (batch_at b 1 + 1) ∷ (batch_at b 2 + g.bits) ∷ (batch_at b 3 + g.lanes) ∷ (batch_at b 4 + g.rounds) ∷ (batch_at b 5 + g.empty) ∷ (batch_at b 6 + g.words) ∷ n ∷ []) ++ drop 8 b ≡ good_fed n g b
unfolding good_fed
good_is n g b h =
    sym (sets-eq ((batch_at b 0 + 1) ∷ (batch_at b 1 + 1) ∷ (batch_at b 2 + g.bits) ∷ (batch_at b 3 + g.lanes) ∷ (batch_at b 4 + g.rounds) ∷ (batch_at b 5 + g.empty) ∷ (batch_at b 6 + g.words) ∷ n ∷ []) b 0 h)

pub refused_added : (n k : ℕ) (b : List ℕ) → set (set (set b 0 (batch_at b 0 + 1)) 7 n) (8 + k) (batch_at b (8 + k) + 1) ≡ refused_fed n k b
unfolding refused_fed
refused_added n k b = refl

-- ---- what became of the part

pub is_refused_lem : (o : Answer Packed) (q : Refusal) → outcome_of o ≡ Err q → o ≡ refused q
is_refused_lem (good x) q e =
    let z : ◌≡◌ {A = ℕ} 0 1 = cc in
    absurd (omega arith)
is_refused_lem (refused p) q e = let s : p ≡ q = cc in ap refused s

pub is_good : (o : Answer Packed) → outcome_of o ≡ Ok tt → (x : Packed) × (o ≡ good x)
is_good (good x) e = (x, refl)
is_good (refused q) e =
    let z : ◌≡◌ {A = ℕ} 0 1 = cc in
    absurd (omega arith)

pub number_low : (n : ℕ) (p : Part) (q : Refusal) → part_outcome n p ≡ refused q → q.number < 40
number_low n p q e = subst KnownNumber e (part_numbered n p)

pub refused_fed_lem : (n : ℕ) (p : Part) (q : Refusal) (b new : List ℕ) → part_outcome n p ≡ refused q → new ≡ refused_fed n q.number b
    → (record { part = Err q } ≡ part_fed (part_outcome n p)) × (new ≡ fed_with n p (part_outcome n p) b)
unfolding fed_with
refused_fed_lem n p q b new e eb = rw e (refl, eb)

module _ (n : ℕ) (edition : Known n) (set lanes : List ℕ) (stages : ℕ) (small : (i : ℕ) → get_or set i 0 < 2 ^ 32) (x : Packed)
    (is : part_outcome n (part_given set lanes stages) ≡ good x) where
  sound : PartSound n (part_given set lanes stages) x.lanes
  sound = part_sound n (part_given set lanes stages) x (omega (arith, known_least n edition)) small is

  module _ (table : List ℕ) (lie : TableReadable set table n × (lanes_at set table n ≡ x.lanes)) where
    pub gainable : Gainable set table n
    gainable = record { edition = edition; readable = lie.0; packing = rw lie.1 sound.packing; form = sound.form }

    pub gain_feedable : (b : List ℕ) (g : Gained) → Feedable n b → gained_of g ≡ gain_of n (part_given set [] stages) (lanes_at set table n) → GainFeedable n b g
    gain_feedable b g h e =
        let f : GainFits n (gained_of g) = rw (e, lie.1) (gain_fits n (part_given set lanes stages) x.lanes edition sound) in
        let most = known_most n edition in
        record {
          batch = h;
          bits = omega (arith, f.bits, most);
          lanes = omega (arith, f.lanes, most);
          rounds = f.rounds;
          empty = omega (arith, f.empty, most);
          words = omega (arith, f.words, most);
        }

    pub good_fed_lem : (b new : List ℕ) (g : Gained) → gained_of g ≡ gain_of n (part_given set [] stages) (lanes_at set table n) → new ≡ good_fed n (gained_of g) b
        → (record { part = Ok tt } ≡ part_fed (part_outcome n (part_given set lanes stages))) × (new ≡ fed_with n (part_given set lanes stages) (part_outcome n (part_given set lanes stages)) b)
    unfolding fed_with
    good_fed_lem b new g e eb =
        let same : gained_of g ≡ gain_of n (part_given set lanes stages) x.lanes = e ∙ ap (λ (ls : List Lane). gain_of n (part_given set lanes stages) ls) lie.1 in
        rw is (refl, eb ∙ ap (λ (k : Gain). good_fed n k b) same)
