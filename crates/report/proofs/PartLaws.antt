-- A good part: its lanes are a packing of its set, so requested bits are what the lanes hold, empty rounds are n·rounds less the pairs, and each
-- gain has a bound. A refused part's number is below 40.
-- Assumes nothing.
use mathlib.Core.Path.{◌≡◌, refl}
use mathlib.Core.Bool.{Bool, true, false}
use mathlib.Core.Option.{Option, none, some}
use mathlib.Core.List.{List, [], ◌∷◌}
use Prim.Native.Nat.{ℕ, suc, ◌+◌, ◌*◌, ◌^◌, ◌≤◌, ◌<◌}
use native.Mathlib.Nat.{mul-le-mul_left}
use native.Mathlib.Omega.{arith}
use borrow.Author.Tests.{leb-true}
use lib.Dec.{leb, ltb}
use lib.ListN.{length, get_or}
use Rattle.words.specs.Answer.{Answer, good, refused}
use Rattle.words.specs.Edition.{Known, part_words}
use Rattle.words.proofs.AnswerLaws.{refused_good}
use Rattle.words.proofs.EditionLaws.{by_edition}
use Rattle.words.proofs.TestLaws.{and_true}
use Rattle.reads.specs.ReadSet.{Pair, bits, total, pairs_of, broken}
use Rattle.reads.specs.Search.{Lane, Found, won, ended, found_of, joined, longest}
use Rattle.reads.specs.Packing.{Packing, weigh}
use Rattle.reads.specs.SetAnswer.{Packed, searched, packed, read_set}
use Rattle.reads.proofs.PackingLaws.{total_append}
use Rattle.reads.proofs.WeightLaws.{Plain, weigh_same, weigh_append, weigh_bits}
use Rattle.reads.proofs.BoundLaws.{bits_bound}
use Rattle.reads.proofs.RoundCountLaws.{longest_ge}
use Rattle.reads.proofs.SetAnswerLaws.{Came, at_three, at_bits, at_wide, at_search, came, placed_sound}
use Rattle.handed_lanes.specs.Handed.{lanes_in, fault, told_item, judged, handed_packed, handed_set}
use Rattle.handed.proofs.HandedLaws.{handed_passed, handed_sound}
use Rattle.report.specs.Report.{Part, stages_right, part_outcome, lane_used, lanes_in_use, empty_in, contents, pairs_in, Gain, gain_of}

-- ---- sums over lanes

-- "Requested bits equal the sum of lane contents."
module _ (n : ℕ) (ps : List Pair) (lanes : List Lane) (packing : Packing n ps lanes) where
  bits_plain : Plain (λ p. bits p)
  bits_plain p q e g = rw g

  one_plain : Plain (λ p. 1)
  one_plain p q e g = refl

  contents-joined : (ls : List Lane) → contents ls ≡ total (joined ls)
  unfolding contents joined total
  contents-joined [] = refl
  contents-joined (l ∷ ls) = omega (arith, contents-joined ls, total_append l (joined ls))

  pub requested : total ps ≡ contents lanes
  requested =
      let same = weigh_same (λ p. bits p) bits_plain (joined lanes) ps packing.once in
      omega (arith, same, weigh_bits (joined lanes), weigh_bits ps, contents-joined lanes)

  ones : (qs : List Pair) → weigh (λ p. 1) qs ≡ length qs
  unfolding weigh
  ones [] = refl
  ones (q ∷ qs) = omega (arith, ones qs)

  pairs-joined : (ls : List Lane) → pairs_in ls ≡ weigh (λ p. 1) (joined ls)
  unfolding pairs_in joined weigh
  pairs-joined [] = refl
  pairs-joined (l ∷ ls) = omega (arith, pairs-joined ls, weigh_append (λ p. 1) l (joined ls), ones l)

  pub pairs_stand : pairs_in lanes ≡ length ps
  pairs_stand = omega (arith, pairs-joined lanes, weigh_same (λ p. 1) one_plain (joined lanes) ps packing.once, ones ps)

-- every lane and round has a pair or is empty
pub rounds_filled : (r : ℕ) (ls : List Lane) → ((i : ℕ) → length (get_or ls i []) ≤ r) → empty_in r ls + pairs_in ls ≡ r * length ls
unfolding empty_in pairs_in
rounds_filled r [] h = omega arith
rounds_filled r (l ∷ ls) h = omega (arith, h 0, rounds_filled r ls (λ i. h (suc i)))

-- "empty rounds": n·rounds less the pairs
pub empty_is : (n : ℕ) (ps : List Pair) (lanes : List Lane) → Packing n ps lanes → empty_in (longest lanes) lanes + length ps ≡ longest lanes * n
empty_is n ps lanes packing =
    let all = rounds_filled (longest lanes) lanes (longest_ge lanes) in
    rw (← packing.wide) (omega (arith, all, pairs_stand n ps lanes packing))

in_use_most : (ls : List Lane) → lanes_in_use ls ≤ length ls
unfolding lanes_in_use lane_used
in_use_most [] = omega arith
in_use_most ([] ∷ ls) = omega (arith, in_use_most ls)
in_use_most ((p ∷ l) ∷ ls) = omega (arith, in_use_most ls)

-- ---- a good part

-- a set as it can be lent: words of 32 bits
abbrev pub Lent : Part → Type 0
Lent p = (i : ℕ) → get_or p.set i 0 < 2 ^ 32

pub record PartSound (n : ℕ) (p : Part) (lanes : List Lane) : Type 0 where
  pub form : broken (pairs_of p.set) ≡ none
  pub packing : Packing n (pairs_of p.set) lanes
  pub rounds : longest lanes ≤ 32
  pub stages : p.stages ≤ 255

pub part_sound : (n : ℕ) (p : Part) (x : Packed) → 0 < n → Lent p → part_outcome n p ≡ good x → PartSound n p x.lanes
unfolding part_outcome
part_sound n p x some_lanes small e = go (stages_right p.stages) refl (ltb 0 (length p.lanes)) refl
  where
    go : (a : Bool) → stages_right p.stages ≡ a → (b : Bool) → ltb 0 (length p.lanes) ≡ b → PartSound n p x.lanes
    go false ea b eb = refused_good _ x (rw (ea, part_outcome) at e)
    go true ea false eb =
        let s = placed_sound n p.set x some_lanes small (rw (ea, eb, part_outcome) at e) in
        record { form = s.passed.form; packing = s.packing; rounds = s.rounds.1; stages = leb-true p.stages 255 (and_true (leb 1 p.stages) (leb p.stages 255) ea).1 }
    go true ea true eb =
        let here : handed_set n (pairs_of p.set) p.lanes ≡ good x = rw (ea, eb, part_outcome) at e in
        let s = handed_sound p.set (handed_passed n (pairs_of p.set) p.lanes x here).form small n p.lanes x here in
        record { form = s.passed.form; packing = s.packing; rounds = s.rounds.1; stages = leb-true p.stages 255 (and_true (leb 1 p.stages) (leb p.stages 255) ea).1 }

-- what one part can gain at most
pub record GainFits (n : ℕ) (g : Gain) : Type 0 where
  pub bits : g.bits ≤ 32 * n
  pub lanes : g.lanes ≤ n
  pub rounds : g.rounds ≤ 32
  pub empty : g.empty ≤ 32 * n
  pub words : g.words ≤ 5205 * n

words_most : (n : ℕ) → Known n → (r s : ℕ) → r ≤ 32 → s ≤ 255 → part_words n r s ≤ 5205 * n
words_most = by_edition (λ n. (r s : ℕ) → r ≤ 32 → s ≤ 255 → part_words n r s ≤ 5205 * n) (λ r s h l. omega arith) (λ r s h l. omega arith)

pub gain_fits : (n : ℕ) (p : Part) (lanes : List Lane) → Known n → PartSound n p lanes → GainFits n (gain_of n p lanes)
gain_fits n p lanes edition s =
    let wide = s.packing.wide in
    record {
      bits = bits_bound n (pairs_of p.set) lanes s.packing;
      lanes = omega (arith, in_use_most lanes, wide);
      rounds = s.rounds;
      empty = omega (arith, empty_is n (pairs_of p.set) lanes s.packing, mul-le-mul_left {m = longest lanes} {n = 32} n s.rounds);
      words = words_most n edition (longest lanes) p.stages s.rounds s.stages;
    }

-- ---- a refused part

abbrev pub KnownNumber : Answer Packed → Type 0
KnownNumber (good x) = Unit
KnownNumber (refused q) = q.number < 40

numbered_search : (n : ℕ) (ps : List Pair) → KnownNumber (searched n ps)
unfolding searched
numbered_search n ps = go (found_of n ps) refl
  where
    go : (o : Found) → found_of n ps ≡ o → KnownNumber (searched n ps)
    go ended f = rw (f, searched) (omega arith)
    go (won k ls) f = rw (f, searched) tt

numbered_packed : (n : ℕ) (ps : List Pair) → KnownNumber (packed n ps)
numbered_packed n ps = go (came n ps)
  where
    go : Came n ps → KnownNumber (packed n ps)
    go (at_three q) = rw q (omega arith)
    go (at_bits q) = rw q (omega arith)
    go (at_wide q) = rw q (omega arith)
    go (at_search h l m q) = rw q (numbered_search n ps)

numbered_set : (n : ℕ) (ps : List Pair) → KnownNumber (read_set n ps)
unfolding read_set
numbered_set n ps = go (leb (length ps) 8192) refl (broken ps) refl
  where
    go : (t : Bool) → leb (length ps) 8192 ≡ t → (o : Option ℕ) → broken ps ≡ o → KnownNumber (read_set n ps)
    go false t o f = rw (t, read_set) (omega arith)
    go true t (some i) f = rw (t, f, read_set) (omega arith)
    go true t none f = rw (t, f, read_set) (numbered_packed n ps)

numbered_judged : (n : ℕ) (ps : List Pair) (lanes : List Lane) → KnownNumber (judged n ps lanes)
unfolding judged
numbered_judged n ps lanes = go (told_item (fault n ps lanes)) refl
  where
    go : (o : Option ℕ) → told_item (fault n ps lanes) ≡ o → KnownNumber (judged n ps lanes)
    go (some i) f = rw (f, judged) (omega arith)
    go none f = rw (f, judged) tt

numbered_handed : (n : ℕ) (ps : List Pair) (ws : List ℕ) → KnownNumber (handed_set n ps ws)
unfolding handed_set handed_packed
numbered_handed n ps ws = go (leb (length ps) 8192) refl (broken ps) refl (ltb 0 (length ps)) refl
  where
    go : (t : Bool) → leb (length ps) 8192 ≡ t → (o : Option ℕ) → broken ps ≡ o → (u : Bool) → ltb 0 (length ps) ≡ u → KnownNumber (handed_set n ps ws)
    go false t o f u g = rw (t, handed_set) (omega arith)
    go true t (some i) f u g = rw (t, f, handed_set) (omega arith)
    go true t none f false g = rw (t, f, g, handed_set, handed_packed) (omega arith)
    go true t none f true g = rw (t, f, g, handed_set, handed_packed) (numbered_judged n ps (lanes_in ps ws))

pub part_numbered : (n : ℕ) (p : Part) → KnownNumber (part_outcome n p)
unfolding part_outcome
part_numbered n p = go (stages_right p.stages) refl (ltb 0 (length p.lanes)) refl
  where
    go : (a : Bool) → stages_right p.stages ≡ a → (b : Bool) → ltb 0 (length p.lanes) ≡ b → KnownNumber (part_outcome n p)
    go false ea b eb = rw (ea, part_outcome) (omega arith)
    go true ea false eb = rw (ea, eb, part_outcome) (numbered_set n (pairs_of p.set))
    go true ea true eb = rw (ea, eb, part_outcome) (numbered_handed n (pairs_of p.set) p.lanes)
