-- The plain laws. Levels: 2^(n−h) is the top power of its slots' positions. Pieces: by induction over the insertions. Lanes: the look goes on by one lane
-- each time. SRAM: in a major stage the part that comes before takes its words first, and of two major stages the earlier one.
-- Assumes nothing.
use mathlib.Core.Path.{◌≡◌, refl, sym, ap, ◌∙◌}
use mathlib.Core.Bool.{true, false}
use mathlib.Core.Option.{none, some}
use mathlib.Core.List.{List, [], ◌∷◌}
use mathlib.Core.Logic.{◌⊎◌, inl, inr, ⊎_elim}
use Prim.Native.Nat.{ℕ, zero, suc, ◌+◌, ◌*◌, ◌-◌, ◌/◌, ◌%◌, ◌^◌, ◌≤◌, ◌<◌}
use native.Mathlib.Nat.{mod-eq_of_lt, add-mod_left, add-mod_right}
use native.Mathlib.Omega.{arith}
use borrow.Author.Tests.{le-leb, lt-leb, eq-eqb, ne_eqb}
use lib.Arith.{digits_div, digits_mod}
use lib.Dec.{eqb}
use lib.Pow.{pow-lt}
use lib.ListN.{length, get_or}
use Rattle.words.proofs.BitLaws.{lt_or_ge}
use Rattle.words.specs.Edition.{Known}
use Rattle.words.proofs.EditionLaws.{known_number, levels_most, runs_in}
use Rattle.words.specs.Round.{next}
use Rattle.words.specs.Section.{entry_of}
use Rattle.words.proofs.RoundLaws.{next_wrap, next_step, next_lt}
use Rattle.words.proofs.SectionLaws.{section_word}
use Rattle.reads.specs.ReadSet.{Pair, total}
use Rattle.words.proofs.TestLaws.{some_not_none}
use Rattle.reads.specs.Search.{Lane, insert_piece, ordered, first_room}
use Rattle.reads.proofs.SearchLaws.{room_found}
use Rattle.plan_record.specs.Record.{edition_of, plan_lanes, count_at, parts_before, slot_at}
use Rattle.plan_record.proofs.RecordLaws.{lanes_known, lanes_small, lanes_other}
use Rattle.plan_counts.specs.Counts.{srams}
use Rattle.plan_blocks.specs.Blocks.{block_of, sram_start}
use Rattle.plan_blocks.proofs.BlockOrderLaws.{taken_apart}
use Rattle.plan_blocks.proofs.StateStartLaws.{sram_mono, sram_in}
use Rattle.plan_blocks.proofs.TotalLaws.{same_or, three_ways}
use Rattle.plan_slots.specs.Slots.{top}
use Rattle.plan_slots.proofs.TopLaws.{top_is, top_at}
use Rattle.plain.specs.Plain.{NamedLanes, plan_levels, SlotsBelow, OneLevel, MostFirst, of_total, EqualKept, FirstWithRoom, AllLackRoom, EntriesInWords, SramApart}

-- ---- lanes

pub named_lanes : NamedLanes
named_lanes d h = by (known_number (edition_of d) h)
  where
    by : Known (edition_of d) → plan_lanes d ≡ edition_of d
    by (inl e) = sym (lanes_other d (edition_of d) refl (λ s. omega arith)) ∙ sym e
    by (inr e) = sym (lanes_small d (edition_of d) refl e) ∙ sym e

-- ---- levels

module _ (n : ℕ) where
  top_of : (h j : ℕ) → n ≤ 13 → 1 ≤ h → h ≤ n → j < 2 ^ (n - h) → top (2 ^ (n - h) + j) ≡ 2 ^ (n - h)
  top_of h j few a b c = top_is 13 (2 ^ (n - h) + j) (n - h) (omega arith) (record { least = omega arith; most = omega arith })

  twice : (h : ℕ) → 1 ≤ h → h ≤ n → 2 ^ (n - (h - 1)) ≡ 2 * 2 ^ (n - h)
  twice h a b = let e : n - (h - 1) ≡ suc (n - h) = omega arith in rw e (omega arith)

pub slots_below : SlotsBelow
slots_below d p s h j a b c =
    let n : ℕ = plan_levels d in
    let t : top (2 ^ (n - h) + j) ≡ 2 ^ (n - h) = top_of n h j (levels_most (plan_lanes d) (lanes_known d)) a b c in
    let w : 2 ^ (n - (h - 1)) ≡ 2 * 2 ^ (n - h) = twice n h a b in
    let qa : 2 ^ (n - h) + j + top (2 ^ (n - h) + j) ≡ 2 ^ (n - (h - 1)) + j = omega arith in
    let qb : 2 ^ (n - h) + j + 2 * top (2 ^ (n - h) + j) ≡ 2 ^ (n - (h - 1)) + (j + 2 ^ (n - h)) = omega arith in
    (ap (slot_at d p s) qa, ap (slot_at d p s) qb)

one_power : (i j : ℕ) → 2 ^ i ≡ 2 ^ j → i ≡ j
one_power i j e =
    ⊎_elim (λ l. let m : 2 ^ i < 2 ^ j = pow-lt l in absurd (omega arith))
    (λ g. ⊎_elim (λ l. let m : 2 ^ j < 2 ^ i = pow-lt l in absurd (omega arith)) (λ k. omega arith) (lt_or_ge j i))
    (lt_or_ge i j)

pub one_level : OneLevel
one_level n q few low high =
    let (e, i, t) = top_at n q low high in
    let back : n - (n - e) ≡ e = omega arith in
    let is : top q ≡ 2 ^ e = top_is 13 q e (omega arith) t in (
      n - e,
      q - 2 ^ e,
      record {
        above = omega arith;
        below = omega arith;
        slot = rw back (omega (arith, t.least, t.most));
        position = rw back (omega (arith, t.least));
      },
      λ h j l.
          let same : 2 ^ (n - h) ≡ 2 ^ e = sym (top_of n h j few l.above l.below l.slot) ∙ ap top l.position ∙ is in
          let level = one_power (n - h) e same in
          (omega (arith, l.below), omega (arith, l.position)),
    )

-- ---- the order of pieces

insert_here : (p q : List Pair) (qs : List (List Pair)) → total q ≤ total p → insert_piece p (q ∷ qs) ≡ p ∷ q ∷ qs
unfolding insert_piece
insert_here p q qs h = rw (le-leb _ _ h, insert_piece)

insert_on : (p q : List Pair) (qs : List (List Pair)) → total p < total q → insert_piece p (q ∷ qs) ≡ q ∷ insert_piece p qs
unfolding insert_piece
insert_on p q qs h = rw (lt-leb _ _ h, insert_piece)

insert_last : (p : List Pair) → insert_piece p [] ≡ p ∷ []
unfolding insert_piece
insert_last p = refl

-- no total is above t
abbrev AtMost : ℕ → List (List Pair) → Type 0
AtMost t qs = (j : ℕ) → j < length qs → total (get_or qs j []) ≤ t

abbrev Descends : List (List Pair) → Type 0
Descends qs = (i j : ℕ) → i < j → j < length qs → total (get_or qs j []) ≤ total (get_or qs i [])

most_cons : (t : ℕ) (q : List Pair) (qs : List (List Pair)) → total q ≤ t → AtMost t qs → AtMost t (q ∷ qs)
most_cons t q qs a b zero l = a
most_cons t q qs a b (suc j) l = b j (omega arith)

descends_cons : (q : List Pair) (qs : List (List Pair)) → AtMost (total q) qs → Descends qs → Descends (q ∷ qs)
descends_cons q qs a b i zero l k = absurd (omega arith)
descends_cons q qs a b zero (suc j) l k = a j (omega arith)
descends_cons q qs a b (suc i) (suc j) l k = b i j (omega arith) (omega arith)

most_insert : (t : ℕ) (p : List Pair) (qs : List (List Pair)) → total p ≤ t → AtMost t qs → AtMost t (insert_piece p qs)
most_insert t p [] a b = rw insert_last (most_cons t p [] a b)
most_insert t p (q ∷ qs) a b =
    ⊎_elim (λ l. rw (insert_on p q qs l) (most_cons t q (insert_piece p qs) (b 0 (omega arith)) (most_insert t p qs a (λ j k. b (suc j) (omega arith)))))
    (λ g. rw (insert_here p q qs g) (most_cons t p (q ∷ qs) a b))
    (lt_or_ge (total p) (total q))

descends_insert : (p : List Pair) (qs : List (List Pair)) → Descends qs → Descends (insert_piece p qs)
descends_insert p [] b = rw insert_last (descends_cons p [] (λ j k. absurd (omega arith)) b)
descends_insert p (q ∷ qs) b =
    let rest : AtMost (total q) qs = λ j k. b 0 (suc j) (omega arith) (omega arith) in
    ⊎_elim
    (λ l.
    rw (insert_on p q qs l)
    (descends_cons q (insert_piece p qs) (most_insert (total q) p qs (omega arith) rest)
    (descends_insert p qs (λ i j m k. b (suc i) (suc j) (omega arith) (omega arith)))))
    (λ g. rw (insert_here p q qs g) (descends_cons p (q ∷ qs) (most_cons (total p) q qs g (λ j k. let r = rest j k in omega arith)) b))
    (lt_or_ge (total p) (total q))

insert_length : (p : List Pair) (qs : List (List Pair)) → length (insert_piece p qs) ≡ suc (length qs)
insert_length p [] = rw insert_last
insert_length p (q ∷ qs) =
    ⊎_elim (λ l. rw (insert_on p q qs l) (ap suc (insert_length p qs))) (λ g. rw (insert_here p q qs g)) (lt_or_ge (total p) (total q))

ordered_length : (ps : List (List Pair)) → length (ordered ps) ≡ length ps
unfolding ordered
ordered_length [] = refl
ordered_length (p ∷ ps) = insert_length p (ordered ps) ∙ ap suc (ordered_length ps)

ordered_descends : (ps : List (List Pair)) → Descends (ordered ps)
unfolding ordered
ordered_descends [] = λ i j l k. absurd (omega arith)
ordered_descends (p ∷ ps) = descends_insert p (ordered ps) (ordered_descends ps)

pub most_first : MostFirst
most_first ps i j l k = ordered_descends ps i j l (omega (arith, ordered_length ps))

of_this : (t : ℕ) (p : List Pair) (ps : List (List Pair)) → total p ≡ t → of_total t (p ∷ ps) ≡ p ∷ of_total t ps
unfolding of_total
of_this t p ps e = rw (eq-eqb _ _ e, of_total)

of_other : (t : ℕ) (p : List Pair) (ps : List (List Pair)) → (total p ≡ t → ⊥) → of_total t (p ∷ ps) ≡ of_total t ps
unfolding of_total
of_other t p ps e = rw (ne_eqb _ _ e, of_total)

-- a piece more at the front, with pieces behind it that are alike
of_cons : (t : ℕ) (p : List Pair) (ps qs : List (List Pair)) → of_total t ps ≡ of_total t qs → of_total t (p ∷ ps) ≡ of_total t (p ∷ qs)
unfolding of_total
of_cons t p ps qs e = ap (λ (r : List (List Pair)). elim (eqb (total p) t) [ true ↦ p ∷ r | false ↦ r ]) e

-- two pieces of different totals may change places
of_swap : (t : ℕ) (p q : List Pair) (qs : List (List Pair)) → total p < total q → of_total t (q ∷ p ∷ qs) ≡ of_total t (p ∷ q ∷ qs)
of_swap t p q qs l =
    ⊎_elim
    (λ e. let other : total p ≡ t → ⊥ = λ f. omega arith in rw (of_this t q (p ∷ qs) e, of_other t p qs other, of_other t p (q ∷ qs) other, of_this t q qs e))
    (λ e. rw (of_other t q (p ∷ qs) e) (of_cons t p qs (q ∷ qs) (sym (of_other t q qs e))))
    (same_or (total q) t)

of_insert : (t : ℕ) (p : List Pair) (qs : List (List Pair)) → of_total t (insert_piece p qs) ≡ of_total t (p ∷ qs)
of_insert t p [] = rw insert_last
of_insert t p (q ∷ qs) =
    ⊎_elim (λ l. rw (insert_on p q qs l) (of_cons t q (insert_piece p qs) (p ∷ qs) (of_insert t p qs) ∙ of_swap t p q qs l))
    (λ g. rw (insert_here p q qs g))
    (lt_or_ge (total p) (total q))

pub equal_kept : EqualKept
unfolding ordered
equal_kept t [] = refl
equal_kept t (p ∷ ps) = of_insert t p (ordered ps) ∙ of_cons t p (ordered ps) ps (equal_kept t ps)

-- ---- lanes, going round

-- k lanes on from lane j
abbrev round_to : (n j k : ℕ) → ℕ
round_to n j k = (j + k) % n

round_here : (n j : ℕ) → j < n → round_to n j 0 ≡ j
round_here n j l = let e : j + 0 ≡ j = omega arith in rw e (mod-eq_of_lt l)

round_next : (n j k : ℕ) → j < n → round_to n (next n j) k ≡ round_to n j (suc k)
round_next n j k l =
    ⊎_elim
    (λ e. let from : 0 + k ≡ k = omega arith in let to : j + suc k ≡ n + k = omega arith in rw (next_wrap n j e, from, to) (sym (add-mod_left n k)))
    (λ e. let to : j + 1 + k ≡ j + suc k = omega arith in rw (next_step n j e, to))
    (same_or (j + 1) n)

-- the first f lanes from lane j on were looked at
record FirstOf (n f : ℕ) (lanes : List Lane) (b j i k : ℕ) : Type 0 where
  pub below : k < f
  pub lane : i ≡ round_to n j k
  pub passed_over : (m : ℕ) → m < k → 32 < total (get_or lanes (round_to n j m) []) + b

-- lane j lacks room: those behind it, and it
passed_on : (n : ℕ) (lanes : List Lane) (b j k : ℕ) → j < n → 32 < total (get_or lanes j []) + b
    → ((m : ℕ) → m < k → 32 < total (get_or lanes (round_to n (next n j) m) []) + b)
    → (m : ℕ) → m < suc k → 32 < total (get_or lanes (round_to n j m) []) + b
passed_on n lanes b j k l full rest zero u = rw (round_here n j l) full
passed_on n lanes b j k l full rest (suc m) u = rw (← (round_next n j m l)) (rest m (omega arith))

room_none : (n : ℕ) (lanes : List Lane) (b j : ℕ) → first_room n 0 lanes b j ≡ none
unfolding first_room
room_none n lanes b j = refl

room_here : (n f : ℕ) (lanes : List Lane) (b j : ℕ) → total (get_or lanes j []) + b ≤ 32 → first_room n (suc f) lanes b j ≡ some j
unfolding first_room
room_here n f lanes b j h = rw (le-leb _ _ h, first_room)

room_next : (n f : ℕ) (lanes : List Lane) (b j : ℕ) → 32 < total (get_or lanes j []) + b → first_room n (suc f) lanes b j ≡ first_room n f lanes b (next n j)
unfolding first_room
room_next n f lanes b j h = rw (lt-leb _ _ h, first_room)

first_of : (n f : ℕ) (lanes : List Lane) (b j i : ℕ) → j < n → first_room n f lanes b j ≡ some i → (k : ℕ) × FirstOf n f lanes b j i k
first_of n zero lanes b j i l e = absurd (some_not_none (sym e ∙ room_none n lanes b j))
first_of n (suc f) lanes b j i l e =
    ⊎_elim
    (λ full.
    let (k, r) = first_of n f lanes b (next n j) i (next_lt n j l) (sym (room_next n f lanes b j full) ∙ e) in (
      suc k,
      record {
        below = omega (arith, r.below);
        lane = r.lane ∙ round_next n j k l;
        passed_over = passed_on n lanes b j k l full r.passed_over;
      },
    ))
    (λ fits.
    let is : some j ≡ some i = sym (room_here n f lanes b j fits) ∙ e in
    (0, record { below = omega arith; lane = sym (round_here n j l ∙ cc); passed_over = λ m u. absurd (omega arith) }))
    (lt_or_ge 32 (total (get_or lanes j []) + b))

pub first_with_room : FirstWithRoom
first_with_room n lanes b j i l e =
    let (k, r) = first_of n n lanes b j i l e in
    (k, record { once-round = r.below; lane = r.lane; room = (room_found n n lanes b j i l e).1; passed_over = r.passed_over })

none_of : (n f : ℕ) (lanes : List Lane) (b j : ℕ) → j < n → first_room n f lanes b j ≡ none → (m : ℕ) → m < f → 32 < total (get_or lanes (round_to n j m) []) + b
none_of n zero lanes b j l e = λ m u. absurd (omega arith)
none_of n (suc f) lanes b j l e =
    ⊎_elim
    (λ full.
    passed_on n lanes b j f l full
    (none_of n f lanes b (next n j) (next_lt n j l)
    (sym (room_next n f lanes b j full) ∙ e)))
    (λ fits. absurd (some_not_none (sym (room_here n f lanes b j fits) ∙ e)))
    (lt_or_ge 32 (total (get_or lanes j []) + b))

-- each lane is met, going round once
met : (n j i : ℕ) → j < n → i < n → (m : ℕ) × (m < n) × (round_to n j m ≡ i)
met n j i l u =
    ⊎_elim (λ k. let e : j + (i + n - j) ≡ i + n = omega arith in (i + n - j, omega arith, rw e (add-mod_right i n ∙ mod-eq_of_lt u)))
    (λ k. let e : j + (i - j) ≡ i = omega arith in (i - j, omega arith, rw e (mod-eq_of_lt u)))
    (lt_or_ge i j)

pub all_lack_room : AllLackRoom
all_lack_room n lanes b j l e i u = let (m, below, is) = met n j i l u in rw (← is) (none_of n n lanes b j l e m below)

-- ---- entries

pub entries_in_words : EntriesInWords
unfolding entry_of
entries_in_words n f small t k h a b c =
    let w : ℕ = 4 * n * k + 4 * t + h in
    let in_lane = lane-digits n t k h a c in
    let quarter = quarter-digit n t k h a c in
    let low : entry_of n w 0 ≡ 32 * t + 8 * k + 2 * h + 0 = rw (in_lane, quarter, lane_of t h c, place_of t h c) (omega arith) in
    let high : entry_of n w 1 ≡ 32 * t + 8 * k + 2 * h + 1 = rw (in_lane, quarter, lane_of t h c, place_of t h c) (omega arith) in
    let word = section_word n f w (word_lt n t k h a b c) in
    let fits = small (32 * t + 8 * k + 2 * h + 0) (entry_lt n t k h a b c) in
    rw (word, low, high) (low_half _ _ fits, high_half _ _ fits)
  where
    digits : (n t k h : ℕ) → 4 * n * k + 4 * t + h ≡ k * (4 * n) + (4 * t + h)
    digits n t k h = omega arith

    lane-digits : (n t k h : ℕ) → t < n → h < 4 → (4 * n * k + 4 * t + h) % (4 * n) ≡ 4 * t + h
    lane-digits n t k h a c = ap (λ (x : ℕ). x % (4 * n)) (digits n t k h) ∙ digits_mod k (omega arith)

    quarter-digit : (n t k h : ℕ) → t < n → h < 4 → (4 * n * k + 4 * t + h) / (4 * n) ≡ k
    quarter-digit n t k h a c = ap (λ (x : ℕ). x / (4 * n)) (digits n t k h) ∙ digits_div k {r = 4 * t + h} (omega arith)

    word_lt : (n t k h : ℕ) → t < n → k < 4 → h < 4 → 4 * n * k + 4 * t + h < 16 * n
    word_lt n t k h a b c = omega (arith, runs_in (4 * n) k 4 b)

    entry_lt : (n t k h : ℕ) → t < n → k < 4 → h < 4 → 32 * t + 8 * k + 2 * h + 0 < 32 * n
    entry_lt n t k h a b c = omega arith

    lane_of : (t h : ℕ) → h < 4 → (4 * t + h) / 4 ≡ t
    lane_of t h l = omega arith

    place_of : (t h : ℕ) → h < 4 → (4 * t + h) % 4 ≡ h
    place_of t h l = omega arith

    low_half : (x y : ℕ) → y < 2 ^ 16 → (x * 2 ^ 16 + y) % 2 ^ 16 ≡ y
    low_half x y l = omega arith

    high_half : (x y : ℕ) → y < 2 ^ 16 → (x * 2 ^ 16 + y) / 2 ^ 16 ≡ x
    high_half x y l = omega arith

-- ---- SRAM ranges

pub sram_apart : SramApart
unfolding sram_start
sram_apart d s t i j l m h =
    ⊎_elim (λ u. inl (omega (arith, (sram_in d s i l).1, (sram_in d t j m).0, sram_mono d (s + 1) t (omega arith))))
    (λ r.
    ⊎_elim same
    (λ u. inr (omega (arith, (sram_in d t j m).1, (sram_in d s i l).0, sram_mono d (t + 1) s (omega arith))))
    r)
    (three_ways s t)
  where
    same : s ≡ t → (sram_start d s i + 8192 * srams d (parts_before d s + i) ≤ sram_start d t j) ⊎ (sram_start d t j + 8192 * srams d (parts_before d t + j) ≤ sram_start d s i)
    same q =
        let k : j < count_at d s = omega (arith, ap (count_at d) q) in
        rw (← q)
        (⊎_elim (λ u. inl (omega arith)) (λ u. inr (omega arith))
        (taken_apart (block_of d s) (λ x. 8192 * srams d (parts_before d s + x)) (count_at d s) i j l k (λ e. h (omega (arith, ap (parts_before d) q)))))
