-- The blocks of a major stage in the assembled words: where each begins, its parts end to end, each found there as the plan says; and that the run
-- finds these parts and no others.
-- Assumes nothing.
use mathlib.Core.Path.{◌≡◌, refl, sym, ap, ◌∙◌, subst}
use mathlib.Core.List.{List, [], ◌∷◌}
use mathlib.Core.Logic.{⊎_elim}
use Prim.Native.Nat.{ℕ, zero, suc, ◌+◌, ◌*◌, ◌-◌, ◌≤◌, ◌<◌}
use native.Mathlib.Nat.{add-zero, mul-suc, mul-le-mul_left}
use native.Mathlib.Omega.{arith}
use borrow.Author.Tests.{eq-eqb, ne_eqb}
use lib.ListN.{length, get_or, drop, length-drop}
use lib.Seq.{get_or-take, get_or-drop, length-take-le}
use Rattle.words.proofs.BitLaws.{lt_or_ge}
use Rattle.plan_record.specs.Record.{plan_lanes, blocks_of, majors_of, count_at, parts_before, parts_of}
use Rattle.plan_record.proofs.RecordLaws.{lanes_range}
use Rattle.plan_blocks.specs.Blocks.{state_start, sram_start}
use Rattle.script.proofs.PartLengthLaws.{lanes_even}
use Rattle.script_assembly.specs.Assembly.{words_of_part, block_start, script_starts}
use Rattle.script_assembly.specs.WrittenSoFar.{last_mark, length_of, parts_in, part_start}
use Rattle.script_assembly.proofs.WriterStepLaws.{mark_last, mark_more}
use Rattle.script_assembly.proofs.BlockRankLaws.{part_at}
use Rattle.script_assembly.proofs.ScriptLengthLaws.{words_length}
use Rattle.script_assembly.proofs.ScriptStartLaws.{starts_length, start_at_lem}
use Rattle.script_assembly.proofs.PartStandsLaws.{block_inside, empty_place, part_first_lem, part_next, part_last, part_place, part_after}
use Rattle.run_machine.specs.Part.{stages_at, last_at, end_at}
use Rattle.promise_order.specs.Order.{parts_from, parts_at}
use Rattle.promise_decode.specs.Decoded.{Decoded}
use Rattle.promise_decode.proofs.DecodeLaws.{decoded}
use Rattle.promise.specs.Promise.{Accepted, assembled, starts_of}
use Rattle.promise.proofs.AcceptedLaws.{part_there, some_blocks, able}

wide : (d : List ℕ) → 16 ≤ plan_lanes d
wide d = omega (arith, lanes_range d)

-- a part has words
part_some : (d : List ℕ) (p : ℕ) → 0 < length_of (plan_lanes d) d p
unfolding length_of
part_some d p = omega (arith, lanes_range d)

module _ (d : List ℕ) (accepted : Accepted d) (s : ℕ) (stage : s < majors_of d) where
  abbrev W : List ℕ
  W = assembled d

  -- ---- the starts of the stage's blocks, and their end

  pub starts_are : length (starts_of d s) ≡ blocks_of d + 1
  starts_are =
      length-take-le (blocks_of d + 1) (drop (blocks_of d * s) (script_starts (plan_lanes d) d))
      (omega (arith, length-drop (blocks_of d * s) (script_starts (plan_lanes d) d), starts_length (plan_lanes d) d, mul-suc (blocks_of d) s, mul-le-mul_left (blocks_of d) stage))

  pub start_is : (b : ℕ) → b ≤ blocks_of d → get_or (starts_of d s) b 0 ≡ block_start (plan_lanes d) d s b
  start_is b h =
      get_or-take (blocks_of d + 1) (drop (blocks_of d * s) (script_starts (plan_lanes d) d)) b 0 (omega arith)
      ∙ get_or-drop (blocks_of d * s) (script_starts (plan_lanes d) d) b 0
      ∙ start_at_lem (plan_lanes d) d s b stage h (some_blocks d accepted)

  pub end_inside : (b : ℕ) → b ≤ blocks_of d → block_start (plan_lanes d) d s b ≤ length W
  end_inside b h = omega (arith, block_inside (plan_lanes d) d s b stage h, words_length (plan_lanes d) d (wide d) (lanes_even d))

  -- ---- one block: its parts

  module _ (b : ℕ) (block : b < blocks_of d) where
    abbrev pub count : ℕ
    count = length (parts_in d s b)

    -- part j of the block: its number in the stage, and in the plan
    abbrev pub number : ℕ → ℕ
    number j = get_or (parts_in d s b) j 0

    abbrev pub planPart : ℕ → ℕ
    planPart j = parts_before d s + number j

    pub number_lt : (j : ℕ) → j < count → number j < count_at d s
    number_lt j h = (part_at d s b (count_at d s) j h).number

    pub plan_part : (j : ℕ) → j < count → planPart j < parts_of d
    plan_part j h = part_there d s (number j) stage (number_lt j h)

    -- where it begins
    abbrev pub place : ℕ → ℕ
    place j = part_start (plan_lanes d) d s b j

    pub place_on : (j : ℕ) → place j < place (j + 1)
    place_on j = omega (arith, part_after (plan_lanes d) d (wide d) (lanes_even d) s b j, part_some d (planPart j))

    -- m parts on
    pub place_more : (m j : ℕ) → place j + m ≤ place (j + m)
    place_more zero j = omega (arith, ap place (add-zero j))
    place_more (suc m) j =
        let e : j + m + 1 ≡ j + suc m = omega arith in
        omega (arith, place_more m j, place_on (j + m), ap place e)

    pub place_end : 0 < count → place count ≡ block_start (plan_lanes d) d s (b + 1)
    place_end h = part_last (plan_lanes d) d s b h

    -- there are no more parts than words
    pub few_parts : count ≤ length W
    few_parts = ⊎_elim
        (λ (h : 0 < count). omega (arith, place_more count 0, place_end h, end_inside (b + 1) (omega arith), ap place (zero_is count)))
        (λ (h : count ≤ 0). omega arith)
        (lt_or_ge 0 count)
      where
        zero_is : (m : ℕ) → 0 + m ≡ m
        zero_is m = omega arith

    pub part_back : (j : ℕ) → j < count → Decoded (plan_lanes d) d (planPart j) (last_mark count j) (state_start d s (number j)) (sram_start d s (number j)) W (place j)
    unfolding words_of_part
    part_back j h = decoded d (planPart j) (last_mark count j) _ _ W (place j) (able d accepted (planPart j) (plan_part j h))
        (λ t u. part_place (plan_lanes d) d s b j t stage block h u)

    pub part_end : (j : ℕ) → j < count → end_at (plan_lanes d) W (place j) ≡ place (j + 1)
    unfolding words_of_part
    part_end j h = (part_back j h).end ∙ sym (part_next (plan_lanes d) d s b j)

    -- ---- the parts that the run finds

    -- c of them, from part j on
    pub record Found (os : List ℕ) (j c : ℕ) : Type 0 where
      pub many : length os ≡ c
      pub at : (k : ℕ) → k < c → get_or os k 0 ≡ place (j + k)

    found_last : (f j : ℕ) → j + 1 ≡ count → Found (parts_from (plan_lanes d) W (suc f) (place j)) j 1
    unfolding parts_from
    found_last f j e =
        let mark : last_at W (place j) ≡ 1 = (part_back j (omega arith)).last-mark ∙ mark_last count j e in
        rw (eq-eqb (last_at W (place j)) 1 mark, parts_from) (record { many = refl; at = here })
      where
        here : (k : ℕ) → k < 1 → get_or (place j ∷ []) k 0 ≡ place (j + k)
        here zero h = ap place (sym (add-zero j))
        here (suc k) h = absurd (omega arith)

    found_more : (f j c : ℕ) → j + 1 < count → Found (parts_from (plan_lanes d) W f (place (j + 1))) (j + 1) c → Found (parts_from (plan_lanes d) W (suc f) (place j)) j (suc c)
    unfolding parts_from
    found_more f j c l r =
        let mark : last_at W (place j) ≡ 0 = (part_back j (omega arith)).last-mark ∙ mark_more count j (λ e. omega arith) in
        rw (ne_eqb (last_at W (place j)) 1 (λ e. omega arith), parts_from, part_end j (omega arith)) (record { many = ap suc r.many; at = there })
      where
        there : (k : ℕ) → k < suc c → get_or (place j ∷ parts_from (plan_lanes d) W f (place (j + 1))) k 0 ≡ place (j + k)
        there zero h = ap place (sym (add-zero j))
        there (suc k) h =
            let e : j + 1 + k ≡ j + suc k = omega arith in
            r.at k (omega arith) ∙ ap place e

    found_from : (f c j : ℕ) → c < f → j + suc c ≡ count → Found (parts_from (plan_lanes d) W f (place j)) j (suc c)
    found_from zero c j l e = absurd (omega arith)
    found_from (suc f) zero j l e = found_last f j e
    found_from (suc f) (suc c) j l e = found_more f j (suc c) (omega arith) (found_from f c (j + 1) (omega arith) (omega arith))

    -- the empty block
    pub empty_stages : count ≡ 0 → stages_at W (block_start (plan_lanes d) d s b) ≡ 0
    empty_stages e =
        ap (λ (x : ℕ). get_or W x 0) (sym (add-zero (block_start (plan_lanes d) d s b))) ∙ empty_place (plan_lanes d) d s b 0 stage block (omega (arith, wide d)) e (omega (arith, wide d))

    found_none : count ≡ 0 → Found (parts_at (plan_lanes d) W (block_start (plan_lanes d) d s b)) 0 count
    unfolding parts_at
    found_none e =
        rw (eq-eqb (stages_at W (block_start (plan_lanes d) d s b)) 0 (empty_stages e), parts_at, e) (record { many = refl; at = λ k h. absurd (omega arith) })

    found_some : 0 < count → Found (parts_at (plan_lanes d) W (block_start (plan_lanes d) d s b)) 0 count
    unfolding parts_at
    found_some h =
        let stages : 0 < stages_at W (place 0) = omega (arith, (part_back 0 h).stages, (able d accepted (planPart 0) (plan_part 0 h)).some_stages) in
        let more : suc (count - 1) ≡ count = omega arith in
        let from : Found (parts_from (plan_lanes d) W (length W) (place 0)) 0 count =
        subst (λ (c : ℕ). Found (parts_from (plan_lanes d) W (length W) (place 0)) 0 c) more (found_from (length W) (count - 1) 0 (omega (arith, few_parts)) (omega arith)) in
        subst (λ (o : ℕ). Found (parts_at (plan_lanes d) W o) 0 count) (part_first_lem (plan_lanes d) d s b)
        (rw (ne_eqb (stages_at W (place 0)) 0 (λ e. omega arith), parts_at) from)

    pub found : Found (parts_at (plan_lanes d) W (block_start (plan_lanes d) d s b)) 0 count
    found = ⊎_elim found_some (λ h. found_none (omega arith)) (lt_or_ge 0 count)
