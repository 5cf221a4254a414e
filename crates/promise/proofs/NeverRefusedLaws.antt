-- The assembled words of an accepted plan pass the run's test of 15, for states of the planned size: each part passes it, the parts of a block stand
-- end to end, and a block without parts is the empty block.
-- Assumes nothing.
use mathlib.Core.Path.{◌≡◌, refl, ap, ◌∙◌, subst}
use mathlib.Core.Bool.{true, false, ◌||◌, or-true}
use mathlib.Core.List.{List, ◌∷◌}
use mathlib.Core.Logic.{⊎_elim}
use Prim.Native.Nat.{ℕ, zero, suc, ◌+◌, ◌-◌, ◌≤◌, ◌<◌}
use native.Mathlib.Omega.{arith}
use borrow.Author.Tests.{eq-eqb, ne_eqb, lt-ltb, le-leb}
use lib.Dec.{eqb}
use lib.ListN.{length, get_or, replicate, get_or-replicate}
use Rattle.words.proofs.BitLaws.{lt_or_ge}
use Rattle.plan_record.specs.Record.{plan_lanes, blocks_of, majors_of}
use Rattle.plan_record.proofs.RecordLaws.{lanes_range}
use Rattle.words.proofs.TestLaws.{true_and, all_true, none_not}
use Rattle.plan_blocks.specs.Blocks.{state_words}
use Rattle.plan_positions.proofs.MajorLaws.{start_is}
use Rattle.script.proofs.PartLengthLaws.{lanes_even}
use Rattle.script_assembly.specs.Assembly.{block_start}
use Rattle.script_assembly.specs.WrittenSoFar.{last_mark, parts_in}
use Rattle.script_assembly.proofs.WriterStepLaws.{mark_last, mark_more}
use Rattle.script_assembly.proofs.ScriptLengthLaws.{empty_length}
use Rattle.script_assembly.proofs.ScriptStartLaws.{start_more}
use Rattle.script_assembly.proofs.PartStandsLaws.{empty_place, part_first_lem}
use Rattle.run_machine.specs.Part.{end_at}
use Rattle.run_machine.specs.Run.{part_form, parts_form, empty_block, block_form, bad_block}
use Rattle.promise_decode.specs.Fitting.{Fitting}
use Rattle.promise_decode.proofs.ScriptFormLaws.{part_form_lem, fitting}
use Rattle.promise.specs.Promise.{Accepted, assembled, starts_of, NeverRefused}
use Rattle.promise.proofs.AcceptedLaws.{tests, some_blocks, lanes_found, able}
use Rattle.promise.proofs.AssembledBlockLaws as Block

-- the words of the empty block, of n words
empty_word : (n i : ℕ) → i < n → ◌≡◌ {A = ℕ} (get_or (0 ∷ 1 ∷ replicate (n - 2) 0) i 0) (elim (eqb i 1) [ true ↦ 1 | false ↦ 0 ])
empty_word n zero h = refl
empty_word n (suc zero) h = refl
empty_word n (suc (suc i)) h = rw (ne_eqb (suc (suc i)) 1 (λ e. omega arith)) (get_or-replicate (n - 2) i 0 0 (omega arith))

module _ (d : List ℕ) (accepted : Accepted d) (s : ℕ) (stage : s < majors_of d) (t u : ℕ) (old : state_words d ≤ t) (new : state_words d ≤ u) where
  abbrev W : List ℕ
  W = assembled d

  module _ (b : ℕ) (block : b < blocks_of d) where
    abbrev count : ℕ
    count = length (parts_in d s b)

    abbrev place : ℕ → ℕ
    place j = Block.place d accepted s stage b block j

    -- the block's first word, and its end
    abbrev o : ℕ
    o = block_start (plan_lanes d) d s b

    abbrev e : ℕ
    e = block_start (plan_lanes d) d s (b + 1)

    -- ---- the block's parts

    ends_last : (j : ℕ) → j + 1 ≡ count → end_at (plan_lanes d) W (place j) ≡ e
    ends_last j h = Block.part_end d accepted s stage b block j (omega arith) ∙ ap place h ∙ Block.place_end d accepted s stage b block (omega arith)

    ends-before : (j : ℕ) → j + 1 < count → end_at (plan_lanes d) W (place j) < e
    ends-before j h =
        let is : j + 1 + (count - (j + 1)) ≡ count = omega arith in
        omega (arith, Block.part_end d accepted s stage b block j (omega arith), Block.place_more d accepted s stage b block (count - (j + 1)) (j + 1), ap place is, Block.place_end d accepted s stage b block (omega arith))

    -- its last mark says whether the block ends with it
    marked : (j : ℕ) → j < count → last_mark count j ≡ elim (eqb (end_at (plan_lanes d) W (place j)) e) [ true ↦ 1 | false ↦ 0 ]
    marked j h = ⊎_elim
        (λ (l : j + 1 < count). rw (ne_eqb (end_at (plan_lanes d) W (place j)) e (λ q. omega (arith, ends-before j l))) (mark_more count j (λ q. omega arith)))
        (λ (l : count ≤ j + 1).
        let q : j + 1 ≡ count = omega arith in
        rw (eq-eqb (end_at (plan_lanes d) W (place j)) e (ends_last j q)) (mark_last count j q))
        (lt_or_ge (j + 1) count)

    within : (j : ℕ) → j < count → end_at (plan_lanes d) W (place j) ≤ e
    within j h = ⊎_elim
        (λ (l : j + 1 < count). omega (arith, ends-before j l))
        (λ (l : count ≤ j + 1). omega (arith, ends_last j (omega arith)))
        (lt_or_ge (j + 1) count)

    one_form : (j : ℕ) → j < count → part_form (plan_lanes d) W t u e (place j) ≡ true
    one_form j h =
        let p = Block.planPart d accepted s stage b block j in
        let i = Block.number d accepted s stage b block j in
        let there = Block.plan_part d accepted s stage b block j h in
        let fits = fitting d (tests d accepted).totals (tests d accepted).twelve p there (lanes_found d accepted p there) (last_mark count j) W (place j) e t u (within j h) (marked j h) old new in
        part_form_lem d p _ _ _ W (place j) (able d accepted p there) (Block.part_back d accepted s stage b block j h) e t u
        (subst (λ (x : ℕ). Fitting d p (last_mark count j) x W (place j) e t u) (start_is d s i stage (Block.number_lt d accepted s stage b block j h)) fits)

    parts-form : (f c j : ℕ) → c < f → j + suc c ≡ count → parts_form (plan_lanes d) W t u e f (place j) ≡ true
    unfolding parts_form
    parts-form zero c j l q = absurd (omega arith)
    parts-form (suc f) zero j l q =
        true_and _ _ (one_form j (omega arith)) (rw (eq-eqb (end_at (plan_lanes d) W (place j)) e (ends_last j (omega arith))))
    parts-form (suc f) (suc c) j l q =
        let later = parts-form f c (j + 1) (omega arith) (omega arith) in
        true_and _ _ (one_form j (omega arith))
        (rw (ne_eqb (end_at (plan_lanes d) W (place j)) e (λ z. omega (arith, ends-before j (omega arith))), Block.part_end d accepted s stage b block j (omega arith)) later)

    -- ---- the block

    empty-end : count ≡ 0 → e ≡ o + plan_lanes d
    empty-end h = start_more (plan_lanes d) d s b ∙ ap (λ (x : ℕ). o + x) (empty_length (plan_lanes d) d (omega (arith, lanes_range d)) (lanes_even d) s (parts_in d s b) h)

    empty-form : count ≡ 0 → empty_block (plan_lanes d) W o e ≡ true
    unfolding empty_block
    empty-form h =
        true_and _ _ (eq-eqb e (o + plan_lanes d) (empty-end h))
        (all_true _ (plan_lanes d) (λ i l. eq-eqb _ _ (empty_place (plan_lanes d) d s b i stage block (omega (arith, lanes_range d)) h l ∙ empty_word (plan_lanes d) i l)))

    some-form : 0 < count → parts_form (plan_lanes d) W t u e (length W) o ≡ true
    some-form h =
        subst (λ (x : ℕ). parts_form (plan_lanes d) W t u e (length W) x ≡ true) (part_first_lem (plan_lanes d) d s b)
        (parts-form (length W) (count - 1) 0 (omega (arith, Block.few_parts d accepted s stage b block)) (omega arith))

    ascending : o < e
    ascending = ⊎_elim
        (λ (h : 0 < count).
        let is : 0 + count ≡ count = omega arith in
        omega (arith, Block.place_more d accepted s stage b block count 0, ap place is, part_first_lem (plan_lanes d) d s b, Block.place_end d accepted s stage b block h))
        (λ (h : count ≤ 0). omega (arith, empty-end (omega arith), lanes_range d))
        (lt_or_ge 0 count)

    empty-or-parts : (empty_block (plan_lanes d) W o e || parts_form (plan_lanes d) W t u e (length W) o) ≡ true
    empty-or-parts = ⊎_elim
        (λ (h : 0 < count). rw (some-form h) (or-true (empty_block (plan_lanes d) W o e)))
        (λ (h : count ≤ 0). rw (empty-form (omega arith)))
        (lt_or_ge 0 count)

    block-form : block_form (plan_lanes d) W t u o e ≡ true
    unfolding block_form
    block-form =
        true_and _ _
        (true_and _ _ (lt-ltb o e ascending) (le-leb e (length W) (Block.end_inside d accepted s stage (b + 1) (omega arith))))
        empty-or-parts

-- THE RUN OF AN ACCEPTED PLAN IS NEVER REFUSED BY 15
pub never_refused : NeverRefused
unfolding bad_block
never_refused d s t u accepted stage old new =
    let many = Block.starts_are d accepted s stage in
    let some = some_blocks d accepted in
    rw (le-leb 2 (length (starts_of d s)) (omega arith), bad_block)
    (none_not _ (length (starts_of d s) - 1) (λ b l.
    let h : b < blocks_of d = omega arith in
    rw (Block.start_is d accepted s stage b (omega arith), Block.start_is d accepted s stage (b + 1) (omega arith))
    (block-form d accepted s stage t u old new b h)))
