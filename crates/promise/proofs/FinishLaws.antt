-- The turns of a block are those of its parts, by the plan, and the run of an accepted plan answers how many of them were not taken. So "once every
-- block has had its turns" is a matter of how often the turn list names each block.
-- Assumes nothing.
use mathlib.Core.Path.{◌≡◌, refl, sym, ap, ◌∙◌}
use mathlib.Core.Option.{none}
use mathlib.Core.List.{List}
use mathlib.Core.Logic.{⊎_elim}
use Prim.Native.Nat.{ℕ, zero, suc, ◌+◌, ◌*◌, ◌-◌, ◌≤◌, ◌<◌}
use native.Mathlib.Nat.{add-zero, zero-add}
use native.Mathlib.Omega.{arith}
use borrow.Author.Tests.{le-leb}
use lib.ListN.{length, get_or}
use Rattle.words.specs.Edition.{levels_for}
use Rattle.words.specs.Sum.{sum_to}
use Rattle.words.proofs.EditionLaws.{known_passes}
use Rattle.words.proofs.SumLaws.{sum_ext}
use Rattle.words.proofs.BitLaws.{lt_or_ge}
use Rattle.words.specs.Count.{count}
use Rattle.plan_record.specs.Record.{plan_lanes, blocks_of, majors_of, parts_before, stages_of}
use Rattle.plan_record.proofs.RecordLaws.{lanes_known}
use Rattle.plan_blocks.specs.Blocks.{state_words}
use Rattle.script_assembly.specs.Assembly.{block_start}
use Rattle.script_assembly.specs.WrittenSoFar.{parts_in}
use Rattle.script_assembly.proofs.WriterStepLaws.{mark_last, mark_more}
use Rattle.script_assembly.proofs.PartStandsLaws.{part_first_lem}
use Rattle.run_machine.specs.Part.{stages_at, last_at}
use Rattle.run_machine.specs.Room.{block_room}
use Rattle.run_machine.specs.Run.{ran, run_answer, turns_from, turns_after, all_left, bad_block, bad_turn}
use Rattle.promise_order.specs.Order.{block_turns}
use Rattle.promise_order.proofs.BlockPartsLaws.{from_last, from_more}
use Rattle.promise_order.proofs.PartTurnLaws.{empty_phase, left_none, left_read}
use Rattle.promise_order.proofs.AloneLaws.{Laid}
use Rattle.promise_order.proofs.AnyOrderLaws.{sum_first, turns_named, left_total}
use Rattle.promise.specs.Promise.{Accepted, assembled, starts_of, stage_run, turns_of, left_over, Finishes, Finished}
use Rattle.promise.proofs.AcceptedLaws.{able}
use Rattle.promise.proofs.AssembledBlockLaws as Block
use Rattle.promise.proofs.NeverRefusedLaws.{never_refused}
use Rattle.promise.proofs.ApartLaws.{apart}
use Rattle.promise.proofs.PromiseLaws.{as_run}

-- ---- a block's turns, by the plan

module _ (d : List ℕ) (accepted : Accepted d) (s : ℕ) (stage : s < majors_of d) where
  abbrev W : List ℕ
  W = assembled d

  module _ (b : ℕ) (block : b < blocks_of d) where
    abbrev parts : ℕ
    parts = length (parts_in d s b)

    abbrev place : ℕ → ℕ
    place j = Block.place d accepted s stage b block j

    -- the turns of part j
    abbrev own : ℕ → ℕ
    own j = stages_of d (parts_before d s + get_or (parts_in d s b) j 0) + 2

    stages_at_lem : (j : ℕ) → j < parts → stages_at W (place j) ≡ stages_of d (parts_before d s + get_or (parts_in d s b) j 0)
    stages_at_lem j h = (Block.part_back d accepted s stage b block j h).stages

    -- of the parts from part j on
    turns-from : (f c j : ℕ) → c < f → j + suc c ≡ parts → turns_from (plan_lanes d) W f (place j) ≡ sum_to (λ i. own (j + i)) (suc c)
    unfolding sum_to
    turns-from zero c j l e = absurd (omega arith)
    turns-from (suc f) zero j l e =
        let mark : last_at W (place j) ≡ 1 = (Block.part_back d accepted s stage b block j (omega arith)).last-mark ∙ mark_last parts j (omega arith) in
        from_last (plan_lanes d) W 0 f (place j) mark ∙ omega (arith, stages_at_lem j (omega arith), ap own (add-zero j))
    turns-from (suc f) (suc c) j l e =
        let mark : last_at W (place j) ≡ 0 = (Block.part_back d accepted s stage b block j (omega arith)).last-mark ∙ mark_more parts j (λ q. omega arith) in
        let next = ap (turns_from (plan_lanes d) W f) (Block.part_end d accepted s stage b block j (omega arith)) ∙ turns-from f c (j + 1) (omega arith) (omega arith) in
        let shift : sum_to (λ i. own (j + 1 + i)) (suc c) ≡ sum_to (λ i. own (j + suc i)) (suc c) = sum_ext _ _ (suc c) (λ i _. ap own (omega arith)) in
        from_more (plan_lanes d) W 0 f (place j) mark
        ∙ omega (arith, next, shift, stages_at_lem j (omega arith), ap own (add-zero j), sum_first (λ i. own (j + i)) (suc c))

    turns-some : 0 < parts → block_turns (plan_lanes d) W (place 0) ≡ turns_of d s b
    unfolding turns_of turns_from turns_after
    turns-some h =
        let some : 1 ≤ stages_at W (place 0) = omega (arith, stages_at_lem 0 h, (able d accepted _ (Block.plan_part d accepted s stage b block 0 h)).some_stages) in
        let all = turns-from (suc (length W)) (parts - 1) 0 (omega (arith, Block.few_parts d accepted s stage b block)) (omega arith) in
        let many : suc (parts - 1) ≡ parts = omega arith in
        left_read (plan_lanes d) W (place 0) some ∙ all ∙ ap (sum_to (λ i. own (0 + i))) many ∙ sum_ext _ _ parts (λ i _. ap own (zero-add i))

    turns-none : parts ≡ 0 → block_turns (plan_lanes d) W (block_start (plan_lanes d) d s b) ≡ turns_of d s b
    unfolding turns_of sum_to
    turns-none e =
        left_none (plan_lanes d) W _ (empty_phase W (block_start (plan_lanes d) d s b) (Block.empty_stages d accepted s stage b block e)) ∙ ap (sum_to own) (sym e)

    pub turns_are : block_turns (plan_lanes d) W (get_or (starts_of d s) b 0) ≡ turns_of d s b
    turns_are =
        ap (block_turns (plan_lanes d) W) (Block.start_is d accepted s stage b (omega arith))
        ∙ ⊎_elim
        (λ (h : 0 < parts). ap (block_turns (plan_lanes d) W) (sym (part_first_lem (plan_lanes d) d s b)) ∙ turns-some h)
        (λ (h : parts ≤ 0). turns-none (omega arith))
        (lt_or_ge 0 parts)

-- ---- the run's answer

module _ (d : List ℕ) (s : ℕ) (turns old new : List ℕ) (room : ℕ) (accepted : Accepted d) (stage : s < majors_of d) (old-size : length old ≡ state_words d)
    (new_size : length new ≡ state_words d) (space : block_room * blocks_of d ≤ room) (named : (i : ℕ) → i < length turns → get_or turns i 0 < blocks_of d) where
  many : length (starts_of d s) - 1 ≡ blocks_of d
  many = omega (arith, Block.starts_are d accepted s stage)

  good-blocks : bad_block (plan_lanes d) (assembled d) (starts_of d s) (length old) (length new) ≡ none
  good-blocks = never_refused d s (length old) (length new) accepted stage (omega arith) (omega arith)

  good-turns : bad_turn (starts_of d s) turns ≡ none
  good-turns = turns_named (starts_of d s) turns (λ i l. omega (arith, named i l, many))

  laid : Laid (plan_lanes d) (assembled d) (starts_of d s) (length old) (length new) new
  laid = record { form = good-blocks; size = refl; apart = apart d accepted s stage }

  left_is : all_left (plan_lanes d) (assembled d) (stage_run d s turns old new).blocks ≡ left_over d s turns
  unfolding left_over
  left_is =
      left_total (plan_lanes d) (levels_for (plan_lanes d)) (assembled d) (starts_of d s) (length old) (length new) old new laid turns good-turns
      ∙ ap (sum_to (λ b. block_turns (plan_lanes d) (assembled d) (get_or (starts_of d s) b 0) - count b turns)) many
      ∙ sum_ext _ _ (blocks_of d) (λ b l. ap (λ (x : ℕ). x - count b turns) (turns_are d accepted s stage b l))

  pub finishes_so : run_answer (plan_lanes d) (levels_for (plan_lanes d)) (assembled d) (starts_of d s) turns old new room ≡ ran (left_over d s turns) (stage_run d s turns old new).new
  unfolding run_answer
  finishes_so =
      rw (le-leb (block_room * (length (starts_of d s) - 1)) room (omega (arith, many)), known_passes (plan_lanes d) (lanes_known d), run_answer, good-blocks, good-turns)
      (ap (λ (x : ℕ). ran x (stage_run d s turns old new).new) left_is)

-- THE TURNS LEFT ARE THOSE THAT THE TURN LIST DOES NOT NAME
pub finishes : Finishes
finishes d s turns old new room accepted stage old-size new_size space named = finishes_so d s turns old new room accepted stage old-size new_size space named

none_over : (f g : ℕ → ℕ) (m : ℕ) → ((b : ℕ) → b < m → f b ≤ g b) → sum_to (λ b. f b - g b) m ≡ 0
unfolding sum_to
none_over f g zero h = refl
none_over f g (suc m) h = omega (arith, none_over f g m (λ b l. h b (omega arith)), h m (omega arith))

-- DEMAND 3, OF THE TURN LIST
pub finished : Finished
unfolding left_over
finished d s turns old new room accepted stage old-size new_size space named all =
    let answer = finishes d s turns old new room accepted stage old-size new_size space named
    ∙ ap (λ (x : ℕ). ran x (stage_run d s turns old new).new) (none_over (turns_of d s) (λ b. count b turns) (blocks_of d) all) in
    (answer, as_run d s turns old new _ room accepted stage old-size new_size answer)
