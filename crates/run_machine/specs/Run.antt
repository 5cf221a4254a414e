-- A run of one major stage: document 01, "The run" and refusals 15, 16 and 32 of a run; document 02, 10/13, refusal 29. n is the number of lanes, H
-- the levels.
-- Assumes nothing.
use Rattle.std.specs.Prelude.{Bool, true, false, ◌&&◌, ◌||◌, List, [], ◌∷◌, ℕ, zero, suc, ◌+◌, ◌*◌, ◌-◌, ◌/◌, ◌%◌, ◌^◌, leb, ltb, eqb, length, get_or, set, replicate}
use Rattle.std.proofs.Math.Option.{Option, none, some}
use Rattle.words.specs.Answer.{Answer, good, refused, at_item, nowhere}
use Rattle.words.specs.Edition.{known}
use Rattle.words.specs.Sum.{sum_to}
use Rattle.words.specs.Bit.{pop}
use Rattle.words.specs.Tests.{all_below, first_not}
use Rattle.run_machine.specs.Part.{stages_at, last_at, write_outs_at, start_at, srams_at, rounds_at, duplicates_at, normal_at, end_at, location_in, read_word_at, read_mask_at, entry_at}
use Rattle.run_machine.specs.Turn.{Phase, to_read, to_stage, to_store, finished, Block, begins, ended, turned, written}
use Rattle.run_machine.specs.Room.{block_room}

-- ---- the turns

-- the blocks of a run, and the new state
pub record Running : Type 0 where
  pub blocks : List Block
  pub new : List ℕ

-- "begins each block at its first turn": m blocks from block i on
unfoldable pub blocks_from : List ℕ → List ℕ → ℕ → ℕ → List Block
blocks_from W starts zero i = []
blocks_from W starts (suc m) i = begins W (get_or starts i 0) ∷ blocks_from W starts m (i + 1)

-- block t takes a turn
unfoldable pub step : ℕ → ℕ → List ℕ → List ℕ → Running → ℕ → Running
step n H W old s t = record {
  blocks = set s.blocks t (turned n H W old (get_or s.blocks t (ended 0)).phase (get_or s.blocks t (ended 0)) s.new);
  new = written n W old (get_or s.blocks t (ended 0)).phase (get_or s.blocks t (ended 0)) s.new;
}

unfoldable pub run_from : ℕ → ℕ → List ℕ → List ℕ → Running → List ℕ → Running
run_from n H W old s [] = s
run_from n H W old s (t ∷ ts) = run_from n H W old (step n H W old s t) ts

abbrev pub run_turns : ℕ → ℕ → List ℕ → List ℕ → List ℕ → List ℕ → List ℕ → Running
run_turns n H W starts turns old new =
    run_from n H W old (record { blocks = blocks_from W starts (length starts - 1) 0; new = new }) turns

-- ---- "A part takes stages + 2 turns: read, each stage, store." "The result says how many turns are left."

-- the turns of the parts from word o on, f parts at most
unfoldable pub turns_from : ℕ → List ℕ → ℕ → ℕ → ℕ
turns_from n W zero o = 0
turns_from n W (suc f) o = stages_at W o + 2 + elim (eqb (last_at W o) 1) [ true ↦ 0 | false ↦ turns_from n W f (end_at n W o) ]

-- of the parts after the one at o
unfoldable pub turns_after : ℕ → List ℕ → ℕ → ℕ
turns_after n W o = elim (eqb (last_at W o) 1) [ true ↦ 0 | false ↦ turns_from n W (length W) (end_at n W o) ]

unfoldable pub turns_left : ℕ → List ℕ → Phase → Block → ℕ
turns_left n W to_read b = stages_at W b.part + 2 + turns_after n W b.part
turns_left n W to_stage b = stages_at W b.part - b.stage + 1 + turns_after n W b.part
turns_left n W to_store b = 1 + turns_after n W b.part
turns_left n W finished b = 0

unfoldable pub all_left : ℕ → List ℕ → List Block → ℕ
all_left n W [] = 0
all_left n W (b ∷ bs) = turns_left n W b.phase b + all_left n W bs

-- ---- "Form for 15"

-- "every entry below 8192"
unfoldable pub entries_form : ℕ → List ℕ → ℕ → Bool
entries_form n W o = all_below (λ k. all_below (λ i. ltb (entry_at n W o k i) (32 * n)) (32 * n)) (stages_at W o + 2)

-- "locations of an existing stage"
unfoldable pub locations_form : ℕ → List ℕ → ℕ → Bool
locations_form n W o = all_below (λ l. ltb (location_in n W o l / 256) (stages_at W o) && ltb (location_in n W o l % 256) n) (normal_at W o)

-- "lane bits at most 32"
unfoldable pub lanes_form : ℕ → List ℕ → ℕ → Bool
lanes_form n W o = all_below (λ i. leb (sum_to (λ r. pop (read_mask_at n W o r i)) (rounds_at W o)) 32) n

-- "words read (mask not 0) .. inside both lent states", which have s and t words
unfoldable pub reads_form : ℕ → List ℕ → ℕ → ℕ → ℕ → Bool
reads_form n W s t o =
    all_below (λ r. all_below (λ i.
    eqb (read_mask_at n W o r i) 0 || (ltb (read_word_at n W o r i % 2 ^ 31) s && ltb (read_word_at n W o r i % 2 ^ 31) t)) n) (rounds_at W o)

-- "normal words (word 2 less words 4 and 7) 0..=256"; "words .. stored inside both lent states"
unfoldable pub stores_form : ℕ → List ℕ → ℕ → ℕ → ℕ → Bool
stores_form n W s t o =
    leb (srams_at W o + duplicates_at W o) (write_outs_at W o) && leb (normal_at W o) n
    && (eqb (normal_at W o) 0 || (leb (start_at W o + normal_at W o) s && leb (start_at W o + normal_at W o) t))

-- a part at o that ends by e: "parts of 1..=255 stages end to end, word 1 one on the last, else zero"
unfoldable pub part_form : ℕ → List ℕ → ℕ → ℕ → ℕ → ℕ → Bool
part_form n W s t e o =
    leb (o + n) e && leb 1 (stages_at W o) && leb (stages_at W o) 255 && leb (end_at n W o) e
    && eqb (last_at W o) (elim (eqb (end_at n W o) e) [ true ↦ 1 | false ↦ 0 ])
    && stores_form n W s t o && locations_form n W o && lanes_form n W o && reads_form n W s t o && entries_form n W o

-- parts from o to e, f at most
unfoldable pub parts_form : ℕ → List ℕ → ℕ → ℕ → ℕ → ℕ → ℕ → Bool
parts_form n W s t e zero o = false
parts_form n W s t e (suc f) o =
    part_form n W s t e o && elim (eqb (end_at n W o) e) [ true ↦ true | false ↦ parts_form n W s t e f (end_at n W o) ]

-- "the empty block": n words, zero but word 1 = 1
unfoldable pub empty_block : ℕ → List ℕ → ℕ → ℕ → Bool
empty_block n W o e = eqb e (o + n) && all_below (λ i. eqb (get_or W (o + i) 0) (elim (eqb i 1) [ true ↦ 1 | false ↦ 0 ])) n

-- "ascending, within the words": from word o to word e
unfoldable pub block_form : ℕ → List ℕ → ℕ → ℕ → ℕ → ℕ → Bool
block_form n W s t o e = ltb o e && leb e (length W) && (empty_block n W o e || parts_form n W s t e (length W) o)

-- "two starts or more"; else the lowest block that is not well formed
unfoldable pub bad_block : ℕ → List ℕ → List ℕ → ℕ → ℕ → Option ℕ
bad_block n W starts s t =
    elim (leb 2 (length starts)) [
      | false ↦ some 0
      | true ↦ first_not (λ i. block_form n W s t (get_or starts i 0) (get_or starts (i + 1) 0)) (length starts - 1)
    ]

-- 16: "turn names no block"
unfoldable pub bad_turn : List ℕ → List ℕ → Option ℕ
bad_turn starts turns = first_not (λ i. ltb (get_or turns i 0) (length starts - 1)) (length turns)

-- ---- the answer: "A run: 15, 16, all before the first turn", 32 before them: "1024 a block for a run"; and 29 between them (10/13): a number of
-- lanes that names no edition

-- the turns that are left, and the new state
pub record Ran : Type 0 where
  pub left : ℕ
  pub new : List ℕ

abbrev pub ran : ℕ → List ℕ → Answer Ran
ran k new = good (record { left = k; new = new })

abbrev pub run_well : ℕ → ℕ → List ℕ → Running → Answer Ran
run_well n H W s = ran (all_left n W s.blocks) s.new

unfoldable pub run_answer : ℕ → ℕ → List ℕ → List ℕ → List ℕ → List ℕ → List ℕ → ℕ → Answer Ran
run_answer n H W starts turns old new room =
    elim (leb (block_room * (length starts - 1)) room) [
      | false ↦ refused (nowhere 32)
      | true ↦
          elim (known n) [
            | false ↦ refused (nowhere 29)
            | true ↦
                elim (bad_block n W starts (length old) (length new)) [
                  | some i ↦ refused (at_item 15 i)
                  | none ↦
                      elim (bad_turn starts turns) [
                        | some i ↦ refused (at_item 16 i)
                        | none ↦ run_well n H W (run_turns n H W starts turns old new)
                      ]
                ]
          ]
    ]

-- what the new state then holds, and the room
unfoldable pub new_after : Answer Ran → List ℕ → List ℕ
new_after (good x) before = x.new
new_after (refused q) before = before

unfoldable pub run_room_after : List ℕ → List ℕ → List ℕ
run_room_after starts room = elim (leb (block_room * (length starts - 1)) (length room)) [ false ↦ room | true ↦ replicate (length room) 0 ]
