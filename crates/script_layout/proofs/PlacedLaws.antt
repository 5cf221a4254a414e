-- The ranks of a block, one after the other: where they end, and what its words are after each.
-- Assumes nothing.
use mathlib.Core.Path.{◌≡◌, sym, ap, ap₂, ◌∙◌}
use mathlib.Core.Logic.{⊎_elim}
use mathlib.Core.List.{List, ◌++◌}
use Prim.Native.Nat.{ℕ, suc, ◌+◌, ◌-◌, ◌≤◌, ◌<◌}
use native.Mathlib.Numerals.{add-one}
use native.Mathlib.Omega.{arith}
use borrow.Rule.Slice.PartMut.{put_mid, mid_len}
use lib.ListN.{length, get_or, set, take, drop, replicate, length-append}
use lib.Seq.{sets}
use Rattle.words.proofs.BitLaws.{lt_or_ge}
use Rattle.words.proofs.ListLaws.{put_sets}
use Rattle.plan_record.specs.Record.{plan_lanes, blocks_of, count_at, parts_before, parts_of}
use Rattle.plan_record.proofs.RecordLaws.{lanes_range, parts_more}
use Rattle.plan_record.proofs.PlanFormLaws.{parts_in_lem}
use Rattle.plan_blocks.specs.TableFill.{block_at}
use Rattle.plan_blocks.proofs.TotalLaws.{same_or}
use Rattle.script.specs.Script.{part_script}
use Rattle.script.proofs.PartLengthLaws.{lanes_even}
use Rattle.script_assembly.specs.Assembly.{words_of_part, block_words}
use Rattle.script_assembly.specs.WrittenSoFar.{last_mark, parts_words, length_of, parts_in, first_rank, ranked_at}
use Rattle.script_assembly.proofs.GrowLaws.{grown_le}
use Rattle.script_assembly.proofs.WriterStepLaws as step
use Rattle.script_assembly.proofs.BlockRankLaws.{part_at, first_more, first_le, first_none, first_in, rank_found, row_at_lem, rank_inside, rank_outside}
use Rattle.script_assembly.proofs.ScriptLengthLaws.{part_length, empty_length}
use Rattle.script_layout.specs.Layout.{row_script, empty_words, PartRoom, BlockAt}
use Rattle.script_layout.proofs.ListStoreLaws.{sets-next, stores_length}

pub empty_made : (l : List ℕ) (n : ℕ) → 2 ≤ n → l ≡ replicate n 0 → set l 1 1 ≡ empty_words n
unfolding empty_words
empty_made l n h e =
    let more : n ≡ suc (suc (n - 2)) = omega arith in
    ap (λ (x : List ℕ). set x 1 1) (e ∙ ap (λ (i : ℕ). replicate i 0) more)

module _ (d room : List ℕ) (s b from : ℕ) (q : BlockAt d room s b from) where
  abbrev to : ℕ
  to = first_rank d s (b + 1)

  abbrev end : ℕ
  end = parts_before d (s + 1)

  abbrev xs : List ℕ
  xs = parts_in d s b

  some_blocks : 0 < blocks_of d
  some_blocks = omega (arith, q.block)

  pub end_in : end ≤ parts_of d
  end_in = parts_in_lem d (s + 1) (omega (arith, q.stage))

  -- how many parts the block has
  pub parts_are : to ≡ from + length xs
  parts_are = omega (arith, first_more d s b, q.first)

  pub to_in : to ≤ end
  to_in = first_in d s (b + 1) (omega (arith, q.block)) some_blocks

  base-le : parts_before d s ≤ from
  base-le = omega (arith, first_none d s, first_le d s 0 b (omega arith), q.first)

  -- ---- rank k names a part
  module _ (k : ℕ) (l : from ≤ k) where
    pub rank_in : k < end → ranked_at room k < parts_of d
    rank_in u =
        let (i, r) = rank_found d s k (omega (arith, base-le)) u in
        let a = q.sound.ready.tabled.allotted s i q.stage r.number in
        omega (arith, ap (ranked_at room) (sym r.rank) ∙ a.ranked, r.number, parts_more d s, end_in)

    pub block_on : k < end → block_at room (ranked_at room k) ≡ b → k + 1 ≤ to
    block_on u e =
        ⊎_elim (λ (v : k < to). omega arith)
        (λ (v : to ≤ k). absurd (rank_outside d room q.sound.ready.tabled s q.stage b k v u e))
        (lt_or_ge k to)

    pub block_off : k ≤ to → (block_at room (ranked_at room k) ≡ b → ⊥) → k ≡ to
    block_off u h =
        ⊎_elim (λ (v : k < to). absurd (h (rank_inside d room q.sound.ready.tabled s q.stage b k (omega (arith, q.first)) v)))
        (λ (v : to ≤ k). omega arith)
        (lt_or_ge k to)

    -- ---- and among the parts of the block
    module _ (u : k < to) where
      abbrev j : ℕ
      j = k - from

      abbrev i : ℕ
      i = get_or xs j 0

      j-lt : j < length xs
      j-lt = omega (arith, parts_are)

      part_in : ranked_at room k < parts_of d
      part_in = rank_in (omega (arith, to_in))

      part-row : ranked_at room k ≡ parts_before d s + i
      part-row =
          let e : k ≡ first_rank d s b + j = omega (arith, q.first) in
          ap (ranked_at room) e ∙ row_at_lem d room q.sound.ready.tabled s q.stage b j j-lt

      mark-same : last_mark to k ≡ last_mark (length xs) j
      mark-same =
          ⊎_elim (λ (e : k + 1 ≡ to). step.mark_last to k e ∙ sym (step.mark_last (length xs) j (omega (arith, parts_are))))
          (λ (h : k + 1 ≡ to → ⊥). step.mark_more to k h ∙ sym (step.mark_more (length xs) j (λ e. h (omega (arith, parts_are)))))
          (same_or (k + 1) to)

      part_words_lem : row_script d room (ranked_at room k) (last_mark to k) ≡ words_of_part (plan_lanes d) d s i (last_mark (length xs) j)
      unfolding words_of_part
      part_words_lem =
          let a = q.sound.ready.tabled.allotted s i q.stage (part_at d s b (count_at d s) j j-lt).number in
          ap₂ (λ (p m : ℕ). row_script d room p m) part-row mark-same
          ∙ ap₂ (λ (x y : ℕ). part_script (plan_lanes d) d (parts_before d s + i) (last_mark (length xs) j) x y) a.state-start a.sram-start

      next-count : k + 1 - from ≡ j + 1
      next-count = omega arith

      words_more : parts_words (plan_lanes d) d s xs (k + 1 - from) ≡ parts_words (plan_lanes d) d s xs j ++ words_of_part (plan_lanes d) d s i (last_mark (length xs) j)
      words_more = ap (parts_words (plan_lanes d) d s xs) next-count ∙ step.parts_more (plan_lanes d) d s xs j

      -- the words after one part more
      module _ (at next : ℕ) (is : next ≡ at + length (parts_words (plan_lanes d) d s xs j)) where
        part_next : next + length_of (plan_lanes d) d (ranked_at room k) ≡ at + length (parts_words (plan_lanes d) d s xs (k + 1 - from))
        part_next =
            omega (
              arith,
              is,
              ap length words_more ∙ length-append (parts_words (plan_lanes d) d s xs j) (words_of_part (plan_lanes d) d s i (last_mark (length xs) j)),
              part_length (plan_lanes d) d (omega (arith, lanes_range d)) (lanes_even d) s i (last_mark (length xs) j),
              ap (length_of (plan_lanes d) d) part-row,
            )

        part-stored : (l l₁ l₂ : List ℕ) (p mark : ℕ) → p ≡ ranked_at room k → mark ≡ last_mark to k → l₁ ≡ sets l at (parts_words (plan_lanes d) d s xs j)
            → l₂ ≡ sets l₁ next (row_script d room p mark) → l₂ ≡ sets l at (parts_words (plan_lanes d) d s xs (k + 1 - from))
        part-stored l l₁ l₂ p mark e m a c =
            sets-next l l₁ l₂ (parts_words (plan_lanes d) d s xs j) (words_of_part (plan_lanes d) d s i (last_mark (length xs) j)) at next a is
            (c ∙ ap (sets l₁ next) (ap₂ (row_script d room) e m ∙ part_words_lem))
            ∙ ap (sets l at) (sym words_more)

        part_room : (m : ℕ) → at + length (block_words (plan_lanes d) d s xs) ≤ m → PartRoom d room (ranked_at room k) next m
        part_room m fits =
            let few : k + 1 - from ≤ length xs = omega (arith, parts_are) in
            let most : length (parts_words (plan_lanes d) d s xs (k + 1 - from)) ≤ length (parts_words (plan_lanes d) d s xs (length xs)) =
            grown_le (parts_words (plan_lanes d) d s xs) (λ x. words_of_part (plan_lanes d) d s (get_or xs x 0) (last_mark (length xs) x))
            (λ x. ap (parts_words (plan_lanes d) d s xs) (sym (add-one x)) ∙ step.parts_more (plan_lanes d) d s xs x) (length xs) (k + 1 - from) few
            in
            record {
              sound = q.sound;
              part = part_in;
              fits = omega (arith, part_next, most, ap length (step.parts_all (plan_lanes d) d s xs (omega (arith, j-lt))));
            }

        -- the same, in a room that is as it was, of part p that its row names
        module _ (room₁ : List ℕ) (same : room₁ ≡ room) (p : ℕ) (named : p ≡ ranked_at room₁ k) (old new : List ℕ) (stored : new ≡ sets old at (parts_words (plan_lanes d) d s xs j)) where
          ranked : p ≡ ranked_at room k
          ranked = named ∙ ap (λ (r : List ℕ). ranked_at r k) same

          pub turn_room : at + length (block_words (plan_lanes d) d s xs) ≤ length old → PartRoom d room₁ p next (length new)
          turn_room fits = rw (same, ranked) (part_room (length new) (omega (arith, stores_length old new at (parts_words (plan_lanes d) d s xs j) stored)))

          pub turn_next : (end : ℕ) → end ≡ next + length_of (plan_lanes d) d p → end ≡ at + length (parts_words (plan_lanes d) d s xs (k + 1 - from))
          turn_next end e = e ∙ ap (λ (x : ℕ). next + length_of (plan_lanes d) d x) ranked ∙ part_next

          pub turn_stored : (l₂ : List ℕ) (mark : ℕ) → mark ≡ last_mark to k → l₂ ≡ sets new next (row_script d room₁ p mark)
              → l₂ ≡ sets old at (parts_words (plan_lanes d) d s xs (k + 1 - from))
          turn_stored l₂ mark m e = part-stored old new l₂ p mark ranked m stored (e ∙ ap (λ (r : List ℕ). sets new next (row_script d r p mark)) same)

  -- before the first part, and after the last
  pub none_stored : (l : List ℕ) (at : ℕ) → l ≡ sets l at (parts_words (plan_lanes d) d s xs (from - from))
  none_stored l at =
      let e : from - from ≡ 0 = omega arith in
      sym (ap (sets l at) (ap (parts_words (plan_lanes d) d s xs) e ∙ step.parts_none (plan_lanes d) d s xs))

  pub none_long : (at : ℕ) → at ≡ at + length (parts_words (plan_lanes d) d s xs (from - from))
  none_long at =
      let e : from - from ≡ 0 = omega arith in
      omega (arith, ap length (ap (parts_words (plan_lanes d) d s xs) e ∙ step.parts_none (plan_lanes d) d s xs))

  pub all_words : (k : ℕ) → from < to → k ≡ to → parts_words (plan_lanes d) d s xs (k - from) ≡ block_words (plan_lanes d) d s xs
  all_words k u e =
      let c : k - from ≡ length xs = omega (arith, parts_are) in
      ap (parts_words (plan_lanes d) d s xs) c ∙ step.parts_all (plan_lanes d) d s xs (omega (arith, parts_are))

  -- a block without parts
  module _ (u : to ≤ from) where
    empty-words : block_words (plan_lanes d) d s xs ≡ empty_words (plan_lanes d)
    unfolding empty_words
    empty-words = step.block_none (plan_lanes d) d s xs (omega (arith, parts_are))

    empty-long : length (block_words (plan_lanes d) d s xs) ≡ plan_lanes d
    empty-long = empty_length (plan_lanes d) d (omega (arith, lanes_range d)) (lanes_even d) s xs (omega (arith, parts_are))

    -- n words, as many as the plan has lanes
    module _ (at n : ℕ) (lanes : n ≡ plan_lanes d) (l : List ℕ) (fits : at + length (block_words (plan_lanes d) d s xs) ≤ length l) where
      pub empty_next : at + n ≡ at + length (block_words (plan_lanes d) d s xs)
      empty_next = omega (arith, empty-long)

      pub empty_in_lem : at + n ≤ length l
      empty_in_lem = omega (arith, empty_next)

      pub empty_room : 2 ≤ length (take (at + n - at) (drop at l))
      empty_room = omega (arith, mid_len at (at + n) l empty_in_lem, lanes_range d)

      pub empty_stored : (z : List ℕ) → length z ≡ length (take (at + n - at) (drop at l)) → z ≡ empty_words (length (take (at + n - at) (drop at l)))
          → put_mid at (at + n - at) l z ≡ sets l at (block_words (plan_lanes d) d s xs)
      empty_stored z kept e =
          let words : length (take (at + n - at) (drop at l)) ≡ plan_lanes d = mid_len at (at + n) l empty_in_lem ∙ omega arith in
          put_sets l at (at + n - at) z (omega (arith, empty_in_lem)) (kept ∙ mid_len at (at + n) l empty_in_lem) ∙ ap (sets l at) (e ∙ ap empty_words words ∙ sym empty-words)
