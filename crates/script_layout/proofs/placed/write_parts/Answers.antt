use mathlib.Core.Path.{refl, ap, ◌∙◌}
use mathlib.Core.List.{List}
use Prim.Native.Nat.{ℕ, ◌+◌, ◌-◌, ◌<◌}
use native.Mathlib.Omega.{arith}
use lib.ListN.{length}
use lib.Seq.{sets}
use Rattle.plan_record.specs.Record.{plan_lanes, parts_of}
use Rattle.script_assembly.specs.WrittenSoFar.{last_mark, parts_words, parts_in, first_rank}
use Rattle.script_layout.proofs.RowLaws.{cell_in}
use Rattle.script_layout.proofs.ListStoreLaws.{stores_length, lists_long}
use Rattle.script_layout.proofs.PlacedLaws.{end_in, to_in, turn_room, turn_next, turn_stored, none_stored, none_long, all_words}
use Rattle.script_layout.proofs.placed.write_parts.Goals as goal

pub loop-k-init : goal.loop-k-init
loop-k-init c =
    (refl, none_long c.args.d.now c.args.room.now _ _ _ c.requires.0.place _, none_stored c.args.d.now c.args.room.now _ _ _ c.requires.0.place _ _)

pub cell_at-p-requires : goal.cell_at-p-requires
cell_at-p-requires c =
    let k : c.loop-k.k < first_rank c.args.d.now c.args.s (c.args.b + 1) = omega (arith, c.requires.2, c.loop-k-test.true) in
    let few : c.loop-k.k < parts_of c.args.d.now = omega (arith, k, to_in _ _ _ _ _ c.requires.0.place, end_in _ _ _ _ _ c.requires.0.place) in
    rw c.loop-k.invariant.0 (cell_in _ _ c.requires.0.place.sound _ few _ (omega arith))

pub write_part-next-requires : goal.write_part-next-requires
write_part-next-requires c =
    let k : c.loop-k.k < first_rank c.args.d.now c.args.s (c.args.b + 1) = omega (arith, c.requires.2, c.loop-k-test.true) in (
      turn_room c.args.d.now c.args.room.now _ _ _ c.requires.0.place c.loop-k.k c.loop-k.auto.k k c.args.at c.loop-k.next c.loop-k.invariant.1
          c.loop-k.room c.loop-k.invariant.0 _ c.cell_at-p.ensures c.args.words.now c.loop-k.words c.loop-k.invariant.2 c.requires.0.fits,
      lists_long c.requires.3 c.loop-k.auto.keys c.loop-k.auto.scratch c.loop-k.auto.set,
    )

pub loop-k-preserved : goal.loop-k-preserved
loop-k-preserved c =
    let k : c.loop-k.k < first_rank c.args.d.now c.args.s (c.args.b + 1) = omega (arith, c.requires.2, c.loop-k-test.true) in
    let mark = c.last_mark.ensures ∙ ap (λ (x : ℕ). last_mark x c.loop-k.k) c.requires.2 in (
      c.write_part-next.ensures.room_unchanged ∙ c.loop-k.invariant.0,
      turn_next c.args.d.now c.args.room.now _ _ _ c.requires.0.place c.loop-k.k c.loop-k.auto.k k c.args.at c.loop-k.next c.loop-k.invariant.1 c.loop-k.room c.loop-k.invariant.0 _ c.cell_at-p.ensures c.args.words.now c.loop-k.words c.loop-k.invariant.2 _ c.write_part-next.ensures.value,
      turn_stored c.args.d.now c.args.room.now _ _ _ c.requires.0.place c.loop-k.k c.loop-k.auto.k k c.args.at c.loop-k.next c.loop-k.invariant.1 c.loop-k.room c.loop-k.invariant.0 _ c.cell_at-p.ensures c.args.words.now c.loop-k.words
          c.loop-k.invariant.2 _ _ mark c.write_part-next.ensures.words_after,
    )

pub shape_of-words : goal.shape_of-words
shape_of-words c =
    stores_length c.args.words.now c.loop-k.words c.args.at (parts_words (plan_lanes c.args.d.now) c.args.d.now c.args.s (parts_in c.args.d.now c.args.s c.args.b) (c.loop-k.k - c.args.from)) c.loop-k.invariant.2

pub shape_of-keys : goal.shape_of-keys
shape_of-keys c =
    c.loop-k.auto.keys

pub shape_of-scratch : goal.shape_of-scratch
shape_of-scratch c =
    c.loop-k.auto.scratch

pub shape_of-set : goal.shape_of-set
shape_of-set c =
    c.loop-k.auto.set

pub returns : goal.returns
returns c =
    let e = all_words c.args.d.now c.args.room.now _ _ _ c.requires.0.place c.loop-k.k (omega (arith, c.requires.2)) (omega (arith, c.requires.2)) in
    record { value = c.loop-k.invariant.1 ∙ ap (λ (x : List ℕ). c.args.at + length x) e; room_unchanged = c.loop-k.invariant.0; words_after = c.loop-k.invariant.2 ∙ ap (sets c.args.words.now c.args.at) e }
