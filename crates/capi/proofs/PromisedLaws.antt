-- Demand 3 of the exported run: the number 0 was no refusal, so the answer is a run, and the promise is kept by what it leaves.
-- Assumes nothing.
use mathlib.Core.Path.{◌≡◌, sym, ap, ap₂, ◌∙◌}
use mathlib.Core.Bool.{Bool, true, false}
use mathlib.Core.Option.{Option, none, some}
use mathlib.Core.List.{List, [], ◌∷◌}
use Prim.Native.Nat.{ℕ, ◌*◌, ◌-◌, ◌<◌}
use native.Mathlib.Omega.{arith}
use lib.Dec.{leb}
use lib.ListN.{length}
use Rattle.words.specs.Answer.{Answer, refused, at_item, nowhere, handed}
use Rattle.words.specs.Edition.{known, levels_for}
use Rattle.words.specs.declared.refusals.Refusal.{Refusal}
use Rattle.words.proofs.AnswerLaws.{refused_good, handed_zero}
use Rattle.run_machine.specs.Room.{block_room}
use Rattle.run_machine.specs.Run.{Ran, ran, run_answer, new_after, all_left, bad_block, bad_turn, run_turns}
use Rattle.promise.proofs.PromiseLaws.{as_run}
use Rattle.capi.specs.Exported.{turn_count}
use Rattle.capi.specs.Promised.{Promised}

-- refusals have a number
some_number : (n i : ℕ) (q : Refusal) → ◌≡◌ {A = Answer Ran} (refused (at_item n i)) (refused q) → 0 < n → 0 < q.number
some_number n i q e h =
    let s : at_item n i ≡ q = cc in
    let m : n ≡ q.number = ap (λ (x : Refusal). x.number) s in
    omega arith

numbered : (fits edition : Bool) (block turn : Option ℕ) (k : ℕ) (new : List ℕ) (q : Refusal)
    → ◌≡◌ {A = Answer Ran}
    (elim fits [
      | false ↦ refused (nowhere 32)
      | true ↦ elim edition [ false ↦ refused (nowhere 29) | true ↦ elim block [ some i ↦ refused (at_item 15 i) | none ↦ elim turn [ some i ↦ refused (at_item 16 i) | none ↦ ran k new ] ] ]
    ])
    (refused q)
    → 0 < q.number
numbered false edition block turn k new q e = some_number 32 0 q e (omega arith)
numbered true false block turn k new q e = some_number 29 0 q e (omega arith)
numbered true true (some j) turn k new q e = some_number 15 j q e (omega arith)
numbered true true none (some j) k new q e = some_number 16 j q e (omega arith)
numbered true true none none k new q e = refused_good q _ (sym e)

module _ (W starts turns old new : List ℕ) (room edition : ℕ) where
  abbrev is : Answer Ran
  is = run_answer edition (levels_for edition) W starts turns old new room

  refused-some : (q : Refusal) → is ≡ refused q → 0 < q.number
  unfolding run_answer
  refused-some q e =
      let x = run_turns edition (levels_for edition) W starts turns old new in
      numbered (leb (block_room * (length starts - 1)) room) (known edition) (bad_block edition W starts (length old) (length new)) (bad_turn starts turns)
      (all_left edition W x.blocks) x.new q e

  pub promised : (number left second : ℕ) (after : List ℕ) → (number ∷ left ∷ second ∷ []) ≡ handed 2 turn_count is → after ≡ new_after is new
      → Promised W starts old new edition number left after
  unfolding Promised new_after
  promised number left second after told made d t accepted stage words begins old-size new_size lanes none-refused none_left =
      let zeros : (0 ∷ 0 ∷ second ∷ []) ≡ handed 2 turn_count is = cc in
      let (x, e) = handed_zero 2 turn_count is (0 ∷ second ∷ []) refused-some zeros in
      let numbers : (0 ∷ 0 ∷ second ∷ []) ≡ 0 ∷ x.left ∷ 0 ∷ [] = rw e at zeros in
      let finished : x.left ≡ 0 = cc in
      let state : x.new ≡ after = sym (rw e at made) in
      as_run d t turns old new after room accepted stage old-size new_size (rw (← words, ← begins, ← lanes) (e ∙ ap₂ (λ (k : ℕ) (w : List ℕ). ran k w) finished state))
