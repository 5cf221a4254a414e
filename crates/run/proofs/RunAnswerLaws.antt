-- The run that is not refused, put together from its steps, and one law for each way out.
-- Assumes nothing.
use mathlib.Core.Path.{◌≡◌, sym, ap, subst, ◌∙◌}
use mathlib.Core.Bool.{true, false}
use mathlib.Core.Option.{none, some}
use mathlib.Core.List.{List}
use Prim.Native.Nat.{ℕ, ◌+◌, ◌*◌, ◌-◌, ◌/◌, ◌≤◌, ◌<◌}
use native.Mathlib.Omega.{arith}
use borrow.Author.Tests.{le-leb, lt-leb, ltb-true}
use lib.Dec.{leb, ltb}
use lib.ListN.{length, get_or, replicate}
use Rattle.words.specs.Answer.{result_of, at_item, nowhere}
use Rattle.words.specs.Edition.{known, levels_for}
use Rattle.words.specs.Tests.{first_not}
use Rattle.words.proofs.TestLaws.{not_none}
use Rattle.words.proofs.EditionLaws.{known_number}
use Rattle.run_machine.specs.Turn.{Block}
use Rattle.run_machine.specs.Room.{block_room}
use Rattle.run_machine.specs.Run.{Running, blocks_from, run_from, run_turns, all_left, bad_block, bad_turn, block_form, Ran, run_answer, new_after, run_room_after}
use Rattle.run_machine.proofs.PartWellLaws.{lanes_of_lem}
use Rattle.run_form.proofs.RefuseLaws.{block_good}
use Rattle.std.specs.declared.result.Result.{Result}
use Rattle.std.specs.Prelude.{Ok, Err}
use Rattle.words.specs.declared.refusals.Refusal.{Refusal}
use Rattle.run.specs.States.{blocks_in, running}
use Rattle.run.specs.LeftInForm.{LeftInForm, AllLeftInForm, RunAccepted, Beginnings}
use Rattle.run.proofs.StateLaws.{begun_at}
use Rattle.run.proofs.LeftInFormLaws.{BlockAt, block_at_lem, begins_good}

-- ---- a run that is not refused

module _ (n : ℕ) (W starts turns : List ℕ) (s t : ℕ) (room : List ℕ) (a : RunAccepted n W starts turns s t room) where
  at : (b : ℕ) → b < length starts - 1 → BlockAt n W s t (get_or starts b 0) (get_or starts (b + 1) 0)
  at b l = block_at_lem n a.lanes W s t (get_or starts b 0) (get_or starts (b + 1) 0) (a.blocks b l)

  pub beginnings : (m : ℕ) → m ≡ length starts - 1 → Beginnings W starts m room
  beginnings m e = record { count = omega arith; wide = omega (arith, a.wide); inside = λ b l. omega (arith, (at b (omega arith)).order, (at b (omega arith)).within) }

  module _ (room₁ : List ℕ) (long : length room₁ ≡ length room) (m : ℕ) (e : m ≡ length starts - 1) (begun : blocks_in n W room₁ m 0 ≡ blocks_from W starts m 0) where
    pub goods_begun : AllLeftInForm n W starts s t room₁
    goods_begun = record {
      wide = omega (arith, a.wide);
      each = λ b l. subst (LeftInForm n W s t (get_or starts b 0) (get_or starts (b + 1) 0)) (sym (begun_at n W starts room₁ m begun b (omega arith)))
          (begins_good n W s t (get_or starts b 0) (get_or starts (b + 1) 0) (get_or starts b 0) (omega (arith, (at b l).order)) (at b l).within (omega arith) (at b l).parts);
    }

    module _ (old new room₂ new₂ : List ℕ) (ran : running n W (length starts - 1) room₂ new₂ ≡ run_from n (levels_for n) W old (running n W (length starts - 1) room₁ new) turns) where
      run_is : running n W (length starts - 1) room₂ new₂ ≡ run_turns n (levels_for n) W starts turns old new
      run_is = ran ∙ ap (λ (bs : List Block). run_from n (levels_for n) W old (record { blocks = bs; new = new }) turns) (subst (λ (k : ℕ). blocks_in n W room₁ k 0 ≡ blocks_from W starts k 0) e begun)

      pub run_left : (x : ℕ) → x ≡ all_left n W (blocks_in n W room₂ m 0) → x ≡ all_left n W (run_turns n (levels_for n) W starts turns old new).blocks
      run_left x h = h ∙ ap (λ (k : ℕ). all_left n W (blocks_in n W room₂ k 0)) e ∙ ap (λ (r : Running). all_left n W r.blocks) run_is

      pub run_new : new₂ ≡ (run_turns n (levels_for n) W starts turns old new).new
      run_new = ap (λ (r : Running). r.new) run_is

-- ---- a room that is cleared

pub again : (n : ℕ) (u v : List ℕ) → v ≡ replicate (length u) 0 → length u ≡ n → v ≡ replicate n 0
again n u v e l = e ∙ ap (λ (k : ℕ). replicate k 0) l

-- ---- what the search for a bad block says

blocks_good : (n : ℕ) (W starts : List ℕ) (s t : ℕ) → bad_block n W starts s t ≡ none → (b : ℕ) → b < length starts - 1 → block_form n W s t (get_or starts b 0) (get_or starts (b + 1) 0) ≡ true
unfolding bad_block
blocks_good n W starts s t h b l = not_none (block_good n W starts s t) (length starts - 1) (is ∙ h) b l
  where
    two : leb 2 (length starts) ≡ true
    two = le-leb 2 (length starts) (omega arith)

    is : first_not (block_good n W starts s t) (length starts - 1) ≡ bad_block n W starts s t
    is = rw (two, bad_block)

-- ---- the ways out

module _ (n : ℕ) (W starts turns old new room : List ℕ) where
  -- the answer, the new state and the room
  abbrev pub Told : Result ℕ Refusal → List ℕ → List ℕ → Type 0
  Told r new' room' =
      (r ≡ result_of (λ (x : Ran). x.left) (run_answer n (levels_for n) W starts turns old new (length room)))
      × ((new' ≡ new_after (run_answer n (levels_for n) W starts turns old new (length room)) new) × (room' ≡ run_room_after starts room))

  pub told_short : (m : ℕ) → m ≡ length starts - 1 → length room / block_room < m → (r : Result ℕ Refusal) → r ≡ Err (nowhere 32) → Told r new room
  unfolding run_answer new_after run_room_after
  told_short m few h r e =
      let short : leb (block_room * (length starts - 1)) (length room) ≡ false = lt-leb (block_room * (length starts - 1)) (length room) (omega arith) in
      (e ∙ rw (short, run_answer), (rw (short, run_answer), rw (short, run_room_after)))

  module _ (m : ℕ) (few : m ≡ length starts - 1) (h : m ≤ length room / block_room) (room' : List ℕ) (zeros : room' ≡ replicate (length room) 0) where
    fits : leb (block_room * (length starts - 1)) (length room) ≡ true
    fits = le-leb (block_room * (length starts - 1)) (length room) (omega arith)

    clear : room' ≡ run_room_after starts room
    unfolding run_room_after
    clear = zeros ∙ rw (fits, run_room_after)

    pub told_edition : known n ≡ false → (r : Result ℕ Refusal) → r ≡ Err (nowhere 29) → Told r new room'
    unfolding run_answer new_after
    told_edition k r e = (e ∙ rw (fits, k, run_answer), (rw (fits, k, run_answer), clear))

    module _ (k : known n ≡ true) where
      pub told_block : (i : ℕ) → bad_block n W starts (length old) (length new) ≡ some i → (r : Result ℕ Refusal) → r ≡ Err (at_item 15 i) → Told r new room'
      unfolding run_answer new_after
      told_block i b r e = (e ∙ rw (fits, k, b, run_answer), (rw (fits, k, b, run_answer), clear))

      module _ (b : bad_block n W starts (length old) (length new) ≡ none) where
        pub told_turn : (i : ℕ) → bad_turn starts turns ≡ some i → (r : Result ℕ Refusal) → r ≡ Err (at_item 16 i) → Told r new room'
        unfolding run_answer new_after
        told_turn i t r e = (e ∙ rw (fits, k, b, t, run_answer), (rw (fits, k, b, t, run_answer), clear))

        module _ (named : bad_turn starts turns ≡ none) where
          pub told_run : (x : ℕ) (new' : List ℕ) → x ≡ all_left n W (run_turns n (levels_for n) W starts turns old new).blocks → new' ≡ (run_turns n (levels_for n) W starts turns old new).new → Told (Ok x) new' room'
          unfolding run_answer new_after
          told_run x new' e f = (ap Ok e ∙ rw (fits, k, b, named, run_answer), (f ∙ rw (fits, k, b, named, run_answer), clear))

          pub accepted : (room₁ : List ℕ) → length room₁ ≡ length room → RunAccepted n W starts turns (length old) (length new) room₁
          unfolding bad_turn
          accepted room₁ long = record { lanes = lanes_of_lem n (known_number n k); wide = omega arith; blocks = blocks_good n W starts (length old) (length new) b; named = λ i l. ltb-true _ _ (not_none (λ i. ltb (get_or turns i 0) (length starts - 1)) (length turns) named i l) }
