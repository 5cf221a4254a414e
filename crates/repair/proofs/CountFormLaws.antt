-- Refusal 5's count list: what entering it into an empty map shows.
-- Assumes nothing.
use mathlib.Core.Path.{◌≡◌, refl, sym, ap, ◌∙◌}
use mathlib.Core.Bool.{Bool, true, false, ◌&&◌}
use mathlib.Core.Option.{none, some}
use mathlib.Core.List.{List, []}
use Prim.Native.Nat.{ℕ, ◌+◌, ◌%◌, ◌^◌, ◌≤◌, ◌<◌}
use native.Mathlib.Omega.{arith}
use borrow.Author.Tests.{eq-eqb, ne_eqb, eqb-true, eqb-false}
use lib.Dec.{eqb}
use lib.ListN.{length, get_or, replicate}
use Rattle.pinmap.specs.PinMap.{capacity}
use Rattle.repair_nodes.specs.CountList.{Count, counted, counts_of, nodes_of, count_in, entries_right, counts_right}
use Rattle.repair_nodes.specs.RepairAnswer.{repair_room_words}
use Rattle.repair_nodes.proofs.TwoWordLaws.{pairs_length}
use Rattle.words.proofs.TestLaws.{some_not_none}
use Rattle.repair_tally.specs.Tally.{through, entering, entering_all, MapHolds}
use Rattle.repair_tally.proofs.TallyStepLaws.{all_odd, all_even}
use Rattle.repair_tally.proofs.HeldLaws.{held_zeros}
use Rattle.repair_tally.proofs.WayLaws.{EnterEnd, enter_end}
use Rattle.repair_settle.specs.Settle.{Entered}
use Rattle.repair_settle.proofs.SpotLaws.{count_small}
use Rattle.repair.proofs.RepairAnswerLaws.{room_is}

nothing_before : {b : Bool} (l : List Count) → entries_right (nodes_of []) l ≡ b → entries_right [] l ≡ b
unfolding nodes_of
nothing_before l h = h

module _ (counts map : List ℕ) (zeros : map ≡ replicate (length map) 0) (room : repair_room_words counts ≤ length map) where
  abbrev cs : List Count
  cs = counts_of counts

  start-held : MapHolds map (nodes_of []) (count_in []) 0
  unfolding nodes_of
  start-held = rw zeros (held_zeros (length map) (count_in []))

  start-room : length cs + 16384 ≤ capacity map
  start-room = omega (arith, pairs_length counted counts, room_is counts)

  way : EnterEnd (through entering map cs) [] cs
  way = enter_end [] cs map start-held (omega (arith, start-room))

  even-right : length counts % 2 ≡ 0 → counts_right counts ≡ entries_right [] cs
  unfolding counts_right
  even-right e = ap (λ (b : Bool). b && entries_right [] cs) (eq-eqb (length counts % 2) 0 e)

  odd-right : (length counts % 2 ≡ 0 → ⊥) → counts_right counts ≡ false
  unfolding counts_right
  odd-right n = ap (λ (b : Bool). b && entries_right [] cs) (ne_eqb (length counts % 2) 0 n)

  pub entered_false : entering_all map counts ≡ none → counts_right counts ≡ false
  entered_false e = go (eqb (length counts % 2) 0) refl
    where
      go : (b : Bool) → eqb (length counts % 2) 0 ≡ b → counts_right counts ≡ false
      go false k = odd-right (eqb-false _ _ k)
      go true k =
          let z : length counts % 2 ≡ 0 = eqb-true _ _ k in
          even-right z ∙ nothing_before cs (rw (sym (all_even map counts z) ∙ e) at way)

  pub entered_true : (map₁ : List ℕ) → length map₁ ≡ length map → ((i : ℕ) → get_or counts i 0 < 2 ^ 32) → entering_all map counts ≡ some map₁
      → (counts_right counts ≡ true) × Entered counts map₁
  entered_true map₁ l small e = go (eqb (length counts % 2) 0) refl
    where
      go : (b : Bool) → eqb (length counts % 2) 0 ≡ b → (counts_right counts ≡ true) × Entered counts map₁
      go false k = absurd (some_not_none (sym e ∙ all_odd map counts (eqb-false _ _ k)))
      go true k =
          let z : length counts % 2 ≡ 0 = eqb-true _ _ k in
          let (f, h) = rw (sym (all_even map counts z) ∙ e) at way in
          let g : entries_right [] cs ≡ true = nothing_before cs f in (
            even-right z ∙ g,
            record { even = z; formed = g; words = count_small counts small; held = h; room = omega (arith, start-room) },
          )
