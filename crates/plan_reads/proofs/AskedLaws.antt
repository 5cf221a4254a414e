-- The bits that a part asks for: the bit of an entry, of a pin with a winner, and those of the slots.
-- Assumes nothing.
use mathlib.Core.Path.{◌≡◌, refl, sym, ap, ◌∙◌}
use mathlib.Core.Bool.{Bool, true, false}
use mathlib.Core.Option.{Option, none, some}
use mathlib.Core.List.{List, [], ◌∷◌, ◌++◌}
use Prim.Native.Nat.{ℕ, zero, suc, ◌+◌, ◌*◌, ◌^◌, ◌≤◌, ◌<◌}
use native.Mathlib.Omega.{arith}
use lib.Dec.{eqb}
use lib.ListN.{length, length-append}
use Rattle.pinmap.specs.PinMap.{look}
use Rattle.std.specs.Prelude.{unwrap_or}
use Rattle.words.specs.Found.{item_of}
use Rattle.plan_record.specs.Record.{level_at}
use Rattle.words.specs.Pins.{empty}
use Rattle.plan_winners.specs.Planned.{Planned, in_layout, in_positions, planned}
use Rattle.plan_winners.specs.declared.Planned as code
use Rattle.plan_winners.specs.Winners.{winner, planned_by, position_of}
use Rattle.plan_winners.proofs.WinnerLaws.{planned_winner}
use Rattle.plan_reads.specs.PartReads.{or_zero, asked_by, asked_to}
use Rattle.plan_reads.specs.ReadsReady.{planned_number, Narrow, AllNarrow, EntryOf, Won}

-- ---- the bit of an entry

-- entry w gives position x: it is staged or not, and q is the bit that it asks for
module _ (d : List ℕ) (w : ℕ) (e : EntryOf d w) (x : code.Planned) (by : planned_by d w ≡ some (position_of x)) where
  pub entry_mark : x.staged < 2
  entry_mark = omega (arith, e.marked _ by)

  pub entry_bit : (q : ℕ) → q ≡ 2 ^ 36 * x.staged + x.place.0 → x.place.0 < 2 ^ 32 → (q ≡ planned_number (planned_by d w)) × Narrow q
  entry_bit q is small =
      let mark = entry_mark in
      (omega (arith, ap planned_number by), record { small = omega arith; place = omega arith })

-- ---- what a look into the table of pins tells

pub looked_or_zero : (o : Option ℕ) → unwrap_or (item_of o) 0 ≡ or_zero o
looked_or_zero none = refl
looked_or_zero (some v) = refl

-- ---- the bit of a pin with a winner

pub planned_marked : (d : List ℕ) (x : ℕ) (y : Planned) → planned d x ≡ some y → y.staged ≤ 1
unfolding planned
planned_marked d x y h = go (in_positions d 0 x) refl (in_layout d x) refl (in_positions d 1 x) refl
  where
    is : (z : Planned) → some z ≡ some y → z.staged ≤ 1 → y.staged ≤ 1
    is z e s = let q : z ≡ y = cc in rw (← q) s

    go : (a : Option ℕ) → in_positions d 0 x ≡ a → (b : Option ℕ) → in_layout d x ≡ b → (e : Option ℕ) → in_positions d 1 x ≡ e → y.staged ≤ 1
    go (some i) p b q e r = is _ (rw (p, planned) at h) (omega arith)
    go none p (some i) q e r = is _ (rw (p, q, planned) at h) (omega arith)
    go none p none q (some i) r = is _ (rw (p, q, r, planned) at h) (omega arith)
    go none p none q none r =
        let n : none ≡ some y = rw (p, q, r, planned) at h in
        let z : ◌≡◌ {A = ℕ} 0 1 = cc in
        absurd (omega arith)

module _ (d pins : List ℕ) (x : ℕ) (won : Won d pins x) where
  pub won_entry : (w : ℕ) → w ≡ or_zero (look pins x) → EntryOf d w
  won_entry w e =
      let q : w ≡ winner d x = e ∙ ap or_zero won.found in
      rw q (record { some-entry = won.some-entry; marked = λ y h. planned_marked d x y (planned_winner d x ∙ h) })

  pub won_bit : (w r : ℕ) → w ≡ or_zero (look pins x) → (r ≡ planned_number (planned_by d w)) × Narrow r → (r ≡ planned_number (planned d x)) × Narrow r
  won_bit w r e h =
      let q : w ≡ winner d x = e ∙ ap or_zero won.found in
      (h.0 ∙ (ap (λ (k : ℕ). planned_number (planned_by d k)) q ∙ ap planned_number (sym (planned_winner d x))), h.1)

-- ---- the bits of a slot

abbrev pub slot_asks : List ℕ → ℕ → ℕ → List ℕ
slot_asks d p j = asked_by (eqb (level_at d p 0 j) empty) (planned d (level_at d p 0 j))

-- ---- the bits of all slots

pub narrow_append : (a b : List ℕ) → AllNarrow a → AllNarrow b → AllNarrow (a ++ b)
narrow_append [] b f g i l = g i l
narrow_append (x ∷ a) b f g zero l = f zero (omega arith)
narrow_append (x ∷ a) b f g (suc i) l = narrow_append a b (λ k m. f (suc k) (omega arith)) g i (omega arith)

asked_most : (d : List ℕ) (p j : ℕ) → length (slot_asks d p j) ≤ 1
unfolding asked_by
asked_most d p j = go (eqb (level_at d p 0 j) empty) (planned d (level_at d p 0 j))
  where
    go : (b : Bool) (o : Option Planned) → length (asked_by b o) ≤ 1
    go true o = omega arith
    go false none = omega arith
    go false (some x) = omega arith

pub asked_to_few : (d : List ℕ) (p n : ℕ) → length (asked_to d p n) ≤ n
unfolding asked_to
asked_to_few d p zero = omega arith
asked_to_few d p (suc n) = rw length-append (omega (arith, asked_to_few d p n, asked_most d p n))
