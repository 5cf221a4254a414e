-- Where a pin's state bit stands: document 01, "The script of a part" (look-ups).
-- Assumes nothing.
use Rattle.std.specs.Prelude.{Bool, true, false, ◌&&◌, List, ℕ, zero, suc, eqb}
use Rattle.std.proofs.Math.Option.{Option, none, some}
use Rattle.plan_record.specs.Record.{layout_of, layout_pin, positions_of, position_pin, position_state, position_staged}

-- the highest number below n that f holds of: "later entries winning"
unfoldable pub last_below : (ℕ → Bool) → ℕ → Option ℕ
last_below f zero = none
last_below f (suc n) = elim (f n) [ true ↦ some n | false ↦ last_below f n ]

-- a planned position: staged or not, and the bit's number in the state
pub record Planned : Type 0 where
  pub staged : ℕ
  pub place : ℕ

-- the last entry of the input layout, and of the positions with a mark, that has pin x
unfoldable pub in_layout : List ℕ → ℕ → Option ℕ
in_layout d x = last_below (λ i. eqb (layout_pin d i) x) (layout_of d)

unfoldable pub in_positions : List ℕ → ℕ → ℕ → Option ℕ
in_positions d k x = last_below (λ i. eqb (position_staged d i) k && eqb (position_pin d i) x) (positions_of d)

-- "A pin is looked up in the input map (input layout, then unstaged positions, later entries winning), then in the staged ones likewise."
unfoldable pub planned : List ℕ → ℕ → Option Planned
planned d x =
    elim (in_positions d 0 x) [
      | some i ↦ some (record { staged = 0; place = position_state d i })
      | none ↦
          elim (in_layout d x) [
            | some i ↦ some (record { staged = 0; place = i })
            | none ↦ elim (in_positions d 1 x) [ some i ↦ some (record { staged = 1; place = position_state d i }) | none ↦ none ]
          ]
    ]
