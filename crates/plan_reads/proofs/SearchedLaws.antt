-- What the search's answer and its table say of the outcome; and the table of pins, which has each read pin's winner.
-- Assumes nothing.
use mathlib.Core.Path.{◌≡◌, refl, sym, ap, ap₂, ◌∙◌}
use mathlib.Core.Bool.{Bool, true}
use mathlib.Core.Option.{none, some}
use mathlib.Core.List.{List}
use Prim.Native.Nat.{ℕ, zero, suc, ◌^◌, ◌≤◌, ◌<◌}
use native.Mathlib.Omega.{arith}
use borrow.Author.Tests.{eq-eqb}
use lib.Dec.{eqb}
use lib.ListN.{length, get_or}
use Rattle.reads.specs.ReadSet.{pairs_of}
use Rattle.reads.specs.Search.{Lane, lanes_found, size_found, lanes_of, size_of, longest}
use Rattle.words.specs.Answer.{good, refused}
use Rattle.std.specs.Prelude.{Ok, Err}
use Rattle.std.specs.declared.result.Result.{Result}
use Rattle.words.specs.declared.refusals.Refusal.{Refusal}
use Rattle.reads.specs.SetAnswer.{Packed, packed}
use Rattle.reads.proofs.SearchLaws.{win_none}
use Rattle.reads.proofs.SetAnswerLaws.{placed_lanes, packed_placed, found_packed, Sound, placed_sound}
use Rattle.reads_try.proofs.SetPairLaws.{pairs_length}
use Rattle.reads_try.specs.TableLanes.{lanes_at}
use Rattle.rounds.specs.declared.Placed.{Placed}
use Rattle.rounds.specs.Rounds.{rounds_of, searched_of, table_after, SetSearchable, Solvable}
use Rattle.rounds.proofs.RoundsAnswerLaws.{searchable, is_read, Win, win_of, won_is, won_small}
use Rattle.pinmap.specs.PinMap.{look}
use Rattle.plan_record.specs.Record.{slots_of, level_at}
use Rattle.words.proofs.TestLaws.{some_at}
use Rattle.plan_slots.specs.Slots.{reads_pin}
use Rattle.plan_slots.specs.Puts.{read_puts, filled, found_if}
use Rattle.plan_slots.proofs.PutLaws.{reads_hold, reads_look, filled_length}
use Rattle.plan_winners.specs.Planned.{planned}
use Rattle.plan_winners.specs.Winners.{winner, planned_by, winner_puts}
use Rattle.plan_positions.specs.Places.{planned_table}
use Rattle.plan_winners.proofs.WinnerLaws.{winners_look, planned_winner, by_none, renewals_length}
use Rattle.plan_reads.specs.ReadsReady.{AllPlanned, AllWon, SetInForm}

-- ---- the outcome

pub size_of_lem : (n : ℕ) (ws : List ℕ) (x : Packed) → packed n (pairs_of ws) ≡ good x → size_of n (pairs_of ws) ≡ x.size
unfolding size_found
size_of_lem n ws x e = ap size_found (packed_placed n (pairs_of ws) x e).1

module _ {ws : List ℕ} {t K S n : ℕ} (f : SetInForm ws) (s : Solvable t K S n) (fits : (x : ℕ) → get_or ws x 0 < 2 ^ 32) where
  pub in_search : SetSearchable ws t K S n
  in_search = searchable s f.few f.form fits

  some_words : (lanes : List Lane) → lanes_of n (pairs_of ws) ≡ some lanes → length ws ≡ 0 → ⊥
  unfolding lanes_found
  some_words lanes e z =
      let none-there : length (pairs_of ws) ≡ 0 = omega (arith, pairs_length 0 ws) in
      let q : none ≡ some lanes = sym (ap lanes_found (win_none n (pairs_of ws) 14)) ∙ (rw none-there at e) in
      let x : ◌≡◌ {A = ℕ} 0 1 = cc in
      omega arith

  -- what the search found
  abbrev pub wonBy : List Lane → Packed
  wonBy lanes = record { size = size_of n (pairs_of ws); lanes = lanes }

  pub won_packed : (lanes : List Lane) → lanes_of n (pairs_of ws) ≡ some lanes → packed n (pairs_of ws) ≡ good (wonBy lanes)
  won_packed lanes e =
      let some-there : 0 < length (pairs_of ws) = omega (arith, pairs_length 0 ws, some_words lanes e) in
      found_packed n (pairs_of ws) lanes s.some_lanes some-there e

  pub won_sound : (lanes : List Lane) → lanes_of n (pairs_of ws) ≡ some lanes → Sound n (pairs_of ws) (wonBy lanes)
  won_sound lanes e = placed_sound n ws (wonBy lanes) s.some_lanes fits (is_read n ws 0 f.few f.form ∙ won_packed lanes e)

  module _ (table : List ℕ) (w : Win ws table n) (r : ℕ) (is : r ≡ longest (lanes_at ws table n)) where
    rounds_are : r ≡ longest w.lanes
    rounds_are = is ∙ ap longest w.same

    pub won_few : r ≤ 32
    won_few = omega (arith, rounds_are, (won_sound w.lanes w.found).rounds.1)

    pub won_reads : (k : ℕ) → size_of n (pairs_of ws) ≡ k → Ok (record { rounds = r; size = k }) ≡ rounds_of (packed n (pairs_of ws))
    won_reads k size_is =
        let placed : ℕ → ℕ → Placed = λ a b. record { rounds = a; size = b } in
        rw (won_packed w.lanes w.found) (ap₂ (λ a b. Ok (placed a b)) rounds_are (sym size_is))

  -- the size that is told, and the table with its lanes
  pub searched_win : (table : List ℕ) (r : Result ℕ Refusal) (k : ℕ) → r ≡ searched_of (packed n (pairs_of ws)) → r ≡ Ok k
      → table ≡ table_after n (lanes_of n (pairs_of ws)) → length table ≡ t → Win ws table n × (size_of n (pairs_of ws) ≡ k) × (k ≤ 8192)
  searched_win table r k told e after long =
      let (x, is, size) = won_is _ k (sym told ∙ e) in
      (win_of in_search x.lanes table (placed_lanes n (pairs_of ws) x is) after (long ∙ s.room), size_of_lem n ws x is ∙ size, omega (arith, won_small in_search x is, size))

-- the refusal
pub lost_reads : (n : ℕ) (ws : List ℕ) (q : Refusal) → packed n (pairs_of ws) ≡ refused q → Err q ≡ rounds_of (packed n (pairs_of ws))
lost_reads n ws q e = rw e

-- ---- the table of pins

pub reads_slot : (d : List ℕ) (p j : ℕ) → j < slots_of d → reads_pin d p (level_at d p 0 j) ≡ true
unfolding reads_pin
reads_slot d p j h = some_at (λ i. eqb (level_at d p 0 i) (level_at d p 0 j)) (slots_of d) j h (eq-eqb (level_at d p 0 j) _ refl)

planned_winning : (d : List ℕ) (x : ℕ) → (planned d x ≡ none → ⊥) → 0 < winner d x
planned_winning d x h = go (winner d x) refl
  where
    go : (w : ℕ) → winner d x ≡ w → 0 < w
    go zero e = absurd (h (planned_winner d x ∙ (ap (planned_by d) e ∙ by_none d)))
    go (suc w) e = omega arith

pub pins_won : (d : List ℕ) (p n : ℕ) → 16384 ≤ n → AllPlanned d p → AllWon d p (planned_table d p n)
pins_won d p n h all j l full =
    let x = level_at d p 0 j in
    let there : look (filled n (read_puts d p)) x ≡ some 0 = reads_look d p x n h full ∙ ap (λ (b : Bool). found_if b 0) (reads_slot d p j l) in
    record {
      found = winners_look d (filled n (read_puts d p)) (read_puts d p) x (reads_hold d p n h) there full;
      some-entry = planned_winning d x (all j l full);
    }

pub pins_are : (d : List ℕ) (p : ℕ) (room pins : List ℕ) → pins ≡ planned_table d p (length room) → length room ≡ 32768 → AllPlanned d p → AllWon d p pins
pins_are d p room pins e n all = rw e (pins_won d p (length room) (omega arith) all)

pub pins_length : (d : List ℕ) (p : ℕ) (room pins : List ℕ) → pins ≡ planned_table d p (length room) → length pins ≡ length room
pins_length d p room pins e =
    ap length e ∙ (renewals_length (filled (length room) (read_puts d p)) (winner_puts d) ∙ filled_length (length room) (read_puts d p))
