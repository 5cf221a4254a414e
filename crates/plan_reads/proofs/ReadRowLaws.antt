-- The rows with the parts' rounds and piece sizes: one part more, and what each cell then holds.
-- Assumes nothing.
use mathlib.Core.Path.{◌≡◌, refl, sym, ap, ◌∙◌}
use mathlib.Core.List.{List}
use Prim.Native.Nat.{ℕ, zero, suc, ◌+◌, ◌<◌}
use native.Mathlib.Omega.{arith}
use lib.ListN.{length, get_or, set}
use lib.Seq.{set_comm}
use Rattle.plan_record.specs.Record.{plan_lanes}
use Rattle.plan_rows.specs.Columns as col
use Rattle.plan_rows.specs.Rows.{cell}
use Rattle.plan_blocks.specs.TableFill.{put_cells}
use Rattle.plan_blocks.proofs.CellLaws.{put_none, put_more, put_long, put_here, put_word, put_low}
use Rattle.plan_reads.specs.PartReads.{part_size}
use Rattle.plan_reads.specs.PartReadAnswers.{rounds_in, read_rows}

-- a word that is none of the cells may be set before or after them
put_set : (room : List ℕ) (k : ℕ) (row value : ℕ → ℕ) (n x v : ℕ) → ((i : ℕ) → i < n → cell (row i) k ≡ x → ⊥)
    → set (put_cells room k row value n) x v ≡ put_cells (set room x v) k row value n
unfolding put_cells
put_set room k row value zero x v h = refl
put_set room k row value (suc n) x v h =
    set_comm (put_cells room k row value n) (cell (row n) k) x (value n) v (h n (omega arith))
    ∙ ap (λ (l : List ℕ). set l (cell (row n) k) (value n)) (put_set room k row value n x v (λ i l. h i (omega arith)))

module _ (d room : List ℕ) where
  -- the rounds alone
  abbrev withRounds : ℕ → List ℕ
  withRounds n = put_cells room col.rounds (λ p. p) (rounds_in d) n

  pub read_none : read_rows d room 0 ≡ room
  read_none = put_none (withRounds 0) col.piece_size (λ p. p) (part_size (plan_lanes d) d) ∙ put_none room col.rounds (λ p. p) (rounds_in d)

  pub read_more : (p : ℕ) → read_rows d room (p + 1) ≡ set (set (read_rows d room p) (cell p col.rounds) (rounds_in d p)) (cell p col.piece_size) (part_size (plan_lanes d) d p)
  read_more p =
      let sizes : List ℕ → List ℕ = λ l. put_cells l col.piece_size (λ q. q) (part_size (plan_lanes d) d) p in
      let before = ap sizes (put_more room col.rounds (λ q. q) (rounds_in d) p) in
      let after = put_set (withRounds p) col.piece_size (λ q. q) (part_size (plan_lanes d) d) p (cell p col.rounds) (rounds_in d p) (λ i l e. omega arith) in
      put_more (withRounds (p + 1)) col.piece_size (λ q. q) (part_size (plan_lanes d) d) p
      ∙ ap (λ (l : List ℕ). set l (cell p col.piece_size) (part_size (plan_lanes d) d p)) (before ∙ sym after)

  pub read_long : (n : ℕ) → length (read_rows d room n) ≡ length room
  read_long n = put_long (withRounds n) col.piece_size (λ p. p) (part_size (plan_lanes d) d) n ∙ put_long room col.rounds (λ p. p) (rounds_in d) n

  -- another word of any row, and words before the table
  pub read_word : (n p k : ℕ) → k < 16 → (k ≡ col.rounds → ⊥) → (k ≡ col.piece_size → ⊥) → get_or (read_rows d room n) (cell p k) 0 ≡ get_or room (cell p k) 0
  read_word n p k b h g =
      put_word (withRounds n) col.piece_size (λ q. q) (part_size (plan_lanes d) d) n p k (omega arith) b g
      ∙ put_word room col.rounds (λ q. q) (rounds_in d) n p k (omega arith) b h

  pub read_low : (n x : ℕ) → x < 65536 → get_or (read_rows d room n) x 0 ≡ get_or room x 0
  read_low n x h = put_low (withRounds n) col.piece_size (λ q. q) (part_size (plan_lanes d) d) n x h ∙ put_low room col.rounds (λ q. q) (rounds_in d) n x h

  -- the two words of a row
  pub read_rounds_lem : (n p : ℕ) → p < n → cell p col.piece_size < length room → get_or (read_rows d room n) (cell p col.rounds) 0 ≡ rounds_in d p
  read_rounds_lem n p l u =
      put_word (withRounds n) col.piece_size (λ q. q) (part_size (plan_lanes d) d) n p col.rounds (omega arith) (omega arith) (λ e. omega arith)
      ∙ put_here room col.rounds (λ q. q) (rounds_in d) n p l (omega arith) (λ j a b e. omega arith)

  pub read_size : (n p : ℕ) → p < n → cell p col.piece_size < length room → get_or (read_rows d room n) (cell p col.piece_size) 0 ≡ part_size (plan_lanes d) d p
  read_size n p l u =
      let there : cell p col.piece_size < length (withRounds n) = omega (arith, put_long room col.rounds (λ q. q) (rounds_in d) n) in
      put_here (withRounds n) col.piece_size (λ q. q) (part_size (plan_lanes d) d) n p l there (λ j a b e. omega arith)
