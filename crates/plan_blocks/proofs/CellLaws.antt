-- The part table: what a cell holds after the cells of one word of some rows were put.
-- Assumes nothing.
use mathlib.Core.Path.{◌≡◌, refl, ap, ap₂, ◌∙◌}
use mathlib.Core.Logic.{⊎_elim}
use mathlib.Core.List.{List}
use Prim.Native.Nat.{ℕ, zero, suc, ◌+◌, ◌≤◌, ◌<◌}
use native.Mathlib.Numerals.{add-one}
use native.Mathlib.Omega.{arith}
use lib.ListN.{length, get_or, set, length-set}
use lib.Seq.{get_or-set_same, get_or-set_other}
use Rattle.words.proofs.BitLaws.{lt_or_ge}
use Rattle.plan_rows.specs.Rows.{cell}
use Rattle.plan_blocks.specs.TableFill.{put_cells}

-- two cells are the same only where row and word are
pub cell_same : (p q k j : ℕ) → k < 16 → j < 16 → cell p k ≡ cell q j → (p ≡ q) × (k ≡ j)
cell_same p q k j a b e = (omega arith, omega arith)

module _ (room : List ℕ) (k : ℕ) (row value : ℕ → ℕ) where
  pub put_none : put_cells room k row value 0 ≡ room
  unfolding put_cells
  put_none = refl

  pub put_more : (n : ℕ) → put_cells room k row value (n + 1) ≡ set (put_cells room k row value n) (cell (row n) k) (value n)
  unfolding put_cells
  put_more n = rw add-one

  pub put_long : (n : ℕ) → length (put_cells room k row value n) ≡ length room
  unfolding put_cells
  put_long zero = refl
  put_long (suc n) = length-set (put_cells room k row value n) _ _ ∙ put_long n

  -- what was not put is as it was
  pub put_other : (n x : ℕ) → ((i : ℕ) → i < n → x ≡ cell (row i) k → ⊥) → get_or (put_cells room k row value n) x 0 ≡ get_or room x 0
  unfolding put_cells
  put_other zero x h = refl
  put_other (suc n) x h =
      get_or-set_other (put_cells room k row value n) (cell (row n) k) x _ 0 (h n (omega arith)) ∙ put_other n x (λ i l. h i (omega arith))

  -- what was put last stands there
  pub put_here : (n i : ℕ) → i < n → cell (row i) k < length room → ((j : ℕ) → i < j → j < n → row j ≡ row i → ⊥)
      → get_or (put_cells room k row value n) (cell (row i) k) 0 ≡ value i
  unfolding put_cells
  put_here zero i l u h = absurd (omega arith)
  put_here (suc n) i l u h = ⊎_elim (λ g. before g (put_here n i g u (λ j a b. h j a (omega arith)))) last (lt_or_ge i n)
    where
      before : i < n → get_or (put_cells room k row value n) (cell (row i) k) 0 ≡ value i → get_or (put_cells room k row value (suc n)) (cell (row i) k) 0 ≡ value i
      before g r =
          get_or-set_other (put_cells room k row value n) (cell (row n) k) (cell (row i) k) _ 0 (λ e. h n g (omega arith) (omega arith))
          ∙ r

      last : n ≤ i → get_or (put_cells room k row value (suc n)) (cell (row i) k) 0 ≡ value i
      last g =
          let e : i ≡ n = omega arith in
          rw e (get_or-set_same (put_cells room k row value n) (cell (row n) k) _ 0 (omega (arith, put_long n, ap row e)))

  -- another word of any row
  pub put_word : (n p j : ℕ) → k < 16 → j < 16 → (j ≡ k → ⊥) → get_or (put_cells room k row value n) (cell p j) 0 ≡ get_or room (cell p j) 0
  put_word n p j a b h = put_other n (cell p j) (λ i l e. h (cell_same p (row i) j k b a e).1)

  -- words before the table
  pub put_low : (n x : ℕ) → x < 65536 → get_or (put_cells room k row value n) x 0 ≡ get_or room x 0
  put_low n x h = put_other n x (λ i l e. omega arith)

pub put_ext : (room : List ℕ) (k : ℕ) (row row' value value' : ℕ → ℕ) (n : ℕ) → ((i : ℕ) → i < n → row i ≡ row' i)
    → ((i : ℕ) → i < n → value i ≡ value' i) → put_cells room k row value n ≡ put_cells room k row' value' n
unfolding put_cells
put_ext room k row row' value value' zero h g = refl
put_ext room k row row' value value' (suc n) h g =
    cc (put_ext room k row row' value value' n (λ i l. h i (omega arith)) (λ i l. g i (omega arith)), h n (omega arith), g n (omega arith))

pub put_cong : (room room' : List ℕ) (k : ℕ) (row row' value value' : ℕ → ℕ) (n n' : ℕ) → room ≡ room' → n ≡ n' → ((i : ℕ) → i < n → row i ≡ row' i)
    → ((i : ℕ) → i < n → value i ≡ value' i) → put_cells room k row value n ≡ put_cells room' k row' value' n'
put_cong room room' k row row' value value' n n' e q h g =
    put_ext room k row row' value value' n h g ∙ ap₂ (λ (r : List ℕ) (m : ℕ). put_cells r k row' value' m) e q
