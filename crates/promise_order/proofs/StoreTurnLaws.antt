-- A run of stores, word by word; and a part's store turn: it leaves the words that the part does not store, and puts `store_word` into the others.
-- Assumes nothing.
use mathlib.Core.Path.{◌≡◌, refl, sym, ap, ◌∙◌}
use mathlib.Core.List.{List, [], ◌∷◌}
use mathlib.Core.Logic.{⊎_elim}
use Prim.Native.Nat.{ℕ, zero, suc, ◌+◌, ◌-◌, ◌≤◌, ◌<◌}
use native.Mathlib.Nat.{add-zero}
use native.Mathlib.Omega.{arith}
use borrow.Author.Tests.{leb-true, ltb-true, le-leb, lt-ltb}
use lib.Dec.{leb, ltb}
use lib.ListN.{length, get_or, set, length-set}
use lib.Seq.{get_or-set_same, get_or-set_other, sets, length-sets}
use Rattle.words.specs.Section.{list_of}
use Rattle.words.proofs.BitLaws.{lt_or_ge}
use Rattle.words.proofs.SectionLaws.{length_list_of, get_d_list_of}
use Rattle.words.proofs.TestLaws.{and_true, true_and}
use Rattle.run_machine.specs.Part.{start_at, normal_at}
use Rattle.run_machine.specs.Turn.{stored_word}
use Rattle.promise_order.specs.Order.{Stores, stores_at, store_word}

pub sets_other : (l : List ℕ) (i : ℕ) (vs : List ℕ) (w : ℕ) → (i ≤ w → i + length vs ≤ w) → get_or (sets l i vs) w 0 ≡ get_or l w 0
sets_other l i [] w h = refl
sets_other l i (v ∷ vs) w h =
    sets_other (set l i v) (suc i) vs w (λ k. omega (arith, h (omega arith))) ∙ get_or-set_other l i w v 0 (λ e. omega (arith, h (omega arith)))

pub sets_same : (l : List ℕ) (i : ℕ) (vs : List ℕ) (k : ℕ) → k < length vs → i + k < length l → get_or (sets l i vs) (i + k) 0 ≡ get_or vs k 0
sets_same l i [] k h f = absurd (omega arith)
sets_same l i (v ∷ vs) zero h f = rw add-zero (sets_other (set l i v) (suc i) vs i (λ k. absurd (omega arith)) ∙ get_or-set_same l i v 0 (omega arith))
sets_same l i (v ∷ vs) (suc k) h f =
    let e : i + suc k ≡ suc i + k = omega arith in
    ap (λ (j : ℕ). get_or (sets (set l i v) (suc i) vs) j 0) e ∙ sets_same (set l i v) (suc i) vs k (omega arith) (omega (arith, length-set l i v))

-- ---- the words that a part stores

module _ (W : List ℕ) (o w : ℕ) where
  pub stores_from : Stores W o w → start_at W o ≤ w
  unfolding stores_at
  stores_from h = leb-true _ _ (and_true (leb (start_at W o) w) (ltb w (start_at W o + normal_at W o)) h).0

  pub stores_until : Stores W o w → w < start_at W o + normal_at W o
  unfolding stores_at
  stores_until h = ltb-true w (start_at W o + normal_at W o) (and_true (leb (start_at W o) w) (ltb w (start_at W o + normal_at W o)) h).1

  pub stores_in : start_at W o ≤ w → w < start_at W o + normal_at W o → Stores W o w
  unfolding stores_at
  stores_in h k = true_and _ _ (le-leb _ _ h) (lt-ltb w (start_at W o + normal_at W o) k)

  -- in a state that has room for them
  pub stores_below : (t : ℕ) → Stores W o w → (0 < normal_at W o → start_at W o + normal_at W o ≤ t) → w < t
  stores_below t st h = omega (arith, stores_from st, stores_until st, h (omega (arith, stores_from st, stores_until st)))

module _ (n : ℕ) (W : List ℕ) (o : ℕ) (old caps : List ℕ) where
  pub store_at : (l : ℕ) → store_word n W o old caps (start_at W o + l) ≡ stored_word n W o old caps l
  unfolding store_word
  store_at l = let e : start_at W o + l - start_at W o ≡ l = omega arith in ap (stored_word n W o old caps) e

  -- ---- a part's store turn

  abbrev values : List ℕ
  values = list_of (stored_word n W o old caps) (normal_at W o)

  abbrev pub putPart : List ℕ → List ℕ
  putPart m = sets m (start_at W o) values

  pub put_size : (m : List ℕ) → length (putPart m) ≡ length m
  put_size m = length-sets m (start_at W o) values

  long : length values ≡ normal_at W o
  long = length_list_of _ (normal_at W o)

  pub store_other : (m : List ℕ) (w : ℕ) → (Stores W o w → ⊥) → get_or (putPart m) w 0 ≡ get_or m w 0
  store_other m w h = sets_other m (start_at W o) values w (λ k. ⊎_elim
      (λ l. absurd (h (stores_in W o w k l)))
      (λ l. omega (arith, long))
      (lt_or_ge w (start_at W o + normal_at W o)))

  pub store_same : (m : List ℕ) (w : ℕ) → Stores W o w → w < length m → get_or (putPart m) w 0 ≡ store_word n W o old caps w
  unfolding store_word
  store_same m w st h =
      let l = w - start_at W o in
      let is : start_at W o + l ≡ w = omega (arith, stores_from W o w st) in
      let fits : l < normal_at W o = omega (arith, stores_from W o w st, stores_until W o w st) in
      ap (λ (x : ℕ). get_or (putPart m) x 0) (sym is)
      ∙ sets_same m (start_at W o) values l (omega (arith, long)) (omega arith)
      ∙ get_d_list_of (stored_word n W o old caps) (normal_at W o) l fits
