-- The search, step by step: what the search for room finds has room; fourteen sizes are enough, and the size that wins is the first that does.
-- Assumes nothing.
use mathlib.Core.Path.{◌≡◌, refl, sym, ap, ◌∙◌}
use mathlib.Core.Bool.{Bool, true, false}
use mathlib.Core.Option.{Option, some}
use mathlib.Core.List.{List, []}
use mathlib.Core.Logic.{◌⊎◌, inl, inr, ⊎_elim, ◌↔◌}
use Prim.Native.Nat.{ℕ, zero, suc, ◌+◌, ◌/◌, ◌^◌, ◌≤◌, ◌<◌}
use native.Mathlib.Nat.{zero-lt-suc, not-suc-le-zero, lt_of_le_of_lt, lt_of_lt_of_le, div-one, zero-div}
use native.Mathlib.Numerals.{one-add}
use native.Mathlib.Omega.{arith}
use borrow.Author.Tests.{leb-true}
use lib.Dec.{lit<}
use lib.ListN.{length, get_or}
use lib.Pow.{pow_mono, shr-shr}
use Rattle.words.specs.Round.{next}
use Rattle.words.proofs.RoundLaws.{next_lt}
use Rattle.reads.specs.ReadSet.{Pair, total}
use Rattle.reads.specs.Search.{Lane, Tried, all, stuck, first_room, try, Found, won, ended, first_win, found_of, lanes_found, size_found, lanes_of, size_of}

-- ---- the search for room, lane by lane

-- what is found is a lane, and it has room
pub room_found : (n f : ℕ) (lanes : List Lane) (b j i : ℕ) → j < n → first_room n f lanes b j ≡ some i → (i < n) × (total (get_or lanes i []) + b ≤ 32)
unfolding first_room
room_found n zero lanes b j i h e = let z : ◌≡◌ {A = ℕ} 0 1 = cc in absurd (omega arith)
room_found n (suc f) lanes b j i h e = ⊎_elim
    (λ c. (rw (← c.1) h, rw (← c.1) (leb-true _ _ c.0)))
    (λ c. room_found n f lanes b (next n j) i (next_lt n j h) c)
    (chosen _ j i (first_room n f lanes b (next n j)) e)
  where
    chosen : (t : Bool) (j i : ℕ) (o : Option ℕ) → elim t [ true ↦ some j | false ↦ o ] ≡ some i → ((t ≡ true) × (j ≡ i)) ⊎ (o ≡ some i)
    chosen true j i o e = inl (refl, cc)
    chosen false j i o e = inr e

-- ---- the piece sizes k, k/2, k/4 ..

module _ (n : ℕ) (ps : List Pair) where
  pub win_none : (f : ℕ) → first_win n ps f 0 ≡ ended
  unfolding first_win
  win_none zero = refl
  win_none (suc f) = refl

  pub win_all : (f k : ℕ) (lanes : List Lane) → 0 < k → try n ps k ≡ all lanes → first_win n ps (suc f) k ≡ won k lanes
  unfolding first_win
  win_all f zero lanes h t = absurd (not-suc-le-zero h)
  win_all f (suc k) lanes h t = rw (t, first_win)

  pub win_stuck : (f k : ℕ) (p : Pair) (lanes : List Lane) → 0 < k → try n ps k ≡ stuck p lanes → first_win n ps (suc f) k ≡ first_win n ps f (k / 2)
  unfolding first_win
  win_stuck f zero p lanes h t = absurd (not-suc-le-zero h)
  win_stuck f (suc k) p lanes h t = rw (t, first_win)

  -- more fuel than a size has binary digits changes nothing
  pub win_fuel : (f g k : ℕ) → k < 2 ^ f → k < 2 ^ g → first_win n ps f k ≡ first_win n ps g k
  win_fuel zero g zero h l = win_none zero ∙ sym (win_none g)
  win_fuel zero g (suc k) h l = absurd (omega arith)
  win_fuel (suc f) g zero h l = win_none (suc f) ∙ sym (win_none g)
  win_fuel (suc f) zero (suc k) h l = absurd (omega arith)
  win_fuel (suc f) (suc g) (suc k) h l = go (try n ps (suc k)) refl (win_fuel f g (suc k / 2) (omega arith) (omega arith))
    where
      go : (t : Tried) → try n ps (suc k) ≡ t → first_win n ps f (suc k / 2) ≡ first_win n ps g (suc k / 2)
          → first_win n ps (suc f) (suc k) ≡ first_win n ps (suc g) (suc k)
      go (all lanes) t r = win_all f (suc k) lanes (zero-lt-suc k) t ∙ sym (win_all g (suc k) lanes (zero-lt-suc k) t)
      go (stuck p lanes) t r = win_stuck f (suc k) p lanes (zero-lt-suc k) t ∙ r ∙ sym (win_stuck g (suc k) p lanes (zero-lt-suc k) t)

  -- so fourteen is no bound of its own
  pub found_fuel : (f : ℕ) → length ps ≤ 8192 → 14 ≤ f → first_win n ps f (length ps) ≡ found_of n ps
  found_fuel f h l =
      let few : length ps < 2 ^ 14 = lt_of_le_of_lt h (lit< tt) in
      win_fuel f 14 (length ps) (lt_of_lt_of_le few (pow_mono l)) few

  -- the try of size k ended without room
  abbrev pub Ended : ℕ → Type 0
  Ended k = (p : Pair) × (lanes : List Lane) × (try n ps k ≡ stuck p lanes)

  -- size s, which is k / 2 ^ i, wins, with these lanes, and it is the first of k, k/2, k/4 .. that does
  pub record Won (k s : ℕ) (lanes : List Lane) : Type 0 where
    pub i : ℕ
    pub is : s ≡ k / 2 ^ i
    pub size : 0 < s
    pub wins : try n ps s ≡ all lanes
    pub before : (j : ℕ) → j < i → Ended (k / 2 ^ j)

  half : (k i : ℕ) → k / 2 / 2 ^ i ≡ k / 2 ^ suc i
  half k i = shr-shr k 1 i ∙ ap (λ (x : ℕ). k / 2 ^ x) (one-add i)

  pub win_first : (f k s : ℕ) (lanes : List Lane) → first_win n ps f k ≡ won s lanes → Won k s lanes
  unfolding first_win
  win_first zero k s lanes e = let z : ◌≡◌ {A = ℕ} 0 1 = cc in absurd (omega arith)
  win_first (suc f) zero s lanes e = let z : ◌≡◌ {A = ℕ} 0 1 = cc in absurd (omega arith)
  win_first (suc f) (suc k) s lanes e = go (try n ps (suc k)) refl (win_first f (suc k / 2) s lanes)
    where
      go : (t : Tried) → try n ps (suc k) ≡ t → (first_win n ps f (suc k / 2) ≡ won s lanes → Won (suc k / 2) s lanes) → Won (suc k) s lanes
      go (all ls) t r =
          let same : won (suc k) ls ≡ won s lanes = sym (win_all f (suc k) ls (zero-lt-suc k) t) ∙ e in
          let q : ls ≡ lanes = cc in
          let z : suc k ≡ s = cc in
          record {
            i = 0;
            is = sym z ∙ sym (div-one (suc k));
            size = rw (← z) (zero-lt-suc k);
            wins = rw (← z) (t ∙ ap all q);
            before = λ j h. absurd (not-suc-le-zero h);
          }
      go (stuck p ls) t r =
          let w = r (sym (win_stuck f (suc k) p ls (zero-lt-suc k) t) ∙ e) in
          record {
            i = suc w.i;
            is = w.is ∙ half (suc k) w.i;
            size = w.size;
            wins = w.wins;
            before = earlier w w.before;
          }
        where
          earlier : (w : Won (suc k / 2) s lanes) → ((j : ℕ) → j < w.i → Ended (suc k / 2 / 2 ^ j)) → (j : ℕ) → j < suc w.i → Ended (suc k / 2 ^ j)
          earlier w b zero h = rw (div-one (suc k)) (p, ls, t)
          earlier w b (suc j) h = rw (← (half (suc k) j)) (b j (omega arith))

  -- none wins: each size ends without room
  pub win_never : (f k : ℕ) → k < 2 ^ f → first_win n ps f k ≡ ended → (j : ℕ) → 0 < k / 2 ^ j → Ended (k / 2 ^ j)
  win_never zero zero h e j l = absurd (omega (arith, zero-div (2 ^ j)))
  win_never zero (suc k) h e j l = absurd (omega arith)
  win_never (suc f) zero h e j l = absurd (omega (arith, zero-div (2 ^ j)))
  win_never (suc f) (suc k) h e j l = go (try n ps (suc k)) refl j l (win_never f (suc k / 2) (omega arith))
    where
      go : (t : Tried) → try n ps (suc k) ≡ t → (j : ℕ) → 0 < suc k / 2 ^ j
          → (first_win n ps f (suc k / 2) ≡ ended → (j : ℕ) → 0 < suc k / 2 / 2 ^ j → Ended (suc k / 2 / 2 ^ j)) → Ended (suc k / 2 ^ j)
      go (all ls) t j l r =
          let s : won (suc k) ls ≡ ended = sym (win_all f (suc k) ls (zero-lt-suc k) t) ∙ e in
          let z : ◌≡◌ {A = ℕ} 0 1 = cc in
          absurd (omega arith)
      go (stuck p ls) t zero l r = rw (div-one (suc k)) (p, ls, t)
      go (stuck p ls) t (suc j) l r =
          rw (← (half (suc k) j)) (r (sym (win_stuck f (suc k) p ls (zero-lt-suc k) t) ∙ e) j (rw (half (suc k) j) l))

  -- and the other way round
  pub never_win : (f k : ℕ) → ((j : ℕ) → 0 < k / 2 ^ j → Ended (k / 2 ^ j)) → first_win n ps f k ≡ ended
  unfolding first_win
  never_win zero k h = refl
  never_win (suc f) zero h = refl
  never_win (suc f) (suc k) h =
      let here : Ended (suc k) = rw (div-one (suc k)) at (h 0 (omega arith)) in
      win_stuck f (suc k) here.0 here.1 (zero-lt-suc k) here.2
      ∙ never_win f (suc k / 2) (λ j l. rw (half (suc k) j) (h (suc j) (rw (← (half (suc k) j)) l)))

  -- Refusal 4, "every piece size ended without room", for the sets that get that far.
  pub found_none : length ps ≤ 8192 → (found_of n ps ≡ ended) ↔ ((j : ℕ) → 0 < length ps / 2 ^ j → Ended (length ps / 2 ^ j))
  found_none h = (win_never 14 (length ps) (lt_of_le_of_lt h (lit< tt)), never_win 14 (length ps))

  -- the last size is 1, and its try ends without room too
  pub last_ended : (f k : ℕ) → k < 2 ^ f → 0 < k → first_win n ps f k ≡ ended → Ended 1
  last_ended zero k h l e = absurd (omega arith)
  last_ended (suc f) zero h l e = absurd (not-suc-le-zero l)
  last_ended (suc f) (suc k) h l e = go (try n ps (suc k)) refl k refl (last_ended f (suc k / 2) (omega arith))
    where
      go : (t : Tried) → try n ps (suc k) ≡ t → (i : ℕ) → i ≡ k → (0 < suc k / 2 → first_win n ps f (suc k / 2) ≡ ended → Ended 1) → Ended 1
      go (all ls) t i z r =
          let s : won (suc k) ls ≡ ended = sym (win_all f (suc k) ls (zero-lt-suc k) t) ∙ e in
          let y : ◌≡◌ {A = ℕ} 0 1 = cc in
          absurd (omega arith)
      go (stuck p ls) t zero z r = let one : suc k ≡ 1 = omega arith in (p, ls, sym (ap (λ (x : ℕ). try n ps x) one) ∙ t)
      go (stuck p ls) t (suc i) z r = r (omega arith) (sym (win_stuck f (suc k) p ls (zero-lt-suc k) t) ∙ e)

-- ---- what is found, by its lanes

pub won_lanes_lem : (t : Found) (lanes : List Lane) → lanes_found t ≡ some lanes → t ≡ won (size_found t) lanes
unfolding lanes_found size_found
won_lanes_lem (won k ls) lanes e = let q : ls ≡ lanes = cc in ap (won k) q
won_lanes_lem ended lanes e = let z : ◌≡◌ {A = ℕ} 0 1 = cc in absurd (omega arith)

-- Document 02, 2/13: the size that is told wins, and no larger one of n, n/2, n/4 .. does.
pub size_won : (n : ℕ) (ps : List Pair) (lanes : List Lane) → lanes_of n ps ≡ some lanes → Won n ps (length ps) (size_of n ps) lanes
size_won n ps lanes e = win_first n ps 14 (length ps) (size_of n ps) lanes (won_lanes_lem (found_of n ps) lanes e)
