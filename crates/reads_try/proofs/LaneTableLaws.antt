-- The table: reading it gives back the lanes that it was made of, a pair more is a word more, and what is kept of the lanes.
-- Assumes nothing.
use mathlib.Core.Path.{◌≡◌, refl, ap, ◌∙◌}
use mathlib.Core.List.{List, [], ◌∷◌, ◌++◌, append_assoc}
use Prim.Native.Nat.{ℕ, zero, suc, ◌+◌, ◌*◌, ◌-◌, ◌/◌, ◌≤◌, ◌<◌, zero-le}
use native.Mathlib.Nat.{zero-add, suc-add, not-suc-le-zero, le_of_suc-le-suc}
use native.Mathlib.Numerals.{add-one, sub-one}
use native.Mathlib.Omega.{arith}
use lib.ListN.{length, get_or, set, take, drop, replicate, length-append, length-set, length-take, length-replicate, drop_of_length-le, replicate-append-replicate, get_or-append}
use lib.Seq.{drop-cons, set-append_left, take_at, drop_at, drop-drop, get_or-take, get_or-drop}
use Rattle.words.specs.Bit.{pop}
use Rattle.reads.specs.ReadSet.{Pair, bits, total}
use Rattle.reads.specs.Search.{Lane, push}
use Rattle.reads.proofs.PackingLaws.{total_append}
use Rattle.reads_try.specs.LaneTable.{row, table_of}
use Rattle.reads_try.specs.Tries.{LaneRowIn}
use Rattle.reads_try.specs.TableLanes.{pair_at, lane_of, row_at, lanes_at, put_in_lane, Each, Drawn, SoundLane, SoundLanes, LanesTabled}

-- ---- a row, word by word

pub row_end : (ws es : List ℕ) (i : ℕ) → length es ≤ i → lane_of ws (drop i es) ≡ []
unfolding lane_of
row_end ws es i h = rw (drop_of_length-le es h)

pub row_stop : (ws es : List ℕ) (i : ℕ) → i < length es → get_or es i 0 ≡ 0 → lane_of ws (drop i es) ≡ []
unfolding lane_of
row_stop ws es i h e = rw (drop-cons es i 0 h, e)

pub row_pair : (ws es : List ℕ) (i : ℕ) → i < length es → 0 < get_or es i 0
    → lane_of ws (drop i es) ≡ pair_at ws (get_or es i 0 - 1) ∷ lane_of ws (drop (i + 1) es)
unfolding lane_of
row_pair ws es i h p = rw (drop-cons es i 0 h, add-one i) (go (get_or es i 0) p)
  where
    go : (e : ℕ) → 0 < e → lane_of ws (e ∷ drop (suc i) es) ≡ pair_at ws (e - 1) ∷ lane_of ws (drop (suc i) es)
    go zero q = absurd (not-suc-le-zero q)
    go (suc e) q = rw sub-one

-- the sums over it
pub row_length-on : (ws es : List ℕ) (i : ℕ) → i < length es → 0 < get_or es i 0
    → i + length (lane_of ws (drop i es)) ≡ (i + 1) + length (lane_of ws (drop (i + 1) es))
row_length-on ws es i h p = rw (row_pair ws es i h p) (omega arith)

pub row_total_on : (ws es : List ℕ) (i : ℕ) → i < length es → 0 < get_or es i 0
    → total (lane_of ws (drop i es)) ≡ pop (get_or ws (2 * get_or es i 0 - 1) 0) + total (lane_of ws (drop (i + 1) es))
unfolding total
row_total_on ws es i h p =
    let e : 2 * get_or es i 0 - 1 ≡ 2 * (get_or es i 0 - 1) + 1 = omega arith in
    rw (row_pair ws es i h p, e)

pub row_short : (ws es : List ℕ) → length (lane_of ws es) ≤ length es
unfolding lane_of
row_short ws [] = zero-le
row_short ws (zero ∷ es) = zero-le
row_short ws (suc p ∷ es) = omega (arith, row_short ws es)

-- ---- the rows of the room

pub row_at_word : (t : List ℕ) (j i : ℕ) → i < 32 → get_or (row_at t j) i 0 ≡ get_or t (32 * j + i) 0
row_at_word t j i h = rw (get_or-take, get_or-drop)

-- a lane of the n that the words say
pub lane_at : (ws t : List ℕ) (n j : ℕ) → j < n → get_or (lanes_at ws t n) j [] ≡ lane_of ws (row_at t j)
unfolding lanes_at
lane_at ws t zero j h = absurd (not-suc-le-zero h)
lane_at ws t (suc n) zero h = refl
lane_at ws t (suc n) (suc j) h =
    let e : 32 * suc j ≡ 32 + 32 * j = omega arith in
    lane_at ws (drop 32 t) n j (le_of_suc-le-suc h) ∙ rw (e, drop-drop)

-- a row whose words name pairs of the set
pub row_in : (ws t : List ℕ) (n : ℕ) → 32 * n ≤ length t → ((i : ℕ) → i < 32 * n → get_or t i 0 ≤ length ws / 2) → (j : ℕ) → j < n → LaneRowIn ws t j
row_in ws t n r names j l = record {
  in-room = omega arith;
  row = record {
    short = omega (arith, length-take 32 (drop (32 * j) t));
    named = λ i k.
        let s : i < 32 = omega (arith, length-take 32 (drop (32 * j) t)) in
        rw (row_at_word t j i s) (names (32 * j + i) (omega arith));
  };
}

-- ---- what holds of each

module _ {A : Type 0} (P : A → Type 0) where
  pub each_append : (xs ys : List A) → Each P xs → Each P ys → Each P (xs ++ ys)
  each_append [] ys h k = k
  each_append (x ∷ xs) ys h k = (h.0, each_append xs ys h.1 k)

  pub each_of : (xs : List A) (d : A) → ((i : ℕ) → i < length xs → P (get_or xs i d)) → Each P xs
  each_of [] d f = tt
  each_of (x ∷ xs) d f = (f 0 (omega arith), each_of xs d (λ i h. f (suc i) (omega arith)))

  pub each_at : (xs : List A) (i : ℕ) (d : A) → Each P xs → i < length xs → P (get_or xs i d)
  each_at [] i d h l = absurd (not-suc-le-zero l)
  each_at (x ∷ xs) zero d h l = h.0
  each_at (x ∷ xs) (suc i) d h l = each_at xs i d h.1 (le_of_suc-le-suc l)

  pub each_set : (xs : List A) (i : ℕ) (y : A) → Each P xs → P y → Each P (set xs i y)
  each_set [] i y h p = tt
  each_set (x ∷ xs) zero y h p = (p, h.1)
  each_set (x ∷ xs) (suc i) y h p = (h.0, each_set xs i y h.1 p)

  pub each_replicate : (n : ℕ) (x : A) → P x → Each P (replicate n x)
  each_replicate zero x p = tt
  each_replicate (suc n) x p = (p, each_replicate n x p)

  pub each_take : (n : ℕ) (xs : List A) → Each P xs → Each P (take n xs)
  each_take zero xs h = tt
  each_take (suc n) [] h = tt
  each_take (suc n) (x ∷ xs) h = (h.0, each_take n xs h.1)

  pub each_drop : (n : ℕ) (xs : List A) → Each P xs → Each P (drop n xs)
  each_drop zero xs h = h
  each_drop (suc n) [] h = tt
  each_drop (suc n) (x ∷ xs) h = each_drop n xs h.1

-- ---- lanes of drawn pairs

-- no more pairs than bits
pub drawn_thin : (ws : List ℕ) (l : Lane) → Each (Drawn ws) l → length l ≤ total l
unfolding total
drawn_thin ws [] h = zero-le
drawn_thin ws (p ∷ l) h = omega (arith, h.0.some_bits, drawn_thin ws l h.1)

pub sound_empty : (ws : List ℕ) → SoundLane ws []
unfolding total
sound_empty ws = record { drawn = tt; light = zero-le }

module _ {ws : List ℕ} {n : ℕ} {lanes : List Lane} (k : SoundLanes ws n lanes) where
  pub kept_sound : (j : ℕ) → j < n → SoundLane ws (get_or lanes j [])
  kept_sound j h = each_at (SoundLane ws) lanes j [] k.sound (omega (arith, k.wide))

  -- a lane with room takes a pair
  pub kept_push : (j : ℕ) (p : Pair) → j < n → total (get_or lanes j []) + bits p ≤ 32 → Drawn ws p → SoundLanes ws n (push lanes j p)
  unfolding total
  kept_push j p h r d = record {
    wide = length-set lanes j _ ∙ k.wide;
    sound = each_set (SoundLane ws) lanes j _ k.sound (record {
      drawn = each_append (Drawn ws) (get_or lanes j []) (p ∷ []) (kept_sound j h).drawn (d, tt);
      light = omega (arith, total_append (get_or lanes j []) (p ∷ []));
    });
  }

pub kept_empty : (ws : List ℕ) (n : ℕ) → SoundLanes ws n (replicate n [])
kept_empty ws n = record { wide = length-replicate n []; sound = each_replicate (SoundLane ws) n [] (sound_empty ws) }

-- ---- the table

pub row_length : (n : ℕ) (l : Lane) → length (row n l) ≡ n
unfolding row
row_length zero l = refl
row_length (suc n) [] = ap suc (row_length n [])
row_length (suc n) (p ∷ l) = ap suc (row_length n l)

pub table_length : (ls : List Lane) → length (table_of ls) ≡ 32 * length ls
unfolding table_of
table_length [] = refl
table_length (l ∷ ls) = omega (arith, length-append (row 32 l) (table_of ls), row_length 32 l, table_length ls)

-- reading it back
row_back : (ws : List ℕ) (n : ℕ) (l : Lane) → Each (Drawn ws) l → length l ≤ n → lane_of ws (row n l) ≡ l
unfolding row lane_of
row_back ws zero [] h k = refl
row_back ws (suc n) [] h k = refl
row_back ws zero (p ∷ l) h k = absurd (not-suc-le-zero k)
row_back ws (suc n) (p ∷ l) h k = rw (add-one p.at, lane_of, row_back ws n l h.1 (le_of_suc-le-suc k), ← h.0.same)

pub table_back : (ws : List ℕ) (lanes : List Lane) (rest : List ℕ) → Each (SoundLane ws) lanes → lanes_at ws (table_of lanes ++ rest) (length lanes) ≡ lanes
unfolding table_of lanes_at
table_back ws [] rest h = refl
table_back ws (l ∷ ls) rest h =
    let n : length l ≤ 32 = omega (arith, drawn_thin ws l h.0.drawn, h.0.light) in
    rw (append_assoc, take_at (row 32 l) _ 32 (row_length 32 l), drop_at (row 32 l) _ 32 (row_length 32 l), row_back ws 32 l h.0.drawn n, table_back ws ls rest h.1)

-- its words name pairs of the set
abbrev Names : List ℕ → ℕ → Type 0
Names ws e = e ≤ length ws / 2

row_named : (ws : List ℕ) (n : ℕ) (l : Lane) → Each (Drawn ws) l → Each (Names ws) (row n l)
unfolding row
row_named ws zero l h = tt
row_named ws (suc n) [] h = (zero-le, row_named ws n [] tt)
row_named ws (suc n) (p ∷ l) h = (omega (arith, h.0.in_set), row_named ws n l h.1)

table_named : (ws : List ℕ) (lanes : List Lane) → Each (SoundLane ws) lanes → Each (Names ws) (table_of lanes)
unfolding table_of
table_named ws [] h = tt
table_named ws (l ∷ ls) h = each_append (Names ws) (row 32 l) (table_of ls) (row_named ws 32 l h.0.drawn) (table_named ws ls h.1)

-- a pair more is a word more
set_append_right : (xs ys : List ℕ) (i v : ℕ) → set (xs ++ ys) (length xs + i) v ≡ xs ++ set ys i v
set_append_right [] ys i v = rw zero-add
set_append_right (x ∷ xs) ys i v = rw suc-add (ap {B = List ℕ} (λ r. x ∷ r) (set_append_right xs ys i v))

row_put : (n : ℕ) (l : Lane) (p : Pair) → length l < n → set (row n l) (length l) (p.at + 1) ≡ row n (l ++ p ∷ [])
unfolding row
row_put zero l p h = absurd (not-suc-le-zero h)
row_put (suc n) [] p h = refl
row_put (suc n) (q ∷ l) p h = ap {B = List ℕ} (λ r. (q.at + 1) ∷ r) (row_put n l p (le_of_suc-le-suc h))

pub table_put : (ls : List Lane) (j : ℕ) (p : Pair) → j < length ls → length (get_or ls j []) < 32
    → set (table_of ls) (32 * j + length (get_or ls j [])) (p.at + 1) ≡ table_of (push ls j p)
unfolding table_of
table_put [] j p h k = absurd (not-suc-le-zero h)
table_put (l ∷ ls) zero p h k =
    let r : length l < length (row 32 l) = omega (arith, row_length 32 l) in
    rw zero-add (set-append_left (row 32 l) (table_of ls) (length l) (p.at + 1) r ∙ ap (λ (x : List ℕ). x ++ table_of ls) (row_put 32 l p k))
table_put (l ∷ ls) (suc j) p h k =
    let e : 32 * suc j + length (get_or ls j []) ≡ length (row 32 l) + (32 * j + length (get_or ls j [])) = omega (arith, row_length 32 l) in
    rw e (set_append_right (row 32 l) (table_of ls) _ _ ∙ ap (λ (x : List ℕ). row 32 l ++ x) (table_put ls j p (le_of_suc-le-suc h) k))

pub table_empty : (n : ℕ) → table_of (replicate n []) ≡ replicate (32 * n) 0
unfolding table_of row
table_empty zero = refl
table_empty (suc n) =
    let e : 32 * suc n ≡ 32 + 32 * n = omega arith in
    rw e (ap (λ (x : List ℕ). row 32 [] ++ x) (table_empty n) ∙ replicate-append-replicate 32 (32 * n) 0)

-- ---- words that begin with the table of kept lanes

module _ {ws : List ℕ} {n : ℕ} {lanes : List Lane} (k : SoundLanes ws n lanes) {t : List ℕ} (rest : List ℕ) (e : t ≡ table_of lanes ++ rest) where
  pub filled_lanes : lanes_at ws t n ≡ lanes
  filled_lanes = rw (e, ← k.wide) (table_back ws lanes rest k.sound)

  pub filled_rest : drop (32 * n) t ≡ rest
  filled_rest = rw e (drop_at (table_of lanes) rest (32 * n) (table_length lanes ∙ ap (λ (m : ℕ). 32 * m) k.wide))

  pub filled_of : LanesTabled ws t n
  filled_of = record { table = rw (filled_lanes, filled_rest) e; kept = rw filled_lanes k }

module _ {ws t : List ℕ} {n : ℕ} (h : LanesTabled ws t n) where
  pub filled_length : length (table_of (lanes_at ws t n)) ≡ 32 * n
  filled_length = table_length (lanes_at ws t n) ∙ ap (λ (m : ℕ). 32 * m) h.kept.wide

  pub filled_in_room : 32 * n ≤ length t
  filled_in_room = omega (arith, ap length h.table, length-append (table_of (lanes_at ws t n)) (drop (32 * n) t), filled_length)

  pub filled_named : (i : ℕ) → i < 32 * n → get_or t i 0 ≤ length ws / 2
  filled_named i l =
      let m : i < length (table_of (lanes_at ws t n)) = omega (arith, filled_length) in
      let g : get_or t i 0 ≡ get_or (table_of (lanes_at ws t n)) i 0 = ap (λ (x : List ℕ). get_or x i 0) h.table ∙ get_or-append (table_of (lanes_at ws t n)) (drop (32 * n) t) 0 i m in
      rw g (each_at (Names ws) (table_of (lanes_at ws t n)) i 0 (table_named ws (lanes_at ws t n) h.kept.sound) m)

  pub filled_row : (j : ℕ) → j < n → LaneRowIn ws t j
  filled_row j l = row_in ws t n filled_in_room filled_named j l

  -- a lane with room has a free word, and the pair that is put there is in the lane
  pub filled_free : (j b : ℕ) → j < n → 0 < b → total (get_or (lanes_at ws t n) j []) + b ≤ 32 → length (get_or (lanes_at ws t n) j []) < 32
  filled_free j b l p r = omega (arith, drawn_thin ws (get_or (lanes_at ws t n) j []) (kept_sound h.kept j l).drawn)

  pub filled_put : (j p : ℕ) → j < n → length (get_or (lanes_at ws t n) j []) < 32
      → put_in_lane t j (length (get_or (lanes_at ws t n) j [])) p ≡ table_of (push (lanes_at ws t n) j (pair_at ws p)) ++ drop (32 * n) t
  filled_put j p l f =
      let ls = lanes_at ws t n in
      let m : 32 * j + length (get_or ls j []) < length (table_of ls) = omega (arith, filled_length) in
      let there : j < length ls = omega (arith, h.kept.wide) in
      ap (λ (x : List ℕ). set x (32 * j + length (get_or ls j [])) (p + 1)) h.table
      ∙ set-append_left (table_of ls) (drop (32 * n) t) _ _ m
      ∙ ap (λ (x : List ℕ). x ++ drop (32 * n) t) (table_put ls j (pair_at ws p) there f)
