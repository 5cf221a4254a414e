-- What the search returns is a packing: cutting, ordering and placing keep how often each pair stands, and a pair is put only where it has room.
-- Assumes nothing.
use mathlib.Core.Path.{◌≡◌, refl, sym, ap, ◌∙◌}
use mathlib.Core.Bool.{Bool, true, false, ◌&&◌}
use mathlib.Core.Option.{Option, none, some}
use mathlib.Core.List.{List, [], ◌∷◌, ◌++◌}
use Prim.Native.Nat.{ℕ, zero, suc, ◌+◌, ◌≤◌, ◌<◌}
use native.Mathlib.Nat.{zero-add, add-zero, le_refl, not-suc-le-zero, le_of_suc-le-suc}
use native.Mathlib.Decide.{ℕ_discrete}
use native.Mathlib.Omega.{arith}
use lib.Dec.{leb, eqb}
use lib.ListN.{length, get_or, set, take, drop, replicate, length-drop, length-set, length-replicate, take-append-drop}
use lib.Seq.{get_or-set_same, get_or-set_other}
use Rattle.words.specs.Round.{next}
use Rattle.words.proofs.RoundLaws.{next_lt}
use Rattle.reads.specs.ReadSet.{Pair, bits, total}
use Rattle.reads.specs.Search.{Lane, all, stuck, pieces_in, pieces, insert_piece, ordered, joined, first_room, push, try_from, try, lanes_of, size_of}
use Rattle.reads.specs.Packing.{times, Packing}
use Rattle.reads.proofs.SearchLaws.{room_found, size_won}

-- ---- how often a pair stands

pub times_nil : (w m : ℕ) → times w m [] ≡ 0
unfolding times
times_nil w m = refl

pub times_cons : (w m : ℕ) (p : Pair) (ps : List Pair) → times w m (p ∷ ps) ≡ times w m (p ∷ []) + times w m ps
unfolding times
times_cons w m p ps = go (eqb p.word w && eqb p.mask m) (times w m ps)
  where
    go : (t : Bool) (n : ℕ) → elim t [ true ↦ suc n | false ↦ n ] ≡ elim t [ true ↦ 1 | false ↦ 0 ] + n
    go true n = omega arith
    go false n = omega arith

pub times_append : (w m : ℕ) (a b : List Pair) → times w m (a ++ b) ≡ times w m a + times w m b
times_append w m [] b = omega (arith, times_nil w m)
times_append w m (p ∷ a) b = omega (arith, times_cons w m p (a ++ b), times_cons w m p a, times_append w m a b)

-- ---- pieces: cut, ordered, joined

pub pieces_joined : (f k : ℕ) (ps : List Pair) → 0 < k → length ps ≤ f → joined (pieces_in f k ps) ≡ ps
unfolding pieces_in joined
pieces_joined zero k [] h l = refl
pieces_joined zero k (p ∷ ps) h l = absurd (omega arith)
pieces_joined (suc f) k [] h l = refl
pieces_joined (suc f) zero (p ∷ ps) h l = absurd (omega arith)
pieces_joined (suc f) (suc k) (p ∷ ps) h l =
    ap (λ (r : List Pair). take (suc k) (p ∷ ps) ++ r) (pieces_joined f (suc k) (drop k ps) h (omega (arith, length-drop k ps)))
    ∙ take-append-drop (suc k) (p ∷ ps)

pub times_joined : (w m : ℕ) (p : List Pair) (ps : List (List Pair)) → times w m (joined (p ∷ ps)) ≡ times w m p + times w m (joined ps)
unfolding joined
times_joined w m p ps = times_append w m p (joined ps)

times_insert : (w m : ℕ) (p : List Pair) (qs : List (List Pair)) → times w m (joined (insert_piece p qs)) ≡ times w m p + times w m (joined qs)
unfolding insert_piece
times_insert w m p [] = times_joined w m p []
times_insert w m p (q ∷ qs) = go (leb (total q) (total p)) (times_insert w m p qs)
  where
    go : (t : Bool) → times w m (joined (insert_piece p qs)) ≡ times w m p + times w m (joined qs)
        → times w m (joined (elim t [ true ↦ p ∷ q ∷ qs | false ↦ q ∷ insert_piece p qs ])) ≡ times w m p + times w m (joined (q ∷ qs))
    go true r = times_joined w m p (q ∷ qs)
    go false r = omega (arith, r, times_joined w m q (insert_piece p qs), times_joined w m q qs)

-- an order of pieces keeps each pair
pub times_ordered : (w m : ℕ) (ps : List (List Pair)) → times w m (joined (ordered ps)) ≡ times w m (joined ps)
unfolding ordered
times_ordered w m [] = refl
times_ordered w m (p ∷ ps) = omega (arith, times_insert w m p (ordered ps), times_ordered w m ps, times_joined w m p ps)

pub times_run : (w m k : ℕ) (ps : List Pair) → 0 < k → times w m (joined (ordered (pieces k ps))) ≡ times w m ps
times_run w m k ps h = times_ordered w m (pieces k ps) ∙ ap (times w m) (pieces_joined (length ps) k ps h (le_refl (length ps)))

-- ---- one pair more in a lane that has room

times_push : (w m : ℕ) (lanes : List Lane) (i : ℕ) (p : Pair) → i < length lanes
    → times w m (joined (push lanes i p)) ≡ times w m (joined lanes) + times w m (p ∷ [])
times_push w m [] i p h = absurd (not-suc-le-zero h)
times_push w m (l ∷ ls) zero p h =
    omega (arith, times_joined w m (l ++ p ∷ []) ls, times_joined w m l ls, times_append w m l (p ∷ []))
times_push w m (l ∷ ls) (suc i) p h =
    omega (arith, times_joined w m l (push ls i p), times_joined w m l ls, times_push w m ls i p (le_of_suc-le-suc h))

pub total_append : (a b : List Pair) → total (a ++ b) ≡ total a + total b
unfolding total
total_append [] b = sym (zero-add (total b))
total_append (p ∷ a) b = omega (arith, total_append a b)

total_one : (p : Pair) → total (p ∷ []) ≡ bits p
unfolding total
total_one p = add-zero (bits p)

thin_push : (lanes : List Lane) (i : ℕ) (p : Pair) → i < length lanes → total (get_or lanes i []) + bits p ≤ 32 → ((j : ℕ) → total (get_or lanes j []) ≤ 32)
    → (j : ℕ) → total (get_or (push lanes i p) j []) ≤ 32
thin_push lanes i p h l thin j = by (ℕ_discrete j i)
  where
    more : Lane
    more = get_or lanes i [] ++ p ∷ []

    by : Dec (j ≡ i) → total (get_or (set lanes i more) j []) ≤ 32
    by (yes e) = rw (e, get_or-set_same lanes i more [] h) (omega (arith, total_append (get_or lanes i []) (p ∷ []), total_one p))
    by (no d) = rw (get_or-set_other lanes i j more [] d) (thin j)

-- ---- a try

-- lanes to which a run of pairs was added
record Added (n : ℕ) (run : List Pair) (lanes after : List Lane) : Type 0 where
  wide : length after ≡ n
  once : (w m : ℕ) → times w m (joined after) ≡ times w m (joined lanes) + times w m run
  thin : (i : ℕ) → total (get_or after i []) ≤ 32

added : (n : ℕ) (run : List Pair) (lanes : List Lane) (j : ℕ) (after : List Lane) → j < n → length lanes ≡ n → ((i : ℕ) → total (get_or lanes i []) ≤ 32)
    → try_from n run lanes j ≡ all after → Added n run lanes after
unfolding try_from
added n [] lanes j after h wide thin e =
    let q : lanes ≡ after = cc in
    rw (← q) (record { wide = wide; once = λ w m. omega (arith, times_nil w m); thin = thin })
added n (p ∷ run) lanes j after h wide thin e =
    go (first_room n n lanes (bits p) j) refl (λ i. added n run (push lanes i p) (next n i) after)
  where
    go : (o : Option ℕ) → first_room n n lanes (bits p) j ≡ o
        → ((i : ℕ) → next n i < n → length (push lanes i p) ≡ n → ((q : ℕ) → total (get_or (push lanes i p) q []) ≤ 32) → try_from n run (push lanes i p) (next n i) ≡ all after
        → Added n run (push lanes i p) after)
        → Added n (p ∷ run) lanes after
    go none o r =
        let s : stuck p lanes ≡ all after = rw (o, try_from) at e in
        let z : ◌≡◌ {A = ℕ} 0 1 = cc in
        absurd (omega arith)
    go (some i) o r =
        let room = room_found n n lanes (bits p) j i h o in
        let there : i < length lanes = omega arith in
        let rest = r i (next_lt n i room.0) (length-set lanes i _ ∙ wide) (thin_push lanes i p there room.1 thin) (rw (o, try_from) at e) in
        record {
          wide = rest.wide;
          once = λ w m. omega (arith, rest.once w m, times_push w m lanes i p there, times_cons w m p run);
          thin = rest.thin;
        }

none_joined : (w m n : ℕ) → times w m (joined (replicate n [])) ≡ 0
unfolding joined
none_joined w m zero = times_nil w m
none_joined w m (suc n) = none_joined w m n

none_total : (n i : ℕ) → total (get_or (replicate n []) i []) ≤ 32
unfolding total
none_total zero i = omega arith
none_total (suc n) zero = omega arith
none_total (suc n) (suc i) = none_total n i

-- a try of any size that places all gives a packing
pub try_packing : (n : ℕ) (ps : List Pair) (k : ℕ) (lanes : List Lane) → 0 < n → 0 < k → try n ps k ≡ all lanes → Packing n ps lanes
try_packing n ps k lanes h l e =
    let a = added n (joined (ordered (pieces k ps))) (replicate n []) 0 lanes h (length-replicate n []) (none_total n) e in
    record {
      wide = a.wide;
      once = λ w m. omega (arith, a.once w m, none_joined w m n, times_run w m k ps l);
      thin = a.thin;
    }

-- What the search returns is a packing.
pub lanes_packing : (n : ℕ) (ps : List Pair) (lanes : List Lane) → lanes_of n ps ≡ some lanes → 0 < n → Packing n ps lanes
lanes_packing n ps lanes e h =
    let w = size_won n ps lanes e in
    try_packing n ps (size_of n ps) lanes h w.size w.wins
