-- A try with a pair of 32 bits after its first n pairs is stuck: those n leave no lane empty. And the look for such a pair, piece by piece.
-- Assumes nothing.
use mathlib.Core.Path.{◌≡◌, refl, sym, ap, ◌∙◌}
use mathlib.Core.Bool.{Bool, true, false}
use mathlib.Core.Option.{Option, none, some}
use mathlib.Core.List.{List, [], ◌∷◌, ◌++◌}
use Prim.Native.Nat.{ℕ, zero, suc, ◌+◌, ◌*◌, ◌-◌, ◌/◌, ◌%◌, min, ◌≤◌, ◌<◌, zero-le}
use native.Mathlib.Nat.{not-suc-le-zero}
use native.Mathlib.Numerals.{add-one}
use native.Mathlib.Omega.{arith}
use borrow.Author.Tests.{eqb-true, eqb-false, leb-true, leb-false, eq-eqb, ne_eqb, le-leb, lt-leb}
use lib.Dec.{eqb, leb}
use lib.ListN.{length, get_or, drop, replicate, length-set, length-replicate, drop_of_length-le, get_or-eq_default}
use lib.Seq.{slice, drop-cons, drop-nil, drop-drop, length-slice, get_or-set_same, get_or-set_other}
use Rattle.words.specs.Bit.{pop, pop_in}
use Rattle.words.specs.Round.{next}
use Rattle.words.proofs.PopLaws.{pop_le}
use Rattle.words.proofs.RoundLaws.{next_wrap, next_step, next_lt}
use Rattle.reads.specs.ReadSet.{Pair, bits, total, pairs_of}
use Rattle.reads.specs.Search.{Lane, first_room, push, Tried, stuck, try_from}
use Rattle.reads.proofs.PackingLaws.{total_append}
use Rattle.reads.proofs.SearchLaws.{room_found}
use Rattle.reads_try.specs.LaneTable.{piece_of, run_of}
use Rattle.reads_try.specs.Late.{any_full, late_full}
use Rattle.reads_try.specs.TableLanes.{Each, Drawn}
use Rattle.reads_try.specs.Tries.{tried_of}
use Rattle.reads_try.proofs.SetPairLaws.{pairs_length, slice_none, span_step, piece_slice}
use Rattle.reads_try.proofs.TryLaws.{run_drawn}

-- ---- pairs of 32 bits

pub full_bits : (p : Pair) → p.mask ≡ 4294967295 → bits p ≡ 32
unfolding pop_in
full_bits p e = ap (λ (m : ℕ). pop m) e

pub full_here : (p : Pair) (ps : List Pair) → p.mask ≡ 4294967295 → any_full (p ∷ ps) ≡ true
unfolding any_full
full_here p ps e = rw (eq-eqb p.mask 4294967295 e, any_full)

pub full_on : (p : Pair) (ps : List Pair) → (p.mask ≡ 4294967295 → ⊥) → any_full (p ∷ ps) ≡ any_full ps
unfolding any_full
full_on p ps e = rw (ne_eqb p.mask 4294967295 e, any_full)

pub full_none : any_full [] ≡ false
unfolding any_full
full_none = refl

pub full_append : (a b : List Pair) (t : Bool) → any_full a ≡ t → any_full (a ++ b) ≡ elim t [ true ↦ true | false ↦ any_full b ]
unfolding any_full
full_append [] b true e =
    let z : false ≡ true = e in
    let y : ◌≡◌ {A = ℕ} 0 1 = cc in
    absurd (omega arith)
full_append [] b false e = refl
full_append (p ∷ a) b t e = go (eqb p.mask 4294967295) refl (λ q. full_append a b t q)
  where
    go : (x : Bool) → eqb p.mask 4294967295 ≡ x → (any_full a ≡ t → any_full (a ++ b) ≡ elim t [ true ↦ true | false ↦ any_full b ])
        → any_full (p ∷ a ++ b) ≡ elim t [ true ↦ true | false ↦ any_full b ]
    go true f r =
        let is : true ≡ t = sym (full_here p a (eqb-true _ _ f)) ∙ e in
        rw (← is) (full_here p (a ++ b) (eqb-true _ _ f))
    go false f r =
        let rest : any_full a ≡ t = (rw (f, any_full) at e) in
        rw (f, any_full) (r rest)

-- ---- lanes of which none is empty have no room for 32 bits

-- a try that ended without room
abbrev pub IsStuck : Tried → Type 0
IsStuck t = (p : Pair) × (lanes : List Lane) × (t ≡ stuck p lanes)

-- the first j lanes hold a bit
abbrev Begun : List Lane → ℕ → Type 0
Begun lanes j = (i : ℕ) → i < j → 0 < total (get_or lanes i [])

-- a lane takes a pair
push_begun : (lanes : List Lane) (i : ℕ) (p : Pair) (j : ℕ) → i < length lanes → 0 < bits p → Begun lanes j → Begun (push lanes i p) j
unfolding total
push_begun lanes i p j h b g m l = go (eqb m i) refl
  where
    go : (t : Bool) → eqb m i ≡ t → 0 < total (get_or (push lanes i p) m [])
    go true e =
        rw (eqb-true m i e, get_or-set_same lanes i (get_or lanes i [] ++ p ∷ []) [] h) (omega (arith, total_append (get_or lanes i []) (p ∷ [])))
    go false e = rw (get_or-set_other lanes i m (get_or lanes i [] ++ p ∷ []) [] (eqb-false m i e)) (g m l)

-- and then it holds a bit
push_here : (lanes : List Lane) (j : ℕ) (p : Pair) → j < length lanes → 0 < bits p → Begun lanes j → Begun (push lanes j p) (j + 1)
unfolding total
push_here lanes j p h b g m l = go (eqb m j) refl
  where
    go : (t : Bool) → eqb m j ≡ t → 0 < total (get_or (push lanes j p) m [])
    go true e =
        rw (eqb-true m j e, get_or-set_same lanes j (get_or lanes j [] ++ p ∷ []) [] h) (omega (arith, total_append (get_or lanes j []) (p ∷ [])))
    go false e =
        let less : m < j = omega (arith, eqb-false m j e) in
        push_begun lanes j p j h b g m less

no_room : (n f : ℕ) (lanes : List Lane) (j : ℕ) → j < n → Begun lanes n → first_room n f lanes 32 j ≡ none
unfolding first_room
no_room n zero lanes j h g = refl
no_room n (suc f) lanes j h g =
    rw (lt-leb (total (get_or lanes j []) + 32) 32 (omega (arith, g j h)), first_room) (no_room n f lanes (next n j) (next_lt n j h) g)

room_here : (n f : ℕ) (lanes : List Lane) (b j : ℕ) → 0 < f → total (get_or lanes j []) + b ≤ 32 → first_room n f lanes b j ≡ some j
unfolding first_room
room_here n zero lanes b j p h = absurd (not-suc-le-zero p)
room_here n (suc f) lanes b j p h = rw (le-leb _ _ h, first_room)

no_bits : total [] ≡ 0
unfolding total
no_bits = refl

empty_at : (n i : ℕ) → ◌≡◌ {A = Lane} (get_or (replicate n []) i []) []
empty_at zero i = get_or-eq_default [] [] {n = i} zero-le
empty_at (suc n) zero = refl
empty_at (suc n) (suc i) = empty_at n i

-- ---- from there on the try is stuck

module _ (ws : List ℕ) (n : ℕ) where
  begun-stuck : (run : List Pair) (lanes : List Lane) (j : ℕ) → j < n → length lanes ≡ n → Each (Drawn ws) run → Begun lanes n → any_full run ≡ true
      → IsStuck (try_from n run lanes j)
  unfolding try_from
  begun-stuck [] lanes j h w d g f =
      let z : true ≡ false = sym f ∙ full_none in
      let y : ◌≡◌ {A = ℕ} 0 1 = cc in
      absurd (omega arith)
  begun-stuck (p ∷ run) lanes j h w d g f = go (first_room n n lanes (bits p) j) refl (λ i l k g' f'. begun-stuck run (push lanes i p) (next n i) l k d.1 g' f')
    where
      go : (o : Option ℕ) → first_room n n lanes (bits p) j ≡ o
          → ((i : ℕ) → next n i < n → length (push lanes i p) ≡ n → Begun (push lanes i p) n → any_full run ≡ true → IsStuck (try_from n run (push lanes i p) (next n i)))
          → IsStuck (try_from n (p ∷ run) lanes j)
      go none e r = (p, lanes, rw (e, try_from))
      go (some i) e r =
          let found = room_found n n lanes (bits p) j i h e in
          let narrow : p.mask ≡ 4294967295 → ⊥ = λ q.
          let none-there : none ≡ some i = sym (no_room n n lanes j h g) ∙ (rw (full_bits p q) at e) in
          let y : ◌≡◌ {A = ℕ} 0 1 = cc in
          omega arith
          in
          rw (e, try_from) (r i (next_lt n i found.0) (length-set lanes i _ ∙ w) (push_begun lanes i p n (omega (arith, found.0, w)) d.0.some_bits g) (sym (full_on p run narrow) ∙ f))

  -- the first m lanes from lane j on are empty, and take a pair each
  late-stuck : (m : ℕ) (run : List Pair) (lanes : List Lane) (j : ℕ) → j + suc m ≡ n → length lanes ≡ n → Each (Drawn ws) run → Begun lanes j
      → ((i : ℕ) → j ≤ i → get_or lanes i [] ≡ []) → any_full (drop (suc m) run) ≡ true → IsStuck (try_from n run lanes j)
  unfolding try_from total
  late-stuck m [] lanes j h w d g e f =
      let z : true ≡ false = sym f ∙ ap any_full (drop-nil (suc m)) ∙ full_none in
      let y : ◌≡◌ {A = ℕ} 0 1 = cc in
      absurd (omega arith)
  late-stuck m (p ∷ run) lanes j h w d g e f = rw (here, try_from) (go m h f (λ k h' e' f'. late-stuck k run (push lanes j p) (j + 1) h' (length-set lanes j _ ∙ w) d.1 more e' f'))
    where
      here : first_room n n lanes (bits p) j ≡ some j
      here =
          let none_yet : total (get_or lanes j []) ≡ 0 = ap total (e j (omega arith)) ∙ no_bits in
          room_here n n lanes (bits p) j (omega arith) (omega (arith, none_yet, pop_le p.mask))

      more : Begun (push lanes j p) (j + 1)
      more = push_here lanes j p (omega arith) d.0.some_bits g

      still : (i : ℕ) → j + 1 ≤ i → get_or (push lanes j p) i [] ≡ []
      still i l = get_or-set_other lanes j i _ [] (λ q. omega arith) ∙ e i (omega arith)

      go : (m : ℕ) → j + suc m ≡ n → any_full (drop (suc m) (p ∷ run)) ≡ true
          → ((k : ℕ) → j + 1 + suc k ≡ n → ((i : ℕ) → j + 1 ≤ i → get_or (push lanes j p) i [] ≡ []) → any_full (drop (suc k) run) ≡ true
          → IsStuck (try_from n run (push lanes j p) (j + 1)))
          → IsStuck (try_from n run (push lanes j p) (next n j))
      go zero h' f' r =
          let last : j + 1 ≡ n = omega arith in
          rw (next_wrap n j last) (begun-stuck run (push lanes j p) 0 (omega arith) (length-set lanes j _ ∙ w) d.1 (rw last at more) f')
      go (suc k) h' f' r =
          let on : j + 1 ≡ n → ⊥ = λ q. omega arith in
          rw (next_step n j on) (r k (omega arith) still f')

-- ---- so is the try of a set

module _ (ws : List ℕ) (whole : length ws % 2 ≡ 0) (masks : (p : ℕ) → p < length ws / 2 → 0 < pop (get_or ws (2 * p + 1) 0)) where
  pub late_tried : (n k : ℕ) (keys : List ℕ) → 0 < n → late_full n k ws keys ≡ true → IsStuck (tried_of n k ws keys)
  late_tried (suc m) k keys h f =
      late-stuck ws (suc m) m (run_of k (pairs_of ws) keys) (replicate (suc m) []) 0 (omega arith) (length-replicate (suc m) []) (run_drawn ws whole masks k keys)
      (λ i l. absurd (not-suc-le-zero l)) (λ i l. empty_at (suc m) i) f
  late_tried zero k keys h f = absurd (not-suc-le-zero h)

-- ---- the look for it, piece by piece

pub left_append : {A : Type 0} (s : ℕ) (a b : List A) → drop s (a ++ b) ≡ drop s a ++ drop (s - length a) b
left_append zero a b = ap (λ (m : ℕ). a ++ drop m b) (zero-less (length a))
  where
    zero-less : (m : ℕ) → 0 ≡ 0 - m
    zero-less m = omega arith
left_append (suc s) [] b =
    let e : suc s ≡ suc s - 0 = omega arith in
    ap (λ (m : ℕ). drop m b) e
left_append (suc s) (x ∷ a) b =
    let e : suc s - length (x ∷ a) ≡ s - length a = omega arith in
    left_append s a b ∙ ap (λ (m : ℕ). drop s a ++ drop m b) (sym e)

module _ (ws : List ℕ) (even : length ws % 2 ≡ 0) (k : ℕ) (keys : List ℕ) where
  -- the run from key t on: its first piece has the pairs from a to e
  late-run : (t a e : ℕ) → t < length keys → a ≡ min (get_or keys t 0 % 8192 * k) (length ws / 2) → e ≡ min (a + k) (length ws / 2)
      → run_of k (pairs_of ws) (drop t keys) ≡ slice a e (pairs_of ws) ++ run_of k (pairs_of ws) (drop (t + 1) keys)
  unfolding run_of
  late-run t a e h ea ee =
      let n : length (pairs_of ws) ≡ length ws / 2 = omega (arith, pairs_length 0 ws) in
      let b = get_or keys t 0 % 8192 * k in
      let d : drop t keys ≡ get_or keys t 0 ∷ drop (t + 1) keys = drop-cons keys t 0 h ∙ rw (add-one t) in
      let q : piece_of k (pairs_of ws) (get_or keys t 0 % 8192) ≡ slice a e (pairs_of ws) = piece_slice k (pairs_of ws) (get_or keys t 0 % 8192) ∙ rw n (same b ea (leb b (length ws / 2)) refl) in
      rw (d, run_of) (ap (λ (l : List Pair). l ++ run_of k (pairs_of ws) (drop (t + 1) keys)) q)
    where
      same : (b : ℕ) → a ≡ min b (length ws / 2) → (t : Bool) → leb b (length ws / 2) ≡ t → slice b (min (b + k) (length ws / 2)) (pairs_of ws) ≡ slice a e (pairs_of ws)
      same b eb true l =
          let is : a ≡ b = omega (arith, leb-true b (length ws / 2) l) in
          rw (ee, is)
      same b eb false l =
          let far = leb-false b (length ws / 2) l in
          slice_none b (min (b + k) (length ws / 2)) (pairs_of ws) (omega (arith, far)) ∙ sym (slice_none a e (pairs_of ws) (omega (arith, far)))

  -- a pair of 32 bits among those that are left of the piece, or after the piece
  pub late_step : (t a e s : ℕ) (r : Bool) → t < length keys → a ≡ min (get_or keys t 0 % 8192 * k) (length ws / 2) → e ≡ min (a + k) (length ws / 2)
      → r ≡ any_full (slice (a + s) e (pairs_of ws))
      → late_full s k ws (drop t keys) ≡ elim r [ true ↦ true | false ↦ late_full (s - (e - a)) k ws (drop (t + 1) keys) ]
  late_step t a e s r h ea ee er =
      let rest = run_of k (pairs_of ws) (drop (t + 1) keys) in
      let long : length (slice a e (pairs_of ws)) ≡ e - a = length-slice a e (pairs_of ws) (omega (arith, pairs_length 0 ws)) in
      let cut : drop s (slice a e (pairs_of ws) ++ rest) ≡ slice (a + s) e (pairs_of ws) ++ drop (s - (e - a)) rest =
      left_append s (slice a e (pairs_of ws)) rest ∙ rw (drop-drop, long) in
      ap (λ (l : List Pair). any_full (drop s l)) (late-run t a e h ea ee) ∙ ap any_full cut ∙ full_append (slice (a + s) e (pairs_of ws)) (drop (s - (e - a)) rest) r (sym er)

  pub late_end : (t s : ℕ) → length keys ≤ t → late_full s k ws (drop t keys) ≡ false
  unfolding run_of
  late_end t s h = rw (drop_of_length-le keys h, run_of, drop-nil) full_none

-- ---- the look at one piece

pub look_here : (ws : List ℕ) (p e : ℕ) → p < e → e ≤ length ws / 2 → get_or ws (2 * p + 1) 0 ≡ 4294967295 → any_full (slice p e (pairs_of ws)) ≡ true
look_here ws p e h k f = ap any_full (span_step ws p e h k) ∙ full_here _ _ f

pub look_on : (ws : List ℕ) (p e : ℕ) → p < e → e ≤ length ws / 2 → (get_or ws (2 * p + 1) 0 ≡ 4294967295 → ⊥)
    → any_full (slice p e (pairs_of ws)) ≡ any_full (slice (p + 1) e (pairs_of ws))
look_on ws p e h k f = ap any_full (span_step ws p e h k) ∙ full_on _ _ f

pub look_end : (ws : List ℕ) (p e : ℕ) → e ≤ p → any_full (slice p e (pairs_of ws)) ≡ false
look_end ws p e h = ap any_full (slice_none p e (pairs_of ws) h) ∙ full_none
