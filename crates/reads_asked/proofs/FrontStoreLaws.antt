-- Lists stored at the front of another: what the passes leave in the lent slice.
-- Assumes nothing.
use mathlib.Core.Path.{◌≡◌, refl, sym, ap, ◌∙◌}
use mathlib.Core.Logic.{◌⊎◌, inl, inr}
use mathlib.Core.List.{List, [], ◌∷◌, ◌++◌, append-nil}
use Prim.Native.Nat.{ℕ, zero, suc, ◌+◌, ◌*◌, ◌-◌, ◌/◌, ◌%◌, ◌^◌, ◌≤◌, ◌<◌}
use native.Mathlib.Nat.{not-suc-le-zero, le_of_suc-le-suc, one-mul}
use native.Mathlib.Numerals.{add-one}
use native.Mathlib.Omega.{arith}
use lib.Bits.{bit_or}
use lib.ListN.{length, get_or, set, take, drop, replicate, length-take, length-set, length-append}
use lib.Pow.{shl_exact}
use lib.Seq.{sets, length-sets, get_or-take, take-suc, take_all}
use Rattle.words.specs.Bit.{with_bit}
use Rattle.reads.specs.Asked.{ask, read_set_of}
use Rattle.sort.specs.Sorted.{sort_of}
use Rattle.sort.specs.SortAnswer.{keys_after, scratch_after}
use Rattle.sort.proofs.SortEndLaws.{keys_done, scratch_done}
use Rattle.sort.proofs.SortLaws.{sort_length, sort_ascending, sort_adds_none}
use Rattle.reads_asked.specs.Rising.{AskableNext, Gatherable, Settable}
use Rattle.reads_asked.proofs.AskLaws.{set_snoc, set_sort}
use Rattle.reads_asked.proofs.AskedFormLaws.{EachPair, set-each, each_at, set_even, set_rising, set_length_le, ask_longer, ask_end, ask_last}

sets_shift : (x : ℕ) (l : List ℕ) (i : ℕ) (vs : List ℕ) → sets (x ∷ l) (suc i) vs ≡ x ∷ sets l i vs
sets_shift x l i [] = refl
sets_shift x l i (v ∷ vs) = sets_shift x (set l i v) (suc i) vs

-- what stands there already changes nothing
pub front_take : (l : List ℕ) (n : ℕ) (vs : List ℕ) → n ≤ length l → sets l 0 (take n l ++ vs) ≡ sets l n vs
front_take l zero vs h = refl
front_take [] (suc n) vs h = absurd (not-suc-le-zero h)
front_take (x ∷ l) (suc n) vs h =
    sets_shift x l 0 (take n l ++ vs) ∙ ap (λ (t : List ℕ). x ∷ t) (front_take l n vs (le_of_suc-le-suc h)) ∙ sym (sets_shift x l n vs)

pub front_set : (l : List ℕ) (n i v : ℕ) → i < n → n ≤ length l → sets l 0 (set (take n l) i v) ≡ set l i v
front_set l zero i v h k = absurd (not-suc-le-zero h)
front_set [] (suc n) i v h k = absurd (not-suc-le-zero k)
front_set (x ∷ l) (suc n) zero v h k =
    sets_shift v l 0 (take n l) ∙ ap (λ (t : List ℕ). v ∷ t) (ap (sets l 0) (sym (append-nil (take n l))) ∙ front_take l n [] (le_of_suc-le-suc k))
front_set (x ∷ l) (suc n) (suc i) v h k =
    sets_shift x l 0 (set (take n l) i v) ∙ ap (λ (t : List ℕ). x ∷ t) (front_set l n i v (le_of_suc-le-suc h) (le_of_suc-le-suc k))

-- a list no shorter hides the one stored before
pub front_over : (l vs us : List ℕ) → length vs ≤ length us → length us ≤ length l → sets (sets l 0 vs) 0 us ≡ sets l 0 us
front_over l [] us h k = refl
front_over l (v ∷ vs) [] h k = absurd (not-suc-le-zero h)
front_over [] (v ∷ vs) (u ∷ us) h k = absurd (not-suc-le-zero k)
front_over (x ∷ l) (v ∷ vs) (u ∷ us) h k =
    ap (λ (t : List ℕ). sets t 0 (u ∷ us)) (sets_shift v l 0 vs)
    ∙ sets_shift u (sets l 0 vs) 0 us
    ∙ ap (λ (t : List ℕ). u ∷ t) (front_over l vs us (le_of_suc-le-suc h) (le_of_suc-le-suc k))
    ∙ sym (sets_shift u l 0 us)

pub take-front : (l s : List ℕ) → length s ≤ length l → take (length s) (sets l 0 s) ≡ s
take-front l [] h = refl
take-front [] (v ∷ s) h = absurd (not-suc-le-zero h)
take-front (x ∷ l) (v ∷ s) h = ap (take (suc (length s))) (sets_shift v l 0 s) ∙ ap (λ (t : List ℕ). v ∷ t) (take-front l s (le_of_suc-le-suc h))

-- ---- one bit more

module _ (set' : List ℕ) (n q : ℕ) (a : AskableNext set' n q) where
  whole : length (take n set') ≡ n
  whole = omega (arith, length-take n set', a.room)

  last-is : 2 ≤ n → get_or (take n set') (length (take n set') - 2) 0 ≡ get_or set' (n - 2) 0
  last-is h = rw whole (get_or-take n set' (n - 2) 0 (omega arith))

  pub next_joins : (w m : ℕ) → w ≡ q / 32 → m ≡ 2 ^ (q % 32) → 2 ≤ n → get_or set' (n - 2) 0 ≡ w
      → (n ≡ length (ask q (take n set'))) × (set set' (n - 1) (bit_or (get_or set' (n - 1) 0) m) ≡ sets set' 0 (ask q (take n set')))
  unfolding with_bit
  next_joins w m ew em h e =
      let s = take n set' in
      let v = bit_or (get_or set' (n - 1) 0) m in
      let asked : ask q s ≡ set s (n - 1) v = ask_last 0 q s a.rising (omega (arith, whole)) (last-is h ∙ e ∙ ew) ∙ rw (whole, get_or-take n set' (n - 1) 0 (omega arith), ← em) in (
        sym (ap length asked ∙ length-set s (n - 1) v ∙ whole),
        sym (ap (sets set' 0) asked ∙ front_set set' n (n - 1) v (omega arith) (omega (arith, a.room))),
      )

  pub next_new : (w m : ℕ) → w ≡ q / 32 → m ≡ 2 ^ (q % 32) → (get_or set' (n - 2) 0 ≡ w → ⊥) ⊎ (n < 2)
      → (n + 2 ≡ length (ask q (take n set'))) × (set (set set' n w) (n + 1) m ≡ sets set' 0 (ask q (take n set')))
  next_new w m ew em h =
      let s = take n set' in
      let asked : ask q s ≡ s ++ (w ∷ m ∷ []) = rw (ew, em) (ask_end 0 q s a.rising (above h)) in (
        sym (ap length asked ∙ length-append s (w ∷ m ∷ []) ∙ ap (λ (k : ℕ). k + 2) whole),
        rw add-one (sym (ap (sets set' 0) asked ∙ front_take set' n (w ∷ m ∷ []) (omega (arith, a.room)))),
      )
    where
      above : (get_or set' (n - 2) 0 ≡ w → ⊥) ⊎ (n < 2) → 2 ≤ length (take n set') → get_or (take n set') (length (take n set') - 2) 0 < q / 32
      above (inl d) l =
          let two : 2 ≤ n = omega (arith, whole) in
          omega (arith, last-is two, a.last (omega arith), d, ew)
      above (inr few) l = absurd (omega (arith, whole))

-- the mask of a bit's place k in its word, as the machine shifts it
pub bit_mask_is : (q k : ℕ) → k ≡ q % 32 → (1 * 2 ^ k) % 2 ^ 32 ≡ 2 ^ (q % 32)
bit_mask_is q k e = rw e (shl_exact {a = 1} 1 (q % 32) 32 (omega arith) (omega arith) ∙ one-mul (2 ^ (q % 32)))

-- ---- one bit after the other

-- the set of the i first bits stands in n words
pub record Gathered (keys set₀ set : List ℕ) (n i : ℕ) : Type 0 where
  pub so_far : i ≤ length keys
  pub count : n ≡ length (read_set_of (take i keys))
  pub holds : set ≡ sets set₀ 0 (read_set_of (take i keys))

pub gather_start : (keys set₀ : List ℕ) → Gathered keys set₀ set₀ 0 0
unfolding read_set_of
gather_start keys set₀ = record { so_far = omega arith; count = refl; holds = refl }

module _ (keys set₀ set' : List ℕ) (n i : ℕ) (ready : Gatherable keys set₀) (g : Gathered keys set₀ set' n i) where
  pub gather_length : length set' ≡ length set₀
  gather_length = ap length g.holds ∙ length-sets set₀ 0 (read_set_of (take i keys))

  within : length (read_set_of (take i keys)) ≤ length set₀
  within = omega (arith, set_length_le (take i keys), length-take i keys, g.so_far, ready.room)

  stands : take n set' ≡ read_set_of (take i keys)
  stands = rw (g.count, g.holds) (take-front set₀ (read_set_of (take i keys)) within)

  -- no bit so far is above the next one
  last-below : i < length keys → 0 < n → get_or set' (n - 2) 0 ≤ get_or keys i 0 / 32
  last-below h p =
      let s = read_set_of (take i keys) in
      let b = get_or keys i 0 / 32 in
      let earlier : (j : ℕ) → j < length (take i keys) → get_or (take i keys) j 0 / 32 ≤ b =
      λ j l. (let e : j < i = omega (arith, length-take i keys) in omega (arith, get_or-take i keys j 0 e, ready.sorted j i (omega arith) h)) in
      let each : EachPair (λ w m. w ≤ b) s = set-each (λ w m. w ≤ b) (take i keys) (λ j l. record { alone = earlier j l; joins = λ w m e k. k }) in
      let j = (n - 2) / 2 in
      let even : length s % 2 ≡ 0 = set_even (take i keys) in
      let at : 2 * j ≡ n - 2 = omega (arith, g.count) in
      let last : get_or s (n - 2) 0 ≤ b = rw at at (each_at (λ w m. w ≤ b) s j each (omega (arith, g.count))) in
      let read : get_or s (n - 2) 0 ≡ get_or set' (n - 2) 0 = ap (λ (t : List ℕ). get_or t (n - 2) 0) (sym stands) ∙ get_or-take n set' (n - 2) 0 (omega arith) in
      omega arith

  pub gather_askable : i < length keys → AskableNext set' n (get_or keys i 0)
  gather_askable h = record {
    small = ready.small i h;
    room = omega (arith, g.count, set_length_le (take i keys), length-take i keys, ready.room, gather_length);
    rising = rw stands (set_rising (take i keys));
    last = last-below h;
  }

  pub gather_more : (n' : ℕ) (set'' : List ℕ) → i < length keys → n' ≡ length (ask (get_or keys i 0) (take n set')) → set'' ≡ sets set' 0 (ask (get_or keys i 0) (take n set'))
      → Gathered keys set₀ set'' n' (i + 1)
  gather_more n' set'' h en es =
      let q = get_or keys i 0 in
      let s = read_set_of (take i keys) in
      let asked : read_set_of (take (i + 1) keys) ≡ ask q s = rw (add-one, take-suc keys i 0) (set_snoc (take i keys) q) in
      let fits : length (ask q s) ≤ length set₀ = omega (arith, ap length asked, set_length_le (take (i + 1) keys), length-take (i + 1) keys, ready.room) in
      record {
        so_far = omega arith;
        count = en ∙ ap (λ (t : List ℕ). length (ask q t)) stands ∙ ap length (sym asked);
        holds =
            es ∙ ap (λ (t : List ℕ). sets set' 0 (ask q t)) stands ∙ ap (λ (t : List ℕ). sets t 0 (ask q s)) g.holds
            ∙ front_over set₀ s (ask q s) (ask_longer 0 q s (set_rising (take i keys))) fits
            ∙ ap (sets set₀ 0) (sym asked);
      }

  pub gather_all : length keys ≤ i → (n ≡ length (read_set_of keys)) × (set' ≡ sets set₀ 0 (read_set_of keys))
  gather_all h =
      let all : take i keys ≡ keys = take_all i keys h in
      (rw all at g.count, rw all at g.holds)

-- ---- bits in any order

module _ (keys scratch set' keys' : List ℕ) (ready : Settable keys scratch set') (sorts : keys' ≡ keys_after keys scratch) where
  sorted : keys' ≡ sort_of keys
  sorted = sorts ∙ keys_done keys scratch ready.scratch-room

  sorted-small : (i : ℕ) → i < length (sort_of keys) → get_or (sort_of keys) i 0 < 2 ^ 37
  sorted-small i h =
      let from = sort_adds_none keys i (rw sort_length at h) in
      rw (← from.2) (ready.small from.0 from.1)

  pub sorted_gatherable : Gatherable keys' set'
  sorted_gatherable = rw sorted (record { small = sorted-small; sorted = sort_ascending keys; room = rw sort_length ready.room })

  pub read_set-is : (r : ℕ) (scratch' set'' : List ℕ) → scratch' ≡ scratch_after keys scratch → r ≡ length (read_set_of keys') → set'' ≡ sets set' 0 (read_set_of keys')
      → (r ≡ length (read_set_of keys)) × ((keys' ≡ sort_of keys)
      × ((scratch' ≡ replicate (length keys) 0 ++ drop (length keys) scratch) × (set'' ≡ sets set' 0 (read_set_of keys))))
  read_set-is r scratch' set'' cleared counted stored =
      let same : read_set_of keys' ≡ read_set_of keys = ap read_set_of sorted ∙ set_sort keys in
      (counted ∙ ap length same, (sorted, (cleared ∙ scratch_done keys scratch ready.scratch-room, stored ∙ ap (sets set' 0) same)))
