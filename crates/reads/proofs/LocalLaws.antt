-- Spots and local positions: each pair of a set is found where it stands, and each requested bit has a local position of its own. In a lane, the
-- bits of later rounds, then the higher bits of a mask, come first, so positions fall from round to round and from bit to bit.
-- Assumes nothing.
use mathlib.Core.Path.{◌≡◌, refl, sym, ap, ap₂, ◌∙◌}
use mathlib.Core.Bool.{Bool, true, false}
use mathlib.Core.Option.{Option, none, some}
use mathlib.Core.List.{List, [], ◌∷◌}
use mathlib.Core.Logic.{⊎_elim}
use Prim.Native.Nat.{ℕ, zero, suc, ◌+◌, ◌-◌, ◌*◌, ◌/◌, ◌^◌, ◌≤◌, ◌<◌}
use native.Mathlib.Nat.{add-zero, zero-add, not-suc-le-zero, le_of_suc-le-suc, eq-or-lt_of_le}
use native.Mathlib.Omega.{arith}
use borrow.Author.Tests.{eqb-true, eqb-false}
use lib.Dec.{eqb}
use lib.ListN.{length, get_or}
use lib.Pow.{shr-shr, shr_le}
use Rattle.words.specs.Bit.{bit, pop_in, pop}
use Rattle.words.proofs.BitLaws.{bit_shr, lt_or_ge}
use Rattle.words.proofs.PopLaws.{pop_fewer}
use Rattle.reads.specs.ReadSet.{Pair, total, broken}
use Rattle.reads.specs.Search.{Lane, joined}
use Rattle.reads.specs.Local.{word_in, mask_in, later, local_at, LaneRound, round_from, lane_round_from, local_of}
use Rattle.reads.specs.Packing.{times, Packing}
use Rattle.reads.proofs.PackingLaws.{times_nil, times_cons, times_joined}
use Rattle.reads.proofs.SetLaws.{times_here, times_cases, mask_one}

-- ---- positions in one lane

-- a local position less 32·lane: what it is where the lane is the only one
unfoldable pub local_in : Lane → ℕ → ℕ → ℕ
local_in l r k = local_at (l ∷ []) 0 r k

pub local_at_lem : (lanes : List Lane) (i r k : ℕ) → local_at lanes i r k ≡ 32 * i + local_in (get_or lanes i []) r k
unfolding local_in local_at
local_at_lem lanes i r k = omega arith

pub pop_zero : pop 0 ≡ 0
unfolding pop_in
pop_zero = refl

later_total : (l : Lane) (r : ℕ) → total (later l r) + pop (mask_in l r) ≤ total l
unfolding later mask_in total
later_total [] r = omega (arith, pop_zero)
later_total (p ∷ l) zero = omega arith
later_total (p ∷ l) (suc r) = omega (arith, later_total l r)

later_more : (l : Lane) (r q : ℕ) → r < q → total (later l q) + pop (mask_in l q) ≤ total (later l r)
unfolding later mask_in total
later_more [] r q h = omega (arith, pop_zero)
later_more (p ∷ l) r zero h = absurd (not-suc-le-zero h)
later_more (p ∷ l) zero (suc q) h = later_total l q
later_more (p ∷ l) (suc r) (suc q) h = later_more l r q (le_of_suc-le-suc h)

module _ (l : Lane) (r k : ℕ) (small : mask_in l r < 2 ^ 32) (set : bit (mask_in l r) k ≡ 1) where
  pub local_lt : local_in l r k < total l
  unfolding local_in local_at
  local_lt = omega (arith, later_total l r, pop_fewer (mask_in l r) k small set)

  -- below every bit of an earlier round, and below the lower bits of its own
  pub local_later : (q j : ℕ) → q < r → local_in l r k < local_in l q j
  unfolding local_in local_at
  local_later q j h = omega (arith, later_more l q r h, pop_fewer (mask_in l r) k small set)

  pub local_higher : (j : ℕ) → j < k → local_in l r k < local_in l r j
  unfolding local_in local_at
  local_higher j h =
      let m = mask_in l r in
      let d = k - (j + 1) in
      let e : j + 1 + d ≡ k = omega arith in
      let f : j + 1 + (d + 1) ≡ k + 1 = omega arith in
      let there : bit (m / 2 ^ (j + 1)) d ≡ 1 = bit_shr m (j + 1) d ∙ ap (bit m) e ∙ set in
      let cut : pop (m / 2 ^ (j + 1) / 2 ^ (d + 1)) ≡ pop (m / 2 ^ (k + 1)) = ap pop (shr-shr m (j + 1) (d + 1) ∙ ap (λ (x : ℕ). m / 2 ^ x) f) in
      omega (arith, pop_fewer (m / 2 ^ (j + 1)) d (omega (arith, shr_le m (j + 1))) there)

pub local_in_lem : (l : Lane) (r k : ℕ) → local_in l r k ≡ total (later l r) + pop (mask_in l r / 2 ^ (k + 1))
unfolding local_in local_at
local_in_lem l r k = zero-add _

-- two requested bits of a lane at one position are one
lane_own : (l : Lane) (r k q j : ℕ) → mask_in l r < 2 ^ 32 → bit (mask_in l r) k ≡ 1 → mask_in l q < 2 ^ 32 → bit (mask_in l q) j ≡ 1 → local_in l r k ≡ local_in l q j
    → (r ≡ q) × (k ≡ j)
lane_own l r k q j small set small' set' e = ⊎_elim
    (λ h. absurd (omega (arith, local_later l q j small' set' r k h)))
    (λ h. ⊎_elim (λ g. (sym g, same (sym g))) (λ g. absurd (omega (arith, local_later l r k small set q j g))) (eq-or-lt_of_le h))
    (lt_or_ge r q)
  where
    same : r ≡ q → k ≡ j
    same g = ⊎_elim
        (λ h. absurd (omega (arith, local_higher l q j small' set' k h, ap (λ (x : ℕ). local_in l x k) g)))
        (λ h. ⊎_elim (λ i. sym i) (λ i. absurd (omega (arith, local_higher l r k small set j i, ap (λ (x : ℕ). local_in l x j) g))) (eq-or-lt_of_le h))
        (lt_or_ge k j)

-- ---- where a word is found

-- in a lane, rounds counted from `from`
record Round (from : ℕ) (l : Lane) (w x : ℕ) : Type 0 where
  r : ℕ
  is : x ≡ from + r
  there : r < length l
  word : word_in l r ≡ w
  mask : 0 < times w (mask_in l r) l

round_at : (from : ℕ) (l : Lane) (w x : ℕ) → round_from from l w ≡ some x → Round from l w x
unfolding round_from word_in mask_in
round_at from [] w x e = let z : ◌≡◌ {A = ℕ} 0 1 = cc in absurd (omega arith)
round_at from (p ∷ l) w x e = go (eqb p.word w) refl (round_at (from + 1) l w x)
  where
    go : (t : Bool) → eqb p.word w ≡ t → (round_from (from + 1) l w ≡ some x → Round (from + 1) l w x) → Round from (p ∷ l) w x
    go true t i =
        let s : some from ≡ some x = rw (t, round_from) at e in
        let q : from ≡ x = cc in
        let h = eqb-true p.word w t in
        record { r = 0; is = omega arith; there = omega arith; word = h; mask = rw (← h) (times_here p l) }
    go false t i =
        let s = i (rw (t, round_from) at e) in
        record {
          r = suc s.r;
          is = omega (arith, s.is);
          there = omega (arith, s.there);
          word = s.word;
          mask = omega (arith, s.mask, times_cons w (mask_in l s.r) p l);
        }

round_none : (from : ℕ) (l : Lane) (w m : ℕ) → round_from from l w ≡ none → times w m l ≡ 0
unfolding round_from
round_none from [] w m e = times_nil w m
round_none from (p ∷ l) w m e = go (eqb p.word w) refl (round_none (from + 1) l w m)
  where
    go : (t : Bool) → eqb p.word w ≡ t → (round_from (from + 1) l w ≡ none → times w m l ≡ 0) → times w m (p ∷ l) ≡ 0
    go true t i =
        let s : some from ≡ none = rw (t, round_from) at e in
        let z : ◌≡◌ {A = ℕ} 0 1 = cc in
        absurd (omega arith)
    go false t i =
        let rest = i (rw (t, round_from) at e) in
        ⊎_elim (λ h. ⊎_elim (λ q. absurd (eqb-false p.word w t q.0)) (λ g. absurd (omega arith)) (times_cases w m p l h)) (λ h. omega arith)
        (lt_or_ge 0 (times w m (p ∷ l)))

-- in the lanes, counted from `from`
record Place (from : ℕ) (ls : List Lane) (w : ℕ) (s : LaneRound) : Type 0 where
  i : ℕ
  is : s.lane ≡ from + i
  lane_there : i < length ls
  round_there : s.round < length (get_or ls i [])
  word : word_in (get_or ls i []) s.round ≡ w
  mask : 0 < times w (mask_in (get_or ls i []) s.round) (joined ls)

spot_at : (from : ℕ) (ls : List Lane) (w : ℕ) (s : LaneRound) → lane_round_from from ls w ≡ some s → Place from ls w s
unfolding lane_round_from
spot_at from [] w s e = let z : ◌≡◌ {A = ℕ} 0 1 = cc in absurd (omega arith)
spot_at from (l ∷ ls) w s e = go (round_from 0 l w) refl (spot_at (from + 1) ls w s)
  where
    go : (o : Option ℕ) → round_from 0 l w ≡ o → (lane_round_from (from + 1) ls w ≡ some s → Place (from + 1) ls w s) → Place from (l ∷ ls) w s
    go (some r) o f =
        let c : some (record { lane = from; round = r }) ≡ some s = rw (o, lane_round_from) at e in
        let q : record { lane = from; round = r } ≡ s = cc in
        let a = round_at 0 l w r o in
        let n : r ≡ a.r = a.is ∙ zero-add a.r in
        rw (← q)
        (record {
          i = 0;
          is = sym (add-zero from);
          lane_there = omega arith;
          round_there = rw n a.there;
          word = rw n a.word;
          mask = rw n (omega (arith, a.mask, times_joined w (mask_in l a.r) l ls));
        })
    go none o f =
        let a = f (rw (o, lane_round_from) at e) in
        record {
          i = suc a.i;
          is = omega (arith, a.is);
          lane_there = omega (arith, a.lane_there);
          round_there = a.round_there;
          word = a.word;
          mask = omega (arith, a.mask, times_joined w (mask_in (get_or ls a.i []) s.round) l ls);
        }

spot_none : (from : ℕ) (ls : List Lane) (w m : ℕ) → lane_round_from from ls w ≡ none → times w m (joined ls) ≡ 0
unfolding lane_round_from joined
spot_none from [] w m e = times_nil w m
spot_none from (l ∷ ls) w m e = go (round_from 0 l w) refl (spot_none (from + 1) ls w m)
  where
    go : (o : Option ℕ) → round_from 0 l w ≡ o → (lane_round_from (from + 1) ls w ≡ none → times w m (joined ls) ≡ 0) → times w m (joined (l ∷ ls)) ≡ 0
    go (some r) o f =
        let here : LaneRound = record { lane = from; round = r } in
        let s : some here ≡ none = rw (o, lane_round_from) at e in
        let z : ◌≡◌ {A = ℕ} 0 1 = cc in
        absurd (omega arith)
    go none o f = omega (arith, times_joined w m l ls, round_none 0 l w m o, f (rw (o, lane_round_from) at e))

-- ---- a set and its packing

-- the pair of a word and a mask is found at a spot of the lanes, and stands there
pub record Spotted (n : ℕ) (lanes : List Lane) (w m : ℕ) : Type 0 where
  pub spot : LaneRound
  pub found : lane_round_from 0 lanes w ≡ some spot
  pub lane_there : spot.lane < n
  pub round_there : spot.round < length (get_or lanes spot.lane [])
  pub word : word_in (get_or lanes spot.lane []) spot.round ≡ w
  pub mask : mask_in (get_or lanes spot.lane []) spot.round ≡ m

-- so each of its bits has a local position
pub local_some : (n : ℕ) (lanes : List Lane) (w m k : ℕ) (s : Spotted n lanes w m) → local_of lanes w k ≡ some (local_at lanes s.spot.lane s.spot.round k)
unfolding local_of
local_some n lanes w m k s = rw (s.found, local_of)

-- bit k of word w is requested
pub record Requested (ps : List Pair) (w k : ℕ) : Type 0 where
  pub mask : ℕ
  pub stands : 0 < times w mask ps
  pub set : bit mask k ≡ 1

-- where it stands: its lane and round, and its place in that lane
pub record Located (n : ℕ) (lanes : List Lane) (w k : ℕ) : Type 0 where
  pub lane : ℕ
  pub round : ℕ
  pub lane_there : lane < n
  pub round_there : round < length (get_or lanes lane [])
  pub word : word_in (get_or lanes lane []) round ≡ w
  pub small : mask_in (get_or lanes lane []) round < 2 ^ 32
  pub set : bit (mask_in (get_or lanes lane []) round) k ≡ 1
  pub local : local_of lanes w k ≡ some (32 * lane + local_in (get_or lanes lane []) round k)
  pub in_lane : local_in (get_or lanes lane []) round k < total (get_or lanes lane [])
  pub thin : total (get_or lanes lane []) ≤ 32

-- "Each requested bit has its own, below 8192."
pub record OwnPositions (n : ℕ) (ps : List Pair) (lanes : List Lane) : Type 0 where
  pub below : (w k : ℕ) → Requested ps w k → (p : ℕ) × (local_of lanes w k ≡ some p) × (p < 32 * n)
  pub own : (w k x j : ℕ) → Requested ps w k → Requested ps x j → local_of lanes w k ≡ local_of lanes x j → (w ≡ x) × (k ≡ j)

module _ (n : ℕ) (ps : List Pair) (lanes : List Lane) (packing : Packing n ps lanes) (form : broken ps ≡ none) where
  pub spotted : (w m : ℕ) → 0 < times w m ps → Spotted n lanes w m
  spotted w m h = go (lane_round_from 0 lanes w) refl
    where
      go : (o : Option LaneRound) → lane_round_from 0 lanes w ≡ o → Spotted n lanes w m
      go none o = absurd (omega (arith, spot_none 0 lanes w m o, packing.once w m))
      go (some s) o =
          let a = spot_at 0 lanes w s o in
          let lane : a.i ≡ s.lane = omega (arith, a.is) in
          let own = mask_in (get_or lanes a.i []) s.round in
          let one : own ≡ m = mask_one ps form w own m (omega (arith, a.mask, packing.once w own)) h in
          record {
            spot = s;
            found = o;
            lane_there = omega (arith, a.lane_there, packing.wide);
            round_there = rw (← lane) a.round_there;
            word = rw (← lane) a.word;
            mask = rw (← lane) one;
          }

  module _ (small : (w m : ℕ) → 0 < times w m ps → m < 2 ^ 32) where
    pub located : (w k : ℕ) → Requested ps w k → Located n lanes w k
    located w k b =
        let s = spotted w b.mask b.stands in
        let i = s.spot.lane in
        let r = s.spot.round in
        let fits : mask_in (get_or lanes i []) r < 2 ^ 32 = rw s.mask (small w b.mask b.stands) in
        let there : bit (mask_in (get_or lanes i []) r) k ≡ 1 = rw s.mask b.set in
        record {
          lane = i;
          round = r;
          lane_there = s.lane_there;
          round_there = s.round_there;
          word = s.word;
          small = fits;
          set = there;
          local = local_some n lanes w b.mask k s ∙ ap some (local_at_lem lanes i r k);
          in_lane = local_lt (get_or lanes i []) r k fits there;
          thin = packing.thin i;
        }

    pub own_positions : OwnPositions n ps lanes
    own_positions = record { below = below; own = own }
      where
        below : (w k : ℕ) → Requested ps w k → (p : ℕ) × (local_of lanes w k ≡ some p) × (p < 32 * n)
        below w k b =
            let a = located w k b in
            (32 * a.lane + local_in (get_or lanes a.lane []) a.round k, a.local, omega (arith, a.lane_there, a.in_lane, a.thin))

        own : (w k x j : ℕ) → Requested ps w k → Requested ps x j → local_of lanes w k ≡ local_of lanes x j → (w ≡ x) × (k ≡ j)
        own w k x j b c e =
            let a = located w k b in
            let d = located x j c in
            let u = local_in (get_or lanes a.lane []) a.round k in
            let v = local_in (get_or lanes d.lane []) d.round j in
            let s : some (32 * a.lane + u) ≡ some (32 * d.lane + v) = sym a.local ∙ e ∙ d.local in
            let q : 32 * a.lane + u ≡ 32 * d.lane + v = cc in
            let lane : a.lane ≡ d.lane = omega (arith, a.in_lane, a.thin, d.in_lane, d.thin) in
            let back = sym (ap (λ (i : ℕ). get_or lanes i []) lane) in
            let here : u ≡ v = omega arith in
            let there : u ≡ local_in (get_or lanes a.lane []) d.round j = here ∙ ap (λ (l : Lane). local_in l d.round j) back in
            let one = lane_own (get_or lanes a.lane []) a.round k d.round j a.small a.set (rw lane d.small) (rw lane d.set) there in
            (sym a.word ∙ ap₂ word_in (sym back) one.0 ∙ d.word, one.1)
