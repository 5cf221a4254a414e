-- Rounds are 1..=32: a lane of c pairs has at least c bits.
-- Assumes nothing.
use mathlib.Core.Path.{◌≡◌}
use mathlib.Core.Option.{none}
use mathlib.Core.List.{List, [], ◌∷◌}
use Prim.Native.Nat.{ℕ, zero, suc, ◌^◌, ◌≤◌, ◌<◌}
use native.Mathlib.Nat.{not-suc-le-zero}
use native.Mathlib.Omega.{arith}
use lib.ListN.{length, get_or}
use Rattle.words.specs.Bit.{pop}
use Rattle.words.proofs.PopLaws.{pop_some}
use Rattle.reads.specs.ReadSet.{Pair, total, broken}
use Rattle.reads.specs.Search.{Lane, joined, longest}
use Rattle.reads.specs.Packing.{times, Packing}
use Rattle.reads.proofs.PackingLaws.{times_nil, times_cons, times_joined}
use Rattle.reads.proofs.SetLaws.{times_here, mask_some}

-- what stands in a lane stands in the lanes
pub in_lanes : (w m : ℕ) (lanes : List Lane) (i : ℕ) → 0 < times w m (get_or lanes i []) → 0 < times w m (joined lanes)
in_lanes w m [] i h = absurd (omega (arith, times_nil w m))
in_lanes w m (l ∷ ls) zero h = omega (arith, times_joined w m l ls)
in_lanes w m (l ∷ ls) (suc i) h = omega (arith, times_joined w m l ls, in_lanes w m ls i h)

-- ---- the longest lane

pub longest_ge : (lanes : List Lane) (i : ℕ) → length (get_or lanes i []) ≤ longest lanes
unfolding longest
longest_ge [] i = omega arith
longest_ge (l ∷ ls) zero = omega arith
longest_ge (l ∷ ls) (suc i) = omega (arith, longest_ge ls i)

pub longest_le : (lanes : List Lane) (n : ℕ) → ((i : ℕ) → length (get_or lanes i []) ≤ n) → longest lanes ≤ n
unfolding longest
longest_le [] n h = omega arith
longest_le (l ∷ ls) n h = omega (arith, h 0, longest_le ls n (λ i. h (suc i)))

longest_some : (w m : ℕ) (lanes : List Lane) → 0 < times w m (joined lanes) → 0 < longest lanes
unfolding longest joined
longest_some w m [] h = absurd (omega (arith, times_nil w m))
longest_some w m ([] ∷ ls) h = omega (arith, longest_some w m ls h)
longest_some w m ((p ∷ l) ∷ ls) h = omega arith

-- ---- a lane has no more pairs than bits

lane_bits : (l : Lane) → ((w m : ℕ) → 0 < times w m l → 0 < pop m) → length l ≤ total l
unfolding total
lane_bits [] h = omega arith
lane_bits (p ∷ l) h =
    let rest : length l ≤ total l = lane_bits l (λ w m q. h w m (omega (arith, times_cons w m p l))) in
    omega (arith, h p.word p.mask (times_here p l))

module _ (n : ℕ) (ps : List Pair) (lanes : List Lane) (packing : Packing n ps lanes) where
  pub rounds_some : 0 < length ps → 0 < longest lanes
  rounds_some h = go ps h packing.once
    where
      go : (ps : List Pair) → 0 < length ps → ((w m : ℕ) → times w m (joined lanes) ≡ times w m ps) → 0 < longest lanes
      go [] h once = absurd (not-suc-le-zero h)
      go (p ∷ ps) h once = longest_some p.word p.mask lanes (omega (arith, once p.word p.mask, times_here p ps))

  module _ (some_bits : (w m : ℕ) → 0 < times w m ps → (0 < m) × (m < 2 ^ 32)) where
    pub lane_length : (i : ℕ) → length (get_or lanes i []) ≤ total (get_or lanes i [])
    lane_length i = lane_bits (get_or lanes i []) each
      where
        each : (w m : ℕ) → 0 < times w m (get_or lanes i []) → 0 < pop m
        each w m h =
            let s = some_bits w m (omega (arith, packing.once w m, in_lanes w m lanes i h)) in
            pop_some m s.1 s.0

    pub rounds_le : longest lanes ≤ 32
    rounds_le = longest_le lanes 32 (λ i. omega (arith, lane_length i, packing.thin i))

-- "rounds is the longest lane, at most 32": for a set that passes refusals 2 and 3
pub rounds_range : (n : ℕ) (ps : List Pair) (lanes : List Lane) → Packing n ps lanes → broken ps ≡ none → ((w m : ℕ) → 0 < times w m ps → m < 2 ^ 32)
    → 0 < length ps → (0 < longest lanes) × (longest lanes ≤ 32)
rounds_range n ps lanes packing form small h =
    (rounds_some n ps lanes packing h, rounds_le n ps lanes packing (λ w m q. (mask_some ps form w m q, small w m q)))
