-- The activations of a part's endpoints stand at the front of the keys, those of one endpoint more after each turn.
-- Assumes nothing.
use mathlib.Core.Path.{◌≡◌, refl, sym, ap, ap₂, ◌∙◌}
use mathlib.Core.List.{List, [], ◌∷◌, ◌++◌}
use Prim.Native.Nat.{ℕ, zero, suc, ◌+◌, ◌≤◌, ◌<◌}
use native.Mathlib.Numerals.{add-one}
use native.Mathlib.Omega.{arith}
use lib.ListN.{length, take, drop, set, length-append, length-drop}
use lib.Seq.{sets, sets-eq, take_at, drop-append-add, drop-drop}
use Rattle.plan_record.specs.Record.{endpoints_of}
use Rattle.plan_record.specs.declared.bodies.Endpoint.{Endpoint}
use Rattle.plan_record.specs.declared.bodies.Endpoint.TheVariants.{Output, Staged, Register, Sram}
use Rattle.plan_record.specs.Endpoint.{endpoint_at}
use Rattle.plan_counts.specs.Counts.{activations_of, activations_to, activations}
use Rattle.plan_counts.specs.Parts.{activations_at}

-- ---- one endpoint

pub put_one : (keys acts : List ℕ) (n v : ℕ) → acts ≡ v ∷ [] → (n + 1 ≡ n + length acts) × (set keys n v ≡ sets keys n acts)
put_one keys acts n v h = rw h (refl, refl)

pub put_none : (keys acts : List ℕ) (n : ℕ) → acts ≡ [] → (n ≡ n + length acts) × (keys ≡ sets keys n acts)
put_none keys acts n h = rw h (omega arith, refl)

activations_few : (e : Endpoint) → length (activations_of e) ≤ 1
unfolding activations_of
activations_few (Output x) = omega arith
activations_few (Staged x) = omega arith
activations_few (Register x y) = omega arith
activations_few Sram = omega arith

pub activations_length : (d : List ℕ) (p n : ℕ) → length (activations_to d p n) ≤ n
unfolding activations_to
activations_length d p zero = omega arith
activations_length d p (suc n) =
    let one : length (activations_at d p n) ≤ 1 = activations_few (endpoint_at d p n) in
    omega (arith, activations_length d p n, length-append (activations_to d p n) (activations_at d p n))

-- ---- the endpoints below i

pub record Collected (d : List ℕ) (p i : ℕ) (first keys : List ℕ) (n : ℕ) : Type 0 where
  pub keys-are : keys ≡ activations_to d p i ++ drop n first
  pub count : n ≡ length (activations_to d p i)
  pub few : n ≤ i

pub collect_start : (d : List ℕ) (p : ℕ) (first : List ℕ) → Collected d p 0 first first 0
unfolding activations_to
collect_start d p first = record { keys-are = refl; count = refl; few = omega arith }

-- a list put at the seam of two
sets_seam : (a b vs : List ℕ) (n : ℕ) → n ≡ length a → length vs ≤ length b → sets (a ++ b) n vs ≡ a ++ vs ++ drop (length vs) b
sets_seam a b vs n h g =
    let fits : n + length vs ≤ length (a ++ b) = omega (arith, length-append a b) in
    sets-eq vs (a ++ b) n fits ∙ ap₂ (λ (s t : List ℕ). s ++ vs ++ t) (take_at a b n (sym h)) (ap (λ (k : ℕ). drop (k + length vs) (a ++ b)) h ∙ drop-append-add a b (length vs))

module _ (d : List ℕ) (p i : ℕ) (first keys : List ℕ) (n : ℕ) (g : Collected d p i first keys n) (room : i < length first) where
  pub collect_room : n < length keys
  collect_room = omega (arith, ap length g.keys-are, length-append (activations_to d p i) (drop n first), length-drop n first, g.count, g.few)

  pub collect_more : (after : List ℕ) (m : ℕ) → after ≡ sets keys n (activations_at d p i) → m ≡ n + length (activations_at d p i) → Collected d p (i + 1) first after m
  unfolding activations_to
  collect_more after m e f =
      let acts = activations_at d p i in
      let one : length acts ≤ 1 = activations_few (endpoint_at d p i) in
      let rest : drop (length acts) (drop n first) ≡ drop m first = drop-drop (length acts) n first ∙ ap (λ (k : ℕ). drop k first) (sym f) in
      let put : sets keys n acts ≡ activations_to d p i ++ acts ++ drop m first =
      ap (λ (l : List ℕ). sets l n acts) g.keys-are ∙ sets_seam (activations_to d p i) (drop n first) acts n g.count (omega (arith, length-drop n first, g.few))
      ∙ ap (λ (l : List ℕ). activations_to d p i ++ acts ++ l) rest in
      rw add-one
      (record {
        keys-are = e ∙ put;
        count = f ∙ ap (λ (k : ℕ). k + length acts) g.count ∙ sym (length-append (activations_to d p i) acts);
        few = omega (arith, g.few);
      })

pub collect_all : (d : List ℕ) (p i : ℕ) (first keys : List ℕ) (n : ℕ) → Collected d p i first keys n → i ≡ endpoints_of d p → i ≤ 8192
    → (n ≡ length (activations d p)) × (n ≤ 8192) × (keys ≡ activations d p ++ drop n first)
collect_all d p i first keys n g e h =
    let acts : activations_to d p i ≡ activations d p = ap (activations_to d p) e in
    (g.count ∙ ap length acts, omega (arith, g.few), g.keys-are ∙ ap (λ (l : List ℕ). l ++ drop n first) acts)

-- the front that holds them, lent to be sorted
module _ (d : List ℕ) (p n : ℕ) (first keys : List ℕ) (count : n ≡ length (activations d p)) (put : keys ≡ activations d p ++ drop n first) where
  pub front_is : take n keys ≡ activations d p
  front_is = ap (take n) put ∙ take_at (activations d p) (drop n first) n (sym count)

  pub front_length : n ≡ length (take n keys)
  front_length = count ∙ ap length (sym front_is)
