-- A part's counts: SRAMs one endpoint more a turn, the two ends of refusal 7 in a part, and what a part that passed it has.
-- Assumes nothing.
use mathlib.Core.Path.{◌≡◌, refl, sym, ap, ◌∙◌}
use mathlib.Core.Bool.{Bool, true, false}
use mathlib.Core.Option.{Option, none, some}
use mathlib.Core.List.{List}
use Prim.Native.Nat.{ℕ, ◌+◌, ◌≤◌, ◌<◌}
use native.Mathlib.Omega.{arith}
use lib.Dec.{leb}
use borrow.Author.Tests.{leb-true, ltb-true, le-leb, lt-leb}
use Rattle.words.specs.Sum.{sum_to}
use Rattle.words.proofs.SumLaws.{sum_more}
use Rattle.plan_record.specs.Record.{plan_lanes, parts_of, endpoints_of, locations_of, location_at}
use Rattle.plan_record.specs.Endpoint.{endpoint_at}
use Rattle.plan_record.specs.declared.bodies.Endpoint.{Endpoint}
use Rattle.plan_record.specs.declared.bodies.Endpoint.TheVariants.{Output, Staged, Register, Sram}
use Rattle.plan_record.specs.declared.bodies.Body.{Body}
use Rattle.plan_record.specs.Form.{plan_form}
use Rattle.plan_record.specs.Body.{BodyOf}
use Rattle.plan_record.proofs.PlanFormLaws.{formed}
use Rattle.words.proofs.TestLaws.{not_none, lowest_none}
use Rattle.sort.specs.Sorted.{sort_of}
use Rattle.sort.proofs.SortLaws.{sort_length}
use Rattle.plan_counts.specs.Counts.{activations, is_sram, srams, duplicates, write_outs, bad_counts, refusal7}
use Rattle.std.specs.Prelude.{Some, None}
use Rattle.std.specs.declared.option.Option as code
use Rattle.plan_counts.specs.Parts.{Countable, location_fits, bad_location}
use Rattle.words.specs.Found.{item_of}
use Rattle.plan_counts.specs.Neighbours.{extras}
use Rattle.words.proofs.FoundLaws.{item_some, item_none}
use Rattle.plan_counts.proofs.DifferentLaws.{duplicates_sorted}
use Rattle.plan_counts.proofs.ActivationLaws.{extras_le}
use Rattle.plan_counts.proofs.CollectLaws.{activations_length}

-- the SRAMs among the endpoints below i
abbrev pub srams_to : List ℕ → ℕ → ℕ → ℕ
srams_to d p i = sum_to (λ j. is_sram (endpoint_at d p j)) i

pub srams_more : (d : List ℕ) (p i : ℕ) → srams_to d p (i + 1) ≡ srams_to d p i + is_sram (endpoint_at d p i)
srams_more d p i = sum_more (λ j. is_sram (endpoint_at d p j)) i

pub not_sram : (e : Endpoint) → (e ≡ Sram → ⊥) → is_sram e ≡ 0
unfolding is_sram
not_sram (Output x) h = refl
not_sram (Staged x) h = refl
not_sram (Register x y) h = refl
not_sram Sram h = absurd (h refl)

pub one_sram : (e : Endpoint) → e ≡ Sram → is_sram e ≡ 1
unfolding is_sram
one_sram e h = ap is_sram h

-- ---- the ends of refusal 7 in a part

module _ (d : List ℕ) (p : ℕ) (r : code.Option ℕ) (looked : r ≡ item_of (bad_location d p)) where
  pub counts_location : (l : ℕ) → r ≡ Some l → Some l ≡ item_of (bad_counts d p)
  unfolding bad_counts
  counts_location l h = let e : bad_location d p ≡ some l = item_some _ l (sym looked ∙ h) in rw (e, bad_counts)

  module _ (fine : r ≡ None) where
    pub counts_fine : write_outs d p ≤ plan_lanes d → None ≡ item_of (bad_counts d p)
    unfolding bad_counts
    counts_fine h = let e : bad_location d p ≡ none = item_none _ (sym looked ∙ fine) in rw (e, le-leb (write_outs d p) (plan_lanes d) h, bad_counts)

    pub counts_many : (n : ℕ) → n ≡ locations_of d p → plan_lanes d < write_outs d p → Some n ≡ item_of (bad_counts d p)
    unfolding bad_counts
    counts_many n c h = let e : bad_location d p ≡ none = item_none _ (sym looked ∙ fine) in rw (e, lt-leb (write_outs d p) (plan_lanes d) h, bad_counts) (ap Some c)

-- ---- what is known of a part

-- a part of a plan in form may be counted
pub countable : (d : List ℕ) (p : ℕ) (b : Body) → plan_form d ≡ true → p < parts_of d → BodyOf d p b → Countable d p b
countable d p b f l h = record { body = h; staged = λ i k. ((formed d f).endpoint p i l (omega (arith, h.endpoints))).staged }

pub duplicates_few : (d : List ℕ) (p : ℕ) → endpoints_of d p ≤ 8192 → duplicates d p ≤ 256
duplicates_few d p h =
    let acts = activations d p in
    let n : extras (sort_of acts) ≤ 8192 = omega (arith, extras_le (sort_of acts), sort_length acts, activations_length d p (endpoints_of d p)) in
    omega (arith, duplicates_sorted acts)

-- WHAT A PART THAT PASSED REFUSAL 7 HAS
pub record CountsPassed (d : List ℕ) (p : ℕ) : Type 0 where
  pub location : (l : ℕ) → l < locations_of d p → location_at d p l < plan_lanes d
  pub words : write_outs d p ≤ plan_lanes d
  pub locations : locations_of d p ≤ plan_lanes d
  pub few-srams : srams d p ≤ plan_lanes d
  pub few-duplicates : duplicates d p ≤ plan_lanes d

part_passed : (d : List ℕ) (p : ℕ) → bad_counts d p ≡ none → CountsPassed d p
unfolding bad_counts write_outs
part_passed d p h = go (bad_location d p) refl (leb (write_outs d p) (plan_lanes d)) refl
  where
    go : (o : Option ℕ) → bad_location d p ≡ o → (b : Bool) → leb (write_outs d p) (plan_lanes d) ≡ b → CountsPassed d p
    go (some l) e b t =
        let q : bad_counts d p ≡ some l = rw (e, bad_counts) in
        let z : ◌≡◌ {A = ℕ} 0 1 = cc in
        absurd (omega arith)
    go none e false t =
        let q : bad_counts d p ≡ some (locations_of d p) = rw (e, t, bad_counts) in
        let z : ◌≡◌ {A = ℕ} 0 1 = cc in
        absurd (omega arith)
    go none e true t =
        let w : write_outs d p ≤ plan_lanes d = leb-true _ _ t in
        record {
          location = λ l k. ltb-true _ _ (not_none (location_fits d p) (locations_of d p) e l k);
          words = w;
          locations = omega arith;
          few-srams = omega arith;
          few-duplicates = omega arith;
        }

pub counts_passed : (d : List ℕ) → refusal7 d ≡ none → (p : ℕ) → p < parts_of d → CountsPassed d p
unfolding refusal7
counts_passed d h p l = part_passed d p (lowest_none (bad_counts d) (parts_of d) h p l)
