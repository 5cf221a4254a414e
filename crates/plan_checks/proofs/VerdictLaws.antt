-- A step that refuses ends the checks: its refusal is that of all steps from there on. One that does not says that there is none so far.
-- Assumes nothing.
use mathlib.Core.Path.{◌≡◌, refl, sym, ap, ◌∙◌}
use mathlib.Core.Bool.{Bool, true, false}
use mathlib.Core.Option.{Option, none, some}
use Prim.Native.Nat.{ℕ}
use native.Mathlib.Omega.{arith}
use Rattle.std.specs.Prelude.{⊤, Ok, Err}
use Rattle.std.specs.declared.result.Result.{Result}
use Rattle.words.specs.Tests.{Place}
use Rattle.words.proofs.TestLaws.{some_not_none}
use Rattle.words.specs.declared.refusals.Refusal.{Refusal}
use Rattle.plan_refusals.specs.Refusals.{or_else, unless}
use Rattle.plan_refusals.specs.RefusalGroups.{first}
use Rattle.plan_checks.specs.Verdicts.{verdict_of}
use Rattle.plan_refusals.proofs.PassedLaws.{past, past_unless}

-- ---- the first of two

or_first : (k : ℕ) (o : Option Place) (r : Option Refusal) → first (or_else k o none) r ≡ or_else k o r
or_first k none r = refl
or_first k (some q) r = refl

unless_first : (k : ℕ) (b : Bool) (r : Option Refusal) → first (unless k b none) r ≡ unless k b r
unless_first k true r = refl
unless_first k false r = refl

-- ---- what a verdict says

pub refused_is : (o : Option Refusal) (q : Refusal) → Err q ≡ verdict_of o → o ≡ some q
refused_is none q h = let z : ◌≡◌ {A = ℕ} 0 1 = cc in absurd (omega arith)
refused_is (some x) q h = cc

pub went_on : (o : Option Refusal) (x : ⊤) → Ok x ≡ verdict_of o → o ≡ none
went_on none x h = refl
went_on (some q) x h = let z : ◌≡◌ {A = ℕ} 0 1 = cc in absurd (omega arith)

module _ (o : Option Refusal) (q : Refusal) (is : Err q ≡ verdict_of o) where
  pub stopped : (r : Option Refusal) → Err q ≡ verdict_of (first o r)
  stopped r = rw (refused_is o q is)

  pub never : {A : Type 0} → o ≡ none → A
  never e = absurd (some_not_none (sym (refused_is o q is) ∙ e))

pub stopped_at : (k : ℕ) (o : Option Place) (q : Refusal) → Err q ≡ verdict_of (or_else k o none) → (r : Option Refusal) → Err q ≡ verdict_of (or_else k o r)
stopped_at k o q is r = stopped (or_else k o none) q is r ∙ ap verdict_of (or_first k o r)

pub went_past : (k : ℕ) (o : Option Place) (x : ⊤) → Ok x ≡ verdict_of (or_else k o none) → o ≡ none
went_past k o x is = (past k o none (went_on (or_else k o none) x is)).0

pub stopped_by : (k : ℕ) (b : Bool) (q : Refusal) → Err q ≡ verdict_of (unless k b none) → (r : Option Refusal) → Err q ≡ verdict_of (unless k b r)
stopped_by k b q is r = stopped (unless k b none) q is r ∙ ap verdict_of (unless_first k b r)

pub held : (k : ℕ) (b : Bool) (x : ⊤) → Ok x ≡ verdict_of (unless k b none) → b ≡ true
held k b x is = (past_unless k b none (went_on (unless k b none) x is)).0

-- ---- an answer in place of what it stands for

pub unless_told : (k : ℕ) (b b' : Bool) (v : Result ⊤ Refusal) → b ≡ b' → v ≡ verdict_of (unless k b none) → v ≡ verdict_of (unless k b' none)
unless_told k b b' v e is = is ∙ ap (λ (x : Bool). verdict_of (unless k x none)) e

pub at_told : (k : ℕ) (o o' : Option Place) (v : Result ⊤ Refusal) → o ≡ o' → v ≡ verdict_of (or_else k o none) → v ≡ verdict_of (or_else k o' none)
at_told k o o' v e is = is ∙ ap (λ (x : Option Place). verdict_of (or_else k x none)) e
