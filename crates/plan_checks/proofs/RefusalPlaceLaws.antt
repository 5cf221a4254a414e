-- The places that the steps answer with are those of the definitions, and a plan in form has few parts.
-- Assumes nothing.
use mathlib.Core.Path.{◌≡◌, refl, sym, ap, ◌∙◌}
use mathlib.Core.Bool.{true}
use mathlib.Core.Option.{Option, none, some}
use mathlib.Core.List.{List}
use Prim.Native.Nat.{ℕ, ◌^◌, ◌<◌}
use native.Mathlib.Omega.{arith}
use Rattle.plan_record.specs.Record.{plan_lanes, parts_of}
use Rattle.words.specs.Tests.{Place, lowest}
use Rattle.plan_record.specs.Form.{plan_form}
use Rattle.words.proofs.TestLaws.{lowest_at}
use Rattle.plan_record.proofs.PlanFormLaws.{formed}
use Rattle.std.specs.declared.option.Option as code
use Rattle.words.specs.declared.found.Place as found
use Rattle.words.specs.Found.{item_of, lowest_of}
use Rattle.plan_counts.specs.Counts.{refusal7}
use Rattle.plan_slots.specs.Slots.{refusal9, refusal10, refusal11}
use Rattle.plan_positions.specs.Positions.{refusal12}
use Rattle.plan_entries.specs.TableEntries.{refusal13}
use Rattle.std.specs.Prelude.{⊤, Err}
use Rattle.std.specs.declared.result.Result.{Result}
use Rattle.plan_reads.specs.declared.check.Unread.{Unread}
use Rattle.plan_reads.specs.declared.check.Unread.TheVariants as unread
use Rattle.plan_reads.specs.PartReads.{refused_reads}
use Rattle.plan_reads.specs.PartReadAnswers.{checked_of}
use Rattle.plan_reads.proofs.CheckLaws.{zero_item}
use Rattle.plan_refusals.specs.Refusals.{or_else, gate_place}
use Rattle.plan_refusals.specs.RefusalGroups.{Few, read_refusal}
use Rattle.plan_checks.specs.Verdicts.{lowest_place, list_place, unread_place, checked_refusal}

-- ---- parts are few

module _ (d : List ℕ) (form : plan_form d ≡ true) where
  lowest-few : (bad : ℕ → Option ℕ) → Few (lowest bad (parts_of d))
  lowest-few bad x e = omega (arith, (lowest_at bad (parts_of d) 0 x e).below, (formed d form).sizes.headed.parts)

  pub few7 : Few (refusal7 d)
  unfolding refusal7
  few7 = lowest-few _

  pub few9 : Few (refusal9 d)
  unfolding refusal9
  few9 = lowest-few _

  pub few10 : Few (refusal10 d)
  unfolding refusal10
  few10 = lowest-few _

  pub few11 : Few (refusal11 d)
  unfolding refusal11
  few11 = lowest-few _

  pub few12 : Few (refusal12 d)
  unfolding refusal12
  few12 = lowest-few _

  pub few13 : Few (refusal13 d)
  unfolding refusal13
  few13 = lowest-few _

  pub few_reads : (k : ℕ) → Few (refused_reads (plan_lanes d) k d)
  unfolding refused_reads
  few_reads k = lowest-few _

-- ---- an answer's place

pub list_told : (o : Option ℕ) (r : code.Option ℕ) → r ≡ item_of o → list_place r ≡ gate_place o
list_told none r e = ap list_place e
list_told (some g) r e = ap list_place e

pub lowest_told : (o : Option Place) (r : code.Option found.Place) → r ≡ lowest_of o → lowest_place r ≡ o
lowest_told none r e = ap lowest_place e
lowest_told (some x) r e = ap lowest_place e

pub few_same : (o p : Option Place) → p ≡ o → Few o → Few p
few_same o p e h x f = h x (sym e ∙ f)

-- ---- 3, 21 and 22 are told at item 0, 4 at its word

reads_item : (k : ℕ) → (4 ≡ k → ⊥) → (d : List ℕ) (x : Place) → refused_reads (plan_lanes d) k d ≡ some x → x.item ≡ 0
unfolding refused_reads
reads_item k other d x e = zero_item k other d x.part x.item (lowest_at _ (parts_of d) 0 x e).refused

checked_told : (a b w f : Option Place) → ((x : Place) → a ≡ some x → x.item ≡ 0) → ((x : Place) → b ≡ some x → x.item ≡ 0) → ((x : Place) → w ≡ some x → x.item ≡ 0)
    → checked_refusal (checked_of a b w f) ≡ or_else 3 a (or_else 21 b (or_else 22 w (or_else 4 f none)))
checked_told (some x) b w f h g l = rw (h x refl)
checked_told none (some x) w f h g l = rw (g x refl)
checked_told none none (some x) f h g l = rw (l x refl)
checked_told none none none (some x) h g l = refl
checked_told none none none none h g l = refl

-- what the pass over the parts answers for plan d
abbrev pub checked_reads : List ℕ → Result ⊤ Unread
checked_reads d = checked_of (refused_reads (plan_lanes d) 3 d) (refused_reads (plan_lanes d) 21 d) (refused_reads (plan_lanes d) 22 d) (refused_reads (plan_lanes d) 4 d)

pub reads_told : (d : List ℕ) (r : Result ⊤ Unread) → r ≡ checked_reads d → checked_refusal r ≡ read_refusal d
unfolding read_refusal
reads_told d r e =
    let three = reads_item 3 (λ f. omega arith) d in
    let bits = reads_item 21 (λ f. omega arith) d in
    let wide = reads_item 22 (λ f. omega arith) d in
    ap checked_refusal e ∙ checked_told (refused_reads (plan_lanes d) 3 d) (refused_reads (plan_lanes d) 21 d) (refused_reads (plan_lanes d) 22 d) (refused_reads (plan_lanes d) 4 d) three bits wide

checked_few : (a b w f : Option Place) → Few a → Few b → Few w → Few f → (u : Unread) → Err u ≡ checked_of a b w f → (unread_place u).part < 2 ^ 32
checked_few (some x) b w f h g l m u e = let q : u ≡ unread.Nothing x.part = cc in rw q (h x refl)
checked_few none (some x) w f h g l m u e = let q : u ≡ unread.Bits x.part = cc in rw q (g x refl)
checked_few none none (some x) f h g l m u e = let q : u ≡ unread.Wide x.part = cc in rw q (l x refl)
checked_few none none none (some x) h g l m u e = let q : u ≡ unread.NoRoom x.part x.item = cc in rw q (m x refl)
checked_few none none none none h g l m u e = let z : ◌≡◌ {A = ℕ} 0 1 = cc in absurd (omega arith)

pub reads_few : (d : List ℕ) → plan_form d ≡ true → (u : Unread) → Err u ≡ checked_reads d → (unread_place u).part < 2 ^ 32
reads_few d form u e = checked_few _ _ _ _ (few_reads d form 3) (few_reads d form 21) (few_reads d form 22) (few_reads d form 4) u e
