-- A build that is not refused leaves the assembled words and starts in front of what was there; a run of these keeps demand 3.
-- Assumes nothing.
use mathlib.Core.Path.{◌≡◌, refl, sym, ap, ap₂, ◌∙◌}
use mathlib.Core.Bool.{Bool, true, false, ◌&&◌}
use mathlib.Core.Option.{Option, none, some}
use mathlib.Core.List.{List}
use Prim.Native.Nat.{ℕ, ◌+◌, ◌*◌, ◌≤◌}
use native.Mathlib.Omega.{arith}
use borrow.Author.Tests.{leb-true}
use lib.Dec.{leb}
use lib.ListN.{length, take, drop}
use lib.Seq.{sets, sets-eq, take_at}
use Rattle.words.specs.Answer.{Answer, good, refused, nowhere}
use Rattle.words.specs.Edition.{levels_for}
use Rattle.words.specs.declared.refusals.Refusal.{Refusal}
use Rattle.words.proofs.AnswerLaws.{refused_good}
use Rattle.plan_record.specs.Record.{plan_lanes, blocks_of, majors_of, parts_of}
use Rattle.plan_record.specs.Form.{plan_room_words}
use Rattle.words.proofs.TestLaws.{and_true}
use Rattle.plan_blocks.specs.Blocks.{state_words}
use Rattle.plan_refusals.specs.Refusals.{plan_refusal, plan_verdict}
use Rattle.script_assembly.specs.Assembly.{script_words, script_starts}
use Rattle.script_assembly.proofs.ScriptStartLaws.{starts_length}
use Rattle.run_machine.specs.Run.{run_answer}
use Rattle.promise.specs.Promise.{stage_run}
use Rattle.promise.proofs.FinishLaws.{finished}
use Rattle.flatten.specs.Flatten.{Sizes, sizes_of, fits, if_fits, building, laid}
use Rattle.promise_joined.specs.Joined.{BuildLeaves, BuiltRun}

-- ---- an answer that is a build

record Built (verdict : Option Refusal) (enough : Bool) (y x : Sizes) : Type 0 where
  pub accepted : verdict ≡ none
  pub fit : enough ≡ true
  pub sizes : y ≡ x

built_so : (verdict : Option Refusal) (enough : Bool) (y x : Sizes) → elim verdict [ some q ↦ refused q | none ↦ if_fits enough y ] ≡ good x → Built verdict enough y x
built_so (some q) enough y x e = refused_good q x e
built_so none true y x e = record { accepted = refl; fit = refl; sizes = cc }
built_so none false y x e = refused_good (nowhere 14) x e

accepted_so : (room : Bool) (p : Option Refusal) → ◌≡◌ {A = Option Refusal} (elim room [ true ↦ p | false ↦ some (nowhere 32) ]) none → p ≡ none
accepted_so true p e = e
accepted_so false p e = let z : ◌≡◌ {A = ℕ} 0 1 = cc in absurd (omega arith)

-- a list that is put in front of another, and cut to its length
front : (before l : List ℕ) (k : ℕ) → length l ≤ length before → k ≡ length l → take k (sets before 0 l) ≡ l
front before l k h e = ap (take k) (sets-eq l before 0 (omega arith)) ∙ take_at l (drop (0 + length l) before) k (sym e)

pub build_leaves : BuildLeaves
unfolding building laid sizes_of fits plan_verdict
build_leaves d r starts words pieces x s e =
    let B = built_so (plan_verdict d r) (fits (sizes_of (plan_lanes d) d) (parts_of d) (length starts) (length words) (length pieces)) (sizes_of (plan_lanes d) d) x e in
    let starts_fit = leb (blocks_of d * majors_of d + 1) (length starts) in
    let words-fit = leb (length (script_words (plan_lanes d) d)) (length words) in
    let (a, b) = and_true starts_fit words-fit (and_true (leb (parts_of d) (length pieces)) (starts_fit && words-fit) B.fit).1 in
    let ws : x.words ≡ length (script_words (plan_lanes d) d) = ap (λ (y : Sizes). y.words) (sym B.sizes) in
    let ss : x.starts ≡ length (script_starts (plan_lanes d) d) = ap (λ (y : Sizes). y.starts) (sym B.sizes) ∙ sym (starts_length (plan_lanes d) d) in
    record {
      accepted = accepted_so (leb (plan_room_words d) r) (plan_refusal d) B.accepted;
      words_are = ap (λ (y : Answer Sizes). take x.words (laid y (script_words (plan_lanes d) d) words)) e ∙ front words (script_words (plan_lanes d) d) x.words (leb-true _ _ b) ws;
      starts_are =
          ap (λ (l : List ℕ). take (blocks_of d + 1) (drop (blocks_of d * s) l))
          (ap (λ (y : Answer Sizes). take x.starts (laid y (script_starts (plan_lanes d) d) starts)) e
          ∙ front starts (script_starts (plan_lanes d) d) x.starts (omega (arith, leb-true (blocks_of d * majors_of d + 1) (length starts) a, starts_length (plan_lanes d) d)) ss);
    }

pub built_run : BuiltRun
unfolding building sizes_of
built_run d r starts words pieces x s turns old new room e stage old-size new_size space named all =
    let B = built_so (plan_verdict d r) (fits (sizes_of (plan_lanes d) d) (parts_of d) (length starts) (length words) (length pieces)) (sizes_of (plan_lanes d) d) x e in
    let size : x.state ≡ state_words d = ap (λ (y : Sizes). y.state) (sym B.sizes) in
    let L = build_leaves d r starts words pieces x s e in
    let F = finished d s turns old new room L.accepted stage (old-size ∙ size) (new_size ∙ size) space named all in (
      (stage_run d s turns old new).new,
      ap₂ (λ (w t : List ℕ). run_answer (plan_lanes d) (levels_for (plan_lanes d)) w t turns old new room) L.words_are L.starts_are ∙ F.0,
      F.1,
    )
