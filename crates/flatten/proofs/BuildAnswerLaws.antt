-- From the verdict of the checks to the answer of a build, and what the lent slices then hold.
-- Assumes nothing.
use mathlib.Core.Path.{◌≡◌, refl, sym, ap, ap₂, ◌∙◌}
use mathlib.Core.Bool.{Bool, true, false, ◌&&◌}
use mathlib.Core.Option.{Option, none, some}
use mathlib.Core.List.{List, [], ◌∷◌}
use Prim.Native.Nat.{ℕ, ◌+◌, ◌*◌, ◌≤◌, ◌<◌}
use native.Mathlib.Numerals.{add-one}
use native.Mathlib.Omega.{arith}
use borrow.Author.Tests.{leb-true, le-leb, lt-leb}
use lib.Dec.{leb}
use lib.ListN.{length, set, replicate}
use lib.Seq.{sets}
use Rattle.words.specs.Answer.{Answer, good, refused, nowhere}
use Rattle.words.specs.Section.{list_of}
use Rattle.words.proofs.ListLaws.{sets_append}
use Rattle.words.proofs.SectionLaws.{length_list_of}
use Rattle.std.specs.Prelude.{Err}
use Rattle.words.specs.declared.refusals.Refusal.{Refusal}
use Rattle.plan_record.specs.Record.{plan_lanes, blocks_of, majors_of, parts_of}
use Rattle.plan_record.specs.Form.{plan_room_words}
use Rattle.words.proofs.TestLaws.{and_true}
use Rattle.plan_reads.specs.PartReads.{part_size}
use Rattle.plan_refusals.specs.Refusals.{plan_refusal, plan_verdict}
use Rattle.plan_checks.specs.CheckedRoom.{PlanReady, ready_room, room_left}
use Rattle.plan_checks.specs.Verdicts.{verdict_of}
use Rattle.words.proofs.TestLaws.{some_not_none}
use Rattle.plan_checks.proofs.VerdictLaws.{refused_is}
use Rattle.script_assembly.specs.Assembly.{script_words}
use Rattle.script_assembly.proofs.ScriptStartLaws.{starts_length}
use Rattle.script_layout.specs.Layout.{AcceptedTabled, PlanRoom}
use Rattle.flatten.specs.declared.sizes.Sizes.{Sizes}
use Rattle.flatten.specs.Flatten as flat
use Rattle.flatten.specs.Flatten.{sizes_of, sizing, fits, if_fits, fitted, building, laid, build_room_after}
use Rattle.flatten.specs.FlattenedAnswer.{sizes_in, flattened_of}

-- ---- a refusal

module _ (d room : List ℕ) where
  -- what the room of a refused plan holds
  room-refused : (b : Bool) (o : Option Refusal) (z : List ℕ) (q : Refusal)
      → ◌≡◌ {A = Option Refusal} (elim b [ true ↦ o | false ↦ some (nowhere 32) ]) (some q)
      → ◌≡◌ {A = List ℕ} (elim b [ false ↦ room | true ↦ elim o [ some x ↦ replicate (length room) 0 | none ↦ z ] ])
      (elim b [ false ↦ room | true ↦ replicate (length room) 0 ])
  room-refused false o z q e = refl
  room-refused true (some x) z q e = refl
  room-refused true none z q e = absurd (some_not_none (sym e))

  module _ (q : Refusal) (e : plan_verdict d (length room) ≡ some q) where
    refused_room : (after : List ℕ) → after ≡ room_left d room → after ≡ build_room_after d room
    unfolding plan_verdict room_left build_room_after
    refused_room after is = is ∙ room-refused (leb (plan_room_words d) (length room)) (plan_refusal d) (ready_room d (length room)) q e

    refused-sizing : refused q ≡ sizing (plan_lanes d) d (length room)
    unfolding sizing
    refused-sizing = rw (e, sizing)

    module _ (s w k : ℕ) where
      refused-building : refused q ≡ building (plan_lanes d) d (length room) s w k
      unfolding building
      refused-building = rw (e, building)

  -- ---- an accepted plan

  none_both : (b : Bool) (o : Option Refusal) → ◌≡◌ {A = Option Refusal} (elim b [ true ↦ o | false ↦ some (nowhere 32) ]) none → (b ≡ true) × (o ≡ none)
  none_both true o e = (refl, e)
  none_both false o e = absurd (some_not_none e)

  module _ (e : plan_verdict d (length room) ≡ none) where
    accepted : (leb (plan_room_words d) (length room) ≡ true) × (plan_refusal d ≡ none)
    unfolding plan_verdict
    accepted = none_both (leb (plan_room_words d) (length room)) (plan_refusal d) e

    pub sound : (after : List ℕ) → PlanReady d after → AcceptedTabled d after
    sound after r = record { accepted = accepted.1; ready = r }

    pub cleared_room : (after : List ℕ) (m : ℕ) → m ≡ length room → after ≡ replicate m 0 → after ≡ build_room_after d room
    unfolding build_room_after
    cleared_room after m k z = z ∙ ap (λ (n : ℕ). replicate n 0) k ∙ (rw (accepted.0, build_room_after))

    pub accepted_sizing : good (sizes_of (plan_lanes d) d) ≡ sizing (plan_lanes d) d (length room)
    unfolding sizing
    accepted_sizing = rw (e, sizing)

    pub accepted_building : (s w k : ℕ) → fitted (plan_lanes d) d s w k ≡ building (plan_lanes d) d (length room) s w k
    unfolding building
    accepted_building s w k = rw (e, building)

-- ---- refusal 14

module _ (d : List ℕ) (s w k : ℕ) (x : Sizes) (are : x ≡ sizes_in (sizes_of (plan_lanes d) d)) (parts : ℕ) (count : parts ≡ parts_of d) (t : Bool) (test : t ≡ (leb parts k && (leb x.starts s && leb x.words w))) where
  fits-is : fits (sizes_of (plan_lanes d) d) (parts_of d) s w k ≡ t
  unfolding fits
  fits-is = sym (test ∙ ap₂ (λ (n : ℕ) (y : Sizes). leb n k && (leb y.starts s && leb y.words w)) count are)

  pub long_enough : t ≡ true → fitted (plan_lanes d) d s w k ≡ good (sizes_of (plan_lanes d) d)
  long_enough e = ap (λ (b : Bool). if_fits b (sizes_of (plan_lanes d) d)) (fits-is ∙ e)

  pub too_short : t ≡ false → fitted (plan_lanes d) d s w k ≡ refused (nowhere 14)
  too_short e = ap (λ (b : Bool). if_fits b (sizes_of (plan_lanes d) d)) (fits-is ∙ e)

  all_fit : t ≡ true → (leb (parts_of d) k ≡ true) × ((leb (sizes_of (plan_lanes d) d).starts s && leb (sizes_of (plan_lanes d) d).words w) ≡ true)
  unfolding fits
  all_fit e = and_true (leb (parts_of d) k) (leb (sizes_of (plan_lanes d) d).starts s && leb (sizes_of (plan_lanes d) d).words w) (fits-is ∙ e)

  pub pieces_room : t ≡ true → parts_of d ≤ k
  pieces_room e = leb-true (parts_of d) k (all_fit e).0

  pub plan_room : (room : List ℕ) → AcceptedTabled d room → t ≡ true → PlanRoom d room s w
  unfolding sizes_of
  plan_room room h e =
      let r = and_true (leb (sizes_of (plan_lanes d) d).starts s) (leb (sizes_of (plan_lanes d) d).words w) (all_fit e).1 in
      record {
        sound = h;
        starts = omega (arith, leb-true (blocks_of d * majors_of d + 1) s r.0, starts_length (plan_lanes d) d);
        words = leb-true (length (script_words (plan_lanes d) d)) w r.1;
      }

-- one piece size more
pub pieces_more : (d before so_far : List ℕ) (p v : ℕ) → so_far ≡ sets before 0 (list_of (part_size (plan_lanes d) d) p) → v ≡ part_size (plan_lanes d) d p
    → set so_far p v ≡ sets before 0 (list_of (part_size (plan_lanes d) d) (p + 1))
unfolding list_of
pieces_more d before so_far p v e is =
    let sizes = list_of (part_size (plan_lanes d) d) p in
    let last : sets before 0 (list_of (part_size (plan_lanes d) d) (p + 1)) ≡ set (sets before 0 sizes) (0 + length sizes) (part_size (plan_lanes d) d p) =
    rw add-one (sets_append before 0 sizes (part_size (plan_lanes d) d p ∷ [])) in
    rw (e, is) (sym (last ∙ ap (λ (n : ℕ). set (sets before 0 sizes) n (part_size (plan_lanes d) d p)) (omega (arith, length_list_of (part_size (plan_lanes d) d) p))))

-- what a result slice then holds
pub laid_built : (o : Answer flat.Sizes) (x : flat.Sizes) → o ≡ good x → (l before after : List ℕ) → after ≡ sets before 0 l → after ≡ laid o l before
unfolding laid
laid_built o x e l before after a = a ∙ rw (e, laid)

pub laid_refused : (o : Answer flat.Sizes) (q : Refusal) → o ≡ refused q → (l before : List ℕ) → before ≡ laid o l before
unfolding laid
laid_refused o q e l before = rw (e, laid)

-- ---- a refused plan's answer, and its slices

module _ (d room : List ℕ) (x : Refusal) (v : Err x ≡ verdict_of (plan_verdict d (length room))) (after : List ℕ) (is : after ≡ room_left d room) where
  pub refused_sized : (Err x ≡ flattened_of (sizing (plan_lanes d) d (length room))) × (after ≡ build_room_after d room)
  refused_sized =
      let e = refused_is (plan_verdict d (length room)) x v in
      (ap flattened_of (refused-sizing d room x e), refused_room d room x e after is)

  module _ (starts words pieces : List ℕ) where
    pub refused_built : Err x ≡ flattened_of (building (plan_lanes d) d (length room) (length starts) (length words) (length pieces))
    refused_built = ap flattened_of (refused-building d room x (refused_is (plan_verdict d (length room)) x v) (length starts) (length words) (length pieces))

    pub refused_kept : (l before : List ℕ) → before ≡ laid (building (plan_lanes d) d (length room) (length starts) (length words) (length pieces)) l before
    refused_kept l before =
        let e = refused_is (plan_verdict d (length room)) x v in
        let same = sym (refused-building d room x e (length starts) (length words) (length pieces)) in
        laid_refused (building (plan_lanes d) d (length room) (length starts) (length words) (length pieces)) x same l before

-- one test, then the other
pub test_on : (a b : ℕ) (c : Bool) → a ≤ b → c ≡ (leb a b && c)
test_on a b c h = rw (le-leb a b h)

pub test_off : (a b : ℕ) (c : Bool) → b < a → leb a b ≡ (leb a b && c)
test_off a b c h = rw (lt-leb a b h)
