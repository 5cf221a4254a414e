-- A part's script put together: stages one after the other, and the whole around its read section and the section of its first stage. Where the
-- code's products with the lanes meet the plan's is said once, by a path.
-- Assumes nothing.
use mathlib.Core.Path.{◌≡◌, sym, ap, ap₂, ◌∙◌}
use mathlib.Core.List.{List, ◌++◌, append_assoc}
use Prim.Native.Nat.{ℕ, ◌+◌, ◌*◌, ◌-◌, ◌/◌, ◌≤◌, ◌<◌}
use native.Mathlib.Numerals.{add-one}
use native.Mathlib.Omega.{arith}
use borrow.Rule.Slice.PartMut.{put_mid, mid_len}
use lib.ListN.{length, take, drop, length-append, length-drop}
use lib.Seq.{take_all, take-take, drop-drop, take-append-add, drop-append-add}
use Rattle.words.proofs.EditionLaws.{runs_in}
use Rattle.plan_record.specs.Record.{plan_lanes, stages_of}
use Rattle.plan_record.specs.declared.bodies.Body.{Body}
use Rattle.reads.specs.ReadSection.{read_section}
use Rattle.plan_reads.specs.PartReads.{part_lanes}
use Rattle.script.specs.declared.head.Numbers.{Numbers}
use Rattle.script.specs.Script.{numbers, location_words, stage_section, stage_sections, sram_section, enable_section, part_script}
use Rattle.script.specs.Writers.{number_words, NumbersOf, StagesRoom, ScriptRoom}
use Rattle.script.proofs.PartLengthLaws.{stage_length, stages_length}
use Rattle.script.proofs.PutMidLaws.{put_rest, put_next, put_mid_length}

-- ---- the stages

-- section k of m, in the room of all of them: n lanes, and r of them in the k sections before
pub section_in : (n o k m r long : ℕ) → n ≡ o → r ≡ n * k → k < m → long ≡ 20 * (o * m) → 20 * r + 20 * n ≤ long
section_in n o k m r long e is h room = omega (arith, is, runs_in n k m h, ap (λ (i : ℕ). i * m) e, room)

module _ (n : ℕ) (d : List ℕ) (p : ℕ) where
  pub stages_first : (xs : List ℕ) → take (20 * n) xs ≡ stage_section n d p 0 → take (20 * (n * 1)) xs ≡ stage_sections n d p 1
  unfolding stage_sections
  stages_first xs h = let one : 20 * (n * 1) ≡ 20 * n = omega arith in ap (λ (i : ℕ). take i xs) one ∙ h

  pub stages_more : (xs ys : List ℕ) (k a e : ℕ) → a ≡ 20 * (n * k) → e ≡ a + 20 * n → e ≤ length xs → ys ≡ stage_section n d p k → take (20 * (n * k)) xs ≡ stage_sections n d p k
      → take (20 * (n * (k + 1))) (put_mid a (e - a) xs ys) ≡ stage_sections n d p (k + 1)
  unfolding stage_sections
  stages_more xs ys k a e at to h is before =
      let q : 20 * (n * (k + 1)) ≡ e = omega arith in
      let m : length ys ≡ e - a = omega (arith, ap length is ∙ stage_length n d p k) in
      let through = put_next a e xs ys (omega arith) h m ∙ ap₂ ◌++◌ (ap (λ (i : ℕ). take i xs) at ∙ before) is in
      ap (λ (i : ℕ). take i (put_mid a (e - a) xs ys)) q ∙ through ∙ ap (stage_sections n d p) (sym (add-one k))

  pub stages_end : (xs : List ℕ) (k m : ℕ) → length xs ≡ 20 * (n * m) → k ≡ m → take (20 * (n * k)) xs ≡ stage_sections n d p k → xs ≡ stage_sections n d p m
  stages_end xs k m h e is = sym (take_all (20 * (n * k)) xs (omega (arith, ap (λ (i : ℕ). 20 * (n * i)) e))) ∙ is ∙ ap (stage_sections n d p) e

pub numbers_are : (d : List ℕ) (p : ℕ) (x : Numbers) → NumbersOf d p x → number_words (plan_lanes d / 2) x ≡ numbers (plan_lanes d) d p x.last x.state x.sram
unfolding number_words numbers
numbers_are d p x n = rw (n.stages, n.writeouts, n.srams, n.rounds, n.duplicates)

-- ---- the script: a head h of n words, what stands behind it, the stages w, the tables t

module _ (n : ℕ) (l h : List ℕ) (k : ℕ) (long : length h ≡ n) where
  head-take : take (n + k) (h ++ drop n l) ≡ h ++ take k (drop n l)
  head-take = ap (λ (i : ℕ). take (i + k) (h ++ drop n l)) (sym long) ∙ take-append-add h (drop n l) k

  head-drop : drop (n + k) (h ++ drop n l) ≡ drop (n + k) l
  head-drop = ap (λ (i : ℕ). drop (i + k) (h ++ drop n l)) (sym long) ∙ drop-append-add h (drop n l) k ∙ drop-drop k n l

  pub head_length : n ≤ length l → length (h ++ drop n l) ≡ length l
  head_length g = omega (arith, length-append h (drop n l), length-drop n l)

  -- the first words of the stages' part are those that stood there
  pub part_first_lem : (i m : ℕ) → i ≤ m → take i (take m (drop (n + k) (h ++ drop n l))) ≡ take i (drop (n + k) l)
  part_first_lem i m g = take-take i m (drop (n + k) (h ++ drop n l)) g ∙ ap (take i) head-drop

  pub three_parts : (w t : List ℕ) (e : ℕ) → n + k ≤ e → e ≤ length l → length w ≡ e - (n + k)
      → put_mid e (length (put_mid (n + k) (e - (n + k)) (h ++ drop n l) w) - e) (put_mid (n + k) (e - (n + k)) (h ++ drop n l) w) t
      ≡ h ++ take k (drop n l) ++ w ++ t
  three_parts w t e g f m =
      let fits : e ≤ length (h ++ drop n l) = omega (arith, head_length (omega arith)) in
      put_rest e (put_mid (n + k) (e - (n + k)) (h ++ drop n l) w) t
      ∙ ap (λ (z : List ℕ). z ++ t) (put_next (n + k) e (h ++ drop n l) w g fits m ∙ ap (λ (z : List ℕ). z ++ w) head-take)

pub part_script_is : (d : List ℕ) (p : ℕ) (x : Numbers) (h r w t : List ℕ) → NumbersOf d p x → h ≡ number_words (plan_lanes d / 2) x ++ location_words (plan_lanes d) d p
    → r ≡ read_section (part_lanes (plan_lanes d) d p) → w ≡ stage_sections (plan_lanes d) d p (stages_of d p) → t ≡ sram_section (plan_lanes d) d p ++ enable_section (plan_lanes d) d p
    → h ++ r ++ w ++ t ≡ part_script (plan_lanes d) d p x.last x.state x.sram
unfolding part_script
part_script_is d p x h r w t n eh er ew et = rw (eh, er, ew, et, numbers_are d p x n) (simp append_assoc)

-- ---- what the parts of the script's room are, of n lanes, r lanes in all rounds and m in all stages

module _ (d : List ℕ) (p : ℕ) (b : Body) (x : Numbers) (table out : List ℕ) (body : b.stages ≡ stages_of d p) (q : ScriptRoom d p b x table out) where
  module _ (n r m : ℕ) (lanes : n ≡ plan_lanes d) (rounds : r ≡ n * x.rounds) (stages : m ≡ n * b.stages) where
    abbrev from : ℕ
    from = n + 2 * r

    abbrev to : ℕ
    to = from + 20 * m

    rounds_are : r ≡ plan_lanes d * x.rounds
    rounds_are = rounds ∙ ap (λ (i : ℕ). i * x.rounds) lanes

    stages-are : m ≡ plan_lanes d * b.stages
    stages-are = stages ∙ ap (λ (i : ℕ). i * b.stages) lanes

    pub whole : length out ≡ to + 40 * n
    whole = omega (arith, q.room, lanes, rounds_are, stages-are)

    -- the section of the first stage is among the stages
    some-stage : plan_lanes d ≤ m
    some-stage = omega (arith, stages-are, runs_in (plan_lanes d) 0 b.stages q.some)

    module _ (h : List ℕ) (long : length h ≡ n) where
      pub inside : to ≤ length (h ++ drop n out)
      inside = omega (arith, whole, head_length n out h 0 long (omega (arith, whole)))

      pub stages_room : StagesRoom d p b table (take (to - from) (drop from (h ++ drop n out)))
      stages_room =
          let begins : n + 2 * r ≡ plan_lanes d + 2 * (plan_lanes d * x.rounds) = omega (arith, lanes, rounds_are) in
          record {
            some = q.some;
            wide = q.wide;
            room = mid_len from to (h ++ drop n out) inside ∙ omega (arith, stages-are);
            first =
                part_first_lem n out h (2 * r) long (20 * plan_lanes d) (to - from) (omega (arith, some-stage))
                ∙ ap (λ (i : ℕ). take (20 * plan_lanes d) (drop i out)) begins
                ∙ q.first;
          }

      module _ (w : List ℕ) (written : w ≡ stage_sections (plan_lanes d) d p (stages_of d p)) where
        abbrev then : List ℕ
        then = put_mid from (to - from) (h ++ drop n out) w

        stages-fit : length w ≡ to - from
        stages-fit =
            let many : plan_lanes d * stages_of d p ≡ m = sym (stages-are ∙ ap (λ (i : ℕ). plan_lanes d * i) body) in
            omega (arith, ap length written ∙ stages_length (plan_lanes d) d p (stages_of d p), many)

        same : length then ≡ length out
        same = put_mid_length from to (h ++ drop n out) w (omega arith) inside stages-fit ∙ head_length n out h 0 long (omega (arith, whole))

        pub tables_begin : to ≤ length then
        tables_begin = omega (arith, whole, same)

        pub tables_room : length (take (length then - to) (drop to then)) ≡ 40 * plan_lanes d
        tables_room = mid_len to (length then) then (omega arith) ∙ omega (arith, whole, same, lanes)

        pub script_made : (t : List ℕ) → h ≡ number_words (plan_lanes d / 2) x ++ location_words (plan_lanes d) d p → t ≡ sram_section (plan_lanes d) d p ++ enable_section (plan_lanes d) d p
            → put_mid to (length then - to) then t ≡ part_script (plan_lanes d) d p x.last x.state x.sram
        script_made t eh et =
            let reads : take (2 * r) (drop n out) ≡ read_section (part_lanes (plan_lanes d) d p) =
            ap₂ (λ (i : ℕ) (j : ℕ). take (2 * i) (drop j out)) rounds_are lanes ∙ q.reads
            in
            three_parts n out h (2 * r) long w t to (omega arith) (omega (arith, whole)) stages-fit
            ∙ part_script_is d p x h (take (2 * r) (drop n out)) w t q.numbers eh reads written et
