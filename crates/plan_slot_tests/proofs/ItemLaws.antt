-- The items of a part in the code's terms: a sweep asks for the answer from item i on, and a stage's items are a run of them.
-- Assumes nothing.
use mathlib.Core.Path.{◌≡◌, refl, sym, ap, ap₂, subst, ◌∙◌}
use mathlib.Core.Bool.{Bool, true, false}
use mathlib.Core.List.{List}
use mathlib.Core.Option.{Option, none, some}
use Prim.Native.Nat.{ℕ, zero, suc, ◌+◌, ◌*◌, ◌-◌, ◌%◌, ◌≤◌, ◌<◌}
use native.Mathlib.Nat.{mul-le-mul_left}
use native.Mathlib.Omega.{arith}
use Rattle.words.specs.Edition.{Known}
use Rattle.words.proofs.EditionLaws.{runs_in}
use Rattle.plan_record.proofs.RecordLaws.{lanes_known}
use Rattle.plan_record.specs.Record.{plan_lanes, slots_of, majors_of, parts_of, stages_of, body_at}
use Rattle.plan_record.specs.Form.{plan_form}
use Rattle.plan_record.specs.Body.{BodyReady, BodyOf}
use Rattle.plan_record.specs.declared.bodies.Body.{Body}
use Rattle.words.specs.Tests.{first_from}
use Rattle.words.proofs.TestLaws.{some_not_none, first_here, first_on, first_none, none_not}
use Rattle.plan_record.proofs.PlanFormLaws.{formed, body_ready}
use Rattle.plan_slots.specs.Slots.{TopOf, bad_item, over_items}
use Rattle.plan_slots.proofs.SlotLaws.{over_item}

-- ---- a run of items, then the others

passed : (f : ℕ → Bool) (m k i : ℕ) → m ≡ k + 1 → f i ≡ true → first_from f m i ≡ first_from f k (i + 1)
passed f m k i h e = let q : m - 1 ≡ k = omega arith in first_on f m i (omega arith) e ∙ ap (λ (x : ℕ). first_from f x (i + 1)) q

pub run_some : (f : ℕ → Bool) (m n i k : ℕ) → first_from f m i ≡ some k → first_from f (m + n) i ≡ some k
run_some f zero n i k h = absurd (some_not_none (sym h ∙ first_none f i))
run_some f (suc m) n i k h = go (f i) refl (run_some f m n (i + 1) k)
  where
    go : (b : Bool) → f i ≡ b → (first_from f m (i + 1) ≡ some k → first_from f (m + n) (i + 1) ≡ some k) → first_from f (suc m + n) i ≡ some k
    go true e r = passed f (suc m + n) (m + n) i (omega arith) e ∙ r (sym (passed f (suc m) m i (omega arith) e) ∙ h)
    go false e r = first_here f (suc m + n) i (omega arith) e ∙ (sym (first_here f (suc m) i (omega arith) e) ∙ h)

pub run_none : (f : ℕ → Bool) (m n i : ℕ) → first_from f m i ≡ none → first_from f (m + n) i ≡ first_from f n (i + m)
run_none f zero n i h =
    let a : 0 + n ≡ n = omega arith in
    let b : i ≡ i + 0 = omega arith in
    ap (λ (x : ℕ). first_from f x i) a ∙ ap (first_from f n) b
run_none f (suc m) n i h = go (f i) refl (run_none f m n (i + 1))
  where
    go : (b : Bool) → f i ≡ b → (first_from f m (i + 1) ≡ none → first_from f (m + n) (i + 1) ≡ first_from f n (i + 1 + m))
        → first_from f (suc m + n) i ≡ first_from f n (i + suc m)
    go true e r =
        let q : i + 1 + m ≡ i + suc m = omega arith in
        passed f (suc m + n) (m + n) i (omega arith) e ∙ (r (sym (passed f (suc m) m i (omega arith) e) ∙ h) ∙ ap (first_from f n) q)
    go false e r = absurd (some_not_none (sym (first_here f (suc m) i (omega arith) e) ∙ h))

-- ---- the items of stage t, from slot j on. n is the number of lanes: a stage has 32n items, and products with n stay as they are

module _ (n : ℕ) where
  pub stage_start : (f : ℕ → Bool) (b : ℕ) → first_from f (32 * n - 0) (b + 0) ≡ first_from f (32 * n) b
  stage_start f b =
      let e : b + 0 ≡ b = omega arith in
      let z : 32 * n - 0 ≡ 32 * n = omega arith in
      ap₂ (first_from f) z e

  module _ (right : ℕ → ℕ → Bool) (t j : ℕ) (answer : Option ℕ) (so_far : first_from (over_items n right) (32 * n - j) (32 * n * t + j) ≡ answer) where
    pub stage_next : j < 32 * n → right t j ≡ true → first_from (over_items n right) (32 * n - (j + 1)) (32 * n * t + (j + 1)) ≡ answer
    stage_next l e =
        let a : 32 * n * t + j + 1 ≡ 32 * n * t + (j + 1) = omega arith in
        ap (first_from (over_items n right) (32 * n - (j + 1))) (sym a)
        ∙ (sym (passed (over_items n right) (32 * n - j) (32 * n - (j + 1)) (32 * n * t + j) (omega arith) (over_item n right t j l ∙ e)) ∙ so_far)

    pub stage_fault : (i : ℕ) → i ≡ 32 * n * t + j → j < 32 * n → right t j ≡ false → some i ≡ answer
    stage_fault i at l e = ap some at ∙ (sym (first_here (over_items n right) (32 * n - j) (32 * n * t + j) (omega arith) (over_item n right t j l ∙ e)) ∙ so_far)

    pub stage_end : 32 * n ≤ j → none ≡ answer
    stage_end l =
        let z : 32 * n - j ≡ 0 = omega arith in
        sym (ap (λ (m : ℕ). first_from (over_items n right) m (32 * n * t + j)) z ∙ first_none (over_items n right) (32 * n * t + j)) ∙ so_far

  -- items that are right, one after the other, and eight from an eighth one on
  stage_run_lem : (right : ℕ → ℕ → Bool) (t j : ℕ) (answer : Option ℕ) → first_from (over_items n right) (32 * n - j) (32 * n * t + j) ≡ answer
      → (m : ℕ) → j + m ≤ 32 * n → ((k : ℕ) → k < m → right t (j + k) ≡ true) → first_from (over_items n right) (32 * n - (j + m)) (32 * n * t + (j + m)) ≡ answer
  stage_run_lem right t j answer h zero l e =
      let z : j + 0 ≡ j = omega arith in
      ap (λ (i : ℕ). first_from (over_items n right) (32 * n - i) (32 * n * t + i)) z ∙ h
  stage_run_lem right t j answer h (suc m) l e =
      let z : j + suc m ≡ j + m + 1 = omega arith in
      ap (λ (i : ℕ). first_from (over_items n right) (32 * n - i) (32 * n * t + i)) z
      ∙ stage_next right t (j + m) answer (stage_run_lem right t j answer h m (omega arith) (λ k u. e k (omega arith))) (omega arith) (e m (omega arith))

  pub stage_eight : (right : ℕ → ℕ → Bool) (t j : ℕ) (answer : Option ℕ) → first_from (over_items n right) (32 * n - j) (32 * n * t + j) ≡ answer
      → j < 32 * n → (j % 8 ≡ 0) × ((k : ℕ) → k < 8 → right t (j + k) ≡ true)
      → (j + 8 ≤ 32 * n) × (first_from (over_items n right) (32 * n - (j + 8)) (32 * n * t + (j + 8)) ≡ answer)
  stage_eight right t j answer h l (m, e) = let b : j + 8 ≤ 32 * n = omega arith in (b, stage_run_lem right t j answer h 8 b e)

  -- item 0 is right, and the others are left; or it is refused
  module _ (right : ℕ → ℕ → Bool) (t : ℕ) (lanes : 128 ≤ n) where
    pub zero_right : right t 0 ≡ true → first_from (over_items n right) (32 * n - 1) (32 * n * t + 1) ≡ first_from (over_items n right) (32 * n) (32 * n * t)
    zero_right e = stage_next right t 0 _ (stage_start (over_items n right) (32 * n * t)) (omega arith) e

    pub zero_fault : (i : ℕ) → i ≡ 32 * n * t + 0 → right t 0 ≡ false → some i ≡ first_from (over_items n right) (32 * n) (32 * n * t)
    zero_fault i at e = stage_fault right t 0 _ (stage_start (over_items n right) (32 * n * t)) i at (omega arith) e

-- ---- the stages of a part, one run after the other: from stage 0 on, and from stage 1 on where stage 0 has nothing to refuse

module _ (n : ℕ) where
  module _ (f : ℕ → Bool) (m t : ℕ) (answer : Option ℕ) (left : t < m) (so_far : first_from f (32 * n * m - 32 * n * t) (32 * n * t) ≡ answer) where
    split : 32 * n * m - 32 * n * t ≡ 32 * n + (32 * n * m - 32 * n * (t + 1))
    split = omega (arith, runs_in (32 * n) t m left)

    pub stages_next : first_from f (32 * n) (32 * n * t) ≡ none → first_from f (32 * n * m - 32 * n * (t + 1)) (32 * n * (t + 1)) ≡ answer
    stages_next h =
        let e : 32 * n * (t + 1) ≡ 32 * n * t + 32 * n = omega arith in
        ap (first_from f (32 * n * m - 32 * n * (t + 1))) e
        ∙ (sym (run_none f (32 * n) (32 * n * m - 32 * n * (t + 1)) (32 * n * t) h) ∙ (sym (ap (λ (k : ℕ). first_from f k (32 * n * t)) split) ∙ so_far))

    pub stages_fault : (k : ℕ) → first_from f (32 * n) (32 * n * t) ≡ some k → some k ≡ answer
    stages_fault k h =
        sym (run_some f (32 * n) (32 * n * m - 32 * n * (t + 1)) (32 * n * t) k h) ∙ (sym (ap (λ (k : ℕ). first_from f k (32 * n * t)) split) ∙ so_far)

  pub stages_end : (f : ℕ → Bool) (m t : ℕ) (answer : Option ℕ) → m ≤ t → first_from f (32 * n * m - 32 * n * t) (32 * n * t) ≡ answer → none ≡ answer
  stages_end f m t answer l h =
      let z : 32 * n * m - 32 * n * t ≡ 0 = omega (arith, mul-le-mul_left {m = m} {n = t} (32 * n) l) in
      sym (ap (λ (k : ℕ). first_from f k (32 * n * t)) z ∙ first_none f (32 * n * t)) ∙ h

pub stages_all : (d : List ℕ) (right : ℕ → ℕ → Bool) (p m : ℕ) → m ≡ stages_of d p
    → first_from (over_items (plan_lanes d) right) (slots_of d * m - slots_of d * 0) (slots_of d * 0) ≡ bad_item d right p
unfolding bad_item
stages_all d right p m h =
    let e : slots_of d * m - slots_of d * 0 ≡ slots_of d * m = omega arith in
    let z : slots_of d * 0 ≡ 0 = omega arith in
    ap₂ (first_from (over_items (plan_lanes d) right)) (e ∙ ap (λ (k : ℕ). slots_of d * k) h) z

pub stages_first : (d : List ℕ) (right : ℕ → ℕ → Bool) (p m : ℕ) → m ≡ stages_of d p → 0 < m → ((j : ℕ) → right 0 j ≡ true)
    → first_from (over_items (plan_lanes d) right) (slots_of d * m - slots_of d * (0 + 1)) (slots_of d * (0 + 1)) ≡ bad_item d right p
stages_first d right p m h l k =
    let zero-run : first_from (over_items (plan_lanes d) right) (slots_of d) (slots_of d * 0) ≡ none = from_zero in
    stages_next (plan_lanes d) (over_items (plan_lanes d) right) m 0 _ l (stages_all d right p m h) zero-run
  where
    from_zero : first_from (over_items (plan_lanes d) right) (slots_of d) (slots_of d * 0) ≡ none
    from_zero =
        let z : slots_of d * 0 ≡ 0 = omega arith in
        ap (first_from (over_items (plan_lanes d) right) (slots_of d)) z
        ∙ none_not (over_items (plan_lanes d) right) (slots_of d) (λ j u. let a : slots_of d * 0 + j ≡ j = omega arith in ap (over_items (plan_lanes d) right) (sym a) ∙ (over_item (plan_lanes d) right 0 j u ∙ k j))

-- ---- the parts of a plan

-- a body may be asked for, and has a stage
module _ (d : List ℕ) (form : plan_form d ≡ true) where
  pub form_majors : majors_of d ≤ 64
  form_majors = (formed d form).head.majors

  pub form_ready : (n p at : ℕ) → n ≡ parts_of d → p < n → at ≡ body_at d p → BodyReady d p at
  form_ready n p at h l e = body_ready d (formed d form).sizes p at (omega arith) e

  pub form_stages : (n p : ℕ) (b : Body) → n ≡ parts_of d → p < n → BodyOf d p b → 0 < b.stages
  form_stages n p b h l e = omega (arith, ((formed d form).part p (omega arith)).some_stages, e.stages)

-- the item of a body's stage, as the code works it out
pub item_is : (d : List ℕ) (p : ℕ) (b : Body) (s x r : ℕ) → BodyOf d p b → r ≡ 32 * b.lanes * s + x → r ≡ slots_of d * s + x
item_is d p b s x r h e = e ∙ ap (λ (n : ℕ). 32 * n * s + x) h.lanes

-- a position's slots a and b are inside the part's stage
pub power_inside : (d : List ℕ) (p : ℕ) (b : Body) (q m : ℕ) → BodyOf d p b → TopOf q m → q < 32 * b.lanes → q + 2 * m < 64 * b.lanes
power_inside d p b q m h power l = power.inside b.lanes (subst Known (sym h.lanes) (lanes_known d)) l
