-- What refusal 15 leaves: a part in form has every fact that a turn asks for, and so have all parts of a block in form.
-- Assumes nothing.
use mathlib.Core.Path.{◌≡◌, refl, ◌∙◌}
use mathlib.Core.Bool.{true, false, ◌&&◌, ◌||◌}
use mathlib.Core.List.{List}
use mathlib.Core.Logic.{⊎_elim}
use Prim.Native.Nat.{ℕ, zero, suc, ◌+◌, ◌*◌, ◌/◌, ◌%◌, ◌^◌, ◌≤◌, ◌<◌}
use native.Mathlib.Omega.{arith}
use borrow.Author.Tests.{leb-true, ltb-true, eqb-true, eq-eqb, ne_eqb}
use lib.Dec.{leb, ltb, eqb}
use lib.ListN.{length}
use Rattle.words.specs.Bit.{pop}
use Rattle.words.specs.Sum.{sum_to}
use Rattle.words.specs.Tests.{all_below}
use Rattle.words.specs.Edition.{Known}
use Rattle.words.proofs.EditionLaws.{known_least, known_most}
use Rattle.words.proofs.TestLaws.{and_true, or_cases, all_at, not_both}
use Rattle.run_machine.specs.Part.{stages_at, last_at, write_outs_at, start_at, srams_at, rounds_at, duplicates_at, normal_at, end_at, location_in, read_word_at, read_mask_at, entry_at}
use Rattle.run_machine.specs.Run.{entries_form, locations_form, lanes_form, reads_form, stores_form, part_form, parts_form}
use Rattle.run_machine.specs.Well.{Lanes, Reads, EntriesIn, PartWell}

pub lanes_of_lem : (n : ℕ) → Known n → Lanes n
lanes_of_lem n k = record { edition = k; least = known_least n k; most = known_most n k }

module _ (n : ℕ) (W : List ℕ) (s t o : ℕ) where
  entries-in : entries_form n W o ≡ true → EntriesIn n W o
  unfolding entries_form
  entries-in h k i l g =
      ltb-true _ _ (all_at (λ i. ltb (entry_at n W o k i) (32 * n)) (32 * n) i (all_at (λ k. all_below (λ i. ltb (entry_at n W o k i) (32 * n)) (32 * n)) (stages_at W o + 2) k h l) g)

  places-in : locations_form n W o ≡ true → (l : ℕ) → l < normal_at W o → (location_in n W o l / 256 < stages_at W o) × (location_in n W o l % 256 < n)
  unfolding locations_form
  places-in h l g =
      let (a, b) = and_true (ltb (location_in n W o l / 256) (stages_at W o)) _ (all_at (λ l. ltb (location_in n W o l / 256) (stages_at W o) && ltb (location_in n W o l % 256) n) (normal_at W o) l h g) in
      (ltb-true _ _ a, ltb-true _ _ b)

  lanes-in : lanes_form n W o ≡ true → (i : ℕ) → i < n → sum_to (λ r. pop (read_mask_at n W o r i)) (rounds_at W o) ≤ 32
  unfolding lanes_form
  lanes-in h i l = leb-true _ _ (all_at (λ i. leb (sum_to (λ r. pop (read_mask_at n W o r i)) (rounds_at W o)) 32) n i h l)

  words-in : reads_form n W s t o ≡ true → (r i : ℕ) → r < rounds_at W o → i < n → 0 < read_mask_at n W o r i → (read_word_at n W o r i % 2 ^ 31 < s) × (read_word_at n W o r i % 2 ^ 31 < t)
  unfolding reads_form
  words-in h r i l g some =
      let x = read_word_at n W o r i % 2 ^ 31 in
      let one = all_at
      (λ i. eqb (read_mask_at n W o r i) 0 || (ltb (read_word_at n W o r i % 2 ^ 31) s && ltb (read_word_at n W o r i % 2 ^ 31) t)) n i
      (all_at (λ r. all_below (λ i. eqb (read_mask_at n W o r i) 0 || (ltb (read_word_at n W o r i % 2 ^ 31) s && ltb (read_word_at n W o r i % 2 ^ 31) t)) n) (rounds_at W o) r h l) g in
      ⊎_elim
      (λ e. absurd (omega (arith, eqb-true (read_mask_at n W o r i) 0 e)))
      (λ e. let (a, b) = and_true (ltb x s) (ltb x t) e in (ltb-true _ _ a, ltb-true _ _ b))
      (or_cases (eqb (read_mask_at n W o r i) 0) (ltb x s && ltb x t) one)

  pub record StoresIn : Type 0 where
    pub exact : srams_at W o + duplicates_at W o ≤ write_outs_at W o
    pub few : normal_at W o ≤ n
    pub inside : 0 < normal_at W o → (start_at W o + normal_at W o ≤ s) × (start_at W o + normal_at W o ≤ t)

  pub stores_in : stores_form n W s t o ≡ true → StoresIn
  unfolding stores_form
  stores_in h =
      let x = start_at W o + normal_at W o in
      let (ab, c) = and_true (leb (srams_at W o + duplicates_at W o) (write_outs_at W o) && leb (normal_at W o) n) (eqb (normal_at W o) 0 || (leb x s && leb x t)) h in
      let (a, b) = and_true (leb (srams_at W o + duplicates_at W o) (write_outs_at W o)) (leb (normal_at W o) n) ab in
      record {
        exact = leb-true _ _ a;
        few = leb-true _ _ b;
        inside = λ some. ⊎_elim
            (λ e. absurd (omega (arith, eqb-true (normal_at W o) 0 e)))
            (λ e. let (p, q) = and_true (leb x s) (leb x t) e in (leb-true _ _ p, leb-true _ _ q))
            (or_cases (eqb (normal_at W o) 0) (leb x s && leb x t) c);
      }

  -- ---- one part, which ends by e

  pub record InForm (e : ℕ) : Type 0 where
    pub header : o + n ≤ e
    pub some : 1 ≤ stages_at W o
    pub few : stages_at W o ≤ 255
    pub ends : end_at n W o ≤ e
    pub last : last_at W o ≡ elim (eqb (end_at n W o) e) [ true ↦ 1 | false ↦ 0 ]
    pub stores : StoresIn
    pub places : (l : ℕ) → l < normal_at W o → (location_in n W o l / 256 < stages_at W o) × (location_in n W o l % 256 < n)
    pub reads : Reads n W o s t
    pub entries : EntriesIn n W o

  pub in_form : (e : ℕ) → part_form n W s t e o ≡ true → InForm e
  unfolding part_form
  in_form e h =
      let c₁ = leb (o + n) e in
      let c₂ = leb 1 (stages_at W o) in
      let c₃ = leb (stages_at W o) 255 in
      let c₄ = leb (end_at n W o) e in
      let c₅ = eqb (last_at W o) (elim (eqb (end_at n W o) e) [ true ↦ 1 | false ↦ 0 ]) in
      let c₆ = stores_form n W s t o in
      let c₇ = locations_form n W o in
      let c₈ = lanes_form n W o in
      let c₉ = reads_form n W s t o in
      let (h₉, entries) = and_true (c₁ && c₂ && c₃ && c₄ && c₅ && c₆ && c₇ && c₈ && c₉) (entries_form n W o) h in
      let (h₈, words) = and_true (c₁ && c₂ && c₃ && c₄ && c₅ && c₆ && c₇ && c₈) c₉ h₉ in
      let (h₇, lanes) = and_true (c₁ && c₂ && c₃ && c₄ && c₅ && c₆ && c₇) c₈ h₈ in
      let (h₆, places) = and_true (c₁ && c₂ && c₃ && c₄ && c₅ && c₆) c₇ h₇ in
      let (h₅, stores) = and_true (c₁ && c₂ && c₃ && c₄ && c₅) c₆ h₆ in
      let (h₄, last) = and_true (c₁ && c₂ && c₃ && c₄) c₅ h₅ in
      let (h₃, ends) = and_true (c₁ && c₂ && c₃) c₄ h₄ in
      let (h₂, few) = and_true (c₁ && c₂) c₃ h₃ in
      let (h₁, some) = and_true c₁ c₂ h₂ in
      record {
        header = leb-true _ _ h₁;
        some = leb-true _ _ some;
        few = leb-true _ _ few;
        ends = leb-true _ _ ends;
        last = eqb-true _ _ last;
        stores = stores_in stores;
        places = places-in places;
        reads = record { lanes = lanes-in lanes; words = words-in words };
        entries = entries-in entries;
      }

-- ---- the parts of a block, f at most

module _ (n : ℕ) (W : List ℕ) (s t e : ℕ) (lanes : Lanes n) (within : e ≤ length W) where
  -- the first of them, and those after it, where it is not the last
  record PartsIn (f o : ℕ) : Type 0 where
    pub left : ℕ
    pub is : f ≡ suc left
    pub form : InForm n W s t o e
    pub rest : (end_at n W o ≡ e → ⊥) → parts_form n W s t e left (end_at n W o) ≡ true

  parts_in_lem : (f o : ℕ) → parts_form n W s t e f o ≡ true → PartsIn f o
  unfolding parts_form
  parts_in_lem zero o h = absurd (not_both false h refl)
  parts_in_lem (suc f) o h =
      let first = and_true (part_form n W s t e o) (elim (eqb (end_at n W o) e) [ true ↦ true | false ↦ parts_form n W s t e f (end_at n W o) ]) h in
      record { left = f; is = refl; form = in_form n W s t o e first.0; rest = λ d. rw (ne_eqb (end_at n W o) e d) at first.1 }

  -- "word 1 one on the last, else zero"
  last-ends : (o : ℕ) → InForm n W s t o e → (last_at W o ≡ 1 → ⊥) → end_at n W o ≡ e → ⊥
  last-ends o a d q = d (a.last ∙ rw (eq-eqb (end_at n W o) e q))

  pub parts_well : (f o : ℕ) → parts_form n W s t e f o ≡ true → PartWell n W s t o
  unfolding end_at
  parts_well f o h =
      let a = parts_in_lem f o h in
      let form = a.form in
      record {
        part = record { lanes = lanes; inside = omega (arith, form.ends) };
        reads = form.reads;
        entries = form.entries;
        captures = record { exact = form.stores.exact; few = form.stores.few; places = λ l g. (form.places l g).1 };
        stores = form.stores.inside;
        next = λ d. omega (arith, lanes.least, (parts_in_lem a.left (end_at n W o) (a.rest (last-ends o form d))).form.header);
      }

  -- after a part that is not the last its block goes on in form
  pub parts_next : (f o : ℕ) → parts_form n W s t e f o ≡ true → (last_at W o ≡ 1 → ⊥) → (g : ℕ) × (parts_form n W s t e g (end_at n W o) ≡ true)
  parts_next f o h d =
      let a = parts_in_lem f o h in
      (a.left, a.rest (last-ends o a.form d))
