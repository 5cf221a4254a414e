-- The script of a part of an accepted plan passes the run's test of 15: each of the test's clauses from what the words say when read back.
-- Assumes nothing.
use mathlib.Core.Path.{◌≡◌, ap, ◌∙◌}
use mathlib.Core.Bool.{true, false, ◌&&◌, ◌||◌, or-true}
use mathlib.Core.Option.{none}
use mathlib.Core.List.{List, []}
use mathlib.Core.Logic.{⊎_elim}
use Prim.Native.Nat.{ℕ, ◌+◌, ◌*◌, ◌/◌, ◌%◌, ◌^◌, ◌≤◌, ◌<◌}
use native.Mathlib.Decide.{ℕ_discrete}
use native.Mathlib.Omega.{arith}
use borrow.Author.Tests.{eq-eqb, ne_eqb, lt-ltb, le-leb}
use lib.Dec.{ltb, eqb}
use lib.ListN.{get_or}
use Rattle.words.specs.Sum.{sum_to}
use Rattle.words.specs.Bit.{pop}
use Rattle.words.proofs.BitLaws.{lt_or_ge}
use Rattle.words.proofs.SumLaws.{sum_ext}
use Rattle.reads.specs.ReadSet.{total}
use Rattle.reads.specs.Search.{Lane, longest}
use Rattle.reads.specs.Local.{word_in, mask_in}
use Rattle.words.specs.Answer.{good}
use Rattle.reads.proofs.RoundCountLaws.{longest_ge}
use Rattle.reads.proofs.ReadTurnLaws.{sum-total}
use Rattle.plan_record.specs.Record.{plan_lanes, slots_of, majors_of, parts_of, stages_of, locations_of, location_at}
use Rattle.plan_record.proofs.RecordLaws.{lanes_range}
use Rattle.words.proofs.TestLaws.{true_and, all_true}
use Rattle.plan_counts.specs.Counts.{write_outs}
use Rattle.plan_blocks.specs.Blocks.{state_words, totals_fit}
use Rattle.plan_blocks.proofs.StateStartLaws.{part_split, state_in, state_mono}
use Rattle.plan_positions.specs.Positions.{part_state_start, refusal12}
use Rattle.plan_positions.proofs.MajorLaws.{start_is}
use Rattle.plan_reads.specs.PartReads.{part_reads, part_packed, part_lanes}
use Rattle.script.specs.Script.{location_stage}
use Rattle.run_machine.specs.Part.{stages_at, last_at, write_outs_at, start_at, srams_at, rounds_at, duplicates_at, normal_at, end_at, location_in, read_word_at, read_mask_at, entry_at}
use Rattle.run_machine.specs.Run.{entries_form, locations_form, lanes_form, reads_form, stores_form, part_form}
use Rattle.promise_decode.specs.Decoded.{Decoded}
use Rattle.promise_decode.specs.Decodable.{Decodable}
use Rattle.promise_decode.specs.Fitting.{Fitting}
use Rattle.promise_decode.proofs.DecodeLaws.{stage_lt}
use Rattle.promise_decode.proofs.InsideLaws.{part_packing, read_inside}

-- ---- the clauses, over the number of lanes n

module _ (n : ℕ) (W : List ℕ) (o : ℕ) where
  entries-form : ((k i : ℕ) → k < stages_at W o + 2 → i < 32 * n → entry_at n W o k i < 32 * n) → entries_form n W o ≡ true
  unfolding entries_form
  entries-form h = all_true _ (stages_at W o + 2) (λ k a. all_true _ (32 * n) (λ i b. lt-ltb _ _ (h k i a b)))

  locations-form : ((l : ℕ) → l < normal_at W o → (location_in n W o l / 256 < stages_at W o) × (location_in n W o l % 256 < n)) → locations_form n W o ≡ true
  unfolding locations_form
  locations-form h = all_true _ (normal_at W o) (λ l a. true_and _ _ (lt-ltb _ _ (h l a).0) (lt-ltb _ _ (h l a).1))

  lanes-form : ((i : ℕ) → i < n → sum_to (λ r. pop (read_mask_at n W o r i)) (rounds_at W o) ≤ 32) → lanes_form n W o ≡ true
  unfolding lanes_form
  lanes-form h = all_true _ n (λ i a. le-leb _ _ (h i a))

  reads-form : (s t : ℕ)
      → ((r i : ℕ) → r < rounds_at W o → i < n → (read_mask_at n W o r i ≡ 0 → ⊥) → (read_word_at n W o r i % 2 ^ 31 < s) × (read_word_at n W o r i % 2 ^ 31 < t))
      → reads_form n W s t o ≡ true
  unfolding reads_form
  reads-form s t h = all_true _ (rounds_at W o) (λ r a. all_true _ n (λ i b. by r i a b (ℕ_discrete (read_mask_at n W o r i) 0)))
    where
      by : (r i : ℕ) → r < rounds_at W o → i < n → Dec (read_mask_at n W o r i ≡ 0)
          → (eqb (read_mask_at n W o r i) 0 || (ltb (read_word_at n W o r i % 2 ^ 31) s && ltb (read_word_at n W o r i % 2 ^ 31) t)) ≡ true
      by r i a b (yes e) = rw (eq-eqb _ _ e)
      by r i a b (no k) = let (u, v) = h r i a b k in rw (ne_eqb _ _ k, lt-ltb _ _ u, lt-ltb _ _ v)

  stores-form : (s t : ℕ) → srams_at W o + duplicates_at W o ≤ write_outs_at W o → normal_at W o ≤ n → start_at W o + normal_at W o ≤ s → start_at W o + normal_at W o ≤ t
      → stores_form n W s t o ≡ true
  unfolding stores_form
  stores-form s t a b c e = rw (le-leb _ _ a, le-leb _ _ b, le-leb _ _ c, le-leb _ _ e) (or-true (eqb (normal_at W o) 0))

  form_of : (s t e : ℕ) → 1 ≤ stages_at W o → stages_at W o ≤ 255 → end_at n W o ≤ e → last_at W o ≡ elim (eqb (end_at n W o) e) [ true ↦ 1 | false ↦ 0 ]
      → stores_form n W s t o ≡ true → locations_form n W o ≡ true → lanes_form n W o ≡ true → reads_form n W s t o ≡ true → entries_form n W o ≡ true
      → part_form n W s t e o ≡ true
  unfolding part_form end_at
  form_of s t e a b c m f g h i j =
      let head : o + n ≤ e = omega arith in
      true_and _ _
      (true_and _ _
      (true_and _ _
      (true_and _ _
      (true_and _ _
      (true_and _ _ (true_and _ _ (true_and _ _ (true_and _ _ (le-leb _ _ head) (le-leb _ _ a)) (le-leb _ _ b)) (le-leb _ _ c)) (eq-eqb _ _ m)) f) g) h) i) j

-- ---- the test

module _ (d : List ℕ) (p last state sram : ℕ) (W : List ℕ) (o : ℕ) (able : Decodable d p) (back : Decoded (plan_lanes d) d p last state sram W o) where
  abbrev S : ℕ
  S = stages_of d p

  entry-below : (k i : ℕ) → k < stages_at W o + 2 → i < slots_of d → entry_at (plan_lanes d) W o k i < slots_of d
  entry-below k i h l = ⊎_elim
      (λ (a : k < S). omega (arith, back.entry k i a l, able.entry k i a l))
      (λ (a : S ≤ k). ⊎_elim
      (λ (b : S < k). let e : k ≡ S + 1 = omega (arith, back.stages) in rw e (omega (arith, back.enable_entry_lem i l, able.enable i l)))
      (λ (b : k ≤ S). let e : k ≡ S = omega arith in rw e (omega (arith, back.sram_entry i l, able.sram i l)))
      (lt_or_ge S k))
      (lt_or_ge k S)

  location-there : (l : ℕ) → l < normal_at W o → (location_in (plan_lanes d) W o l / 256 < stages_at W o) × (location_in (plan_lanes d) W o l % 256 < plan_lanes d)
  location-there l h =
      let a : l < locations_of d p = omega (arith, back.normal) in
      let e = back.location l a in
      let s : location_stage d p l < stages_of d p = stage_lt d p l a in
      let c : location_at d p l < plan_lanes d = able.location l a in
      let most = lanes_range d in
      (omega (arith, back.stages), omega arith)

  lane-light : (i : ℕ) → i < plan_lanes d → total (get_or (part_lanes (plan_lanes d) d p) i []) ≤ 32 → sum_to (λ r. pop (read_mask_at (plan_lanes d) W o r i)) (rounds_at W o) ≤ 32
  lane-light i h thin =
      let lane : Lane = get_or (part_lanes (plan_lanes d) d p) i [] in
      let e : sum_to (λ r. pop (read_mask_at (plan_lanes d) W o r i)) (rounds_at W o) ≡ total lane =
      ap (sum_to (λ r. pop (read_mask_at (plan_lanes d) W o r i))) back.rounds
      ∙ sum_ext _ (λ r. pop (mask_in lane r)) (longest (part_lanes (plan_lanes d) d p)) (λ r k. ap pop (back.read_mask r i k h))
      ∙ sum-total lane (longest (part_lanes (plan_lanes d) d p)) (longest_ge (part_lanes (plan_lanes d) d p) i) in
      omega arith

  words-there : (s t : ℕ) → ((r i : ℕ) → (mask_in (get_or (part_lanes (plan_lanes d) d p) i []) r ≡ 0 → ⊥) → word_in (get_or (part_lanes (plan_lanes d) d p) i []) r % 2 ^ 31 < s)
      → ((r i : ℕ) → (mask_in (get_or (part_lanes (plan_lanes d) d p) i []) r ≡ 0 → ⊥) → word_in (get_or (part_lanes (plan_lanes d) d p) i []) r % 2 ^ 31 < t)
      → (r i : ℕ) → r < rounds_at W o → i < plan_lanes d → (read_mask_at (plan_lanes d) W o r i ≡ 0 → ⊥) → (read_word_at (plan_lanes d) W o r i % 2 ^ 31 < s) × (read_word_at (plan_lanes d) W o r i % 2 ^ 31 < t)
  words-there s t old new r i h l some_bits =
      let a : r < longest (part_lanes (plan_lanes d) d p) = omega (arith, back.rounds) in
      let m : mask_in (get_or (part_lanes (plan_lanes d) d p) i []) r ≡ 0 → ⊥ = λ z. some_bits (back.read_mask r i a l ∙ z) in
      rw (back.read_word r i a l) (old r i m, new r i m)

  stored-counts : srams_at W o + duplicates_at W o ≤ write_outs_at W o
  unfolding write_outs
  stored-counts = omega (arith, back.sram-count, back.duplicate-words, back.write-outs)

  -- THE RUN'S TEST OF 15 PASSES
  pub part_form_lem : (e s t : ℕ) → Fitting d p last state W o e s t → part_form (plan_lanes d) W s t e o ≡ true
  part_form_lem e s t fits =
      form_of (plan_lanes d) W o s t e
      (omega (arith, back.stages, able.some_stages))
      (omega (arith, back.stages, able.stages))
      fits.inside
      (back.last-mark ∙ fits.mark)
      (stores-form (plan_lanes d) W o s t stored-counts (omega (arith, back.normal, able.locations))
      (omega (arith, back.start, back.normal, fits.old-stores)) (omega (arith, back.start, back.normal, fits.new-stores)))
      (locations-form (plan_lanes d) W o location-there)
      (lanes-form (plan_lanes d) W o (λ i h. lane-light i h (fits.thin i)))
      (reads-form (plan_lanes d) W o s t (words-there s t fits.old-reads fits.new-reads))
      (entries-form (plan_lanes d) W o entry-below)

-- ---- a part of an accepted plan fits: its state start is the plan's, and both states hold the planned state

module _ (d : List ℕ) (fit : totals_fit d ≡ true) (twelve : refusal12 d ≡ none) (p : ℕ) (part : p < parts_of d) (found : part_reads (plan_lanes d) d p ≡ good (part_packed (plan_lanes d) d p)) where
  stored-inside : part_state_start d p + locations_of d p ≤ state_words d
  unfolding write_outs
  stored-inside =
      let (s, i, a, b, e) = part_split d (majors_of d) p part in
      omega (arith, ap (part_state_start d) e, ap (locations_of d) e, start_is d s i a b, (state_in d s i b).1, state_mono d (s + 1) (majors_of d) (omega arith))

  pub fitting : (last : ℕ) (W : List ℕ) (o e s t : ℕ) → end_at (plan_lanes d) W o ≤ e → last ≡ elim (eqb (end_at (plan_lanes d) W o) e) [ true ↦ 1 | false ↦ 0 ] → state_words d ≤ s → state_words d ≤ t
      → Fitting d p last (part_state_start d p) W o e s t
  fitting last W o e s t h m u v = record {
    inside = h;
    mark = m;
    old-stores = omega (arith, stored-inside);
    new-stores = omega (arith, stored-inside);
    thin = (part_packing d fit twelve p part found).thin;
    old-reads = λ r i k. omega (arith, read_inside d fit twelve p part found r i k);
    new-reads = λ r i k. omega (arith, read_inside d fit twelve p part found r i k);
  }
