-- Words that are a part's script, read back by the run's accessors, say what the plan says. Each accessor's place is one of ScriptWordLaws; the rest is
-- a half of a word, a bit of a word or a word of a round. Over the number of lanes n up to the last law.
-- Assumes nothing.
use mathlib.Core.Path.{◌≡◌, refl, sym, ap, ◌∙◌}
use mathlib.Core.List.{List, []}
use Prim.Native.Nat.{ℕ, zero, suc, ◌+◌, ◌*◌, ◌/◌, ◌%◌, ◌^◌, ◌≤◌, ◌<◌}
use native.Mathlib.Nat.{add-zero, mod-lt, mul-suc}
use native.Mathlib.Numerals.{add-one}
use native.Mathlib.Omega.{arith}
use borrow.Author.Tests.{lt-leb}
use lib.Dec.{leb}
use lib.ListN.{length, get_or}
use Rattle.words.specs.Sum.{sum_to}
use Rattle.words.specs.Bit.{bit}
use Rattle.words.specs.Section.{word_of_entry, half_of}
use Rattle.words.specs.Edition.{section_words, part_words}
use Rattle.words.proofs.BitLaws.{test_le, bit_word_of}
use Rattle.words.proofs.SectionLaws.{get_d_list_of, half_two, place_lt}
use Rattle.reads.specs.Search.{longest}
use Rattle.reads.specs.Local.{word_in, mask_in}
use Rattle.reads.proofs.SectionWordLaws.{section_word, section_mask}
use Rattle.plan_record.specs.Record.{plan_lanes, stages_of, count_base, stage_locations, locations_in, locations_of, location_at, table_at}
use Rattle.plan_record.proofs.RecordLaws.{lanes_range}
use Rattle.plan_counts.specs.Counts.{srams, duplicates, write_outs}
use Rattle.plan_reads.specs.PartReads.{part_lanes}
use Rattle.script.specs.Script.{numbers, location_stage, location_half, location_words, stage_entry, xora_bit, xorb_bit, orb_bit, mask_word, stage_section, sram_section, enable_section, part_script}
use Rattle.script.proofs.HeadLaws.{ended_by, half_within}
use Rattle.script.specs.Writers.{ends_by}
use Rattle.script.proofs.PartLengthLaws.{lanes_even, script_length}
use Rattle.script.proofs.MaskLaws.{xora_lt, xorb_lt, orb_lt}
use Rattle.run_machine.specs.Part.{stages_at, last_at, write_outs_at, start_at, srams_at, rounds_at, duplicates_at, normal_at, end_at, location_in, read_word_at, read_mask_at, section_at, entry_at, lane_word_at}
use Rattle.promise_decode.specs.Decoded.{StandsAt, Decoded}
use Rattle.promise_decode.specs.Decodable.{Decodable}
use Rattle.promise_decode.proofs.LaneListLaws.{section_entry, section_first, section_second, section_third}
use Rattle.promise_decode.proofs.ScriptWordLaws.{within, at_number, at_location, at_read, at_stage, at_sram, at_enable}

-- ---- a location's stage is one of the part's

ended_le : (d : List ℕ) (p l n : ℕ) → ended_by d p l n ≤ n
unfolding sum_to
ended_le d p l zero = omega arith
ended_le d p l (suc n) = omega (arith, ended_le d p l n, test_le (leb (sum_to (stage_locations d p) (suc n)) l))

-- a stage that ends after location l is not counted
ended_lt : (d : List ℕ) (p l n : ℕ) → l < sum_to (stage_locations d p) n → ended_by d p l n < n
unfolding sum_to
ended_lt d p l zero h = absurd (omega arith)
ended_lt d p l (suc n) h =
    let e : ends_by (sum_to (stage_locations d p) (suc n)) l ≡ 0 = rw (lt-leb _ l h, ends_by) in
    omega (arith, ended_le d p l n, e)

pub stage_lt : (d : List ℕ) (p l : ℕ) → l < locations_of d p → location_stage d p l < stages_of d p
unfolding location_stage locations_in count_base
stage_lt d p l h = ended_lt d p l (stages_of d p) h

-- a bit of a lane's word
lane_bit : (f : ℕ → ℕ) (q : ℕ) → ((i : ℕ) → f i < 2) → bit (mask_word f (q / 32)) (q % 32) ≡ f q
lane_bit f q small =
    let e : 32 * (q / 32) + q % 32 ≡ q = omega arith in
    bit_word_of (λ k. f (32 * (q / 32) + k)) 32 (λ k l. small (32 * (q / 32) + k)) (q % 32) (omega arith) ∙ ap f e

more_by_one : (x s : ℕ) → x * (s + 1) ≡ x * s + x
more_by_one x s = ap (λ (t : ℕ). x * t) (add-one s) ∙ mul-suc x s

module _ (n : ℕ) (d : List ℕ) (p last state sram : ℕ) (many : 16 ≤ n) (even : n % 2 ≡ 0) (W : List ℕ) (o : ℕ) (stands : StandsAt n d p last state sram W o) where
  abbrev R : ℕ
  R = longest (part_lanes n d p)

  abbrev S : ℕ
  S = stages_of d p

  standing : (j : ℕ) → j < part_words n R S → get_or W (o + j) 0 ≡ get_or (part_script n d p last state sram) j 0
  standing j h = stands j (omega (arith, script_length n d p last state sram many even))

  -- ---- the head

  number : (j : ℕ) → j < 8 → get_or W (o + j) 0 ≡ get_or (numbers n d p last state sram) j 0
  number j h = standing j (omega arith) ∙ at_number n d p last state sram many even j (omega arith)

  stages-is : stages_at W o ≡ S
  unfolding numbers
  stages-is = ap (λ (x : ℕ). get_or W x 0) (sym (add-zero o)) ∙ number 0 (omega arith)

  last-is : last_at W o ≡ last
  unfolding numbers
  last-is = number 1 (omega arith)

  write-outs-is : write_outs_at W o ≡ write_outs d p
  unfolding numbers
  write-outs-is = number 2 (omega arith)

  start_is : start_at W o ≡ state
  unfolding numbers
  start_is = number 3 (omega arith)

  srams-is : srams_at W o ≡ srams d p
  unfolding numbers
  srams-is = number 4 (omega arith)

  rounds-is : rounds_at W o ≡ R
  unfolding numbers
  rounds-is = number 6 (omega arith)

  duplicates-is : duplicates_at W o ≡ duplicates d p
  unfolding numbers
  duplicates-is = number 7 (omega arith)

  normal_is : normal_at W o ≡ locations_of d p
  unfolding normal_at write_outs
  normal_is = omega (arith, write-outs-is, srams-is, duplicates-is)

  end_is : end_at n W o ≡ o + length (part_script n d p last state sram)
  unfolding end_at
  end_is = rw (rounds-is, stages-is, script_length n d p last state sram many even)

  -- ---- the locations

  module _ (small : (l : ℕ) → l < locations_of d p → location_at d p l ≤ 255) (few-stages : S ≤ 255) (few : locations_of d p ≤ n) where
    half-small : (l : ℕ) → l < locations_of d p → location_half d p l < 2 ^ 16
    half-small l h = omega (arith, half_within d p l (locations_of d p) refl h, stage_lt d p l h, small l h)

    location_is : (l : ℕ) → l < locations_of d p → location_in n W o l ≡ 256 * location_stage d p l + location_at d p l
    unfolding location_in location_words
    location_is l h =
        let e : o + n / 2 + l / 2 ≡ o + (n / 2 + l / 2) = omega arith in
        let m : l / 2 < n / 2 = omega arith in
        let lower : 2 * (l / 2) + 0 < locations_of d p = omega arith in
        let back : 2 * (l / 2) + l % 2 ≡ l = omega arith in
        ap (λ (x : ℕ). half_of (get_or W x 0) (l % 2)) e
        ∙ ap (λ (x : ℕ). half_of x (l % 2)) (standing (n / 2 + l / 2) (omega arith) ∙ at_location n d p last state sram many even (l / 2) m ∙ get_d_list_of _ (n / 2) (l / 2) m)
        ∙ ap (λ (y : ℕ). half_of (location_half d p (2 * (l / 2) + 1) * 2 ^ 16 + location_half d p y) (l % 2)) (sym (add-zero (2 * (l / 2))))
        ∙ half_two (λ e. location_half d p (2 * (l / 2) + e)) (l % 2) (mod-lt l (omega arith)) (half-small (2 * (l / 2) + 0) lower)
        ∙ ap (location_half d p) back
        ∙ sym (half_within d p l (locations_of d p) refl h)

  -- ---- the rounds

  module _ (wide : length (part_lanes n d p) ≡ n) where
    read-word-is : (r i : ℕ) → r < R → i < n → read_word_at n W o r i ≡ word_in (get_or (part_lanes n d p) i []) r
    unfolding read_word_at
    read-word-is r i h l =
        let e : o + n + 2 * n * r + 2 * i ≡ o + (n + (2 * n * r + 2 * i)) = omega arith in
        let m : 2 * n * r + 2 * i < 2 * n * R = within (2 * n) r R (2 * i) h (omega arith) in
        ap (λ (x : ℕ). get_or W x 0) e
        ∙ standing (n + (2 * n * r + 2 * i)) (omega arith)
        ∙ at_read n d p last state sram many even (2 * n * r + 2 * i) m
        ∙ section_word n (part_lanes n d p) wide r i l

    read-mask-is : (r i : ℕ) → r < R → i < n → read_mask_at n W o r i ≡ mask_in (get_or (part_lanes n d p) i []) r
    unfolding read_mask_at
    read-mask-is r i h l =
        let e : o + n + 2 * n * r + 2 * i + 1 ≡ o + (n + (2 * n * r + 2 * i + 1)) = omega arith in
        let m : 2 * n * r + (2 * i + 1) < 2 * n * R = within (2 * n) r R (2 * i + 1) h (omega arith) in
        ap (λ (x : ℕ). get_or W x 0) e
        ∙ standing (n + (2 * n * r + 2 * i + 1)) (omega arith)
        ∙ at_read n d p last state sram many even (2 * n * r + 2 * i + 1) (omega arith)
        ∙ section_mask n (part_lanes n d p) wide r i l

  -- ---- the sections

  section_at_lem : (k j : ℕ) → k < S + 2 → j < section_words n
      → get_or W (section_at n W o k + j) 0 ≡ get_or (part_script n d p last state sram) (n + (2 * n * R + (section_words n * k + j))) 0
  unfolding section_at
  section_at_lem k j h l =
      let e : o + n + 2 * n * R + section_words n * k + j ≡ o + (n + (2 * n * R + (section_words n * k + j))) = omega arith in
      let t : S + 2 ≡ S + 1 + 1 = omega arith in
      let two : section_words n * (S + 2) ≡ section_words n * S + section_words n + section_words n =
      ap (λ (x : ℕ). section_words n * x) t ∙ more_by_one (section_words n) (S + 1) ∙ ap (λ (x : ℕ). x + section_words n) (more_by_one (section_words n) S) in
      ap (λ (x : ℕ). get_or W (o + n + 2 * n * x + section_words n * k + j) 0) rounds-is
      ∙ ap (λ (x : ℕ). get_or W x 0) e
      ∙ standing (n + (2 * n * R + (section_words n * k + j))) (omega (arith, within (section_words n) k (S + 2) j h l))

  in-stage : (k j : ℕ) → k < S → j < section_words n → get_or W (section_at n W o k + j) 0 ≡ get_or (stage_section n d p k) j 0
  in-stage k j h l = section_at_lem k j (omega arith) l ∙ at_stage n d p last state sram many even k j h l

  in-sram : (j : ℕ) → j < section_words n → get_or W (section_at n W o S + j) 0 ≡ get_or (sram_section n d p) j 0
  in-sram j l = section_at_lem S j (omega arith) l ∙ at_sram n d p last state sram many even j l

  in-enable : (j : ℕ) → j < section_words n → get_or W (section_at n W o (S + 1) + j) 0 ≡ get_or (enable_section n d p) j 0
  in-enable j l =
      let e : section_words n * (S + 1) + j ≡ section_words n * S + (section_words n + j) = omega (arith, more_by_one (section_words n) S) in
      section_at_lem (S + 1) j (omega arith) l
      ∙ ap (λ (x : ℕ). get_or (part_script n d p last state sram) (n + (2 * n * R + x)) 0) e
      ∙ at_enable n d p last state sram many even j

  entry_is : (k i : ℕ) → k < S → i < 32 * n → ((j : ℕ) → j < 32 * n → stage_entry n d p k j < 2 ^ 16) → entry_at n W o k i ≡ stage_entry n d p k i
  unfolding entry_at stage_section
  entry_is k i h l small =
      ap (λ (x : ℕ). half_of x (i % 2)) (in-stage k (word_of_entry n i) h (omega (arith, place_lt n i l)))
      ∙ section_entry _ _ _ n (stage_entry n d p k) small i l

  sram_is : ((j : ℕ) → j < 32 * n → table_at d p j < 2 ^ 16) → (i : ℕ) → i < 32 * n → entry_at n W o S i ≡ table_at d p i
  unfolding entry_at sram_section
  sram_is small i l =
      ap (λ (x : ℕ). half_of x (i % 2)) (in-sram (word_of_entry n i) (omega (arith, place_lt n i l)))
      ∙ section_entry _ _ _ n (table_at d p) small i l

  enable_is : ((j : ℕ) → j < 32 * n → table_at d p (34 * n + j) < 2 ^ 16) → (i : ℕ) → i < 32 * n → entry_at n W o (S + 1) i ≡ table_at d p (34 * n + i)
  unfolding entry_at enable_section
  enable_is small i l =
      ap (λ (x : ℕ). half_of x (i % 2)) (in-enable (word_of_entry n i) (omega (arith, place_lt n i l)))
      ∙ section_entry _ _ _ n (λ j. table_at d p (34 * n + j)) small i l

  -- ---- the bits of the lanes

  in_lane : (k w h : ℕ) → k < S → w < n → h < 4 → lane_word_at n W o k w h ≡ get_or (stage_section n d p k) (16 * n + (4 * w + h)) 0
  unfolding lane_word_at
  in_lane k w h a l b =
      let e : section_at n W o k + 16 * n + 4 * w + h ≡ section_at n W o k + (16 * n + (4 * w + h)) = omega arith in
      ap (λ (x : ℕ). get_or W x 0) e ∙ in-stage k (16 * n + (4 * w + h)) a (omega arith)

  -- bit q of word h of its lane, where that word of every lane has the bits f
  lane-is : (f : ℕ → ℕ) (k h q : ℕ) → k < S → h < 4 → q < 32 * n → ((w : ℕ) → w < n → get_or (stage_section n d p k) (16 * n + (4 * w + h)) 0 ≡ mask_word f w) → ((i : ℕ) → f i < 2)
      → bit (lane_word_at n W o k (q / 32) h) (q % 32) ≡ f q
  lane-is f k h q a b l word small = ap (λ (x : ℕ). bit x (q % 32)) (in_lane k (q / 32) h a (omega arith) b ∙ word (q / 32) (omega arith)) ∙ lane_bit f q small

  xora-is : (k q : ℕ) → k < S → q < 32 * n → bit (lane_word_at n W o k (q / 32) 0) (q % 32) ≡ xora_bit d p k q
  unfolding stage_section
  xora-is k q a l = lane-is (xora_bit d p k) k 0 q a (omega arith) l (section_first _ _ _ n (stage_entry n d p k)) (xora_lt d p k)

  xorb-is : (k q : ℕ) → k < S → q < 32 * n → bit (lane_word_at n W o k (q / 32) 1) (q % 32) ≡ xorb_bit d p k q
  unfolding stage_section
  xorb-is k q a l = lane-is (xorb_bit d p k) k 1 q a (omega arith) l (section_second _ _ _ n (stage_entry n d p k)) (xorb_lt d p k)

  orb-is : (k q : ℕ) → k < S → q < 32 * n → bit (lane_word_at n W o k (q / 32) 2) (q % 32) ≡ orb_bit d p k q
  unfolding stage_section
  orb-is k q a l = lane-is (orb_bit d p k) k 2 q a (omega arith) l (section_third _ _ _ n (stage_entry n d p k)) (orb_lt d p k)

  -- ---- the lane words of the enables

  enable-lane : (w h : ℕ) → w < n → h < 4 → lane_word_at n W o (S + 1) w h ≡ get_or (enable_section n d p) (16 * n + (4 * w + h)) 0
  unfolding lane_word_at
  enable-lane w h l b =
      let e : section_at n W o (S + 1) + 16 * n + 4 * w + h ≡ section_at n W o (S + 1) + (16 * n + (4 * w + h)) = omega arith in
      ap (λ (x : ℕ). get_or W x 0) e ∙ in-enable (16 * n + (4 * w + h)) (omega arith)

  inv-is : (w : ℕ) → w < n → lane_word_at n W o (S + 1) w 0 ≡ table_at d p (66 * n + w)
  unfolding enable_section
  inv-is w l = enable-lane w 0 l (omega arith) ∙ section_first (λ w. table_at d p (66 * n + w)) (λ w. table_at d p (67 * n + w)) (λ w. table_at d p (68 * n + w)) n (λ j. table_at d p (34 * n + j)) w l

  set0-is : (w : ℕ) → w < n → lane_word_at n W o (S + 1) w 1 ≡ table_at d p (67 * n + w)
  unfolding enable_section
  set0-is w l = enable-lane w 1 l (omega arith) ∙ section_second (λ w. table_at d p (66 * n + w)) (λ w. table_at d p (67 * n + w)) (λ w. table_at d p (68 * n + w)) n (λ j. table_at d p (34 * n + j)) w l

  data-inv-is : (w : ℕ) → w < n → lane_word_at n W o (S + 1) w 2 ≡ table_at d p (68 * n + w)
  unfolding enable_section
  data-inv-is w l = enable-lane w 2 l (omega arith) ∙ section_third (λ w. table_at d p (66 * n + w)) (λ w. table_at d p (67 * n + w)) (λ w. table_at d p (68 * n + w)) n (λ j. table_at d p (34 * n + j)) w l

  -- ---- all of it, where each number fits its half

  read_back : ((l : ℕ) → l < locations_of d p → location_at d p l ≤ 255) → S ≤ 255 → locations_of d p ≤ n → length (part_lanes n d p) ≡ n
      → ((k j : ℕ) → k < S → j < 32 * n → stage_entry n d p k j < 2 ^ 16) → ((j : ℕ) → j < 32 * n → table_at d p j < 2 ^ 16)
      → ((j : ℕ) → j < 32 * n → table_at d p (34 * n + j) < 2 ^ 16) → Decoded n d p last state sram W o
  read_back locations few-stages few wide entries srams enables = record {
    stages = stages-is;
    last-mark = last-is;
    write-outs = write-outs-is;
    start = start_is;
    sram-count = srams-is;
    rounds = rounds-is;
    duplicate-words = duplicates-is;
    normal = normal_is;
    end = end_is;
    location = location_is locations few-stages few;
    read_word = read-word-is wide;
    read_mask = read-mask-is wide;
    entry = λ k i h l. entry_is k i h l (λ j u. entries k j h u);
    sram_entry = sram_is srams;
    enable_entry_lem = enable_is enables;
    xora = xora-is;
    xorb = xorb-is;
    orb = orb-is;
    enable-inv = inv-is;
    enable-set0 = set0-is;
    data-inv = data-inv-is;
  }

-- THE SCRIPT OF A PART, READ BACK
pub decoded : (d : List ℕ) (p last state sram : ℕ) (W : List ℕ) (o : ℕ) → Decodable d p → StandsAt (plan_lanes d) d p last state sram W o
    → Decoded (plan_lanes d) d p last state sram W o
decoded d p last state sram W o given stands =
    let most = lanes_range d in
    read_back (plan_lanes d) d p last state sram (omega (arith, most)) (lanes_even d) W o stands
    (λ l h. omega (arith, given.location l h, most)) given.stages given.locations given.wide
    (λ k j h l. omega (arith, given.entry k j h l, most))
    (λ j l. omega (arith, given.sram j l, most))
    (λ j l. omega (arith, given.enable j l, most))
