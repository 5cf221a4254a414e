-- What a record in form gives: every range as an order of numbers, every body inside the record. Each `&&` is taken apart once, here.
-- Assumes nothing.
use mathlib.Core.Path.{◌≡◌, refl, sym, ap, ◌∙◌}
use mathlib.Core.Bool.{Bool, true, false, ◌&&◌, ◌||◌}
use mathlib.Core.List.{List}
use mathlib.Core.Logic.{◌⊎◌, inl, inr}
use Prim.Native.Nat.{ℕ, zero, suc, ◌+◌, ◌*◌, ◌/◌, ◌%◌, ◌^◌, ◌≤◌, ◌<◌}
use native.Mathlib.Omega.{arith}
use borrow.Author.Tests.{leb-true, eqb-true}
use lib.Dec.{leb, eqb}
use lib.ListN.{length}
use Rattle.words.specs.Sum.{sum_to}
use Rattle.words.proofs.SumLaws.{sum_le}
use Rattle.words.specs.Tests.{all_below}
use Rattle.plan_record.specs.Record.{blocks_of, majors_of, gates_of, layout_of, positions_of, count_at, parts_before, parts_of, gate_pin, gate_first, gate_second, layout_pin, position_pin, position_staged, head_base, stages_of, endpoints_of, body_at, endpoint_word}
use Rattle.words.specs.declared.units.Pin.{Pin}
use Rattle.words.specs.declared.units.PinIv.{PinIv}
use Rattle.plan_record.specs.declared.bodies.Endpoint.{Endpoint}
use Rattle.plan_record.specs.declared.bodies.Endpoint.TheVariants.{Output, Staged, Register}
use Rattle.plan_record.specs.Endpoint.{endpoint_at}
use Rattle.words.specs.Pins.{is_pin_iv, empty}
use Rattle.plan_record.specs.Form.{head_form, counts_form, part_head_form, length_form, gate_form, layout_form, position_form, numbers_form, endpoint_form, lists_form, plan_form}
use Rattle.plan_record.specs.Body.{Headed, Measured, BodyReady}
use Rattle.words.proofs.TestLaws.{and_true, all_at}
use Rattle.plan_record.proofs.EndpointLaws.{numbers_output, numbers_staged, numbers_register}
use Rattle.plan_record.proofs.RecordLaws.{body_first, body_mono}

-- ---- the head

pub record HeadRanges (d : List ℕ) : Type 0 where
  pub some_blocks : 1 ≤ blocks_of d
  pub blocks : blocks_of d ≤ 1024
  pub some-majors : 1 ≤ majors_of d
  pub majors : majors_of d ≤ 64
  pub layout : layout_of d ≤ 2 ^ 20
  pub positions : positions_of d ≤ 2 ^ 20

pub head_ranges : (d : List ℕ) → head_form d ≡ true → HeadRanges d
unfolding head_form
head_ranges d h =
    let (g, rest) = and_true (leb 1 (blocks_of d) && leb (blocks_of d) 1024 && (leb 1 (majors_of d) && leb (majors_of d) 64) && (leb (layout_of d) (2 ^ 20) && leb (positions_of d) (2 ^ 20))) _ h in
    let (a, b) = and_true (leb 1 (blocks_of d) && leb (blocks_of d) 1024 && (leb 1 (majors_of d) && leb (majors_of d) 64)) _ g in
    let (k, m) = and_true (leb 1 (blocks_of d) && leb (blocks_of d) 1024) _ a in
    let (k1, k2) = and_true (leb 1 (blocks_of d)) _ k in
    let (m1, m2) = and_true (leb 1 (majors_of d)) _ m in
    let (l, p) = and_true (leb (layout_of d) (2 ^ 20)) _ b in
    record {
      some_blocks = leb-true _ _ k1;
      blocks = leb-true _ _ k2;
      some-majors = leb-true _ _ m1;
      majors = leb-true _ _ m2;
      layout = leb-true _ _ l;
      positions = leb-true _ _ p;
    }

-- ---- parts

pub count_range : (d : List ℕ) → counts_form d ≡ true → (s : ℕ) → s < majors_of d → count_at d s ≤ 4096
unfolding counts_form
count_range d h s l = leb-true _ _ (all_at (λ i. leb (count_at d i) 4096) (majors_of d) s h l)

parts_below : (d : List ℕ) (n : ℕ) → ((s : ℕ) → s < n → count_at d s ≤ 4096) → parts_before d n ≤ 4096 * n
unfolding parts_before sum_to
parts_below d zero h = omega arith
parts_below d (suc n) h = omega (arith, parts_below d n (λ s l. h s (omega arith)), h n (omega arith))

pub parts_range : (d : List ℕ) → majors_of d ≤ 64 → counts_form d ≡ true → parts_of d ≤ 262144
parts_range d m h = omega (arith, parts_below d (majors_of d) (count_range d h))

-- the parts before a major stage are among all of them
pub parts_in_lem : (d : List ℕ) (s : ℕ) → s ≤ majors_of d → parts_before d s ≤ parts_of d
unfolding parts_before
parts_in_lem d s l = sum_le (count_at d) s (majors_of d) l

pub record PartRanges (d : List ℕ) (p : ℕ) : Type 0 where
  pub some_stages : 1 ≤ stages_of d p
  pub stages : stages_of d p ≤ 255
  pub endpoints : endpoints_of d p ≤ 8192

pub part_ranges : (d : List ℕ) (p : ℕ) → part_head_form d p ≡ true → PartRanges d p
unfolding part_head_form
part_ranges d p h =
    let (g, rest) = and_true (leb 1 (stages_of d p) && leb (stages_of d p) 255 && leb (endpoints_of d p) 8192) _ h in
    let (s, e) = and_true (leb 1 (stages_of d p) && leb (stages_of d p) 255) _ g in
    let (s1, s2) = and_true (leb 1 (stages_of d p)) _ s in
    record { some_stages = leb-true _ _ s1; stages = leb-true _ _ s2; endpoints = leb-true _ _ e }

-- ---- bodies: a record that is as long as its counts say has each of them

pub length-exact : (d : List ℕ) → length_form d ≡ true → (length d % 4 ≡ 0) × (body_at d (parts_of d) ≡ length d / 4)
unfolding length_form
length-exact d h =
    let (a, b) = and_true (eqb (length d % 4) 0) _ h in
    (eqb-true _ _ a, eqb-true _ _ b)

pub part_in : (d : List ℕ) → Headed d → (p : ℕ) → p < parts_of d → PartRanges d p
part_in d headed p l = part_ranges d p (all_at (part_head_form d) (parts_of d) p headed.heads l)

module _ (d : List ℕ) (sizes : Measured d) where
  pub body_in : (p : ℕ) → p ≤ parts_of d → body_at d p ≤ length d / 4
  body_in p l = omega (arith, body_mono d p (parts_of d) l, (length-exact d sizes.whole).1)

  -- so it has what stands before the part heads
  pub heads_in : head_base d ≤ length d / 4
  heads_in = omega (arith, body_first d, body_in 0 (omega arith))

  pub body_ready : (p at : ℕ) → p < parts_of d → at ≡ body_at d p → BodyReady d p at
  body_ready p at l h =
      let r = part_in d sizes.headed p l in
      record {
        part = omega (arith, sizes.headed.parts);
        place = h;
        inside = body_in (p + 1) (omega arith);
        stages = r.stages;
        endpoints = r.endpoints;
      }

-- ---- what the lists hold

pub record GateRanges (d : List ℕ) (g : ℕ) : Type 0 where
  pub pin : gate_pin d g ≤ 2 ^ 30
  pub first : gate_first d g ≤ 2 ^ 31 + 1
  pub second : gate_second d g ≤ 2 ^ 31 + 1

gate_ranges : (d : List ℕ) (g : ℕ) → gate_form d g ≡ true → GateRanges d g
unfolding gate_form
gate_ranges d g h =
    let (a, c) = and_true (leb (gate_pin d g) (2 ^ 30) && leb (gate_first d g) (2 ^ 31 + 1)) _ h in
    let (p, b) = and_true (leb (gate_pin d g) (2 ^ 30)) _ a in
    record { pin = leb-true _ _ p; first = leb-true _ _ b; second = leb-true _ _ c }

layout_ranges : (d : List ℕ) (i : ℕ) → layout_form d i ≡ true → (layout_pin d i ≤ 2 ^ 30) ⊎ (layout_pin d i ≡ empty)
unfolding layout_form
layout_ranges d i h = go (leb (layout_pin d i) (2 ^ 30)) refl
  where
    go : (b : Bool) → leb (layout_pin d i) (2 ^ 30) ≡ b → (layout_pin d i ≤ 2 ^ 30) ⊎ (layout_pin d i ≡ empty)
    go true e = inl (leb-true _ _ e)
    go false e = inr (eqb-true _ _ (ap (λ (b : Bool). b || eqb (layout_pin d i) empty) (sym e) ∙ h))

pub record PositionRanges (d : List ℕ) (i : ℕ) : Type 0 where
  pub pin : position_pin d i ≤ 2 ^ 30
  pub staged : position_staged d i ≤ 1

position_ranges : (d : List ℕ) (i : ℕ) → position_form d i ≡ true → PositionRanges d i
unfolding position_form
position_ranges d i h =
    let (g, rest) = and_true (leb (position_pin d i) (2 ^ 30) && leb (position_staged d i) 1) _ h in
    let (a, b) = and_true (leb (position_pin d i) (2 ^ 30)) _ g in
    record { pin = leb-true _ _ a; staged = leb-true _ _ b }

-- an endpoint's kind, and the numbers that it holds
pub record EndpointRanges (k : ℕ) (e : Endpoint) : Type 0 where
  pub kind : k ≤ 3
  pub output : (x : PinIv) → e ≡ Output x → x.0 ≤ 2 ^ 31 + 1
  pub staged : (x : Pin) → e ≡ Staged x → x.0 ≤ 2 ^ 30
  pub register : (x y : PinIv) → e ≡ Register x y → (x.0 ≤ 2 ^ 31 + 1) × (y.0 ≤ 2 ^ 31 + 1)

endpoint_ranges : (k : ℕ) (e : Endpoint) → (leb k 3 && numbers_form e) ≡ true → EndpointRanges k e
endpoint_ranges k e h =
    let (a, b) = and_true (leb k 3) (numbers_form e) h in
    record {
      kind = leb-true _ _ a;
      output = λ x u. leb-true _ _ (numbers_output e x u ∙ b);
      staged = λ x u. leb-true _ _ (numbers_staged e x u ∙ b);
      register = λ x y u. let (v, w) = and_true (is_pin_iv x.0) (is_pin_iv y.0) (numbers_register e x y _ _ u refl refl ∙ b) in (leb-true _ _ v, leb-true _ _ w);
    }

-- ---- the whole

pub record Formed (d : List ℕ) : Type 0 where
  pub head : HeadRanges d
  pub count : (s : ℕ) → s < majors_of d → count_at d s ≤ 4096
  pub sizes : Measured d
  pub whole : length d % 4 ≡ 0
  pub exact : body_at d (parts_of d) ≡ length d / 4
  pub gate : (g : ℕ) → g < gates_of d → GateRanges d g
  pub layout : (i : ℕ) → i < layout_of d → (layout_pin d i ≤ 2 ^ 30) ⊎ (layout_pin d i ≡ empty)
  pub position : (i : ℕ) → i < positions_of d → PositionRanges d i
  pub part : (p : ℕ) → p < parts_of d → PartRanges d p
  pub endpoint : (p i : ℕ) → p < parts_of d → i < endpoints_of d p → EndpointRanges (endpoint_word d p i 0) (endpoint_at d p i)

pub formed : (d : List ℕ) → plan_form d ≡ true → Formed d
unfolding plan_form lists_form endpoint_form
formed d h =
    let (a, lists) = and_true (head_form d && counts_form d && all_below (part_head_form d) (parts_of d) && length_form d) _ h in
    let (b, long) = and_true (head_form d && counts_form d && all_below (part_head_form d) (parts_of d)) _ a in
    let (e, heads) = and_true (head_form d && counts_form d) _ b in
    let (head, counts) = and_true (head_form d) _ e in
    let (l, ends) = and_true (all_below (gate_form d) (gates_of d) && all_below (layout_form d) (layout_of d) && all_below (position_form d) (positions_of d)) _ lists in
    let (m, positions) = and_true (all_below (gate_form d) (gates_of d) && all_below (layout_form d) (layout_of d)) _ l in
    let (gates, layout) = and_true (all_below (gate_form d) (gates_of d)) _ m in
    let r : HeadRanges d = head_ranges d head in
    let sizes : Measured d = record { headed = record { majors = r.majors; parts = parts_range d r.majors counts; heads = heads }; whole = long } in
    record {
      head = r;
      count = count_range d counts;
      sizes = sizes;
      whole = (length-exact d long).0;
      exact = (length-exact d long).1;
      gate = λ g k. gate_ranges d g (all_at (gate_form d) (gates_of d) g gates k);
      layout = λ i k. layout_ranges d i (all_at (layout_form d) (layout_of d) i layout k);
      position = λ i k. position_ranges d i (all_at (position_form d) (positions_of d) i positions k);
      part = part_in d sizes.headed;
      endpoint = λ p i k n. endpoint_ranges _ _ (all_at (endpoint_form d p) (endpoints_of d p) i (all_at (λ q. all_below (endpoint_form d q) (endpoints_of d q)) (parts_of d) p ends k) n);
    }
