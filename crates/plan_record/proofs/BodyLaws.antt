-- The body of a part: where it may be asked for, and that the numbers which the code adds up are the definition's.
-- Assumes nothing.
use mathlib.Core.Path.{◌≡◌, refl, sym, ap₂, ◌∙◌, subst}
use mathlib.Core.List.{List}
use Prim.Native.Nat.{ℕ, ◌+◌, ◌*◌, ◌/◌, ◌≤◌}
use native.Mathlib.Omega.{arith}
use lib.ListN.{length}
use Rattle.words.specs.Edition.{Known}
use Rattle.words.proofs.EditionLaws.{known_least, known_most, known_passes}
use Rattle.plan_record.specs.Record.{part_head_words, endpoint_words, plan_lanes, slot_words, table_words, word_at, head_base, stages_of, endpoints_of, locations_in, body_at, count_base, slot_base, location_base, table_base}
use Rattle.plan_record.specs.Body.{BodyReady, BodyOf}
use Rattle.plan_record.proofs.RecordLaws.{lanes_known, body_long, tables_end, stages_at_lem, endpoints_at}

module _ (d : List ℕ) (p at : ℕ) (ready : BodyReady d p at) where
  pub body_inside : at ≤ length d / 4
  body_inside = omega (arith, ready.place, ready.inside, body_long d p)

  module _ (h n e : ℕ) (head : h ≡ head_base d) (stages : n ≡ word_at d (h + part_head_words * p)) (endpoints : e ≡ word_at d (h + part_head_words * p + 1)) where
    stages-is : n ≡ stages_of d p
    stages-is = stages ∙ stages_at_lem d h p head

    endpoints-is : e ≡ endpoints_of d p
    endpoints-is = endpoints ∙ endpoints_at d h p head

    pub body_sizes : (at ≤ length d / 4) × (n ≤ 255) × (e ≤ 8192)
    body_sizes = (body_inside, omega (arith, ready.stages, stages-is), omega (arith, ready.endpoints, endpoints-is))

    pub body_made : (k l w : ℕ) → k ≡ plan_lanes d → l ≡ locations_in d at n e → w ≡ slot_words k * n
        → BodyOf d p
        (record {
          lanes = k;
          stages = n;
          endpoints = e;
          locations = l;
          at = at;
          counts = at + endpoint_words * e;
          slots = at + endpoint_words * e + n;
          places = at + endpoint_words * e + n + w;
          tables = at + endpoint_words * e + n + w + l;
          end = at + endpoint_words * e + n + w + l + table_words k;
        })
    unfolding table_base location_base slot_base count_base
    body_made k l w lanes locations words =
        let ls : l ≡ locations_in d (body_at d p) (stages_of d p) (endpoints_of d p) = cc (stages-is, endpoints-is, ready.place) in
        let edition : Known k = subst Known (sym lanes) (lanes_known d) in
        let slots-are : w ≡ slot_words (plan_lanes d) * stages_of d p = words ∙ ap₂ (λ (a b : ℕ). slot_words a * b) lanes stages-is in
        let end_is : at + endpoint_words * e + n + w + l + table_words k ≡ body_at d (p + 1) = omega (arith, ready.place, endpoints-is, stages-is, slots-are, tables_end d p) in
        record {
          lanes = lanes;
          stages = stages-is;
          endpoints = endpoints-is;
          locations = ls;
          place = ready.place;
          counts = omega (arith, ready.place, endpoints-is);
          slots = omega (arith, ready.place, endpoints-is, stages-is);
          places = omega (arith, ready.place, endpoints-is, stages-is, slots-are);
          tables = omega (arith, ready.place, endpoints-is, stages-is, slots-are);
          end = end_is;
          laid = record {
            edition = known_passes k edition;
            some_lanes = known_least k edition;
            lanes = known_most k edition;
            stages = body_sizes.1;
            endpoints = body_sizes.2;
            counts = refl;
            slots = refl;
            places = omega (arith, words);
            tables = refl;
            end = refl;
            inside = omega (arith, end_is, ready.inside);
          };
        }
