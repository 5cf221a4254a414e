-- The numbers are those of the part's head, and the places are sums of them.
-- Assumes nothing.
use Prim.Native.Nat.{◌/◌, ◌≤◌}
use native.Mathlib.Omega.{arith}
use lib.ListN.{length}
use Rattle.plan_record.proofs.BodyLaws.{body_sizes, body_made}
use Rattle.plan_record.proofs.bodies.body_at.Goals as goal

pub locations_in-locations-requires : goal.locations_in-locations-requires
locations_in-locations-requires c =
    let sizes : (c.args.at ≤ length c.args.d.now / 4) × (c.word_at-stages.result ≤ 255) × (c.word_at-endpoints.result ≤ 8192) = body_sizes c.args.d.now c.args.p c.args.at c.requires _ _ _ c.head_base.ensures.0 c.word_at-stages.ensures c.word_at-endpoints.ensures in
    let s = sizes in (omega arith, s.1, s.2)

pub overflow_add-counts : goal.overflow_add-counts
overflow_add-counts c =
    let sizes : (c.args.at ≤ length c.args.d.now / 4) × (c.word_at-stages.result ≤ 255) × (c.word_at-endpoints.result ≤ 8192) = body_sizes c.args.d.now c.args.p c.args.at c.requires _ _ _ c.head_base.ensures.0 c.word_at-stages.ensures c.word_at-endpoints.ensures in
    omega (arith, sizes)

pub overflow_add-slots : goal.overflow_add-slots
overflow_add-slots c =
    let sizes : (c.args.at ≤ length c.args.d.now / 4) × (c.word_at-stages.result ≤ 255) × (c.word_at-endpoints.result ≤ 8192) = body_sizes c.args.d.now c.args.p c.args.at c.requires _ _ _ c.head_base.ensures.0 c.word_at-stages.ensures c.word_at-endpoints.ensures in
    omega (arith, sizes)

pub slot_words-requires : goal.slot_words-requires
slot_words-requires c =
    let sizes : (c.args.at ≤ length c.args.d.now / 4) × (c.word_at-stages.result ≤ 255) × (c.word_at-endpoints.result ≤ 8192) = body_sizes c.args.d.now c.args.p c.args.at c.requires _ _ _ c.head_base.ensures.0 c.word_at-stages.ensures c.word_at-endpoints.ensures in
    (c.lanes_of-lanes.ensures.1, c.lanes_of-lanes.ensures.2, (sizes).1)

pub overflow_add-places : goal.overflow_add-places
overflow_add-places c =
    let sizes : (c.args.at ≤ length c.args.d.now / 4) × (c.word_at-stages.result ≤ 255) × (c.word_at-endpoints.result ≤ 8192) = body_sizes c.args.d.now c.args.p c.args.at c.requires _ _ _ c.head_base.ensures.0 c.word_at-stages.ensures c.word_at-endpoints.ensures in
    omega (arith, sizes)

pub overflow_add-tables : goal.overflow_add-tables
overflow_add-tables c =
    let sizes : (c.args.at ≤ length c.args.d.now / 4) × (c.word_at-stages.result ≤ 255) × (c.word_at-endpoints.result ≤ 8192) = body_sizes c.args.d.now c.args.p c.args.at c.requires _ _ _ c.head_base.ensures.0 c.word_at-stages.ensures c.word_at-endpoints.ensures in
    omega (arith, sizes)

pub overflow_add-result : goal.overflow_add-result
overflow_add-result c =
    let sizes : (c.args.at ≤ length c.args.d.now / 4) × (c.word_at-stages.result ≤ 255) × (c.word_at-endpoints.result ≤ 8192) = body_sizes c.args.d.now c.args.p c.args.at c.requires _ _ _ c.head_base.ensures.0 c.word_at-stages.ensures c.word_at-endpoints.ensures in
    omega (arith, sizes)

pub returns : goal.returns
returns c =
    let read = body_made c.args.d.now c.args.p c.args.at c.requires _ _ _ c.head_base.ensures.0 c.word_at-stages.ensures c.word_at-endpoints.ensures in
    read _ _ _ c.lanes_of-lanes.ensures.0 c.locations_in-locations.ensures.0 c.slot_words.ensures.0
