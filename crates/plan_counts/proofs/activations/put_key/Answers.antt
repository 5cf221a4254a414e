-- The key of an endpoint, or none.
-- Assumes nothing.
use Rattle.std.proofs.Common.{◌≡◌, ◌∙◌, sym, ap, [], ◌∷◌}
use Rattle.std.specs.Option.{option_to_list}
use Rattle.plan_counts.specs.Counts.{activations_of}
use Rattle.plan_counts.specs.Parts.{activations_at}
use Rattle.plan_counts.proofs.CollectLaws.{put_one, put_none}
use Rattle.plan_counts.proofs.activations.put_key.Goals as goal

pub key-requires : goal.key-requires
key-requires c = λ x h. c.requires.0.staged c.args.i c.requires.1 x (sym c.endpoint.ensures ∙ h)

pub returns-in-Some : goal.returns-in-Some
returns-in-Some c =
    let acts : activations_at c.args.part.now.d.now c.args.part.now.p c.args.i ≡ c.in-Some.key ∷ [] =
    ap activations_of (sym c.endpoint.ensures) ∙ sym c.key.ensures ∙ ap option_to_list c.in-Some.is in
    let told = put_one c.args.keys.now _ c.args.n _ acts in
    record { value = told.0; keys_after = told.1 }

pub returns : goal.returns
returns c =
    let acts : activations_at c.args.part.now.d.now c.args.part.now.p c.args.i ≡ [] =
    ap activations_of (sym c.endpoint.ensures) ∙ sym c.key.ensures ∙ ap option_to_list c.in_default.is in
    let told = put_none c.args.keys.now _ c.args.n acts in
    record { value = told.0; keys_after = told.1 }
