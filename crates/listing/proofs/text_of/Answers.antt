-- `listing::text_of` meets its contract: where the bytes hold every text and the room is enough, `list` gives the text. Assumes nothing.
use lib.Dec.{lit≤}
use mathlib.Core.Path.{refl, sym, ◌∙◌}
use Rattle.listing.proofs.TextLengthLaws.{text_ok, text_given}
use Rattle.listing.proofs.text_of.Goals as goal

pub unwrap-requires : goal.unwrap-requires
unwrap-requires c = rw (text_ok c.args.records.now c.args.out.now 16384 c.requires (lit≤ tt) _ c.list.ensures.value) refl

pub returns : goal.returns
returns c =
    let told = text_given c.args.records.now c.args.out.now 16384 c.requires (lit≤ tt) _ _ (sym c.unwrap.ensures ∙ c.list.ensures.value) c.list.ensures.out_after in
    record { upper_bound = told.0; value = told.1.0; out_after = told.1.1 }
