-- `locals::search_lanes` meets its contract: a set in form is searched.
-- Assumes nothing.
use Rattle.locals.proofs.BroughtLaws.{in_form}
use Rattle.locals.proofs.search_lanes.Goals as goal

pub search_sizes-requires : goal.search_sizes-requires
search_sizes-requires c =
    in_form c.args.lanes c.args.set.now c.requires.0 (λ i. (c.type_inv.set i).fits) _ c.requires.1
