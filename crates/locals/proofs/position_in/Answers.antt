-- `locals::position_in` meets its contract: the beginnings are those of the table's lanes.
-- Assumes nothing.
use mathlib.Core.Path.{ap, ◌∙◌}
use mathlib.Core.List.{List}
use Prim.Native.Nat.{ℕ}
use Rattle.reads_local.specs.Bases.{local_by}
use Rattle.locals.proofs.position_in.Goals as goal

pub local_position-requires : goal.local_position-requires
local_position-requires c =
    rw c.fill_bases.ensures c.requires.there

pub returns : goal.returns
returns c =
    c.local_position.ensures ∙ ap (λ (b : List ℕ). local_by c.args.set.now b c.args.q.0) c.fill_bases.ensures
