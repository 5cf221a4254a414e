-- Places of a stage with H levels above level 0.
-- Assumes nothing.
use Rattle.std.specs.Prelude.{◌≡◌, ℕ, ◌+◌, ◌-◌, ◌^◌, ◌≤◌}
use Rattle.repair_nodes.specs.Stage.{width, index_of, Rooted}
use Rattle.repair_subtree.specs.declared.places.Place.{Place}

-- the place of slot j of level h
pub record Placed (H h j : ℕ) (p : Place) : Type 0 where
  pub level : p.level ≡ h
  pub width : p.width ≡ width H h
  pub index : p.index ≡ index_of H h j
  pub rooted : Rooted (2 ^ (H + 1) - 1) p.level p.width p.index

-- a place inside the stage, and a pin
pub record NodePlaceable (H : ℕ) (p : Place) (x : ℕ) : Type 0 where
  pub levels : H ≤ 13
  pub level : p.level ≤ H
  pub rooted : Rooted (2 ^ (H + 1) - 1) p.level p.width p.index
  pub pin : x ≤ 2 ^ 30
