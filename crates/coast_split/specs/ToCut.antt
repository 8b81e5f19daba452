-- Leaves that are still to come, as callers see them.
use Rattle.std.specs.Prelude.{List, ℕ}
use Rattle.osm_geom.specs.declared.edge.Edge.{Edge}

-- lists that wait to be cut, the next one first, with the maximum of points and the overlap for their cuts
pub record ToCut : Type 0 where
  pub most_points : ℕ
  pub overlap : ℕ
  pub waiting : List (List Edge)
