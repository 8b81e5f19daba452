-- Lists that wait to be cut, in batches. No public contract cites them.
use Rattle.std.specs.Prelude.{All, List, None, Option, Some, [], map, reverse, ◌∷◌}
use Rattle.osm_geom.specs.declared.edge.Edge.{Edge}
use Rattle.osm_geom.specs.InPlane.Sided.{IsSided}
use Rattle.coast_split.specs.declared.batches.Batches.{Batches}
use Rattle.coast_split.specs.Batches.{AreBatches, batched_edges}

-- a sided list in batches
pub record IsWaiting (whole : List Edge) (list : Batches) : Type 0 where
  pub batches : AreBatches whole list
  pub sided : IsSided (batched_edges whole list)

abbrev pub AreWaiting : List Edge → List Batches → Type 0
AreWaiting whole lists = All (IsWaiting whole) lists

-- their edges, the next list first
abbrev pub lists_in : List Edge → List Batches → List (List Edge)
lists_in whole lists = reverse (map (batched_edges whole) lists)

-- a list that is the only one
abbrev pub lists_of_only : Option (List Edge) → List (List Edge)
lists_of_only None = []
lists_of_only (Some es) = es ∷ []
