-- Lines of locations.
use Rattle.std.specs.Prelude.{◌≡◌, ◌≢◌, ◌≤◌, ◌-◌, ℕ, suc, pos, List, length, slice_index_or, take, Some}
use Rattle.std.specs.List.{slice_get}
use Rattle.std.proofs.Common.{lit≤}
use Rattle.osm_lattice.specs.declared.loc.Loc.{Loc}

-- no location occurs at two neighbouring places
abbrev pub NeighboursDiffer : List Loc → Type 0
NeighboursDiffer path = (k : ℕ) (p : Loc) → slice_get path k ≡ Some p → slice_get path (suc k) ≢ Some p

-- at least two locations, without equal neighbours
pub record IsLine (path : List Loc) : Type 0 where
  pub long : 2 ≤ length path
  pub differ : NeighboursDiffer path

-- the value that replaces a location if there is none
abbrev pub origin : Loc
origin = record { x = pos 0; y = pos 0; x_in = lit≤ tt; y_in = lit≤ tt }

abbrev pub first_location : List Loc → Loc
first_location path = slice_index_or path 0 origin

abbrev pub last_location : List Loc → Loc
last_location path = slice_index_or path (length path - 1) origin

-- all but the last location
abbrev pub front_of : List Loc → List Loc
front_of path = take (length path - 1) path
