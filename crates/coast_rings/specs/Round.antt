-- Closed lines of locations.
use Rattle.std.specs.Prelude.{◌≢◌, Bool, List, if◌then◌else◌}
use Rattle.std.specs.List.{dedup}
use Rattle.std.specs.Ordering.{is_eq}
use Rattle.osm_lattice.specs.declared.loc.Loc.{Loc}
use Rattle.osm_lattice.specs.Loc.{loc_cmp}
use Rattle.coast_rings.specs.Line.{IsLine, first_location, front_of, last_location}

-- a line that doesn't end where it starts: the step from its last location to its first closes it
pub record IsRound (path : List Loc) : Type 0 where
  pub line : IsLine path
  pub apart : last_location path ≢ first_location path

abbrev pub is_same_location : Loc → Loc → Bool
is_same_location p q = is_eq (loc_cmp p q)

-- equal neighbours taken once
abbrev pub once : List Loc → List Loc
once path = dedup is_same_location path

-- without the last location, where it is the first again
abbrev pub opened : List Loc → List Loc
opened path = if is_same_location (last_location path) (first_location path) then front_of path else path

-- equal neighbours taken once, the last and the first included
abbrev pub once_round : List Loc → List Loc
once_round path = opened (once path)
