-- The faults of segments as they are held. No public contract cites them.
use Rattle.std.specs.Prelude.{List, Option, None, Some}
use Rattle.osm_lattice.specs.declared.loc.Loc.{Loc}
use Rattle.osm_lattice.specs.declared.seg.Seg.{Seg}
use Rattle.osm_objects.specs.declared.problem.Problem.{Problem}
use Rattle.osm_objects.specs.declared.problem.Problem.TheVariants.{Nothing}
use Rattle.osm_segments.specs.declared.pairs.Pair.{Pair}
use Rattle.osm_segments.specs.declared.places.Places.{Places}
use Rattle.osm_segments.specs.Counts.{AreOddNodes}
use Rattle.osm_segments.specs.Places.{AreConflictPlaces, pair_at}
use Rattle.osm_area.specs.Problems.{conflict_problem}

-- the problem of a pair that was found
abbrev pub problem_of : Option Pair → Problem
problem_of None = Nothing
problem_of (Some pair) = conflict_problem pair

-- the problem of two segments, given their places
abbrev pub problem_at : List Seg → Places → Problem
problem_at segs places = problem_of (pair_at segs places)

-- the conflicts of segments, by places, and their odd nodes
pub record AreFaultsHeld (segs : List Seg) (conflicts : List Places) (odd_nodes : List Loc) : Type 0 where
  pub conflicts_are : AreConflictPlaces segs conflicts
  pub odd : AreOddNodes segs odd_nodes
