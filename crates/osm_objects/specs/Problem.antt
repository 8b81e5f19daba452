-- Problems as they are found.
use Rattle.std.specs.Prelude.{◌≡◌, Some}
use Rattle.osm_lattice.specs.Conflict.{conflict_of}
use Rattle.osm_objects.specs.declared.problem.Problem.{Problem}
use Rattle.osm_objects.specs.declared.problem.Problem.TheVariants.{Conflict}

-- a conflict is of the kind that its segments have
abbrev pub IsOfItsKind : Problem → Type 0
IsOfItsKind (Conflict kind s t) = conflict_of s t ≡ Some kind
IsOfItsKind problem = Unit {0}
