-- The problems that keep a candidate from having an area.
use Rattle.std.specs.Prelude.{◌≡◌, List, [], ◌∷◌, ◌++◌, map, ℤ}
use Rattle.osm_lattice.specs.declared.loc.Loc.{Loc}
use Rattle.osm_lattice.specs.declared.seg.Seg.{Seg}
use Rattle.osm_elements.specs.declared.object.ObjectKind.{ObjectKind}
use Rattle.osm_elements.specs.declared.object.ObjectKind.TheVariants.{Node, Way, Relation}
use Rattle.osm_elements.specs.declared.object.ObjectRef.{ObjectRef}
use Rattle.osm_objects.specs.declared.problem.Problem.{Problem}
use Rattle.osm_objects.specs.declared.problem.Problem.TheVariants.{MissingWay, MissingNode, Nothing, Conflict, Odd}
use Rattle.osm_segments.specs.declared.pairs.Pair.{Pair}
use Rattle.osm_segments.specs.Counts.{AreSurvivors, AreOddNodes}
use Rattle.osm_segments.specs.Pairs.{conflicts_of}

-- a missing way, or else a missing node
abbrev pub missing_of : ObjectKind → ℤ → Problem
missing_of Way id = MissingWay id
missing_of Node id = MissingNode id
missing_of Relation id = MissingNode id

abbrev pub missing_problem : ObjectRef → Problem
missing_problem r = missing_of r.kind r.id

abbrev pub conflict_problem : Pair → Problem
conflict_problem pair = Conflict pair.kind pair.first pair.second

abbrev pub odd_problem : Loc → Problem
odd_problem at = Odd at

-- each conflicting pair in order, and then each odd node in order
pub record AreFaults (survivors : List Seg) (problems : List Problem) : Type 0 where
  pub odd_nodes : List Loc
  pub odd : AreOddNodes survivors odd_nodes
  pub whole : problems ≡ map conflict_problem (conflicts_of survivors) ++ map odd_problem odd_nodes

-- the problems of surviving segments: that there are none, or else their faults
abbrev pub AreProblemsAmong : List Seg → List Problem → Type 0
AreProblemsAmong [] problems = problems ≡ Nothing ∷ []
AreProblemsAmong (s ∷ survivors) problems = AreFaults (s ∷ survivors) problems

-- P holds for the surviving ones of these segments
abbrev pub SurvivorsAre : List Seg → (List Seg → Type 0) → Type 0
SurvivorsAre segments P = (survivors : List Seg) × (AreSurvivors segments survivors × P survivors)

-- the missing parts, if there are any, and otherwise the problems among the surviving segments
abbrev pub AreProblemsGiven : List ObjectRef → List Seg → List Problem → Type 0
AreProblemsGiven [] segments problems = SurvivorsAre segments (λ survivors. AreProblemsAmong survivors problems)
AreProblemsGiven (r ∷ missing) segments problems = problems ≡ map missing_problem (r ∷ missing)
