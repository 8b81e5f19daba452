-- The list of problems that contracts see. No public contract cites this.
use Rattle.std.specs.Prelude.{List, [], ◌∷◌, ◌++◌, map}
use Rattle.osm_objects.specs.declared.problem.Problem.{Problem}
use Rattle.osm_objects.specs.declared.problem.Problem.TheVariants.{Nothing}
use Rattle.osm_area.specs.declared.problems.Faults.{Faults}
use Rattle.osm_area.specs.declared.problems.Held.{Held}
use Rattle.osm_area.specs.declared.problems.Held.TheVariants.{Missing, NoSegment, Faulty}
use Rattle.osm_area.specs.FaultsHeld.{problem_at}
use Rattle.osm_area.specs.Problems.{missing_problem, odd_problem}

-- conflicts before odd nodes
abbrev pub faults_held : Faults → List Problem
faults_held faults = map (problem_at faults.segs.items) faults.conflicts.items ++ map odd_problem faults.odd_nodes.items

abbrev pub problems_held : Held → List Problem
problems_held (Missing parts) = map missing_problem parts.items
problems_held NoSegment = Nothing ∷ []
problems_held (Faulty faults) = faults_held faults
