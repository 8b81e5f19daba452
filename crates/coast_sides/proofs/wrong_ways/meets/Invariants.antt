use Rattle.std.proofs.Common.{◌≡◌, false, take}
use Rattle.std.specs.List.{list_any}
use Rattle.osm_lattice.specs.declared.loc.Loc.{Loc}
use Rattle.coast_sides.specs.Segments.{steps_round}
use Rattle.coast_sides.specs.WrongWays.{runs_between}
use Rattle.coast_sides.proofs.wrong_ways.meets.Given as goal

abbrev pub invariant-loop-place : goal.invariant-loop-place
invariant-loop-place l = list_any (λ (step : Loc × Loc). list_any (runs_between step.1 step.0) l.edges) (take l.place (steps_round l.path)) ≡ false
