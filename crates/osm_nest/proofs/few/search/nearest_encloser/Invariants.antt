-- The best of the candidates passed.
use Rattle.osm_nest.specs.Beside.{IsBestUpTo}
use Rattle.osm_nest.proofs.few.search.nearest_encloser.Given as goal

abbrev pub invariant-loop-place : goal.invariant-loop-place
invariant-loop-place l = IsBestUpTo l.rings l.anchor l.place l.best
