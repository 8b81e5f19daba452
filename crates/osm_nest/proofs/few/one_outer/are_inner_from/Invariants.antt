-- None of the rings passed is outer.
use Rattle.osm_nest.specs.OneOuter.{AreInnerBetween}
use Rattle.osm_nest.proofs.few.one_outer.are_inner_from.Given as goal

abbrev pub invariant-loop-place : goal.invariant-loop-place
invariant-loop-place l = AreInnerBetween l.rings l.from l.place
