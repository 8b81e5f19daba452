-- The enclosers of the places passed.
use Rattle.std.proofs.Common.{◌≡◌}
use Rattle.osm_nest.specs.OneOuter.{enclosers_under}
use Rattle.osm_nest.proofs.few.one_outer.inside_one.Given as goal

abbrev pub invariant-loop-place : goal.invariant-loop-place
invariant-loop-place l = l.enclosers.items ≡ enclosers_under l.only 0 l.place
