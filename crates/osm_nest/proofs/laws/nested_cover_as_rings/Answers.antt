-- Rings begun elsewhere have the same edges, and the rings of a list its own.
use Rattle.osm_nest.proofs.NestedCover.{nested-cover, nested-sided, rings-count}
use Rattle.osm_nest.proofs.laws.nested_cover_as_rings.Goals as goal

pub returns-clause-sided : goal.returns-clause-sided
returns-clause-sided c = λ rs polygons are is. nested-sided rs are polygons is

pub returns-clause-cover : goal.returns-clause-cover
returns-clause-cover c = λ rs polygons are is. nested-cover rs are polygons is

pub returns-clause-edges : goal.returns-clause-edges
returns-clause-edges c = rings-count
