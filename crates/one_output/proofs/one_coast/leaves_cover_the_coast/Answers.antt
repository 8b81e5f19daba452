-- By the polygons that land and water make, which cover as their edges, and the leaves of each.
use Rattle.std.proofs.Common.{subst}
use Rattle.job_coastline.specs.Coastline.{AreLand, AreWater}
use Rattle.coast_sides.specs.Segments.{all_segments}
use Rattle.one_output.proofs.OneCoast.LeavesTogether.{land_cover, water_cover}
use Rattle.one_output.proofs.one_coast.leaves_cover_the_coast.Goals as goal

pub returns-clause-land : goal.returns-clause-land
returns-clause-land c = λ settings objects whole right asked.
    land_cover c.leaves_cover_as_list.ensures.cover c.rings_may_be_nested.ensures.nested c.nested_cover_as_rings.ensures.sided c.nested_cover_as_rings.ensures.cover c.nested_cover_as_rings.ensures.edges
    settings (all_segments right.areas.coast.sorted.kept) right.areas.coast.land.edges right.right.coast.land.edges right.areas.land
    (subst (λ b. AreLand b right.areas.coast.land.edges right.areas.land) asked right.right.land) right.areas.land_leaves right.right.land_leaves

pub returns-clause-water : goal.returns-clause-water
returns-clause-water c = λ settings objects whole right asked.
    let water = subst (λ b. AreWater b right.areas.coast.land.edges right.areas.water) asked right.right.water in
    water_cover c.leaves_cover_as_list.ensures.cover c.rings_may_be_nested.ensures.nested c.nested_cover_as_rings.ensures.sided c.nested_cover_as_rings.ensures.cover c.nested_cover_as_rings.ensures.edges
    c.land_and_water_cover.ensures settings (all_segments right.areas.coast.sorted.kept) right.areas.coast.land.edges water.0 right.right.coast.land.edges water.1 right.areas.water water.2
    right.areas.water_leaves right.right.water_leaves
