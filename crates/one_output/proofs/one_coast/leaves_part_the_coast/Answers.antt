use Rattle.one_output.proofs.OneCoast.LeavesApart.{land_leaves_part, leaves_part_world, water_leaves_part}
use Rattle.one_output.proofs.one_coast.leaves_part_the_coast.Goals as goal

pub returns-clause-land : goal.returns-clause-land
returns-clause-land c =
    land_leaves_part c.leaves_part_the_list.ensures c.rings_may_be_nested.ensures.nested c.nested_cover_as_rings.ensures.sided
    c.nested_cover_as_rings.ensures.cover c.nested_cover_as_rings.ensures.edges

pub returns-clause-water : goal.returns-clause-water
returns-clause-water c =
    water_leaves_part c.leaves_part_the_list.ensures c.rings_may_be_nested.ensures.nested c.nested_cover_as_rings.ensures.sided
    c.nested_cover_as_rings.ensures.cover c.nested_cover_as_rings.ensures.edges c.land_and_water_cover.ensures

pub returns-clause-world : goal.returns-clause-world
returns-clause-world c =
    leaves_part_world c.leaves_part_the_list.ensures c.rings_may_be_nested.ensures.nested c.nested_cover_as_rings.ensures.sided
    c.nested_cover_as_rings.ensures.cover c.nested_cover_as_rings.ensures.edges c.land_and_water_cover.ensures
