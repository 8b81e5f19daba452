-- The leaves of a coastline job are sided.
use Rattle.one_output.proofs.OneCoast.AreasOne.{land_leaves_sided, water_leaves_sided}
use Rattle.one_output.proofs.rounded_pieces.coast_is_printed_right.Goals as goal

pub returns-clause-land : goal.returns-clause-land
returns-clause-land c = λ settings objects whole right tiles are.
    c.leaves_are_printed_right.ensures right.areas.land_leaves
    (land_leaves_sided c.rings_may_be_nested.ensures.nested c.nested_cover_as_rings.ensures.sided c.leaves_cover_as_list.ensures.sided settings objects right.areas right.right) tiles are

pub returns-clause-water : goal.returns-clause-water
returns-clause-water c = λ settings objects whole right tiles are.
    c.leaves_are_printed_right.ensures right.areas.water_leaves
    (water_leaves_sided c.rings_may_be_nested.ensures.nested c.nested_cover_as_rings.ensures.sided c.leaves_cover_as_list.ensures.sided settings objects right.areas right.right) tiles are
