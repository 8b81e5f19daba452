use Rattle.one_output.proofs.valid_areas.areas_are_valid.Goals as goal
use Rattle.one_output.proofs.ValidAreas.ValidAreas.{valid-in}

pub returns : goal.returns
returns c = valid-in c.directing_is_sided.ensures.whole c.nested_polygons_are_valid.ensures.at
