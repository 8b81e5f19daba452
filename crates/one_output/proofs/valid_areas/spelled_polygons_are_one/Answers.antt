use Rattle.one_output.proofs.valid_areas.spelled_polygons_are_one.Goals as goal
use Rattle.one_output.proofs.ValidAreas.OneReading.{area-read}

pub returns : goal.returns
returns c = area-read
