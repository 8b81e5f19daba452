-- By the laws of the layer below.
use Rattle.osm_area.proofs.SoundAreas.{areas-have-kinds}
use Rattle.osm_area.proofs.laws.areas_have_kinds.Goals as goal

pub returns : goal.returns
returns c = areas-have-kinds c.rings_may_be_nested.ensures.nested c.nested_have_kinds.ensures.kinds
