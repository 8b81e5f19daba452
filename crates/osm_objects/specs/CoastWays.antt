-- Coast ways: the ways tagged natural=coastline.
use Rattle.std.specs.Prelude.{Bool, false, List, map, filter, codes, ℤ}
use Rattle.osm_elements.specs.declared.object.Object.{Object}
use Rattle.osm_elements.specs.declared.object.Object.TheVariants as object
use Rattle.osm_objects.specs.Object.{id_of}
use Rattle.osm_objects.specs.Tags.{is_tagged}

unfoldable pub is_coast_way : Object → Bool
is_coast_way (object.Node id live tags place) = false
is_coast_way (object.Way id live tags refs) = is_tagged (codes "natural") (codes "coastline") tags
is_coast_way (object.Relation id live tags members) = false

-- their ids, in order
abbrev pub coast_ways : List Object → List ℤ
coast_ways objects = map id_of (filter is_coast_way objects)
