use Rattle.osm_geom.proofs.InPlane.Commons.{count_at_each, sided_at_each, signed_count_at_each}
use Rattle.osm_geom.proofs.in_plane.multiple.every_multiple_is_alike.Goals as goal

pub returns-clause-sided : goal.returns-clause-sided
returns-clause-sided c = sided_at_each

pub returns-clause-count : goal.returns-clause-count
returns-clause-count c = count_at_each

pub returns-clause-signed : goal.returns-clause-signed
returns-clause-signed c = signed_count_at_each
