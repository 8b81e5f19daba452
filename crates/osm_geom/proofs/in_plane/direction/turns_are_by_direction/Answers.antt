use Rattle.osm_geom.proofs.InPlane.Directions.{along-cross, along-dot, along-opposite, along-sector}
use Rattle.osm_geom.proofs.in_plane.direction.turns_are_by_direction.Goals as goal

pub returns-clause-cross : goal.returns-clause-cross
returns-clause-cross c = along-cross

pub returns-clause-dot : goal.returns-clause-dot
returns-clause-dot c = along-dot

pub returns-clause-sector : goal.returns-clause-sector
returns-clause-sector c = along-sector

pub returns-clause-opposite : goal.returns-clause-opposite
returns-clause-opposite c = along-opposite
