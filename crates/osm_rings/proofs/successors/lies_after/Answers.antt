-- The comparison of the two directions.
use Rattle.std.proofs.Common.{refl, ◌∙◌}
use Rattle.osm_rings.proofs.DeparturesRound.{turns}
use Rattle.osm_rings.proofs.successors.lies_after.Goals as goal

pub returns : goal.returns
returns c = c.is_lt.ensures ∙ turns _ c.args.from c.args.dir c.clockwise.result c.clockwise.ensures refl
