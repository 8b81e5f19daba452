-- The copies are the rings.
use Rattle.std.proofs.Common.{All, subst, sym}
use Rattle.osm_geom.specs.WholeSegment.{IsWholeSegment}
use Rattle.osm_nest.proofs.grouping.nest.Goals as goal

pub returns-clause-whole : goal.returns-clause-whole
returns-clause-whole c whole = c.nest_rings.ensures.whole (subst (All (All IsWholeSegment)) (sym c.in_ok-copied.ensures) whole)
