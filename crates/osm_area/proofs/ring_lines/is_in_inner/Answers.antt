-- The inner rings are those of the polygons.
use Rattle.std.proofs.Common.{◌∙◌}
use Rattle.osm_area.proofs.RoleSteps.{inners_any}
use Rattle.osm_area.proofs.ring_lines.is_in_inner.Goals as goal

pub returns-in-None : goal.returns-in-None
returns-in-None c = c.some_inner_along.ensures ∙ inners_any c.args.lines.now.polygons.now c.args.seg.now
