-- The outer rings are those of the polygons.
use Rattle.std.proofs.Common.{◌∙◌}
use Rattle.osm_area.proofs.RoleSteps.{outers_any}
use Rattle.osm_area.proofs.ring_lines.is_in_outer.Goals as goal

pub returns-in-None : goal.returns-in-None
returns-in-None c = c.some_outer_along.ensures ∙ outers_any c.args.lines.now.polygons.now c.args.seg.now
