use Rattle.plane_lists.proofs.ring_laws.polygon.polygon_winds_by_cover.Goals as goal
use Rattle.plane_lists.proofs.Rings.Polygons.{polygon_winds}
use Rattle.plane_lists.proofs.Rings.ScaledRings.{polygon_winds_at_fractions}
use Rattle.plane_lists.proofs.Rings.SidedPolygons.{polygon_sided}

pub returns-clause-winding : goal.returns-clause-winding
returns-clause-winding c = λ rs l g m p. polygon_winds rs l p g m

pub returns-clause-sided : goal.returns-clause-sided
returns-clause-sided c = polygon_sided

pub returns-clause-winding_at_fractions : goal.returns-clause-winding_at_fractions
returns-clause-winding_at_fractions c = λ k hk rs l g m p. polygon_winds_at_fractions k hk rs l p g m
