-- Rings of sided edges may be nested.
use Rattle.std.proofs.lemmas.Result.{IfOk-weaker}
use Rattle.osm_nest.proofs.cutting.polygons.Goals as goal

pub nest_rings-requires : goal.nest_rings-requires
nest_rings-requires c = c.rings_may_be_nested.ensures.nested c.args.edges c.in_ok-rings.rings c.requires c.in_ok-rings.ensures

pub returns-clause-polygons : goal.returns-clause-polygons
returns-clause-polygons c = IfOk-weaker c.nest_rings.result _ _ (λ polygons nested. record { rings = c.in_ok-rings.rings; cut = c.in_ok-rings.ensures; nested = nested }) c.nest_rings.ensures.nested
