use Rattle.plane_lists.proofs.ring_laws.polygon.polygons_cover_as_ring_list.Goals as goal
use Rattle.plane_lists.proofs.Rings.PolygonLists.{polygons_exist}
use Rattle.plane_lists.proofs.Rings.Polygons.{polygons_cover}
use Rattle.plane_lists.proofs.Rings.ScaledRings.{polygons_cover_at_fractions}

pub returns-clause-exist : goal.returns-clause-exist
returns-clause-exist c = polygons_exist

pub returns-clause-cover : goal.returns-clause-cover
returns-clause-cover c = λ rs l gs a p. polygons_cover rs l p gs a

pub returns-clause-cover_at_fractions : goal.returns-clause-cover_at_fractions
returns-clause-cover_at_fractions c = λ k hk rs l gs a p. polygons_cover_at_fractions k hk rs l p gs a
