-- The laws of vectors that point in one direction, as statements.
use Rattle.std.specs.Prelude.{◌≡◌}
use Rattle.plane.specs.Sector.{in_sector}
use Rattle.plane.specs.Sign.{sign}
use Rattle.plane.specs.Vector.{Vector, cross, dot}
use Rattle.osm_geom.specs.Edge.{opposite}
use Rattle.osm_geom.specs.InPlane.OneDirection.{HaveOneDirection}

-- products have the signs of the directions' products
abbrev pub CrossIsByDirection : Type 0
CrossIsByDirection =
    (v w d e : Vector) → HaveOneDirection v d → HaveOneDirection w e → sign (cross v w) ≡ sign (cross d e)

abbrev pub DotIsByDirection : Type 0
DotIsByDirection = (v w d e : Vector) → HaveOneDirection v d → HaveOneDirection w e → sign (dot v w) ≡ sign (dot d e)

-- a vector is in the sector that its direction is in
abbrev pub SectorIsByDirection : Type 0
SectorIsByDirection =
    (u v w c d e : Vector) → HaveOneDirection u c → HaveOneDirection v d → HaveOneDirection w e → in_sector u v w ≡ in_sector c d e

abbrev pub OppositesHaveOneDirection : Type 0
OppositesHaveOneDirection = (v d : Vector) → HaveOneDirection v d → HaveOneDirection (opposite v) (opposite d)
