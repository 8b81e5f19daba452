-- Cut lines, and where points lie relative to them.
use Rattle.std.specs.Prelude.{true, pos, ◌*ℤ◌, ◌-ℤ◌, ◌≡◌}
use Rattle.plane.specs.Sign.{Null, Sign, negated, sign}
use Rattle.osm_geom.specs.declared.cut.Axis.{Axis}
use Rattle.osm_geom.specs.declared.cut.Axis.TheVariants.{X, Y}
use Rattle.osm_geom.specs.declared.cut.Cut.{Cut}
use Rattle.osm_geom.specs.declared.cut.Side.{Side}
use Rattle.osm_geom.specs.declared.cut.Side.TheVariants.{Low, High}
use Rattle.osm_geom.specs.declared.edge.Carrier.{Carrier}
use Rattle.osm_geom.specs.declared.edge.Carrier.TheVariants.{OfSeg, Vertical, Horizontal}
use Rattle.osm_lattice.specs.declared.frac.Frac.{Frac}
use Rattle.osm_lattice.specs.declared.seg.Seg.{Seg}
use Rattle.osm_geom.specs.declared.point.Point.{Point}
use Rattle.osm_geom.specs.Carrier.{is_on}
use Rattle.osm_geom.specs.Point.{Fraction, x_of, y_of}

-- a number as a coordinate
abbrev pub fraction : Frac → Fraction
fraction f = record { num = f.num; den = f.den }

-- the coordinate of p on an axis
abbrev pub coordinate_of : Axis → Point → Fraction
coordinate_of X p = x_of p
coordinate_of Y p = y_of p

-- Plus if the line comes after p, Null if p is on it, Minus if the line comes before p
abbrev pub cut_order : Cut → Point → Sign
cut_order cut p = sign (cut.at *ℤ pos (coordinate_of cut.axis p).den -ℤ (coordinate_of cut.axis p).num)

-- Plus if p is strictly on the side, Null if it is on the line, Minus if it is strictly on the other side
abbrev pub side_by : Side → Sign → Sign
side_by Low s = s
side_by High s = negated s

abbrev pub side_of : Cut → Side → Point → Sign
side_of cut side p = side_by side (cut_order cut p)

-- the line as a carrier of edges
abbrev pub carrier_by : Axis → Cut → Carrier
carrier_by X cut = Vertical cut.at
carrier_by Y cut = Horizontal cut.at

abbrev pub carrier_of_cut : Cut → Carrier
carrier_of_cut cut = carrier_by cut.axis cut

-- p is the only point of the segment that is on the line
abbrev pub IsOnlyMeeting : Seg → Cut → Point → Type 0
IsOnlyMeeting s cut p = (q : Point) → is_on (OfSeg s) q ≡ true → cut_order cut q ≡ Null → q ≡ p
