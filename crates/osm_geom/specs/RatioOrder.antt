-- Coordinates as fractions, and their order by cross products.
use Rattle.std.specs.Prelude.{pos, ◌*ℤ◌}
use Rattle.std.specs.declared.cmp.Ordering.{Ordering}
use Rattle.std.specs.Ordering.{int_cmp, ordering_then}
use Rattle.osm_geom.specs.declared.point.Point.{Point}
use Rattle.osm_geom.specs.declared.ratio.Ratio.{Ratio}
use Rattle.osm_geom.specs.Point.{Fraction, x_of, y_of}

abbrev pub fraction_of : Ratio → Fraction
fraction_of r = record { num = r.num; den = r.den }

abbrev pub fraction_cmp : Fraction → Fraction → Ordering
fraction_cmp r s = int_cmp (r.num *ℤ pos s.den) (s.num *ℤ pos r.den)

-- by y, then by x
abbrev pub by_fractions : Point → Point → Ordering
by_fractions p q = ordering_then (fraction_cmp (y_of p) (y_of q)) (fraction_cmp (x_of p) (x_of q))
