-- Coordinates of points: whole numbers and fractions, and the whole numbers next to them.
use Rattle.std.specs.Prelude.{◌≤◌, ℤ, pos, ◌*ℤ◌, ◌-ℤ◌, ◌≤ℤ◌}
use Rattle.std.specs.Int.{int_div_euclid}
use Rattle.osm_geom.specs.declared.coordinate.Coordinate.{Coordinate}
use Rattle.osm_geom.specs.declared.coordinate.Coordinate.TheVariants.{Whole, OfPart}
use Rattle.osm_geom.specs.Point.{Fraction, fraction_in, whole}

-- the number that a coordinate is
abbrev pub value_of : Coordinate → Fraction
value_of (Whole n) = whole n
value_of (OfPart p) = fraction_in p

-- the greatest whole number that is at most f
abbrev pub floor_of : Fraction → ℤ
floor_of f = int_div_euclid f.num (pos f.den)

-- the least whole number that is at least f
abbrev pub ceiling_of : Fraction → ℤ
ceiling_of f = pos 0 -ℤ int_div_euclid (pos 0 -ℤ f.num) (pos f.den)

-- A whole number is at most a fraction; a fraction is at most a whole number.
abbrev pub AtLeast : ℤ → Fraction → Type 0
AtLeast n f = (n *ℤ pos f.den) ≤ℤ f.num

abbrev pub AtMost : Fraction → ℤ → Type 0
AtMost f n = f.num ≤ℤ (n *ℤ pos f.den)

-- the floor of a fraction is the greatest whole number that is at most the fraction
abbrev pub FloorIsGreatest : Type 0
FloorIsGreatest = (f : Fraction) → 1 ≤ f.den → AtLeast (floor_of f) f × ((n : ℤ) → AtLeast n f → n ≤ℤ floor_of f)

-- its ceiling is the least that is at least the fraction
abbrev pub CeilingIsLeast : Type 0
CeilingIsLeast = (f : Fraction) → 1 ≤ f.den → AtMost f (ceiling_of f) × ((n : ℤ) → AtMost f n → ceiling_of f ≤ℤ n)
