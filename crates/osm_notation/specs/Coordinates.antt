-- Points, by their coordinates in degrees.
use Rattle.std.specs.Prelude.{ℕ, ℤ, List, ◌++◌, codes}
use Rattle.osm_lattice.specs.declared.loc.Loc.{Loc}
use Rattle.osm_notation.specs.Decimal.{units_text}

-- a point by its coordinates: x, a space and y
abbrev pub xy_text : ℤ → ℤ → List ℕ
xy_text x y = units_text x ++ codes " " ++ units_text y

abbrev pub point_text : Loc → List ℕ
point_text p = xy_text p.x p.y
