-- Locations: their order, and the points of the plane that they are.
use Rattle.std.specs.Prelude.{◌≡◌, ℤ}
use Rattle.std.specs.declared.cmp.Ordering.{Ordering}
use Rattle.std.specs.declared.cmp.Ordering.TheVariants.{Less}
use Rattle.std.specs.Ordering.{int_cmp, on, then_cmp}
use Rattle.plane.specs.Vector.{Vector, from_to, cross}
use Rattle.osm_lattice.specs.declared.loc.Loc.{Loc}

-- the order of locations: by y, then by x
abbrev pub loc_cmp : Loc → Loc → Ordering
loc_cmp = then_cmp (on (λ p. p.y) int_cmp) (on (λ p. p.x) int_cmp)

-- p comes before q
abbrev pub IsBefore : Loc → Loc → Type 0
IsBefore p q = loc_cmp p q ≡ Less

-- the point of the plane that p is
abbrev pub vector_of : Loc → Vector
vector_of p = record { x = p.x; y = p.y }

-- the step from p to q
unfoldable pub step : Loc → Loc → Vector
step p q = from_to (vector_of p) (vector_of q)

-- twice the signed area of the triangle a, b, c: positive if c lies left of the line from a to b
unfoldable pub orientation : Loc → Loc → Loc → ℤ
orientation a b c = cross (from_to (vector_of a) (vector_of b)) (from_to (vector_of a) (vector_of c))
