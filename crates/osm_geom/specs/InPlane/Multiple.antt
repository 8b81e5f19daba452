-- Points and edges in the plane multiplied by a number that makes them whole.
use Rattle.std.specs.Prelude.{All, List, [], map, ℕ, ◌*◌, ◌/◌, ◌∷◌, ◌≤◌, pos}
use Prim.Native.Nat.{◌∣◌}
use Rattle.plane.specs.Edge as plane
use Rattle.plane.specs.Scale.{scaled_point}
use Rattle.plane.specs.Vector.{Vector, from_to}
use Rattle.osm_geom.specs.declared.edge.Edge.{Edge}
use Rattle.osm_geom.specs.declared.point.Point.{Point}
use Rattle.osm_geom.specs.Point.{den_of, whole_of}

-- p in the plane multiplied by k, a multiple of its denominator
abbrev pub point_times : ℕ → Point → Vector
point_times k p = scaled_point (pos (k / den_of p)) (whole_of p)

abbrev pub edge_times : ℕ → Edge → plane.Edge
edge_times k e = record { from = point_times k e.from; to = point_times k e.to }

abbrev pub edges_times : ℕ → List Edge → List plane.Edge
edges_times k es = map (edge_times k) es

-- the step from the first end of e to its second, multiplied by k
abbrev pub step_times : ℕ → Edge → Vector
step_times k e = from_to (point_times k e.from) (point_times k e.to)

-- multiplied by k, the ends of e are whole
pub record IsWholeAt (k : ℕ) (e : Edge) : Type 0 where
  pub some : 1 ≤ k
  pub first : den_of e.from ∣ k
  pub second : den_of e.to ∣ k

-- multiplied by k, all points of the list are whole
pub record IsCommon (k : ℕ) (es : List Edge) : Type 0 where
  pub some : 1 ≤ k
  pub froms : All (λ (e : Edge). den_of e.from ∣ k) es
  pub tos : All (λ (e : Edge). den_of e.to ∣ k) es

-- the product of all denominators, which is such a number
abbrev pub product_of_denominators : List Edge → ℕ
product_of_denominators [] = 1
product_of_denominators (e ∷ es) = den_of e.from * den_of e.to * product_of_denominators es

-- the list in the plane multiplied by it
abbrev pub whole_edges : List Edge → List plane.Edge
whole_edges es = edges_times (product_of_denominators es) es
