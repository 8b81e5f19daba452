-- Multiplied lists.
use Rattle.std.proofs.Common.{All, List, [], ℕ, suc, ◌*◌, ◌/◌, ◌+◌, ◌<◌, ◌≤◌, ◌∷◌, ◌≡◌, ◌∙◌, ap, refl, arith, pos, ℤ, ◌*ℤ◌, inl, inr}
use Prim.Native.Nat.{◌∣◌}
use Rattle.plane.specs.Edge as plane
use Rattle.plane.specs.Scale.{scaled_edge, scaled_point}
use Rattle.plane.proofs.SignKit.{Split, lift, same, ◌⊠◌}
use Rattle.std.proofs.Math.Nat.{div-mul_cancel, pos_of_dvd_of_pos}
use Rattle.std.proofs.lemmas.Int.{ints}
use Rattle.std.proofs.lemmas.Nat.{div-mul-add}
use Rattle.plane.proofs.PlaneKit.{same_edge_by, same_vector}
use Rattle.plane_lists.specs.Lists.ScaledEdges.{scaled_edges}
use Rattle.osm_geom.specs.declared.edge.Edge.{Edge}
use Rattle.osm_geom.specs.declared.point.Point.{Point}
use Rattle.osm_geom.specs.declared.point.Point.TheVariants.{Lattice}
use Rattle.osm_geom.specs.Point.{den_of, whole_of}
use Rattle.osm_lattice.specs.declared.loc.Loc.{Loc}
use Rattle.osm_lattice.specs.Loc.{vector_of}
use Rattle.osm_geom.specs.InPlane.Multiple.{edge_times, edges_times, point_times, product_of_denominators, whole_edges}
use Rattle.osm_geom.specs.InPlane.SidedLaws.{IsLattice}

pub common-lattice : (es : List Edge) → IsLattice es → product_of_denominators es ≡ 1
common-lattice [] h = refl
common-lattice (e ∷ es) h = rw ((h e (inl refl)).0, (h e (inl refl)).1, common-lattice es (λ f i. h f (inr i))) refl

pub lattice_whole : (es : List Edge) → IsLattice es → whole_edges es ≡ edges_times 1 es
lattice_whole es h = ap (λ k. edges_times k es) (common-lattice es h)

-- a location as a point, in the plane that isn't multiplied
pub lattice_point : (p : Loc) → point_times 1 (Lattice p) ≡ vector_of p
lattice_point p = same_vector (pos 1 *ℤ (p.x *ℤ pos 1)) (pos 1 *ℤ (p.y *ℤ pos 1)) p.x p.y (omega (arith, ints)) (omega (arith, ints))

scaled-twice : (m : ℕ) (n : ℕ) (x : ℤ) → pos (n * m) *ℤ x ≡ pos m *ℤ (pos n *ℤ x)
scaled-twice m n x =
    let nat : ℕ → Split = λ k. record { z = pos k; p = k; n = 0; is = omega arith } in
    same (nat (n * m) ⊠ lift x) (nat m ⊠ (nat n ⊠ lift x)) (omega arith)

quotient : (k m d : ℕ) → 1 ≤ k → d ∣ k → (k * m) / d ≡ (k / d) * m
quotient k m d some divides =
    let whole : (k / d) * d ≡ k = div-mul_cancel d divides in
    let more : (k / d) * d * m ≡ k * m = ap (λ n. n * m) whole in
    let positive : 0 < d = pos_of_dvd_of_pos divides some in
    ap (λ n. n / d) (turned (k / d) d m (k * m) more) ∙ div-mul-add ((k / d) * m) d 0 positive
  where
    turned : (q d m n : ℕ) → q * d * m ≡ n → n ≡ (q * m) * d + 0
    turned q d m n e = omega (arith, e)

point-further : (k m : ℕ) (p : Point) → 1 ≤ k → den_of p ∣ k → point_times (k * m) p ≡ scaled_point (pos m) (point_times k p)
point-further k m p some divides =
    ap (λ n. scaled_point (pos n) (whole_of p)) (quotient k m (den_of p) some divides)
    ∙ same_vector (pos ((k / den_of p) * m) *ℤ (whole_of p).x) (pos ((k / den_of p) * m) *ℤ (whole_of p).y) (pos m *ℤ (pos (k / den_of p) *ℤ (whole_of p).x)) (pos m *ℤ (pos (k / den_of p) *ℤ (whole_of p).y)) (scaled-twice m (k / den_of p) (whole_of p).x) (scaled-twice m (k / den_of p) (whole_of p).y)

edge-further : (k m : ℕ) (e : Edge) → 1 ≤ k → den_of e.from ∣ k → den_of e.to ∣ k → edge_times (k * m) e ≡ scaled_edge (pos m) (edge_times k e)
edge-further k m e some f t = same_edge_by (point_times (k * m) e.from) (point_times (k * m) e.to) (scaled_point (pos m) (point_times k e.from)) (scaled_point (pos m) (point_times k e.to)) (point-further k m e.from some f) (point-further k m e.to some t)

pub times_further : (k m : ℕ) (es : List Edge) → 1 ≤ k → All (λ (e : Edge). den_of e.from ∣ k) es → All (λ (e : Edge). den_of e.to ∣ k) es → edges_times (k * m) es ≡ scaled_edges (pos m) (edges_times k es)
times_further k m [] some froms tos = refl
times_further k m (e ∷ es) some froms tos = same_cons (edge-further k m e some (froms 0 e (omega arith)) (tos 0 e (omega arith))) (times_further k m es some (λ i d h. froms (suc i) d (omega arith)) (λ i d h. tos (suc i) d (omega arith)))
  where
    same_cons : {x y : plane.Edge} {xs ys : List plane.Edge} → x ≡ y → xs ≡ ys → x ∷ xs ≡ y ∷ ys
    same_cons e f = λ i. e i ∷ f i
