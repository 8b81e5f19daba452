-- Directed segments are the plane's directed edges.
use Rattle.std.proofs.Common.{Bool, true, false, cond, List, [], ◌∷◌, map, ◌≡◌, ◌∙◌, refl, ap, ⊎_elim}
use Rattle.plane.specs.Edge as plane
use Rattle.plane.proofs.PlaneKit.{same_edge_by}
use Rattle.lists.specs.Member.{In}
use Rattle.plane_lists.specs.Lists.OddSide as odd_side
use Rattle.osm_geom.specs.declared.edge.Edge.{Edge}
use Rattle.osm_geom.specs.declared.point.Point.{Point}
use Rattle.osm_lattice.specs.declared.seg.Seg.{Seg}
use Rattle.osm_lattice.specs.Loc.{vector_of}
use Rattle.osm_geom.specs.Point.{den_of}
use Rattle.osm_lattice.specs.Seg.{edge_of}
use Rattle.osm_geom.specs.InPlane.Multiple.{edge_times, edges_times, point_times}
use Rattle.osm_geom.specs.InPlane.SidedLaws.{IsLattice}
use Rattle.osm_geom.proofs.EdgesKit.{lattice_point}
use Rattle.osm_sides.specs.Directions.{first_end, last_end}
use Rattle.osm_sides.specs.Survivors.{plane_edges_of}

plane_ends : (b : Bool) (s : Seg) → (vector_of (cond b s.a s.b) ≡ (cond b (edge_of s) (plane.reversed (edge_of s))).from) × (vector_of (cond b s.b s.a) ≡ (cond b (edge_of s) (plane.reversed (edge_of s))).to)
plane_ends true s = (refl, refl)
plane_ends false s = (refl, refl)

module _ (all : List Seg) where
  one_edge : (s : Seg) (e : Edge) → e.from ≡ first_end all s → e.to ≡ last_end all s → edge_times 1 e ≡ odd_side.directed_edge (plane_edges_of all) (edge_of s)
  one_edge s e f t =
      let up = odd_side.runs_up_by_odd_side (plane_edges_of all) (edge_of s) in
      let directed = odd_side.directed_edge (plane_edges_of all) (edge_of s) in
      same_edge_by (point_times 1 e.from) (point_times 1 e.to) directed.from directed.to
      (ap (point_times 1) f ∙ lattice_point (cond up s.a s.b) ∙ (plane_ends up s).0)
      (ap (point_times 1) t ∙ lattice_point (cond up s.b s.a) ∙ (plane_ends up s).1)

  same_cons : {X : Type 0} {x y : X} {xs ys : List X} → x ≡ y → xs ≡ ys → x ∷ xs ≡ y ∷ ys
  same_cons e f = λ i. e i ∷ f i

  pub plane_edges : (segs : List Seg) (es : List Edge) → map (λ (e : Edge). e.from) es ≡ map (first_end all) segs → map (λ (e : Edge). e.to) es ≡ map (last_end all) segs → edges_times 1 es ≡ map (odd_side.directed_edge (plane_edges_of all)) (plane_edges_of segs)
  plane_edges [] [] f t = refl
  plane_edges [] (e ∷ es) f t = cc
  plane_edges (s ∷ segs) [] f t = cc
  plane_edges (s ∷ segs) (e ∷ es) f t = same_cons (one_edge s e (head_is f) (head_is t)) (plane_edges segs es (tail_is f) (tail_is t))
    where
      head_is : {x y : Point} {xs ys : List Point} → x ∷ xs ≡ y ∷ ys → x ≡ y
      head_is e = cc

      tail_is : {x y : Point} {xs ys : List Point} → x ∷ xs ≡ y ∷ ys → xs ≡ ys
      tail_is e = cc

  pub lattice_edges : (segs : List Seg) (es : List Edge) → map (λ (e : Edge). e.from) es ≡ map (first_end all) segs → map (λ (e : Edge). e.to) es ≡ map (last_end all) segs → IsLattice es
  lattice_edges [] [] f t = λ d i. absurd i
  lattice_edges [] (e ∷ es) f t = cc
  lattice_edges (s ∷ segs) [] f t = cc
  lattice_edges (s ∷ segs) (e ∷ es) f t = λ d i. ⊎_elim (λ (is : d ≡ e). (ap (λ (x : Edge). den_of x.from) is ∙ ap den_of (head_is f), ap (λ (x : Edge). den_of x.to) is ∙ ap den_of (head_is t))) (λ (later : In d es). lattice_edges segs es (tail_is f) (tail_is t) d later) i
    where
      head_is : {x y : Point} {xs ys : List Point} → x ∷ xs ≡ y ∷ ys → x ≡ y
      head_is e = cc

      tail_is : {x y : Point} {xs ys : List Point} → x ∷ xs ≡ y ∷ ys → xs ≡ ys
      tail_is e = cc
