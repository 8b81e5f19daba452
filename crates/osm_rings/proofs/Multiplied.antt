-- Edges of a list in the plane multiplied by the common denominator: where they stand, where they go, and that it tells points apart.
use Rattle.std.proofs.Common.{◌≡◌, ℕ, ◌<◌, List, [], ◌∷◌, Some, length, get_or, sym, ap, subst, ◌∙◌, arith}
use Rattle.std.proofs.lemmas.List.{get_or-map, length-map}
use Rattle.plane.specs.Vector.{east, from_to}
use Rattle.lists.specs.Member.{In}
use Rattle.osm_geom.specs.declared.edge.Edge.{Edge}
use Rattle.osm_geom.specs.Edge.{direction_of}
use Rattle.osm_geom.specs.InPlane.Multiple.{IsWholeAt, edge_times, edges_times, point_times, product_of_denominators, whole_edges}
use Rattle.osm_geom.specs.InPlane.OneDirection.{HaveOneDirection}
use Rattle.osm_geom.proofs.EdgesKit.{common_is_common, each_whole, step_along, same_is_same}
use Rattle.osm_rings.specs.Numbered.{edge_at, nowhere}
use Rattle.osm_rings.specs.Departures.{TellStarts, direction_at, step_at}
use Rattle.osm_rings.proofs.Starts.{same-some, start-at}
use Rattle.osm_rings.proofs.PlaneNumbers.{TellPoints}
use Rattle.lists.proofs.ListsKit.{at-in}

-- an edge of a list, which has one
pub pick : (es : List Edge) → 0 < length es → Edge
pick [] h = absurd (omega arith)
pick (x ∷ xs) h = x

pub read-edge : (m : ℕ) (es : List Edge) (k : ℕ) (d : Edge) → k < length es → edge_at (edges_times m es) k ≡ edge_times m (get_or es k d)
read-edge m es k d h = get_or-map (edge_times m) es k d nowhere h

pub read-direction : (es : List Edge) (k : ℕ) (d : Edge) → k < length es → direction_at es k ≡ direction_of (get_or es k d)
read-direction es k d h = get_or-map direction_of es k d east h

module _ (es : List Edge) where
  pub size : length (whole_edges es) ≡ length es
  size = length-map es (edge_times (product_of_denominators es))

  pub whole-in : (e : Edge) → In e es → IsWholeAt (product_of_denominators es) e
  whole-in = each_whole (product_of_denominators es) es (common_is_common es)

  pub whole-at : (k : ℕ) (d : Edge) → k < length es → IsWholeAt (product_of_denominators es) (get_or es k d)
  whole-at k d h = whole-in (get_or es k d) (at-in es k d h)

  -- an edge goes where it points
  pub departure-along : (k : ℕ) → k < length es → HaveOneDirection (step_at (whole_edges es) k) (direction_at es k)
  departure-along k h =
      let d = pick es (omega arith) in
      let e = get_or es k d in
      subst (λ v. HaveOneDirection v (direction_at es k)) (sym (ap (λ x. from_to x.from x.to) (read-edge (product_of_denominators es) es k d h)))
      (subst (HaveOneDirection (from_to (point_times (product_of_denominators es) e.from) (point_times (product_of_denominators es) e.to))) (sym (read-direction es k d h))
      (step_along (product_of_denominators es) e (whole-at k d h)))

  -- what tells the starts apart does so in the plane
  pub tell-plane : (numbers : List ℕ) → TellStarts es numbers → TellPoints (whole_edges es) numbers
  tell-plane numbers tell i j hi hj =
      let m = product_of_denominators es in
      let long = size in
      let d = pick es (omega arith) in
      let e = get_or es i d in let f = get_or es j d in
      let li : i < length es = omega arith in
      let lj : j < length es = omega arith in
      let we = whole-at i d li in let wf = whole-at j d lj in
      let both = tell i j li lj in
      let at_i = start-at es i d li in let at_j = start-at es j d lj in
      let plane_i = ap (λ x. x.from) (read-edge m es i d li) in let plane_j = ap (λ x. x.from) (read-edge m es j d lj) in (
        λ same. plane_i ∙ (ap (point_times m) (same-some e.from f.from (sym at_i ∙ (both.0 same ∙ at_j))) ∙ sym plane_j),
        λ same. both.1 (at_i ∙ (ap Some (same_is_same m e.from f.from we.some we.first wf.first (sym plane_i ∙ (same ∙ plane_j))) ∙ sym at_j)),
      )
