-- A ring and what is left of it once its points are rounded go alike round each point whose unit square the ring doesn't meet.
use Rattle.std.proofs.Common.{All, List, [], ap, inl, inr, map, pos, refl, subst, sym, ℕ, ℤ, ◌%◌, ◌∙◌, ◌∷◌, ◌≡◌, ◌≤◌}
use Rattle.lists.specs.Member.{In}
use Rattle.lists.proofs.ListsKit.{all-in, in-all, in-filter}
use Rattle.osm_geom.specs.declared.edge.Edge.{Edge}
use Rattle.osm_lattice.specs.Loc.{vector_of}
use Rattle.osm_text.specs.Rounded.{rounded_ring, start_near}
use Rattle.plane.specs.Edge as plane
use Rattle.plane.specs.RayCrossing.{IsOffEdge}
use Rattle.plane.specs.Scale.{scaled_point}
use Rattle.plane.specs.Sign.{Plus, sign}
use Rattle.plane.specs.Vector.{Vector, east}
use Rattle.osm_geom.specs.InPlane.Multiple.{IsWholeAt, edges_times}
use Rattle.plane_lists.specs.Rounded.RoundedEdges.{rounded_edges, rounded_point}
use Rattle.plane_lists.specs.Rounded.Steps.{is_step, steps}
use Rattle.plane_lists.proofs.RoundedKit.{rounded-odd, rounded-off, rounded-winds, steps-crossed, steps-scaled, steps-wind}
use Rattle.plane_lists.specs.Lists.ScaledEdges.{scaled_edges}
use Rattle.plane_lists.specs.Lists.EdgeList.{crossing_count, winding_number}
use Rattle.plane_lists.specs.Lists.Ring as winding
use Rattle.plane_lists.proofs.WindingKit.{closed-balanced}
use Rattle.one_output.specs.RoundedPieces.Near.{AreBeyondHalf}
use Rattle.one_output.specs.RoundedPieces.Printed.{edges_round}
use Rattle.one_output.proofs.RoundedPieces.ClosedPaths.{closed-told, moved-path, round, starts}
use Rattle.one_output.proofs.RoundedPieces.NearPoints.{rounds-to}
use Rattle.one_output.proofs.RoundedPieces.NeighboursOnce.{once-steps, round-is}

starts-near : (k : ℕ) (es : List Edge) → ((e : Edge) → In e es → IsWholeAt k e) → starts (rounded_edges k (edges_times k es)) ≡ map vector_of (map start_near es)
starts-near k [] whole = refl
starts-near k (e ∷ es) whole =
    let w = whole e (inl refl) in let first = rounds-to k e.from e.from_in w.some w.first in
    let rest = starts-near k es (λ f i. whole f (inr i)) in (λ i. first i ∷ rest i)

module _ (k : ℕ) (some : 1 ≤ k) (ring : List Edge) (whole : (e : Edge) → In e ring → IsWholeAt k e) (is : winding.IsRing (edges_times k ring)) where
  abbrev E : List plane.Edge
  E = edges_times k ring

  abbrev L : List plane.Edge
  L = rounded_edges k E

  rounded-round : L ≡ edges_round (map start_near ring)
  rounded-round =
      closed-told (rounded_point k is.start) L (moved-path (rounded_point k) is.start is.start E is.path)
      ∙ ap round (starts-near k ring whole) ∙ round-is (map start_near ring)

  -- the edges of what is left are those of the rounded ring that are more than a point
  pub left-round : edges_round (rounded_ring ring) ≡ steps L
  left-round = sym (ap steps rounded-round ∙ once-steps (map start_near ring))

  module _ (q : ℤ) (plus : sign q ≡ Plus) where
    left-scaled : scaled_edges q (edges_round (rounded_ring ring)) ≡ steps (scaled_edges q L)
    left-scaled = ap (scaled_edges q) left-round ∙ sym (steps-scaled q plus L)

    module _ (p : Vector) (far : AreBeyondHalf k q p ring) where
      pub ring-winds : winding_number east p (scaled_edges q (edges_round (rounded_ring ring))) ≡ winding_number east (scaled_point (pos k) p) (scaled_edges q E)
      ring-winds =
          ap (winding_number east p) left-scaled ∙ steps-wind east p (scaled_edges q L)
          ∙ rounded-winds k some E q plus p far (closed-balanced is.start E is.path)

      pub ring-odd : crossing_count east p (scaled_edges q (edges_round (rounded_ring ring))) % 2 ≡ crossing_count east (scaled_point (pos k) p) (scaled_edges q E) % 2
      ring-odd =
          ap (λ (es : List plane.Edge). crossing_count east p es % 2) left-scaled ∙ ap (λ n. n % 2) (steps-crossed east p (scaled_edges q L))
          ∙ rounded-odd k some E q plus p far (closed-balanced is.start E is.path)

      pub ring-off : All (IsOffEdge p) (scaled_edges q (edges_round (rounded_ring ring)))
      ring-off =
          all-in (IsOffEdge p) (scaled_edges q (edges_round (rounded_ring ring))) (λ e i.
          in-all (IsOffEdge p) (scaled_edges q L) e (rounded-off k some E q plus p far) (in-filter is_step (scaled_edges q L) e (subst (λ (es : List plane.Edge). In e es) left-scaled i)))
