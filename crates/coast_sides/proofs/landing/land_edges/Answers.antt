-- What is left, directed, is land.
use Rattle.std.proofs.Common.{◌≡◌, List, ap, sym, subst, ◌∙◌, pos}
use Rattle.osm_geom.specs.declared.edge.Edge.{Edge}
use Rattle.osm_geom.specs.WholeSegment.{IsWholeSegment}
use Rattle.osm_lattice.specs.declared.seg.Seg.{Seg}
use Rattle.osm_sides.specs.Directions.{AreDirected, CountsParity}
use Rattle.osm_geom.specs.InPlane.Sided.{IsSided, signed_count_at}
use Rattle.std.proofs.Common.{All}
use Rattle.coast_sides.specs.Land.{parity_at}
use Rattle.coast_sides.proofs.Clearing.{left_parity}
use Rattle.coast_sides.proofs.landing.land_edges.Goals as goal

pub sorted-requires-clause-outline : goal.sorted-requires-clause-outline
sorted-requires-clause-outline c = record { rising = c.requires.rising; clear = c.requires.clear; even = c.requires.even }

pub returns : goal.returns
returns c = λ segs are.
    let left = c.args.left.items in
    let directed = subst (λ (ss : List Seg). AreDirected ss c.in_ok-edges.edges.items) c.sorted.ensures c.in_ok-edges.ensures.odd_side in
    let counts = subst (λ (ss : List Seg). CountsParity ss c.in_ok-edges.edges.items) c.sorted.ensures c.in_ok-edges.ensures.parity in
    let same : c.in_ok-edges.edges.items ≡ c.from_vec.result = sym c.from_vec.ensures in
    record {
      survivors = left;
      left = are;
      directed = subst (λ (es : List Edge). AreDirected left es) same directed;
      whole = subst (λ (es : List Edge). All IsWholeSegment es) same c.in_ok-edges.ensures.whole;
      sided = subst IsSided same c.in_ok-edges.ensures.sided;
      parity = λ q h p. subst (λ (es : List Edge). signed_count_at q p es ≡ parity_at q p left) same (counts q h p) ∙ ap pos (left_parity c.orders_are_exact.ensures.segments segs left are q p);
    }
