-- Segments have one list of edges that they are directed to.
use Rattle.std.proofs.Common.{Bool, List, [], ap, cond, false, map, refl, sym, true, ◌∙◌, ◌∷◌, ◌≡◌}
use Rattle.plane_lists.specs.Lists.OddSide as odd_side
use Rattle.lists.proofs.ListsKit.{map-map, map-same}
use Rattle.osm_lattice.specs.declared.seg.Seg.{Seg}
use Rattle.osm_lattice.specs.Seg.{edge_of}
use Rattle.osm_geom.specs.declared.edge.Carrier.{Carrier}
use Rattle.osm_geom.specs.declared.edge.Carrier.TheVariants.{OfSeg}
use Rattle.osm_geom.specs.declared.edge.Edge.{Edge}
use Rattle.osm_geom.specs.declared.point.Point.{Point}
use Rattle.osm_geom.specs.declared.point.Point.TheVariants.{Lattice}
use Rattle.osm_geom.proofs.GeometryKit.{edge-from-fields, ends_apart, ends_apart_back, in_world, on_a, on_b}
use Rattle.osm_sides.specs.Directions.{AreDirected, first_end, last_end}
use Rattle.osm_sides.specs.Laws.{DirectionsAreOne, DirectionsExist}
use Rattle.osm_sides.specs.Survivors.{plane_edges_of}

-- ---- there is one

-- the segment, from its lesser end or from its greater one
abbrev run : Bool → Seg → Edge
run true s = record { from = Lattice s.a; to = Lattice s.b; carrier = OfSeg s; from_on = on_a s; to_on = on_b s; apart = ends_apart s; from_in = in_world s.a; to_in = in_world s.b }
run false s = record { from = Lattice s.b; to = Lattice s.a; carrier = OfSeg s; from_on = on_b s; to_on = on_a s; apart = ends_apart_back s; from_in = in_world s.b; to_in = in_world s.a }

carrier-is : (up : Bool) (s : Seg) → (run up s).carrier ≡ OfSeg s
carrier-is true s = refl
carrier-is false s = refl

from-is : (up : Bool) (s : Seg) → (run up s).from ≡ Lattice (cond up s.a s.b)
from-is true s = refl
from-is false s = refl

to-is : (up : Bool) (s : Seg) → (run up s).to ≡ Lattice (cond up s.b s.a)
to-is true s = refl
to-is false s = refl

module _ (segs : List Seg) where
  abbrev goes_up : Seg → Bool
  goes_up s = odd_side.runs_up_by_odd_side (plane_edges_of segs) (edge_of s)

  abbrev directed_of : Seg → Edge
  directed_of s = run (goes_up s) s

  part-is : {X : Type 0} (part : Edge → X) (of : Seg → X) → ((s : Seg) → part (directed_of s) ≡ of s) → map part (map directed_of segs) ≡ map of segs
  part-is part of same = map-map part directed_of segs ∙ map-same (λ s. part (directed_of s)) of segs same

  are_directed : AreDirected segs (map directed_of segs)
  are_directed = record {
    whole = part-is {X = Carrier} (λ (e : Edge). e.carrier) OfSeg (λ s. carrier-is (goes_up s) s);
    firsts = part-is {X = Point} (λ (e : Edge). e.from) (first_end segs) (λ s. from-is (goes_up s) s);
    lasts = part-is {X = Point} (λ (e : Edge). e.to) (last_end segs) (λ s. to-is (goes_up s) s);
  }

pub directions_exist : DirectionsExist
directions_exist segs = (map (directed_of segs) segs, are_directed segs)

-- ---- there is no other

edges_same : (a b : List Edge) → map (λ (e : Edge). e.carrier) a ≡ map (λ (e : Edge). e.carrier) b → map (λ (e : Edge). e.from) a ≡ map (λ (e : Edge). e.from) b → map (λ (e : Edge). e.to) a ≡ map (λ (e : Edge). e.to) b → a ≡ b
edges_same [] [] h k l = refl
edges_same [] (y ∷ b) h k l = cc
edges_same (x ∷ a) [] h k l = cc
edges_same (x ∷ a) (y ∷ b) h k l = ap (λ z. z ∷ a) (edge-from-fields x y (cc) (cc) (cc)) ∙ ap (λ l. y ∷ l) (edges_same a b (cc) (cc) (cc))

pub directions_one : DirectionsAreOne
directions_one segs a b s t = edges_same a b (s.whole ∙ sym t.whole) (s.firsts ∙ sym t.firsts) (s.lasts ∙ sym t.lasts)
