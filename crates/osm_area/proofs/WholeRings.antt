-- Rings of whole segments pass lattice points alone.
use Rattle.std.proofs.Common.{All, List, [], ◌∷◌, ap}
use Rattle.std.proofs.lemmas.List.Elements.{All-nil, All-append, All-head, All-tail}
use Rattle.lists.proofs.ListsKit.{in-all}
use Rattle.osm_geom.specs.InPlane.SidedLaws.{IsLattice}
use Rattle.osm_geom.specs.declared.edge.Edge.{Edge}
use Rattle.osm_geom.specs.Point.{den_of}
use Rattle.osm_geom.specs.WholeSegment.{IsWholeSegment}
use Rattle.osm_rings.proofs.Whole.{from-lattice, to-lattice}
use Rattle.osm_nest.specs.RingLists.{all_edges}

all-edges : (rs : List (List Edge)) → All (All IsWholeSegment) rs → All IsWholeSegment (all_edges rs)
all-edges [] whole = All-nil IsWholeSegment
all-edges (r ∷ rs) whole = All-append IsWholeSegment r (all_edges rs) (All-head (All IsWholeSegment) r rs whole) (all-edges rs (All-tail (All IsWholeSegment) r rs whole))

pub rings_lattice : (rs : List (List Edge)) → All (All IsWholeSegment) rs → IsLattice (all_edges rs)
rings_lattice rs whole e i =
    let w = in-all IsWholeSegment (all_edges rs) e (all-edges rs whole) i in
    let f = from-lattice e w in
    let t = to-lattice e w in
    (ap den_of f.1, ap den_of t.1)
