-- The law that the ring list of edges is determined, as a statement.
use Rattle.std.specs.Prelude.{List}
use Rattle.lists.specs.Member.{In}
use Rattle.osm_geom.specs.declared.edge.Edge.{Edge}
use Rattle.osm_rings.specs.RingList.{AreRingsOf}
use Rattle.lists.specs.Rotated.{IsRotated}
use Rattle.osm_geom.specs.InPlane.Sided.{IsSided}

-- each ring of one ring list of a sided list is a ring of every other one, beginning at one of its edges
abbrev pub RingListOfEdgesIsOne : Type 0
RingListOfEdgesIsOne =
    (es : List Edge) → IsSided es → (rs qs : List (List Edge)) → AreRingsOf es rs → AreRingsOf es qs →
    (r : List Edge) → In r rs → (q : List Edge) × In q qs × IsRotated r q
