-- Segments as edges of the plane.
use Rattle.std.specs.Prelude.{List, map}
use Rattle.plane.specs.Edge.{Edge}
use Rattle.osm_lattice.specs.declared.seg.Seg.{Seg}
use Rattle.osm_lattice.specs.Seg.{edge_of}

-- the plane's edges, each from its lesser end to its greater one
abbrev pub plane_edges_of : List Seg → List Edge
plane_edges_of segs = map edge_of segs
