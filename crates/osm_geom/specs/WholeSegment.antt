-- Edges that run along whole segments.
use Rattle.std.specs.Prelude.{Bool, cond, ◌≡◌}
use Rattle.osm_geom.specs.declared.edge.Carrier.TheVariants.{OfSeg}
use Rattle.osm_geom.specs.declared.edge.Edge.{Edge}
use Rattle.osm_geom.specs.declared.point.Point.TheVariants.{Lattice}
use Rattle.osm_lattice.specs.declared.seg.Seg.{Seg}

-- e runs along a whole segment, from its lesser end or from its greater one
pub record IsWholeSegment (e : Edge) : Type 0 where
  pub segment : Seg
  pub forward : Bool
  pub carrier : e.carrier ≡ OfSeg segment
  pub from : e.from ≡ cond forward (Lattice segment.a) (Lattice segment.b)
  pub to : e.to ≡ cond forward (Lattice segment.b) (Lattice segment.a)
