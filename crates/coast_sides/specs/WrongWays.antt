-- Rings that run the wrong way.
use Rattle.std.specs.Prelude.{◌&&◌, Bool, false, List}
use Rattle.std.specs.List.{list_any}
use Rattle.std.specs.Ordering.{is_eq, is_lt}
use Rattle.osm_lattice.specs.declared.loc.Loc.{Loc}
use Rattle.osm_lattice.specs.declared.seg.Seg.{Seg}
use Rattle.osm_lattice.specs.Loc.{loc_cmp}
use Rattle.osm_lattice.specs.Seg.{seg_cmp}
use Rattle.osm_geom.specs.declared.edge.Carrier.{Carrier}
use Rattle.osm_geom.specs.declared.edge.Carrier.TheVariants.{Horizontal, OfSeg, Vertical}
use Rattle.osm_geom.specs.declared.edge.Edge.{Edge}
use Rattle.osm_geom.specs.declared.point.Point.{Point}
use Rattle.osm_geom.specs.declared.point.Point.TheVariants.{Lattice, OnHorizontal, OnVertical}
use Rattle.coast_rings.specs.declared.ring.CoastRing.{CoastRing}
use Rattle.coast_sides.specs.Segments.{steps_round}

-- a point is this location
abbrev pub is_at_location : Loc → Point → Bool
is_at_location p (Lattice q) = is_eq (loc_cmp q p)
is_at_location p (OnVertical c y) = false
is_at_location p (OnHorizontal x d) = false

-- an edge runs from p to q
abbrev pub runs_between : Loc → Loc → Edge → Bool
runs_between p q edge = is_at_location p edge.from && is_at_location q edge.to

-- one of a ring's steps runs against an edge
abbrev pub runs_against : List Edge → CoastRing → Bool
runs_against edges ring = list_any (λ step. list_any (runs_between step.1 step.0) edges) (steps_round ring.path)

-- an edge of this carrier runs along a segment that comes before s
abbrev pub comes_before : Seg → Carrier → Bool
comes_before s (OfSeg t) = is_lt (seg_cmp t s)
comes_before s (Vertical c) = false
comes_before s (Horizontal d) = false
