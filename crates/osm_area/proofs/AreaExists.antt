-- Segments without faults have an area.
use Rattle.std.proofs.Common.{◌≡◌, ◌≢◌, List, [], refl}
use Rattle.osm_lattice.specs.declared.seg.Seg.{Seg}
use Rattle.osm_lattice.specs.Seg.{seg_cmp}
use Rattle.lists.specs.Rising.{IsRising}
use Rattle.osm_segments.specs.Pairs.{conflicts_of}
use Rattle.osm_sides.specs.Laws.{DirectionsExist}
use Rattle.osm_segments.specs.Counts.{HasEvenNodes}
use Rattle.osm_sides.proofs.SidesKit.{directed_is_sided}
use Rattle.osm_rings.specs.Laws.{RingListOfEdgesExists}
use Rattle.osm_nest.specs.declared.polygon.Polygon.{Polygon}
use Rattle.osm_nest.specs.Laws.{NestingExists, RingsMayBeNested}
use Rattle.osm_area.specs.Area.{IsArea}
use Rattle.osm_area.proofs.AreaLemmas.{is_area}

-- by the laws of the layers below
module _ (directions : DirectionsExist) (cut : RingListOfEdgesExists) (fit : RingsMayBeNested) (nest : NestingExists) where
  pub area_exists : (segs : List Seg) → segs ≢ [] → IsRising seg_cmp segs → conflicts_of segs ≡ [] → HasEvenNodes segs → (polygons : List Polygon) × IsArea segs polygons
  area_exists segs some rising clear even =
      let edges = (directions segs).0 in
      let directed = (directions segs).1 in
      let sided = directed_is_sided segs edges rising clear even directed in
      let rings = cut edges sided in
      let nested = nest rings.0 (fit edges rings.0 sided rings.1) in
      (nested.0, is_area segs edges edges rings.0 rings.0 some directed refl rings.1 refl nested.0 nested.1)
