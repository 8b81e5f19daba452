-- Which ring directly encloses which, by places in a list. No public contract cites this.
use Rattle.std.specs.Prelude.{Bool, List, Option, None, Some, [], false, get_or, length, map, true, ℕ, ◌<◌, ◌≡◌, ◌↔◌}
use Rattle.plane_lists.specs.Rings.Nesting.{EnclosesDirectly, IsInnerRing, IsOuterRing}
use Rattle.plane_lists.specs.Lists.Ring.{segments_of}
use Rattle.osm_geom.specs.declared.edge.Edge.{Edge}
use Rattle.osm_nest.specs.Outer.{IsInner, IsOuter}
use Rattle.osm_nest.specs.RingLists.{whole_rings}
use Rattle.plane.specs.Edge as plane

-- the segments of the plane's ring at a place
abbrev pub segments_at : List (List Edge) → ℕ → List plane.Edge
segments_at rs place = segments_of (get_or (whole_rings rs) place [])

-- the encloser of an inner ring is the place of the ring that directly encloses it; an outer ring has none
abbrev pub IsDirectEncloser : List (List Edge) → ℕ → Option ℕ → Type 0
IsDirectEncloser rs place None = IsOuterRing (map segments_of (whole_rings rs)) (segments_at rs place)
IsDirectEncloser rs place (Some encloser) =
    (encloser < length rs) × IsInnerRing (map segments_of (whole_rings rs)) (segments_at rs place) × EnclosesDirectly (map segments_of (whole_rings rs)) (segments_at rs encloser) (segments_at rs place)

pub record AreDirectEnclosers (rs : List (List Edge)) (enclosers : List (Option ℕ)) : Type 0 where
  pub sized : length enclosers ≡ length rs
  pub right : (place : ℕ) → place < length rs → IsDirectEncloser rs place (get_or enclosers place None)

-- the answer to whether a ring is outer
abbrev pub TellsOuter : Bool → List Edge → Type 0
TellsOuter outer ring = ((outer ≡ true) ↔ IsOuter ring) × ((outer ≡ false) ↔ IsInner ring)

-- that answer for the ring at each place
abbrev pub TellOuter : List (List Edge) → List Bool → Type 0
TellOuter rs outer = (place : ℕ) → place < length rs → TellsOuter (get_or outer place false) (get_or rs place [])
