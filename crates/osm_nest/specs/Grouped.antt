-- Rings that begin at their least nodes, in order, and gathered under the outer ones. No public contract cites this.
use Rattle.std.specs.Prelude.{All, AllPairs, Bool, List, None, Option, Some, [], false, map, nat_eq, remove, slice_index_or, suc, true, ℕ, length, ◌<◌, ◌∷◌, ◌≡◌, ◌≢◌}
use Rattle.std.specs.List.{filter}
use Rattle.std.specs.List.Sorted.{IsPermutation, IsSortedBy}
use Rattle.std.specs.Ordering.{is_lt}
use Rattle.osm_geom.specs.declared.edge.Edge.{Edge}
use Rattle.osm_nest.specs.declared.rings_from_least.RingFromLeast.{RingFromLeast}
use Rattle.osm_nest.specs.declared.polygon.Polygon.{Polygon}
use Rattle.osm_nest.specs.Enclosers.{AreDirectEnclosers}
use Rattle.osm_nest.specs.Nested.{BeginsBefore, IsFromLeast, edge_cmp}
use Rattle.osm_nest.specs.RingLists.{AreRings}

-- rings turned in place so that they begin at their least nodes
pub record AreTurned (rs turned : List (List Edge)) : Type 0 where
  pub sized : length turned ≡ length rs
  pub each : (place : ℕ) → place < length rs → IsFromLeast (slice_index_or rs place []) (slice_index_or turned place [])

-- none begins before the one before it
abbrev pub AreStartsSorted : List (List Edge) → Type 0
AreStartsSorted rs = (d : Edge) → IsSortedBy (λ (r s : List Edge). is_lt (edge_cmp (slice_index_or r 0 d) (slice_index_or s 0 d))) rs

abbrev pub ArePlacesSorted : List RingFromLeast → Type 0
ArePlacesSorted begun = (d : Edge) → IsSortedBy (λ (b c : RingFromLeast). is_lt (edge_cmp (slice_index_or b.ring 0 d) (slice_index_or c.ring 0 d))) begun

-- rings with their places, which count from one on
abbrev pub placed_from : ℕ → List (List Edge) → List RingFromLeast
placed_from n [] = []
placed_from n (r ∷ rs) = record { place = n; ring = r } ∷ placed_from (suc n) rs

-- the ring at a place, beginning at its least node
pub record IsFromLeastAt (ring : List Edge) (place : ℕ) (begun : RingFromLeast) : Type 0 where
  pub here : begun.place ≡ place
  pub turned : IsFromLeast ring begun.ring

-- the first of the rings, each beginning at its least node
pub record AreListed (rs : List (List Edge)) (count : ℕ) (listed : List RingFromLeast) : Type 0 where
  pub sized : length listed ≡ count
  pub each : (place : ℕ) (d : RingFromLeast) → place < count → IsFromLeastAt (slice_index_or rs place []) place (slice_index_or listed place d)

-- all of the rings, each beginning at its least node, in order
pub record AreSortedFromLeast (rs : List (List Edge)) (begun : List RingFromLeast) : Type 0 where
  pub listed : List RingFromLeast
  pub are : AreListed rs (length rs) listed
  pub moved : IsPermutation listed begun
  pub order : AllPairs (λ (b c : RingFromLeast). BeginsBefore b.ring c.ring) begun

abbrev pub has_no_encloser : Option ℕ → Bool
has_no_encloser None = true
has_no_encloser (Some encloser) = false

abbrev pub has_encloser : ℕ → Option ℕ → Bool
has_encloser place None = false
has_encloser place (Some encloser) = nat_eq encloser place

-- a ring without an encloser is outer
abbrev pub stands_first : List (Option ℕ) → RingFromLeast → Bool
stands_first enclosers b = has_no_encloser (slice_index_or enclosers b.place None)

-- a ring whose encloser is at the place is under the ring there
abbrev pub stands_under : List (Option ℕ) → ℕ → RingFromLeast → Bool
stands_under enclosers place b = has_encloser place (slice_index_or enclosers b.place None)

abbrev pub rings_under : List (Option ℕ) → List RingFromLeast → ℕ → List (List Edge)
rings_under enclosers bs place = map (λ (b : RingFromLeast). b.ring) (filter (stands_under enclosers place) bs)

abbrev pub polygon_at : List (Option ℕ) → List RingFromLeast → RingFromLeast → Polygon
polygon_at enclosers bs b = record { outer = b.ring; inners = rings_under enclosers bs b.place }

-- each outer ring with the rings under it
abbrev pub polygons_of : List (Option ℕ) → List RingFromLeast → List Polygon
polygons_of enclosers bs = map (polygon_at enclosers bs) (filter (stands_first enclosers) bs)

-- an outer ring with the rings under its place
abbrev pub with_under : List (List (List Edge)) → RingFromLeast → Polygon
with_under under b = record { outer = b.ring; inners = slice_index_or under b.place [] }

-- each begun ring has a place of its own
pub record ArePlaced (count : ℕ) (begun : List RingFromLeast) : Type 0 where
  pub within : All (λ (b : RingFromLeast). b.place < count) begun
  pub once : AllPairs (λ (b c : RingFromLeast). b.place ≢ c.place) begun

-- enclosers are places
abbrev pub AreWithin : List (Option ℕ) → Type 0
AreWithin enclosers = (place encloser : ℕ) → slice_index_or enclosers place None ≡ Some encloser → encloser < length enclosers

-- each outer ring with those that it directly encloses, all beginning at their least nodes and in order
pub record IsGrouping (rs : List (List Edge)) (polygons : List Polygon) : Type 0 where
  pub enclosers : List (Option ℕ)
  pub begun : List RingFromLeast
  pub right : AreDirectEnclosers rs enclosers
  pub in_turn : AreSortedFromLeast rs begun
  pub is : polygons ≡ polygons_of enclosers begun

-- the ring at a place with all others
abbrev pub polygons_of_all : ℕ → List (List Edge) → List Polygon
polygons_of_all outer rings = record { outer = slice_index_or rings outer []; inners = remove rings outer } ∷ []

-- turned rings may be put under enclosers
pub record MayBeGrouped (rs begun : List (List Edge)) (enclosers : List (Option ℕ)) : Type 0 where
  pub rings : AreRings rs
  pub turned : AreTurned rs begun
  pub right : AreDirectEnclosers rs enclosers
