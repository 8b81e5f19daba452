-- Water: what is left of land's segments together with the world's rectangle.
use Rattle.std.specs.Prelude.{◌≡◌, ◌<◌, ◌<ℤ◌, ◌⊎◌, ◌%◌, ◌+◌, ◌++◌, ℤ, pos, neg_ℤ, None, Option, Some, Bool, true, false, All, Contains, List, [], drop, length}
use Rattle.std.specs.List.{filter_map, zip}
use Rattle.std.specs.Ordering.{int_eq}
use Rattle.std.proofs.Common.{lit≤}
use Rattle.plane.specs.Sign.{Plus, sign}
use Rattle.plane.specs.Vector.{Vector, east}
use Rattle.plane_lists.specs.Lists.EdgeList.{crossing_count}
use Rattle.osm_geom.specs.declared.edge.Carrier.{Carrier}
use Rattle.osm_geom.specs.declared.edge.Carrier.TheVariants.{Horizontal, OfSeg, Vertical}
use Rattle.osm_geom.specs.declared.edge.Edge.{Edge}
use Rattle.osm_geom.specs.WholeSegment.{IsWholeSegment}
use Rattle.osm_lattice.specs.declared.loc.Loc.{Loc}
use Rattle.osm_lattice.specs.declared.seg.Seg.{Seg}
use Rattle.plane.specs.Conflict.{is_inside}
use Rattle.osm_lattice.specs.Conflict.{conflict_of}
use Rattle.osm_lattice.specs.Loc.{loc_cmp, vector_of}
use Rattle.osm_lattice.specs.Seg.{edge_of, segment_between}
use Rattle.lists.specs.Rising.{IsRising}
use Rattle.osm_segments.specs.Counts.{AreSurvivors, ends_of}
use Rattle.osm_sides.specs.Directions.{AreDirected}
use Rattle.osm_segments.specs.Counts.{HasEvenNodes}
use Rattle.osm_sides.specs.Survivors.{plane_edges_of}
use Rattle.osm_geom.specs.InPlane.Sided.{IsSided, signed_count_at}
use Rattle.coast_rings.specs.Corners.{south_east, south_west}
use Rattle.coast_rings.specs.Line.{first_location, last_location}
use Rattle.osm_segments.specs.Pairs.{conflicts_of}
use Rattle.coast_sides.specs.Land.{HaveNoConflicts, IsLand, parity_at}

abbrev pub north_west : Loc
north_west = record { x = neg_ℤ (pos 1800000000); y = pos 900000000; x_in = lit≤ tt; y_in = lit≤ tt }

abbrev pub north_east : Loc
north_east = record { x = pos 1800000000; y = pos 900000000; x_in = lit≤ tt; y_in = lit≤ tt }

abbrev pub is_south : Loc → Bool
is_south p = int_eq p.y (neg_ℤ (pos 900000000))

abbrev pub is_north : Loc → Bool
is_north p = int_eq p.y (pos 900000000)

abbrev pub is_west : Loc → Bool
is_west p = int_eq p.x (neg_ℤ (pos 1800000000))

abbrev pub is_east : Loc → Bool
is_east p = int_eq p.x (pos 1800000000)

-- The nodes at which a side of the world is cut, in order from its one corner to its other.
-- They are these corners and each node of land on the side, and no other location.
pub record IsSide (on : Loc → Bool) (from to : Loc) (land : List Seg) (nodes : List Loc) : Type 0 where
  pub some : 0 < length nodes
  pub rising : IsRising loc_cmp nodes
  pub begins : first_location nodes ≡ from
  pub ends : last_location nodes ≡ to
  pub within : All (λ p. on p ≡ true) nodes
  pub cut : (p : Loc) → on p ≡ true → Contains (ends_of land) p → Contains nodes p
  pub only : All (λ p. ((p ≡ from) ⊎ (p ≡ to)) ⊎ Contains (ends_of land) p) nodes

-- the segments between neighbouring nodes
abbrev pub pieces : List Loc → List Seg
pieces nodes = filter_map (λ step. segment_between step.0 step.1) (zip nodes (drop 1 nodes))

-- the four sides of the world's rectangle, each cut at every node of land on it
pub record AreSides (land sides : List Seg) : Type 0 where
  pub on_south : List Loc
  pub south : IsSide is_south south_west south_east land on_south
  pub on_east : List Loc
  pub east : IsSide is_east south_east north_east land on_east
  pub on_north : List Loc
  pub north : IsSide is_north north_west north_east land on_north
  pub on_west : List Loc
  pub west : IsSide is_west south_west north_west land on_west
  pub whole : sides ≡ pieces on_south ++ (pieces on_east ++ (pieces on_north ++ pieces on_west))

-- The edges are what is left of land's segments together with the sides, directed by the odd side.
-- Each runs along a whole segment, and they are sided. At every point their signed count is the parity of these segments
-- before cancelling.
pub record IsWater (land : List Seg) (edges : List Edge) : Type 0 where
  pub sides : List Seg
  pub are_sides : AreSides land sides
  pub survivors : List Seg
  pub left : AreSurvivors (land ++ sides) survivors
  pub directed : AreDirected survivors edges
  pub whole : All IsWholeSegment edges
  pub sided : IsSided edges
  pub parity : (q : ℤ) → sign q ≡ Plus → (p : Vector) → signed_count_at q p edges ≡ parity_at q p (land ++ sides)

-- p is strictly within the world's rectangle
pub record IsInsideWorld (p : Vector) : Type 0 where
  pub west : neg_ℤ (pos 1800000000) <ℤ p.x
  pub east : p.x <ℤ pos 1800000000
  pub south : neg_ℤ (pos 900000000) <ℤ p.y
  pub north : p.y <ℤ pos 900000000

-- what is left of land and sides covers a point strictly within the world exactly where land doesn't
abbrev pub WaterCoversTheRest : Type 0
WaterCoversTheRest =
    (land sides left : List Seg) → AreSides land sides → AreSurvivors (land ++ sides) left → (p : Vector) → IsInsideWorld p →
    crossing_count east p (plane_edges_of left) % 2 + crossing_count east p (plane_edges_of land) % 2 ≡ 1

-- and is even at each location where land is
abbrev pub WaterIsEven : Type 0
WaterIsEven = (land sides left : List Seg) → HasEvenNodes land → AreSides land sides → AreSurvivors (land ++ sides) left → HasEvenNodes left

-- of a segment of the world, and the nodes of a side: its ends on the side are among them, and none is strictly inside it
pub record Meets (on : Loc → Bool) (nodes : List Loc) (s : Seg) : Type 0 where
  pub first : on s.a ≡ true → Contains nodes s.a
  pub second : on s.b ≡ true → Contains nodes s.b
  pub none_inside : All (λ n. is_inside (vector_of n) (edge_of s) ≡ false) nodes

-- such a segment doesn't conflict with the pieces of the side
abbrev pub IsClearOfSide : (Loc → Bool) → Type 0
IsClearOfSide on = (nodes : List Loc) (s t : Seg) → IsRising loc_cmp nodes → All (λ n. on n ≡ true) nodes → Meets on nodes s → Contains (pieces nodes) t → conflict_of s t ≡ None

-- what is left of land without conflicts and the sides has none
abbrev pub WaterIsClear : Type 0
WaterIsClear = (land sides left : List Seg) → HaveNoConflicts land → AreSides land sides → AreSurvivors (land ++ sides) left → conflicts_of left ≡ []

-- the segments along which edges run, in order
abbrev pub segment_of_carrier : Carrier → Option Seg
segment_of_carrier (OfSeg s) = Some s
segment_of_carrier (Vertical c) = None
segment_of_carrier (Horizontal d) = None

abbrev pub segments_under : List Edge → List Seg
segments_under edges = filter_map (λ (e : Edge). segment_of_carrier e.carrier) edges

-- at a point land counts once and water doesn't, or the other way round
abbrev pub IsCoveredOnce : ℤ → ℤ → Type 0
IsCoveredOnce land water = ((land ≡ pos 1) × (water ≡ pos 0)) ⊎ ((land ≡ pos 0) × (water ≡ pos 1))

-- land and water together cover each point of whole coordinates strictly within the world once
abbrev pub LandAndWaterCover : Type 0
LandAndWaterCover =
    (segs : List Seg) (land water : List Edge) → IsLand segs land → IsWater (segments_under land) water → (p : Vector) → IsInsideWorld p →
    IsCoveredOnce (signed_count_at (pos 1) p land) (signed_count_at (pos 1) p water)
