-- How a list of edges is split: the tree of its halves, and its leaves in order.
use Rattle.std.specs.Prelude.{All, Bool, List, [], cond, length, map, max, not, suc, false, true, ℕ, pos, ℤ, ◌%◌, ◌&&◌, ◌++◌, ◌*◌, ◌+ℤ◌, ◌-ℤ◌, ◌<◌, ◌∷◌, ◌≡◌}
use Rattle.std.specs.Int.{int_div_euclid}
use Rattle.plane.specs.Sign.{Null, is_minus, is_plus, sign}
use Rattle.plane.specs.RayCrossing.{IsOffEdge}
use Rattle.plane.specs.Scale.{scaled_point}
use Rattle.plane.specs.Vector.{Vector}
use Rattle.lists.specs.Member.{In}
use Rattle.plane_lists.specs.Lists.ScaledEdges.{scaled_edges}
use Rattle.plane_lists.specs.Halves.Line.{scaled_line, side}
use Rattle.osm_geom.specs.declared.cut.Axis.{Axis}
use Rattle.osm_geom.specs.declared.cut.Axis.TheVariants.{X, Y}
use Rattle.osm_geom.specs.declared.cut.Cut.{Cut}
use Rattle.osm_geom.specs.declared.cut.Side.TheVariants.{Low, High}
use Rattle.osm_geom.specs.declared.edge.Edge.{Edge}
use Rattle.osm_geom.specs.Coordinate.{ceiling_of, floor_of}
use Rattle.osm_geom.specs.Cut.{coordinate_of}
use Rattle.osm_geom.specs.InPlane.Multiple.{product_of_denominators, whole_edges}
use Rattle.osm_geom.specs.InPlane.Sided.{count_at}
use Rattle.coast_split.specs.declared.leaves.Leaf.{Leaf}
use Rattle.coast_split.specs.Half.{IsHalf, line_of}

-- ---- the envelope
abbrev pub lesser : ℤ → ℤ → ℤ
lesser a b = cond (is_minus (sign (a -ℤ b))) a b

abbrev pub greater : ℤ → ℤ → ℤ
greater a b = cond (is_minus (sign (a -ℤ b))) b a

abbrev pub low_from : Axis → ℤ → List Edge → ℤ
low_from axis a [] = a
low_from axis a (e ∷ es) = low_from axis (lesser (lesser a (floor_of (coordinate_of axis e.from))) (floor_of (coordinate_of axis e.to))) es

abbrev pub high_from : Axis → ℤ → List Edge → ℤ
high_from axis a [] = a
high_from axis a (e ∷ es) = high_from axis (greater (greater a (ceiling_of (coordinate_of axis e.from))) (ceiling_of (coordinate_of axis e.to))) es

-- Where the envelope of a list that isn't empty begins and ends on an axis: at the floor of the least coordinate and at the ceiling of the greatest.
abbrev pub low_of : Axis → List Edge → ℤ
low_of axis [] = pos 0
low_of axis (e ∷ es) = low_from axis (floor_of (coordinate_of axis e.from)) (e ∷ es)

abbrev pub high_of : Axis → List Edge → ℤ
high_of axis [] = pos 0
high_of axis (e ∷ es) = high_from axis (ceiling_of (coordinate_of axis e.from)) (e ∷ es)

abbrev pub width_of : Axis → List Edge → ℤ
width_of axis es = high_of axis es -ℤ low_of axis es

-- the axis of the longer side, or x if both are equal
abbrev pub longer_of : List Edge → Axis
longer_of es = cond (is_minus (sign (width_of X es -ℤ width_of Y es))) Y X

-- ---- the cut
abbrev pub middle_by : Axis → List Edge → Cut
middle_by axis es = record { axis = axis; at = int_div_euclid (low_of axis es +ℤ high_of axis es) (pos 2) }

-- where a list is cut, before the overlap: the middle of the longer side
abbrev pub middle_of : List Edge → Cut
middle_of es = middle_by (longer_of es) es

-- a list with more than m edges, if m isn't 0; a leaf with more is large
abbrev pub is_large : ℕ → List Edge → Bool
is_large m es = not (is_plus (sign (pos 1 -ℤ pos m))) && is_plus (sign (pos (length es) -ℤ pos m))

-- a side of at least 8 * o and at least 4 units can be cut with the overlap o
abbrev pub is_wide : ℕ → ℤ → Bool
is_wide o width = not (is_minus (sign (width -ℤ pos (8 * o)))) && not (is_minus (sign (width -ℤ pos 4)))

-- with m as the maximum of points and o as the overlap, a list of more than m edges is cut if its longer side is wide
abbrev pub is_split : ℕ → ℕ → List Edge → Bool
is_split m o es = is_large m es && is_wide o (width_of (longer_of es) es)

abbrev pub low_cut : Cut → ℕ → Cut
low_cut x o = record { axis = x.axis; at = x.at +ℤ pos o }

abbrev pub high_cut : Cut → ℕ → Cut
high_cut x o = record { axis = x.axis; at = x.at -ℤ pos o }

-- ---- the tree: a list that is cut has its low half and its high half
pub data Tree : Type 0 where
  Whole : Tree
  Fork : List Edge → List Edge → Tree → Tree → Tree

abbrev pub IsTree : ℕ → ℕ → List Edge → Tree → Type 0
IsTree m o es Whole = is_split m o es ≡ false
IsTree m o es (Fork low high s t) =
    (is_split m o es ≡ true) × IsHalf (low_cut (middle_of es) o) Low es low × IsHalf (high_cut (middle_of es) o) High es high
    × IsTree m o low s × IsTree m o high t

-- the leaves in order, low halves first
abbrev pub leaves_of : List Edge → Tree → List (List Edge)
leaves_of es Whole = es ∷ []
leaves_of es (Fork low high s t) = leaves_of low s ++ leaves_of high t

-- the longest chain of cuts, each in a half that the one before left
abbrev pub depth_of : Tree → ℕ
depth_of Whole = 0
depth_of (Fork low high s t) = suc (max (depth_of s) (depth_of t))

-- a leaf with more than m edges is large
abbrev pub leaf_of : ℕ → List Edge → Leaf
leaf_of m es = record { edges = es; large = is_large m es }

-- the leaves of the split tree, in order
pub record AreLeaves (m o : ℕ) (es : List Edge) (ls : List Leaf) : Type 0 where
  pub tree : Tree
  pub is_tree : IsTree m o es tree
  pub leaves : ls ≡ map (leaf_of m) (leaves_of es tree)

-- the split tree has more leaves than most
pub record HasMoreLeaves (m o most : ℕ) (es : List Edge) : Type 0 where
  pub tree : Tree
  pub is_tree : IsTree m o es tree
  pub more : most < length (leaves_of es tree)

-- ---- cover, at the point p.x / q, p.y / q
abbrev pub Covers : ℤ → Vector → List Edge → Type 0
Covers q p es = count_at q p es % 2 ≡ 1

abbrev pub IsOffList : ℤ → Vector → List Edge → Type 0
IsOffList q p es = All (IsOffEdge (scaled_point (pos (product_of_denominators es)) p)) (scaled_edges q (whole_edges es))

-- the point is on none of the lines of the cuts in the tree
abbrev pub IsOffCuts : ℕ → ℤ → Vector → List Edge → Tree → Type 0
IsOffCuts o q p es Whole = Unit {0}
IsOffCuts o q p es (Fork low high s t) =
    (side (scaled_line q (line_of (low_cut (middle_of es) o) Low)) p ≡ Null → ⊥) × (side (scaled_line q (line_of (high_cut (middle_of es) o) High)) p ≡ Null → ⊥)
    × IsOffCuts o q p low s × IsOffCuts o q p high t

-- the point is on no edge of the leaves
abbrev pub IsOffLeaves : ℤ → Vector → List (List Edge) → Type 0
IsOffLeaves q p leaves = All (IsOffList q p) leaves

pub record SomeCovers (q : ℤ) (p : Vector) (leaves : List (List Edge)) : Type 0 where
  pub leaf : List Edge
  pub member : In leaf leaves
  pub covers : Covers q p leaf

-- both sides of the envelope together
abbrev pub size_of : List Edge → ℤ
size_of es = width_of X es +ℤ width_of Y es
