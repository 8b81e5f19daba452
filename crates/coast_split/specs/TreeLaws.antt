-- The laws of split trees, as statements.
use Rattle.std.specs.Prelude.{List, true, ℕ, pos, ◌*ℤ◌, ◌+ℤ◌, ◌<◌, ◌≡◌, ◌≤ℤ◌}
use Rattle.osm_geom.specs.declared.cut.Axis.{Axis}
use Rattle.osm_geom.specs.declared.cut.Side.TheVariants.{Low, High}
use Rattle.osm_geom.specs.declared.edge.Edge.{Edge}
use Rattle.coast_split.specs.Half.{IsHalf}
use Rattle.coast_split.specs.SplitTree.{IsTree, Tree, depth_of, high_cut, is_split, longer_of, low_cut, middle_of, width_of}

-- a list has a split tree, whatever the maximum of points and the overlap
abbrev pub SplitTreesExist : Type 0
SplitTreesExist = (m o : ℕ) (es : List Edge) → (t : Tree) × IsTree m o es t

-- hs is no wider than es on any axis, and on the longer axis of es it has at most five eighths of the width and one unit
pub record IsNarrower (es hs : List Edge) : Type 0 where
  pub each : (axis : Axis) → width_of axis hs ≤ℤ width_of axis es
  pub longer : (pos 8 *ℤ width_of (longer_of es) hs) ≤ℤ (pos 5 *ℤ width_of (longer_of es) es +ℤ pos 8)

-- the halves of a list that is cut are narrower
abbrev pub SplitNarrows : Type 0
SplitNarrows =
    (m o : ℕ) (es : List Edge) → is_split m o es ≡ true → (hs : List Edge) →
    (IsHalf (low_cut (middle_of es) o) Low es hs → IsNarrower es hs) × (IsHalf (high_cut (middle_of es) o) High es hs → IsNarrower es hs)

-- so a branch has few cuts
abbrev pub SplitTreesAreShallow : Type 0
SplitTreesAreShallow = (m o : ℕ) (es : List Edge) (t : Tree) → IsTree m o es t → depth_of t < 120
