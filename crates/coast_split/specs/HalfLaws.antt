-- The laws of halves of exact edges, as statements.
use Rattle.std.specs.Prelude.{List, true, ℕ, ℤ, ◌%◌, ◌<ℤ◌, ◌↔◌, ◌≡◌}
use Rattle.std.specs.List.{sum_by}
use Rattle.lists.specs.Member.{In}
use Rattle.plane.specs.Sign.{Plus, sign}
use Rattle.plane.specs.Vector.{Vector}
use Rattle.osm_geom.specs.declared.cut.Cut.{Cut}
use Rattle.osm_geom.specs.declared.cut.Side.{Side}
use Rattle.osm_geom.specs.declared.cut.Side.TheVariants.{Low, High}
use Rattle.osm_geom.specs.declared.edge.Edge.{Edge}
use Rattle.osm_geom.specs.InPlane.Sided.{IsSided, count_at}
use Rattle.coast_split.specs.Half.{IsHalf}
use Rattle.coast_split.specs.HalfCount.{CountsAsKept, CountsNothingBeyond}
use Rattle.coast_split.specs.SplitTree.{Covers, IsOffCuts, IsOffLeaves, IsOffList, IsTree, SomeCovers, Tree, high_cut, is_split, leaves_of, low_cut, middle_of, size_of}

-- the half of a sided list is sided
abbrev pub HalfIsSided : Type 0
HalfIsSided = (cut : Cut) (s : Side) (es hs : List Edge) → IsHalf cut s es hs → IsSided es → IsSided hs

-- strictly on the kept side it has the list's signed count
abbrev pub HalfKeepsCount : Type 0
HalfKeepsCount = (cut : Cut) (s : Side) (es hs : List Edge) → IsHalf cut s es hs → IsSided es → CountsAsKept cut s es hs

-- strictly on the other side it has 0
abbrev pub HalfIsEmptyBeyond : Type 0
HalfIsEmptyBeyond = (cut : Cut) (s : Side) (es hs : List Edge) → IsHalf cut s es hs → IsSided es → CountsNothingBeyond cut s hs

-- each list, sided or not, has a half on each side of each line
abbrev pub HalvesExist : Type 0
HalvesExist = (cut : Cut) (s : Side) (es : List Edge) → (hs : List Edge) × IsHalf cut s es hs

-- some leaf covers a point off the edges of the leaves exactly if the list covers it
abbrev pub LeafCover : Type 0
LeafCover =
    (m o : ℕ) (es : List Edge) (t : Tree) → IsTree m o es t → IsSided es → (q : ℤ) → sign q ≡ Plus → (p : Vector) → IsOffLeaves q p (leaves_of es t) →
    Covers q p es ↔ SomeCovers q p (leaves_of es t)

-- no edge of the list is left out: each of its points is on an edge of a leaf
abbrev pub LeavesKeepEdges : Type 0
LeavesKeepEdges =
    (m o : ℕ) (es : List Edge) (t : Tree) → IsTree m o es t → IsSided es → (q : ℤ) → sign q ≡ Plus → (p : Vector) → IsOffLeaves q p (leaves_of es t) → IsOffList q p es

-- edges are added only along the lines of the cuts
abbrev pub LeavesAddAlongCuts : Type 0
LeavesAddAlongCuts =
    (m o : ℕ) (es : List Edge) (t : Tree) → IsTree m o es t → IsSided es → (q : ℤ) → sign q ≡ Plus → (p : Vector) → IsOffList q p es → IsOffCuts o q p es t →
    IsOffLeaves q p (leaves_of es t)

-- the leaves of a sided list are sided
abbrev pub LeavesAreSided : Type 0
LeavesAreSided = (m o : ℕ) (es : List Edge) (t : Tree) → IsTree m o es t → IsSided es → (leaf : List Edge) → In leaf (leaves_of es t) → IsSided leaf

-- a list has at most one half on a side of a line
abbrev pub HalfIsOne : Type 0
HalfIsOne = (cut : Cut) (s : Side) (es hs gs : List Edge) → IsHalf cut s es hs → IsHalf cut s es gs → hs ≡ gs

-- a list has at most one split tree
abbrev pub TreeIsOne : Type 0
TreeIsOne = (m o : ℕ) (es : List Edge) (t u : Tree) → IsTree m o es t → IsTree m o es u → t ≡ u

-- the halves of a list that is cut have a smaller envelope, so a split tree ends
abbrev pub SplitShrinks : Type 0
SplitShrinks =
    (m o : ℕ) (es : List Edge) → is_split m o es ≡ true → (hs : List Edge) →
    (IsHalf (low_cut (middle_of es) o) Low es hs → size_of hs <ℤ size_of es) × (IsHalf (high_cut (middle_of es) o) High es hs → size_of hs <ℤ size_of es)

-- With overlap 0 the leaves part the list: at each point off their edges, their parities add up to that of the list.
-- So one leaf covers the point if the list does, and otherwise none does.
abbrev pub LeavesPart : Type 0
LeavesPart =
    (m : ℕ) (es : List Edge) (t : Tree) → IsTree m 0 es t → IsSided es → (q : ℤ) → sign q ≡ Plus → (p : Vector) → IsOffLeaves q p (leaves_of es t) →
    sum_by (λ (leaf : List Edge). count_at q p leaf % 2) (leaves_of es t) ≡ count_at q p es % 2
