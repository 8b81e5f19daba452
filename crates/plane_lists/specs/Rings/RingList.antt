-- Ring lists: a sided list split into rings that don't cross.
use Rattle.std.specs.Prelude.{List, length, map, ◌≤◌}
use lib.IntN.{ℤ}
use Rattle.plane_lists.specs.Rings.Cover.{DoNotCross}
use Rattle.plane_lists.specs.Rings.Nesting.{edges_of}
use Rattle.plane.specs.Edge.{Edge}
use Rattle.lists.specs.Member.{EachPair, In}
use Rattle.plane_lists.specs.Lists.Ring.{IsRing, segments_of}
use Rattle.plane_lists.specs.Lists.ScaledEdges.{scaled_edges}
use Rattle.plane_lists.specs.Lists.Sided.{IsSided}

-- two rings that don't cross
abbrev pub AreUncrossed : List Edge → List Edge → Type 0
AreUncrossed r s = DoNotCross (segments_of r) (segments_of s) × DoNotCross (segments_of s) (segments_of r)

-- rings of at least three edges each that together make a sided list, no two of which cross
pub record IsRingList (rs : List (List Edge)) : Type 0 where
  pub ring : (r : List Edge) → In r rs → IsRing r
  pub long : (r : List Edge) → In r rs → 3 ≤ length r
  pub sided : IsSided (edges_of rs)
  pub free : EachPair AreUncrossed rs

abbrev pub scaled_rings : ℤ → List (List Edge) → List (List Edge)
scaled_rings k rs = map (scaled_edges k) rs
