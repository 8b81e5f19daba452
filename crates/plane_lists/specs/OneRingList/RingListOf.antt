-- The ring lists of a sided list, and when two lists of rings are the same.
use Rattle.std.specs.Prelude.{List, length, ℕ, ◌<◌, ◌≡◌}
use Rattle.std.specs.List.{sum_by}
use Rattle.plane_lists.specs.Rings.Nesting.{edges_of}
use Rattle.plane_lists.specs.Rings.Rotated.{AreRotated}
use Rattle.plane_lists.specs.Rings.Walk.{HasSameEdges, IsWalk}
use Rattle.plane.specs.Edge.{Edge}
use Rattle.lists.specs.Member.{In}
use Rattle.plane_lists.specs.Lists.Ring.{IsRing}

-- all edges of the ring lie in one walk of successors
abbrev pub LiesInWalk : List Edge → List Edge → Type 0
LiesInWalk es r = (w : List Edge) × IsWalk es w × ((x : Edge) → In x r → In x w)

-- rings, none of them empty, that hold each edge of the list once, each ring within one walk
pub record IsRingListOf (es : List Edge) (rs : List (List Edge)) : Type 0 where
  pub edges : HasSameEdges (edges_of rs) es
  pub walks : (r : List Edge) → In r rs → LiesInWalk es r
  pub ring : (r : List Edge) → In r rs → IsRing r
  pub some : (r : List Edge) → In r rs → 0 < length r

-- the same lists of edges, equally often: every sum over one is that over the other
abbrev pub HasSameRings : List (List Edge) → List (List Edge) → Type 0
HasSameRings rs qs = (f : List Edge → ℕ) → sum_by f rs ≡ sum_by f qs

-- the same rings, beginning at other edges and in another order
pub record AreSameRings (rs qs : List (List Edge)) : Type 0 where
  pub begun : List (List Edge)
  pub rotated : AreRotated rs begun
  pub moved : HasSameRings begun qs
