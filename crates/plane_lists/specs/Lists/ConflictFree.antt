-- Lists of segments without conflicts.
use Rattle.std.specs.Prelude.{All, List, not}
use Rattle.std.specs.List.{filter}
use Rattle.plane.specs.Conflict.{IsClearOf}
use Rattle.plane.specs.Edge.{Edge, IsRisingEdge, same_edge}
use Rattle.lists.specs.Member.{EachPair}

-- the edges of the list other than s
abbrev pub others : Edge → List Edge → List Edge
others s es = filter (λ (t : Edge). not (same_edge s t)) es

-- segments, each with its lower end first, no two of which conflict; so none occurs twice
pub record IsConflictFree (es : List Edge) : Type 0 where
  pub rising : All IsRisingEdge es
  pub clear : EachPair IsClearOf es
