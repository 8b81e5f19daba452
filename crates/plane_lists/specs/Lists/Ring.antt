-- Rings: closed lists of edges that leave no point twice.
use Rattle.std.specs.Prelude.{List, [], false, map, ◌∷◌, ◌≡◌}
use Rattle.plane.specs.Edge.{Edge, segment_of}
use Rattle.plane.specs.Order.{order}
use Rattle.plane.specs.Sign.{Minus}
use Rattle.plane.specs.Vector.{Vector, orient, same_point}
use Rattle.plane_lists.specs.Lists.ConflictFree.{others}
use Rattle.lists.specs.Member.{EachPair, In}

-- each edge begins where the one before it ends
abbrev pub IsPath : Vector → List Edge → Vector → Type 0
IsPath a [] b = a ≡ b
IsPath a (e ∷ es) b = (e.from ≡ a) × IsPath e.to es b

pub record IsRing (es : List Edge) : Type 0 where
  pub start : Vector
  pub path : IsPath start es start
  pub once : EachPair (λ (e f : Edge). same_point e.from f.from ≡ false) es

-- the edges, each with its lower end first
abbrev pub segments_of : List Edge → List Edge
segments_of es = map segment_of es

-- s is at the least point of the list of segments and is the leftmost of those that rise from there, by dx / dy
pub record IsAnchor (s : Edge) (es : List Edge) : Type 0 where
  pub member : In s es
  pub least : (t : Edge) → In t es → order s.from t.from ≡ Minus → ⊥
  pub leftmost : (t : Edge) → In t (others s es) → s.from ≡ t.from → orient s.from s.to t.to ≡ Minus
