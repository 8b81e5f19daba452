-- Edges of a list whose left sides meet.
use Rattle.std.specs.Prelude.{List, false, true, ◌≡◌}
use Rattle.plane_lists.specs.Rings.Nesting.{IsNextLeft}
use Rattle.plane_lists.specs.Rings.Walk.{IsSuccessor}
use Rattle.plane.specs.Edge.{Edge, is_rising, segment_of}
use Rattle.lists.specs.Member.{In}
use Rattle.plane_lists.specs.Lists.Ring.{segments_of}

-- e runs up, f runs down, and f is the nearest edge left of e just above the height where e begins
pub record IsAcross (es : List Edge) (e f : Edge) : Type 0 where
  pub here : In e es
  pub there : In f es
  pub up : is_rising e ≡ true
  pub down : is_rising f ≡ false
  pub next : IsNextLeft e (segment_of f) (segments_of es)

-- steps lead from e to f, each to the successor of an edge, or across to the nearest edge on its left, or one of these back
pub data Linked (es : List Edge) : Edge → Edge → Type 0 where
  Itself : (e : Edge) → Linked es e e
  Follows : (e f : Edge) → In e es → IsSuccessor es e f → Linked es e f
  Crosses : (e f : Edge) → IsAcross es e f → Linked es e f
  Back : (e f : Edge) → Linked es e f → Linked es f e
  Through : (e f g : Edge) → Linked es e f → Linked es f g → Linked es e g
