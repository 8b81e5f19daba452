-- Lists of rings as lists of segments, and which ring encloses which.
use Rattle.std.specs.Prelude.{Bool, List, [], false, not, true, ℕ, ◌&&◌, ◌++◌, ◌||◌, ◌∷◌, ◌≡◌, ◌⊎◌}
use Rattle.std.specs.List.{count_by}
use Rattle.plane_lists.specs.Rings.Cover.{covers_edge}
use Rattle.plane.specs.Edge.{Edge, same_edge}
use Rattle.plane.specs.Height.{is_in_span, is_right_above, order_above}
use Rattle.plane.specs.Sign.{is_plus}
use Rattle.plane_lists.specs.Lists.ConflictFree.{IsConflictFree}
use Rattle.plane_lists.specs.Lists.EdgeList.{IsEvenAtPoints}
use Rattle.lists.specs.Member.{In}
use Rattle.plane_lists.specs.Lists.OddSide.{runs_up_by_odd_side}
use Rattle.plane_lists.specs.Lists.Ring.{IsAnchor}

-- all edges of the rings
abbrev pub edges_of : List (List Edge) → List Edge
edges_of [] = []
edges_of (g ∷ gs) = g ++ edges_of gs

abbrev pub has_edge : List Edge → Edge → Bool
has_edge [] s = false
has_edge (x ∷ xs) s = same_edge x s || has_edge xs s

-- s is no edge of g, and g covers it
abbrev pub encloses : List Edge → Edge → Bool
encloses g s = not (has_edge g s) && covers_edge g s

-- how many rings enclose s
abbrev pub depth : List (List Edge) → Edge → ℕ
depth gs s = count_by (λ g. encloses g s) gs

-- no two edges conflict; each ring is even at points; and each ring covers all edges of any other one or none
pub record IsNest (gs : List (List Edge)) : Type 0 where
  pub plain : IsConflictFree (edges_of gs)
  pub even : (g : List Edge) → In g gs → IsEvenAtPoints g
  pub constant : (g h : List Edge) → In g gs → In h gs → (s t : Edge) → In s h → In t h → has_edge g s ≡ false → covers_edge g s ≡ covers_edge g t

-- the ring with the anchor s is outer: the odd side directs s down
abbrev pub is_outer : List (List Edge) → Edge → Bool
is_outer gs s = not (runs_up_by_odd_side (edges_of gs) s)

-- a test that tells the outer rings from the inner ones
abbrev pub TellsOuterRings : List (List Edge) → (List Edge → Bool) → Type 0
TellsOuterRings gs outer = (g : List Edge) → In g gs → (a : Edge) → IsAnchor a g → outer g ≡ is_outer gs a

pub record IsOuterRing (gs : List (List Edge)) (g : List Edge) : Type 0 where
  pub anchor : Edge
  pub anchors : IsAnchor anchor g
  pub down : is_outer gs anchor ≡ true

pub record IsInnerRing (gs : List (List Edge)) (h : List Edge) : Type 0 where
  pub anchor : Edge
  pub anchors : IsAnchor anchor h
  pub up : is_outer gs anchor ≡ false

-- g is outer and encloses h; among all outer rings that enclose h, g has the nearest edge right of the anchor of h
pub record EnclosesDirectly (gs : List (List Edge)) (g h : List Edge) : Type 0 where
  pub outer : IsOuterRing gs g
  pub anchor : Edge
  pub anchors : IsAnchor anchor h
  pub around : encloses g anchor ≡ true
  pub edge : Edge
  pub belongs : In edge g
  pub right : is_right_above anchor.from anchor edge ≡ true
  pub nearest :
      (k : List Edge) → In k gs → IsOuterRing gs k → encloses k anchor ≡ true →
      (f : Edge) → In f k → is_right_above anchor.from anchor f ≡ true →
      (f ≡ edge) ⊎ (is_plus (order_above anchor.from edge f) ≡ true)

-- e is an edge of the list at the height of the lower end of a, and a is the nearest edge right of it just above that height
pub record IsNextLeft (a e : Edge) (es : List Edge) : Type 0 where
  pub spans : is_in_span a.from e ≡ true
  pub right : is_right_above a.from e a ≡ true
  pub nearest :
      (f : Edge) → In f es → is_right_above a.from e f ≡ true →
      (f ≡ a) ⊎ (is_plus (order_above a.from a f) ≡ true)
