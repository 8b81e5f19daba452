-- Outer rings by a test, and direct enclosure by one.
use Rattle.std.proofs.Common.{Bool, List, true, ◌&&◌, ◌≡◌, ◌⊎◌}
use Rattle.std.specs.List.{filter}
use Rattle.plane_lists.specs.Rings.Nesting.{edges_of, encloses}
use Rattle.plane.specs.Edge.{Edge}
use Rattle.plane.specs.Height.{is_right_above, order_above}
use Rattle.plane.specs.Sign.{is_plus}
use Rattle.lists.specs.Member.{In}
use Rattle.plane_lists.specs.Lists.Ring.{IsAnchor}

-- an anchor of each ring
abbrev pub HasAnchors : List (List Edge) → Type 0
HasAnchors gs = (g : List Edge) → In g gs → (a : Edge) × IsAnchor a g

-- m is the nearest of the edges of a list that are right of e just above its lower end
pub record IsNearest (e m : Edge) (es : List Edge) : Type 0 where
  pub member : In m es
  pub right : is_right_above e.from e m ≡ true
  pub first : (f : Edge) → In f es → is_right_above e.from e f ≡ true → (f ≡ m) ⊎ (is_plus (order_above e.from m f) ≡ true)

-- g encloses the ring whose anchor is e, and has the nearest edge among the rings chosen by the test that do
pub record IsDirectBy (gs : List (List Edge)) (outer : List Edge → Bool) (g : List Edge) (e : Edge) : Type 0 where
  pub member : In g gs
  pub is : outer g ≡ true
  pub around : encloses g e ≡ true
  pub edge : Edge
  pub here : In edge g
  pub nearest : IsNearest e edge (edges_of (filter (λ (h : List Edge). outer h && encloses h e) gs))
