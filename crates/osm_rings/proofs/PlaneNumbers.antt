-- Successors and numbers of points, for edges of the plane named by their places.
use Rattle.std.proofs.Common.{List, Option, Some, get_or, length, ℕ, ◌<◌, ◌≡◌}
use Rattle.plane.specs.Edge.{Edge}
use Rattle.plane_lists.specs.Rings.Walk.{IsSuccessor}
use Rattle.orbits.specs.Orbits.{IsOneToOne, after}
use Rattle.osm_rings.specs.Numbered.{edge_at}

-- each place is led to the place of the successor
pub record AreSuccessors (es : List Edge) (next : List (Option ℕ)) : Type 0 where
  pub sized : length next ≡ length es
  pub map : IsOneToOne next
  pub total : (i : ℕ) → i < length es → (j : ℕ) × (after next i ≡ Some j)
  pub right : (i j : ℕ) → after next i ≡ Some j → IsSuccessor es (edge_at es i) (edge_at es j)

-- numbers tell the points that the edges at these places leave
abbrev pub TellPoints : List Edge → List ℕ → Type 0
TellPoints es numbers = (i j : ℕ) → i < length es → j < length es → ((get_or numbers i 0 ≡ get_or numbers j 0) → (edge_at es i).from ≡ (edge_at es j).from) × (((edge_at es i).from ≡ (edge_at es j).from) → get_or numbers i 0 ≡ get_or numbers j 0)
