-- Lists of directed edges: ends at points, crossings of a ray, winding numbers.
use Rattle.std.specs.Prelude.{List, ℕ, ◌+◌, ◌≡◌}
use Rattle.std.specs.List.{sum_by}
use lib.IntN.{pos, ℤ, ◌-ℤ◌}
use Rattle.plane.specs.Edge.{Edge}
use Rattle.plane.specs.RayCrossing.{down_crossing, up_crossing}
use Rattle.plane.specs.Sector.{in_sector}
use Rattle.plane.specs.Vector.{Vector, from_to, one_at}
use Rattle.plane_lists.specs.Lists.Parity.{IsEven}

-- each point is the start of as many edges as it is the end of
abbrev pub IsBalanced : List Edge → Type 0
IsBalanced es =
    (v : Vector) → sum_by (λ (e : Edge). one_at v e.from) es ≡ sum_by (λ (e : Edge). one_at v e.to) es

-- each point is an end of an even number of edges
abbrev pub IsEvenAtPoints : List Edge → Type 0
IsEvenAtPoints es = (v : Vector) → IsEven (sum_by (λ (e : Edge). one_at v e.from + one_at v e.to) es)

-- how many edges cross the ray from p in the direction d counterclockwise
abbrev pub up_count : Vector → Vector → List Edge → ℕ
up_count d p es = sum_by (λ (e : Edge). up_crossing d (from_to p e.from) (from_to p e.to)) es

-- how many cross it clockwise
abbrev pub down_count : Vector → Vector → List Edge → ℕ
down_count d p es = sum_by (λ (e : Edge). down_crossing d (from_to p e.from) (from_to p e.to)) es

-- how many cross it
abbrev pub crossing_count : Vector → Vector → List Edge → ℕ
crossing_count d p es =
    sum_by (λ (e : Edge). up_crossing d (from_to p e.from) (from_to p e.to) + down_crossing d (from_to p e.from) (from_to p e.to)) es

-- how often the edges go round p counterclockwise, by the ray in the direction d: the signed count
abbrev pub winding_number : Vector → Vector → List Edge → ℤ
winding_number d p es = pos (up_count d p es) -ℤ pos (down_count d p es)

-- how many edges begin in the sector from d to e, seen from p
abbrev pub starts_in : Vector → Vector → Vector → List Edge → ℕ
starts_in d e p es = sum_by (λ (t : Edge). in_sector d e (from_to p t.from)) es

-- how many end in it
abbrev pub stops_in : Vector → Vector → Vector → List Edge → ℕ
stops_in d e p es = sum_by (λ (t : Edge). in_sector d e (from_to p t.to)) es
