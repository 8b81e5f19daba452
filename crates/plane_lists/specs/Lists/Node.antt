-- The edges at a point, and the edges that don't end there.
use Rattle.std.specs.Prelude.{List, not, ℕ, ◌+◌}
use Rattle.std.specs.List.{filter, sum_by}
use Rattle.plane.specs.Edge.{Edge, ends_at, other_end}
use Rattle.plane.specs.RayCrossing.{is_off}
use Rattle.plane.specs.Sector.{in_sector}
use Rattle.plane.specs.Vector.{Vector, from_to}

-- the edges that don't end at v
abbrev pub away : Vector → List Edge → List Edge
away v es = filter (λ (e : Edge). not (ends_at v e)) es

-- the edges that end at v
abbrev pub spokes : Vector → List Edge → List Edge
spokes v es = filter (ends_at v) es

-- how many of the edges at v leave it in the sector from d counterclockwise to c: without d, with c
abbrev pub spokes_in : Vector → Vector → Vector → List Edge → ℕ
spokes_in d c v es = sum_by (λ (e : Edge). in_sector d c (from_to v (other_end v e))) (spokes v es)

-- the edges that p is not on
abbrev pub edges_off : Vector → List Edge → List Edge
edges_off p es = filter (is_off p) es

-- the edges that p is on
abbrev pub edges_through : Vector → List Edge → List Edge
edges_through p es = filter (λ (e : Edge). not (is_off p e)) es

-- how many ends of the edges that p is on are in the sector from d to c, seen from p
abbrev pub ends_in : Vector → Vector → Vector → List Edge → ℕ
ends_in d c p es =
    sum_by (λ (e : Edge). in_sector d c (from_to p e.from) + in_sector d c (from_to p e.to)) (edges_through p es)
