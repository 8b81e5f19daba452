-- The definitions on a square and a square in it, by computing.
use Rattle.std.proofs.Common.{List, [], nat_lt, refl, ℕ, ◌++◌, ◌∷◌, ◌≡◌}
use lib.IntN.{negsuc, pos}
use Rattle.plane.specs.Edge.{Edge}
use Rattle.plane.specs.Vector.{Vector, east}
use Rattle.plane_lists.specs.Lists.EdgeList.{crossing_count, winding_number}
use Rattle.plane_lists.specs.Lists.Node.{spokes, spokes_in}
use Rattle.plane_lists.specs.Lists.OddSide.{directed}
use Rattle.plane_lists.specs.Lists.Rank.{rank}
use Rattle.plane_lists.specs.Lists.ScaledEdges.{scaled_edges}

abbrev point : ℕ → ℕ → Vector
point x y = record { x = pos x; y = pos y }

abbrev edge : Vector → Vector → Edge
edge p q = record { from = p; to = q }

-- the sides of the square with the corners low, low and high, high: as segments, and run counterclockwise and clockwise
abbrev sides : ℕ → ℕ → List Edge
sides low high =
    edge (point low low) (point high low) ∷ edge (point high low) (point high high) ∷ edge (point low high) (point high high) ∷ edge (point low low) (point low high) ∷ []

abbrev counterclockwise : ℕ → ℕ → List Edge
counterclockwise low high =
    edge (point low low) (point high low) ∷ edge (point high low) (point high high) ∷ edge (point high high) (point low high) ∷ edge (point low high) (point low low) ∷ []

abbrev clockwise : ℕ → ℕ → List Edge
clockwise low high =
    edge (point high low) (point low low) ∷ edge (point high high) (point high low) ∷ edge (point low high) (point high high) ∷ edge (point low low) (point low high) ∷ []

-- ---- the odd side
one-square : directed (sides 0 6) ≡ counterclockwise 0 6
one-square = refl

square-in-square : directed (sides 0 6 ++ sides 2 4) ≡ counterclockwise 0 6 ++ clockwise 2 4
square-in-square = refl

three-squares : directed (sides 0 9 ++ (sides 1 8 ++ sides 2 4)) ≡ counterclockwise 0 9 ++ (clockwise 1 8 ++ counterclockwise 2 4)
three-squares = refl

-- two squares that touch at a corner
touching-squares : directed (sides 0 2 ++ sides 2 4) ≡ counterclockwise 0 2 ++ counterclockwise 2 4
touching-squares = refl

-- ---- counts: between the squares, in the inner one, outside, and at heights of corners
abbrev both : List Edge
both = counterclockwise 0 6 ++ clockwise 2 4

between-squares : winding_number east (point 1 3) both ≡ pos 1
between-squares = refl

in-inner-square : winding_number east (point 3 3) both ≡ pos 0
in-inner-square = refl

outside-squares : crossing_count east (point 7 3) both ≡ 0
outside-squares = refl

at-corner-height : crossing_count east (point 1 2) both ≡ 3
at-corner-height = refl

at-upper-corner-height : crossing_count east (point 1 4) both ≡ 1
at-upper-corner-height = refl

clockwise-square : winding_number east (point 3 3) (clockwise 2 4) ≡ negsuc 0
clockwise-square = refl

other-direction : winding_number (point 1 2) (point 1 3) both ≡ pos 1
other-direction = refl

-- ---- at half the size: the point 5 / 2, 1 / 2 against the squares
at-fraction : winding_number east (point 5 1) (scaled_edges (pos 2) both) ≡ pos 1
at-fraction = refl

-- ---- round a node
spokes-at-corner : spokes (point 2 2) (sides 0 2 ++ sides 2 4)
    ≡ edge (point 2 0) (point 2 2) ∷ edge (point 0 2) (point 2 2) ∷ edge (point 2 2) (point 4 2) ∷ edge (point 2 2) (point 2 4) ∷ []
spokes-at-corner = refl

spokes-in-quarter : spokes_in east (point 0 1) (point 2 2) (sides 0 2 ++ sides 2 4) ≡ 1
spokes-in-quarter = refl

-- ---- ranks
rank-of-five : rank nat_lt (3 ∷ 8 ∷ 5 ∷ 6 ∷ []) 5 ≡ 2
rank-of-five = refl
