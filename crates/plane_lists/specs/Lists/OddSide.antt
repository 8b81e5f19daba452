-- The directions that the odd side gives to segments (the right-hand rule of RFC 7946): the odd side is on the left.
use Rattle.std.specs.Prelude.{Bool, List, cond, map, not, ℕ}
use Rattle.std.specs.List.{count_by}
use Rattle.plane.specs.Edge.{Edge, is_horizontal, reversed}
use Rattle.plane.specs.Height.{is_left_of, starts_left_of}
use Rattle.plane_lists.specs.Lists.ConflictFree.{others}
use Rattle.plane_lists.specs.Lists.Parity.{is_even}

-- how many other edges are right of s just above its lower end; for a horizontal s, how many are right of its left end
abbrev pub odd_side_count : Edge → List Edge → ℕ
odd_side_count s es = cond (is_horizontal s) (count_by (is_left_of s.from) es) (count_by (starts_left_of s) (others s es))

-- whether s runs from its lower end to its upper, or from its left end to its right
abbrev pub runs_up_by_odd_side : List Edge → Edge → Bool
runs_up_by_odd_side es s = cond (is_horizontal s) (not (is_even (odd_side_count s es))) (is_even (odd_side_count s es))

abbrev pub directed_edge : List Edge → Edge → Edge
directed_edge es s = cond (runs_up_by_odd_side es s) s (reversed s)

abbrev pub directed : List Edge → List Edge
directed es = map (directed_edge es) es
