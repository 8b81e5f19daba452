-- Shortcuts: where two steps of one ring conflict, the fewer of the locations between them are cut out.
use Rattle.std.specs.Prelude.{◌&&◌, ◌||◌, ◌-◌, ◌++◌, ◌∷◌, ℕ, suc, [], Bool, false, not, if◌then◌else◌, List, filter, map, length, drop, take, nat_le, nat_lt, is_some, Option, Some, None, option_map}
use Rattle.std.specs.List.{enumerate_from, filter_map, list_any}
use Rattle.osm_lattice.specs.declared.loc.Loc.{Loc}
use Rattle.osm_lattice.specs.declared.seg.Seg.{Seg}
use Rattle.osm_lattice.specs.Conflict.{conflict_of}
use Rattle.osm_lattice.specs.Seg.{segment_between}
use Rattle.coast_rings.specs.Round.{once_round}
use Rattle.coast_sides.specs.Segments.{steps_round}

-- ---- what is cut out of a closed line

-- two steps conflict: their segments do
abbrev pub do_conflict : Option Seg → Option Seg → Bool
do_conflict (Some s) (Some t) = is_some (conflict_of s t)
do_conflict (Some s) None = false
do_conflict None t = false

abbrev pub steps_conflict : Loc × Loc → Loc × Loc → Bool
steps_conflict a b = do_conflict (segment_between a.0 a.1) (segment_between b.0 b.1)

-- Of n locations round, those between the i-th step and the j-th, i < j, are the (i+1)-th to the j-th; the others lie between them
-- the other way round. The k-th is among the fewer of the two; among the first, where both are as many.
abbrev pub is_among_fewer : ℕ → ℕ → ℕ → ℕ → Bool
is_among_fewer n i j k = if nat_le (j - i) (n - (j - i)) then nat_lt i k && nat_le k j else nat_le k i || nat_lt j k

-- a step conflicts with a later one, and the k-th of n locations is among the fewer between them
abbrev pub cuts_out : ℕ → ℕ → ℕ × (Loc × Loc) → ℕ × (Loc × Loc) → Bool
cuts_out n k a b = nat_lt a.0 b.0 && (steps_conflict a.1 b.1 && is_among_fewer n a.0 b.0 k)

-- some two steps of a closed line cut its k-th location out
abbrev pub is_cut_out : List Loc → ℕ → Bool
is_cut_out path k =
    list_any (λ a. list_any (cuts_out (length path) k a) (enumerate_from 0 (steps_round path))) (enumerate_from 0 (steps_round path))

-- its locations, each with whether it is cut out
abbrev pub marked : List Loc → List (Loc × Bool)
marked path = map (λ p. (p.1, is_cut_out path p.0)) (enumerate_from 0 path)

-- those that remain, in order
abbrev pub remaining : List (Loc × Bool) → List Loc
remaining marks = map (λ m. m.0) (filter (λ m. not m.1) marks)

-- the line of those, equal neighbours taken once
abbrev pub shortened : List Loc → List Loc
shortened path = once_round (remaining (marked path))

-- ---- what is told of it

-- the first that remains
abbrev pub first_left : List (Loc × Bool) → Option Loc
first_left [] = None
first_left (m ∷ marks) = if m.1 then first_left marks else Some m.0

-- from a location that remains, where the next is cut out: to the first that remains behind that, if one does
abbrev pub run_from : Loc → List (Loc × Bool) → Option (Loc × Loc)
run_from p [] = None
run_from p (m ∷ marks) = if m.1 then option_map (λ q. (p, q)) (first_left marks) else None

-- that of the k-th location; behind it stand the later ones, and then the first ones up to itself
abbrev pub run_at : List (Loc × Bool) → ℕ × (Loc × Bool) → Option (Loc × Loc)
run_at marks m = if m.1.1 then None else run_from m.1.0 (drop (suc m.0) marks ++ take (suc m.0) marks)

-- each run of locations that are cut out, by the location before it and the one behind it, in order of the one before; none if all are cut out
abbrev pub runs : List (Loc × Bool) → List (Loc × Loc)
runs marks = filter_map (run_at marks) (enumerate_from 0 marks)
