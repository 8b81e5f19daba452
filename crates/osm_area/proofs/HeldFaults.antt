-- Problems that are held by places, as their list.
use Rattle.std.proofs.Common.{List, Option, Some, None, [], ap, arith, length, map, refl, sym, suc, zero, ℕ, ◌-◌, ◌<◌, ◌≤◌, ◌∙◌, ◌∷◌, ◌++◌, ◌≡◌}
use Rattle.std.specs.List.{slice_get}
use Rattle.osm_lattice.specs.declared.loc.Loc.{Loc}
use Rattle.osm_lattice.specs.declared.seg.Seg.{Seg}
use Rattle.osm_objects.specs.declared.problem.Problem.{Problem}
use Rattle.osm_segments.specs.declared.pairs.Pair.{Pair}
use Rattle.osm_segments.specs.declared.places.Places.{Places}
use Rattle.osm_segments.specs.Pairs.{conflicts_of}
use Rattle.osm_segments.specs.Places.{AreConflictPlaces, pair_at}
use Rattle.osm_area.specs.FaultsHeld.{AreFaultsHeld, problem_at, problem_of}
use Rattle.osm_area.specs.Problems.{AreFaults, conflict_problem, odd_problem}

-- an item of the first of two lists
pub at_first : {X : Type 0} (xs ys : List X) (i : ℕ) → i < length xs → slice_get (xs ++ ys) i ≡ slice_get xs i
at_first [] ys i h = absurd (omega arith)
at_first (x ∷ xs) ys zero h = refl
at_first (x ∷ xs) ys (suc i) h = at_first xs ys i (omega arith)

-- of the second
pub at_second : {X : Type 0} (xs ys : List X) (i j : ℕ) → length xs ≤ i → j ≡ i - length xs → slice_get (xs ++ ys) i ≡ slice_get ys j
at_second [] ys i j h e = ap (slice_get ys) (omega arith)
at_second (x ∷ xs) ys zero j h e = absurd (omega arith)
at_second (x ∷ xs) ys (suc i) j h e = at_second xs ys i j (omega arith) (omega arith)

-- the problems at the places of all conflicts
problems-at : (pairs : List Pair) → map problem_of (map Some pairs) ≡ map conflict_problem pairs
problems-at [] = refl
problems-at (p ∷ pairs) = ap (λ ps. conflict_problem p ∷ ps) (problems-at pairs)

problems-each : (segs : List Seg) (places : List Places) → map (problem_at segs) places ≡ map problem_of (map (pair_at segs) places)
problems-each segs [] = refl
problems-each segs (p ∷ places) = ap (λ ps. problem_at segs p ∷ ps) (problems-each segs places)

pub faults_are : (segs : List Seg) (conflicts : List Places) (odd_nodes : List Loc) → AreFaultsHeld segs conflicts odd_nodes → AreFaults segs (map (problem_at segs) conflicts ++ map odd_problem odd_nodes)
faults_are segs conflicts odd_nodes held = record {
  odd_nodes = odd_nodes;
  odd = held.odd;
  whole = ap (λ ps. ps ++ map odd_problem odd_nodes) (problems-each segs conflicts ∙ ap (map problem_of) held.conflicts_are ∙ problems-at (conflicts_of segs));
}
