-- Lines, their fronts and their last locations.
use Rattle.std.proofs.Common.{◌≡◌, ℕ, zero, suc, ◌-◌, ◌<◌, ◌≤◌, List, [], ◌∷◌, ◌++◌, length, take, get_or, Some, refl, ap, arith}
use Rattle.std.specs.List.{slice_get}
use Rattle.std.proofs.lemmas.List.{length-take-le}
use Rattle.std.proofs.Props.{props}
use Rattle.osm_lattice.specs.declared.loc.Loc.{Loc}
use Rattle.coast_rings.specs.Line.{IsLine, NeighboursDiffer, first_location, front_of, last_location, origin}

front_cons : (a b : Loc) (q : List Loc) → front_of (a ∷ (b ∷ q)) ≡ a ∷ front_of (b ∷ q)
front_cons a b q =
    let e : length (a ∷ (b ∷ q)) - 1 ≡ suc (length (b ∷ q) - 1) = omega arith in
    ap (λ n. take n (a ∷ (b ∷ q))) e

pub last_cons : (a b : Loc) (q : List Loc) → last_location (a ∷ (b ∷ q)) ≡ last_location (b ∷ q)
last_cons a b q =
    let e : length (a ∷ (b ∷ q)) - 1 ≡ suc (length (b ∷ q) - 1) = omega arith in
    ap (λ n. get_or (a ∷ (b ∷ q)) n origin) e

-- a line is its front and its last location
pub front_last : (p : List Loc) → 0 < length p → front_of p ++ last_location p ∷ [] ≡ p
front_last [] h = absurd (omega arith)
front_last (a ∷ []) h = refl
front_last (a ∷ (b ∷ q)) h = rw (front_cons a b q, last_cons a b q) (ap (λ xs. a ∷ xs) (front_last (b ∷ q) (omega arith)))

pub front_first : (p : List Loc) → 2 ≤ length p → (rest : List Loc) × (front_of p ≡ first_location p ∷ rest)
front_first [] h = absurd (omega arith)
front_first (a ∷ []) h = absurd (omega arith)
front_first (a ∷ (b ∷ q)) h = (front_of (b ∷ q), front_cons a b q)

pub front_length : (p : List Loc) → length (front_of p) ≡ length p - 1
front_length p = length-take-le (length p - 1) p (omega arith)

get_front : (xs ys : List Loc) (k : ℕ) (p : Loc) → slice_get xs k ≡ Some p → slice_get (xs ++ ys) k ≡ Some p
get_front [] ys k p e = absurd (cc)
get_front (x ∷ xs) ys zero p e = e
get_front (x ∷ xs) ys (suc k) p e = get_front xs ys k p e

-- what comes before differs still
pub front_differ : (xs ys : List Loc) → NeighboursDiffer (xs ++ ys) → NeighboursDiffer xs
front_differ xs ys h k p e n = h k p (get_front xs ys k p e) (get_front xs ys (suc k) p n)

-- a line that ends where it starts has a location between
pub closed_long : (p : List Loc) → IsLine p → last_location p ≡ first_location p → 3 ≤ length p
closed_long [] line e = let l = line.long in absurd (omega arith)
closed_long (a ∷ []) line e = let l = line.long in absurd (omega arith)
closed_long (a ∷ (b ∷ [])) line e = absurd (line.differ 0 a refl (ap Some e))
closed_long (a ∷ (b ∷ (c ∷ q))) line e = omega arith

pub line_prop : (path : List Loc) → IsProp (IsLine path)
line_prop path = hlevel props
