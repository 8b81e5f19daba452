-- The path of a closed chain doesn't end where it starts.
use Rattle.std.proofs.Common.{◌≡◌, ◌≢◌, ℕ, zero, suc, ◌+◌, ◌-◌, ◌<◌, true, List, [], ◌∷◌, ◌++◌, length, map, get_or, All, Contains, Option, Some, None, is_some, pos, refl, sym, ap, subst, ◌∙◌, arith, ⊎_elim}
use Rattle.std.specs.List.{AllZip, flat_map, slice_get}
use Rattle.std.proofs.lemmas.Bool.{cases_lt, false≢true}
use Rattle.std.proofs.lemmas.List.{append-nil, get_or-map, get_or-take, length-map}
use Rattle.std.proofs.lemmas.List.Elements.{All-cons, All-contains}
use Rattle.std.proofs.lemmas.List.Sorted.{All-permutation}
use Rattle.std.proofs.lemmas.Option.{same_Some, slice_get-get_or, slice_get_within}
use Rattle.osm_lattice.specs.declared.loc.Loc.{Loc}
use Rattle.orbits.specs.Orbits.{after, IsOrbit, last_number}
use Rattle.coast_join.specs.declared.way.CoastWay.{CoastWay}
use Rattle.coast_join.specs.Chains.{IsChain, WayPath, joined_path, line_at, way_path_of}
use Rattle.coast_join.specs.ChainSteps.{path_at}
use Rattle.coast_rings.specs.Line.{IsLine, first_location, front_of, last_location, origin}
use Rattle.coast_join.specs.Links.{AreNextWays}
use Rattle.coast_join.specs.RingLaws.{ClosedEndsDiffer}
use Rattle.coast_rings.proofs.RingsKit.{front_first, front_length}
use Rattle.coast_join.proofs.Parts.{first_joint, last_joint}

-- ---- the fronts of lines one after the other

front_some : (p : List Loc) → IsLine p → 0 < length (front_of p)
front_some p line = let long = line.long in let n = front_length p in omega arith

front_starts : (p : List Loc) → IsLine p → first_location (front_of p) ≡ first_location p
front_starts p line = let f = front_first p line.long in ap first_location f.1

-- the last location differs from the one before it
front_apart : (p : List Loc) → IsLine p → last_location (front_of p) ≢ last_location p
front_apart p line same =
    let long = line.long in
    let n = front_length p in
    let at : last_location (front_of p) ≡ get_or p (length p - 2) origin = ap (λ m. get_or (front_of p) m origin) (omega arith) ∙ get_or-take (length p - 1) p (length p - 2) origin (omega arith) in
    let before : slice_get p (length p - 2) ≡ Some (last_location (front_of p)) = slice_get-get_or p (length p - 2) origin (omega arith) ∙ ap Some (sym at) in
    let e : suc (length p - 2) ≡ length p - 1 = omega arith in
    let end : slice_get p (suc (length p - 2)) ≡ Some (last_location p) = ap (slice_get p) e ∙ slice_get-get_or p (length p - 1) origin (omega arith) in
    line.differ (length p - 2) (last_location (front_of p)) before (end ∙ ap Some (sym same))

fronts_some : (p : List Loc) (r : List (List Loc)) → IsLine p → 0 < length (flat_map front_of (p ∷ r))
fronts_some p r line = some (front_of p) (flat_map front_of r) (front_some p line)
  where
    some : (xs ys : List Loc) → 0 < length xs → 0 < length (xs ++ ys)
    some [] ys h = absurd (omega arith)
    some (x ∷ xs) ys h = omega arith

fronts_start : (p : List Loc) (r : List (List Loc)) → IsLine p → first_location (flat_map front_of (p ∷ r)) ≡ first_location p
fronts_start p r line = first_joint (front_of p) (flat_map front_of r) (front_some p line) ∙ front_starts p line

fronts_end : (p : List Loc) (r : List (List Loc)) → All IsLine (p ∷ r) → last_location (flat_map front_of (p ∷ r)) ≡ last_location (front_of (path_at (p ∷ r) (length (p ∷ r) - 1)))
fronts_end p [] lines = ap last_location (append-nil (front_of p))
fronts_end p (q ∷ r) lines =
    let e : length (p ∷ (q ∷ r)) - 1 ≡ suc (length (q ∷ r) - 1) = omega arith in
    last_joint (front_of p) (flat_map front_of (q ∷ r)) (fronts_some q r (lines 1 [] (omega arith)))
    ∙ (fronts_end q r (λ k d h. lines (suc k) d (omega arith)) ∙ ap (λ n. last_location (front_of (path_at (p ∷ (q ∷ r)) n))) (sym e))

round_apart : (paths : List (List Loc)) → 0 < length paths → All IsLine paths → last_location (path_at paths (length paths - 1)) ≡ first_location (path_at paths 0) → last_location (joined_path true paths) ≢ first_location (joined_path true paths)
round_apart [] h lines closes same = absurd (omega arith)
round_apart (p ∷ r) h lines closes same =
    let none = append-nil (flat_map front_of (p ∷ r)) in
    let end = path_at (p ∷ r) (length (p ∷ r) - 1) in
    front_apart end (lines (length (p ∷ r) - 1) [] (omega arith))
    (sym (fronts_end p r lines) ∙ (ap last_location (sym none) ∙ (same ∙ (ap first_location none ∙ (fronts_start p r (lines 0 [] (omega arith)) ∙ sym closes)))))

-- ---- the lines of a chain

zip_in : {A B : Type 0} (R : A → B → Type 0) (xs : List A) (ys : List B) (y : B) → AllZip R xs ys → Contains ys y → (x : A) × Contains xs x × R x y
zip_in R [] [] y z (k, h, e) = absurd (omega arith)
zip_in R [] (b ∷ ys) y z c = absurd z
zip_in R (x ∷ xs) [] y z c = absurd z
zip_in {A} R (x ∷ xs) (b ∷ ys) y z (zero, h, e) = (x, (zero, omega arith, refl), subst (R x) e z.0)
zip_in R (x ∷ xs) (b ∷ ys) y z (suc k, h, e) = let r = zip_in R xs ys y z.1 (k, (omega arith), e) in (r.0, (suc r.1.0, (let l = r.1.1 in omega arith), r.1.2), r.2)

at_place : (f : WayPath → Loc) (ls : List WayPath) (k : ℕ) (p : Loc) → slice_get (map f ls) k ≡ Some p → f (line_at ls k) ≡ p
at_place f [] k p e = absurd (cc)
at_place f (l ∷ ls) zero p e = same_Some (f l) p e
at_place f (l ∷ ls) (suc k) p e = at_place f ls k p e

ways_are_lines : (ways : List CoastWay) → All (λ (l : WayPath). IsLine l.path) (map way_path_of ways)
ways_are_lines [] = λ k d h. absurd (omega arith)
ways_are_lines (w ∷ ways) = All-cons (λ (l : WayPath). IsLine l.path) (way_path_of w) (map way_path_of ways) w.line (ways_are_lines ways)

module _ (lines : List WayPath) (next : List (Option ℕ)) (are_lines : All (λ (l : WayPath). IsLine l.path) lines) (links : AreNextWays (map (λ (l : WayPath). last_location l.path) lines) (map (λ (l : WayPath). first_location l.path) lines) next) (o : List ℕ) (orbit : IsOrbit next o) where
  paths : List (List Loc)
  paths = map (λ i. (line_at lines i).path) o

  meets : (i j : ℕ) → after next i ≡ Some j → last_location (line_at lines i).path ≡ first_location (line_at lines j).path
  meets i j e =
      let g = (links.exact i j).0 e in
      at_place (λ (l : WayPath). last_location l.path) lines i g.place g.ends_there ∙ sym (at_place (λ (l : WayPath). first_location l.path) lines j g.place g.starts_there)

  goes_line : (i j : ℕ) → after next i ≡ Some j → IsLine (line_at lines i).path
  goes_line i j e =
      let g = (links.exact i j).0 e in
      let within = slice_get_within (map (λ (l : WayPath). last_location l.path) lines) i g.place g.ends_there in
      let sized = length-map lines (λ (l : WayPath). last_location l.path) in
      are_lines i (record { id = pos 0; path = [] }) (omega arith)

  goes_on : is_some (after next (last_number o)) ≡ true → (k : ℕ) → k < length o → (j : ℕ) × (after next (get_or o k 0) ≡ Some j)
  goes_on closed k h = ⊎_elim
      (λ l. (get_or o (k + 1) 0, orbit.steps k l))
      (λ l. by (after next (last_number o)) refl closed (omega arith))
      (cases_lt (k + 1) (length o))
    where
      by : (r : Option ℕ) → after next (last_number o) ≡ r → is_some r ≡ true → k ≡ length o - 1 → (j : ℕ) × (after next (get_or o k 0) ≡ Some j)
      by None e t m = absurd (false≢true t)
      by (Some j) e t m = (j, ap (λ n. after next (get_or o n 0)) m ∙ e)

  path_of : (k : ℕ) (d : List Loc) → k < length o → get_or (map (λ i. (line_at lines i).path) o) k d ≡ (line_at lines (get_or o k 0)).path
  path_of k d h = get_or-map (λ i. (line_at lines i).path) o k 0 d h

  pub closed_apart : is_some (after next (last_number o)) ≡ true → last_location (joined_path true (map (λ i. (line_at lines i).path) o)) ≢ first_location (joined_path true (map (λ i. (line_at lines i).path) o))
  closed_apart closed =
      let sized = length-map o (λ i. (line_at lines i).path) in
      let some = orbit.some in
      let end = goes_on closed (length o - 1) (omega arith) in
      let to_first : end.0 ≡ get_or o 0 0 = orbit.closes end.0 end.1 in
      let ends : path_at (map (λ i. (line_at lines i).path) o) (length (map (λ i. (line_at lines i).path) o) - 1) ≡ (line_at lines (get_or o (length o - 1) 0)).path =
      ap (λ n. path_at (map (λ i. (line_at lines i).path) o) (n - 1)) sized ∙ path_of (length o - 1) [] (omega arith) in
      let begins : path_at (map (λ i. (line_at lines i).path) o) 0 ≡ (line_at lines (get_or o 0 0)).path = path_of 0 [] some in
      round_apart (map (λ i. (line_at lines i).path) o) (omega arith)
      (λ k d h. let g = goes_on closed k (omega arith) in subst IsLine (sym (path_of k d (omega arith))) (goes_line (get_or o k 0) g.0 g.1))
      (ap last_location ends ∙ (meets (get_or o (length o - 1) 0) (get_or o 0 0) (end.1 ∙ ap Some to_first) ∙ ap first_location (sym begins)))

pub closed_differ : ClosedEndsDiffer
closed_differ ways chains are c inside closed =
    let w = zip_in (IsChain are.sorted are.next) are.orbits chains c are.each inside in
    let o = w.0 in
    let is : IsChain are.sorted are.next o c = w.2 in
    let orbit : IsOrbit are.next o = All-contains (IsOrbit are.next) are.orbits o are.are_orbits.each w.1 in
    let lines : All (λ (l : WayPath). IsLine l.path) are.sorted = All-permutation (λ (l : WayPath). IsLine l.path) (map way_path_of ways) are.sorted are.same (ways_are_lines ways) in
    let path : c.path ≡ joined_path true (map (λ i. (line_at are.sorted i).path) o) = is.path ∙ ap (λ b. joined_path b (map (λ i. (line_at are.sorted i).path) o)) closed in
    subst (λ (xs : List Loc). last_location xs ≢ first_location xs) (sym path) (closed_apart are.sorted are.next lines are.links o orbit (sym is.closed ∙ closed))
