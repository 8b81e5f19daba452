-- Where unclosed chains start and end.
use Rattle.std.proofs.Common.{◌≡◌, ◌≢◌, ℕ, zero, suc, ◌+◌, ◌-◌, ◌<◌, false, cond, List, [], ◌∷◌, ◌++◌, length, take, map, get_or, All, Option, Some, None, is_some, option_map, refl, sym, ap, subst, ◌∙◌, arith, ⊎_elim, pos}
use Rattle.std.specs.declared.cmp.Ordering.{Ordering}
use Rattle.std.specs.declared.cmp.Ordering.TheVariants.{Less, Equal, Greater}
use Rattle.std.specs.Ordering.{is_eq}
use Rattle.std.specs.List.{AllZip, Contains, flat_map, slice_get}
use Rattle.std.specs.List.Sorted.{IsPermutation}
use Rattle.std.proofs.lemmas.Bool.{cases_lt}
use Rattle.std.proofs.lemmas.List.{get_or-map, get_or_push, length-map, length_push}
use Rattle.std.proofs.lemmas.List.Elements.{All-map}
use Rattle.std.proofs.lemmas.List.Sorted.{All-permutation}
use Rattle.std.proofs.lemmas.Option.{slice_get_within, slice_get-get_or, slice_get-map}
use Rattle.lists.specs.Rising.{count_of}
use Rattle.lists.proofs.ListsKit.{count-cons}
use Rattle.orbits.specs.OnceLaws.{StandBelow}
use Rattle.orbits.specs.Orbits.{after, first, last_number}
use Rattle.osm_lattice.specs.declared.loc.Loc.{Loc}
use Rattle.osm_lattice.specs.Loc.{loc_cmp}
use Rattle.osm_lattice.specs.OrderLaws.{LocationOrderTellsApart}
use Rattle.coast_join.specs.declared.way.CoastWay.{CoastWay}
use Rattle.coast_join.specs.declared.chain.Chain.{Chain}
use Rattle.coast_join.specs.Chains.{AreChains, IsChain, WayPath, joined_path, line_at, way_path_of}
use Rattle.coast_join.specs.ChainLaws.{UnclosedEndsDiffer}
use Rattle.coast_join.specs.ChainSteps.{path_at}
use Rattle.coast_rings.specs.Line.{IsLine, first_location, front_of, last_location, origin}
use Rattle.coast_join.specs.Links.{AreNextWays, count_before}
use Rattle.coast_join.proofs.Joining.{whole_first}
use Rattle.coast_join.proofs.Numbering.{before_all, before_less}

-- ---- each number below the count of a location is how often it stands before some place where it stands

count_here : (p x : Loc) (xs : List Loc) → count_of loc_cmp p (x ∷ xs) ≡ cond {A = ℕ} (is_eq (loc_cmp x p)) 1 0 + count_of loc_cmp p xs
count_here p x xs = count-cons loc_cmp p x xs

abbrev Stands : Loc → List Loc → ℕ → Type 0
Stands p xs n = (k : ℕ) × (slice_get xs k ≡ Some p) × (count_before p xs k ≡ n)

standing_later : LocationOrderTellsApart → (p x : Loc) (xs : List Loc) → ((n : ℕ) → n < count_of loc_cmp p xs → Stands p xs n) → (n : ℕ) → n < count_of loc_cmp p (x ∷ xs) → Stands p (x ∷ xs) n
standing_later exact p x xs later n h = by (loc_cmp x p) refl n h
  where
    passed : (o : Ordering) → loc_cmp x p ≡ o → is_eq o ≡ false → (n : ℕ) → n < count_of loc_cmp p (x ∷ xs) → Stands p (x ∷ xs) n
    passed o e f n h =
        let none : cond {A = ℕ} (is_eq (loc_cmp x p)) 1 0 ≡ 0 = ap (λ b. cond {A = ℕ} b 1 0) (ap is_eq e ∙ f) in
        let all = count_here p x xs in
        let r = later n (omega arith) in
        let more = count_here p x (take r.0 xs) in
        let at = r.2 in
        (suc r.0, r.1, omega arith)

    by : (o : Ordering) → loc_cmp x p ≡ o → (n : ℕ) → n < count_of loc_cmp p (x ∷ xs) → Stands p (x ∷ xs) n
    by Less e n h = passed Less e refl n h
    by Greater e n h = passed Greater e refl n h
    by Equal e zero h = (0, ap Some ((exact x p).0 e), refl)
    by Equal e (suc n) h =
        let one : cond {A = ℕ} (is_eq (loc_cmp x p)) 1 0 ≡ 1 = ap (λ b. cond {A = ℕ} b 1 0) (ap is_eq e) in
        let all = count_here p x xs in
        let r = later n (omega arith) in
        let more = count_here p x (take r.0 xs) in
        let at = r.2 in
        (suc r.0, r.1, omega arith)

standing : LocationOrderTellsApart → (p : Loc) (xs : List Loc) (n : ℕ) → n < count_of loc_cmp p xs → Stands p xs n
standing exact p [] n h = absurd (omega arith)
standing exact p (x ∷ xs) n h = standing_later exact p x xs (standing exact p xs) n h

before_whole : (p : Loc) (xs : List Loc) (k : ℕ) → slice_get xs k ≡ Some p → count_before p xs k < count_of loc_cmp p xs
before_whole p xs k e =
    let inside = slice_get_within xs k p e in
    let less = before_less p xs k (length xs) inside e in
    let all = before_all p xs (length xs) (omega arith) in
    omega arith

-- ---- a way that doesn't go on doesn't end where one starts that nothing goes on to

pub ends_apart : LocationOrderTellsApart → (ends starts : List Loc) (next : List (Option ℕ)) → AreNextWays ends starts next → (i j : ℕ) (p : Loc)
    → after next i ≡ None → ((k : ℕ) → after next k ≢ Some j) → slice_get ends i ≡ Some p → slice_get starts j ≡ Some p → ⊥
ends_apart exact ends starts next links i j p goes comes ends_there starts_there =
    let ended = before_whole p ends i ends_there in
    let started = before_whole p starts j starts_there in
    ⊎_elim
    (λ l. let r = standing exact p starts (count_before p ends i) l in
    none r.0 ((links.exact i r.0).1 (record { place = p; ends_there = ends_there; starts_there = r.1; alike = sym r.2 })))
    (λ l. let r = standing exact p ends (count_before p starts j) (omega arith) in
    comes r.0 ((links.exact r.0 j).1 (record { place = p; ends_there = r.1; starts_there = starts_there; alike = r.2 })))
    (cases_lt (count_before p ends i) (count_of loc_cmp p starts))
  where
    none : (k : ℕ) → after next i ≡ Some k → ⊥
    none k e = cc

-- ---- the ends of a chain's path

last_push : (xs : List Loc) (y : Loc) → last_location (xs ++ y ∷ []) ≡ y
last_push xs y = let long = length_push xs y in get_or_push xs y origin (length (xs ++ y ∷ []) - 1) (omega arith)

last_path_at : (lines : List WayPath) (o : List ℕ) → 0 < length o → path_at (map (λ i. (line_at lines i).path) o) (length (map (λ i. (line_at lines i).path) o) - 1) ≡ (line_at lines (last_number o)).path
last_path_at lines o h =
    let long = length-map o (λ i. (line_at lines i).path) in
    ap (λ n. path_at (map (λ i. (line_at lines i).path) o) (n - 1)) long ∙ get_or-map (λ i. (line_at lines i).path) o (length o - 1) 0 [] (omega arith)

-- it is that of its last way
pub end_of : (lines : List WayPath) (next : List (Option ℕ)) (o : List ℕ) (chain : Chain) → IsChain lines next o chain → chain.closed ≡ false → 0 < length o → last_location chain.path ≡ last_location (line_at lines (last_number o)).path
end_of lines next o chain is open_ended some =
    let paths : List (List Loc) = map (λ i. (line_at lines i).path) o in
    ap last_location (is.path ∙ ap (λ b. joined_path b paths) open_ended)
    ∙ (last_push (flat_map front_of paths) (last_location (path_at paths (length paths - 1))) ∙ ap last_location (last_path_at lines o some))

-- and that of its first
pub start_of : (lines : List WayPath) (next : List (Option ℕ)) (o : List ℕ) (chain : Chain) → IsChain lines next o chain → chain.closed ≡ false → 0 < length o → IsLine (line_at lines (first o)).path → first_location chain.path ≡ first_location (line_at lines (first o)).path
start_of lines next [] chain is open_ended some line = absurd (omega arith)
start_of lines next (k ∷ o) chain is open_ended some line =
    let f = whole_first (line_at lines k).path (map (λ i. (line_at lines i).path) o) line.long in
    ap first_location (is.path ∙ ap (λ b. joined_path b (map (λ i. (line_at lines i).path) (k ∷ o))) open_ended) ∙ ap first_location f.1

-- ---- the orbit of a chain

pub zipped : {A B : Type 0} (R : A → B → Type 0) (xs : List A) (ys : List B) (k : ℕ) (y : B) (d : A) → AllZip R xs ys → k < length ys → get_or ys k y ≡ y → (k < length xs) × R (get_or xs k d) y
zipped R [] [] k y d z h e = absurd (omega arith)
zipped R [] (b ∷ ys) k y d z h e = absurd z
zipped R (a ∷ xs) [] k y d z h e = absurd z
zipped R (a ∷ xs) (b ∷ ys) zero y d z h e = (omega arith, subst (R a) e z.0)
zipped R (a ∷ xs) (b ∷ ys) (suc k) y d z h e =
    let r = zipped R xs ys k y d z.1 (omega arith) e in
    let l = r.0 in
    (omega arith, r.1)

pub sorted_lines : (ways : List CoastWay) (sorted : List WayPath) → IsPermutation (map way_path_of ways) sorted → All (λ (l : WayPath). IsLine l.path) sorted
sorted_lines ways sorted same = All-permutation (λ (l : WayPath). IsLine l.path) (map way_path_of ways) sorted same (All-map (λ (l : WayPath). IsLine l.path) way_path_of ways (λ k d h. (get_or ways k d).line))

line_get : (f : WayPath → Loc) (lines : List WayPath) (k : ℕ) → k < length lines → slice_get (map f lines) k ≡ Some (f (line_at lines k))
line_get f lines k h = slice_get-map f lines k ∙ ap (λ o. option_map f o) (slice_get-get_or lines k (record { id = pos 0; path = [] }) h)

module _ (below : StandBelow) (ways : List CoastWay) (chains : List Chain) (are : AreChains ways chains) where
  pub orbit_inside : (k : ℕ) → k < length are.orbits → All (λ i. i < length are.sorted) (get_or are.orbits k [])
  orbit_inside k h =
      let sized : length are.next ≡ length are.sorted = are.links.sized ∙ length-map are.sorted (λ (l : WayPath). last_location l.path) in
      subst (λ n. All (λ i. i < n) (get_or are.orbits k [])) sized (below (length are.next) are.orbits are.are_orbits.once k [] h)

  -- an unclosed chain's path ends where a way ends that doesn't go on
  ends_with : (c : Chain) → Contains chains c → c.closed ≡ false → (i : ℕ) × (after are.next i ≡ None) × (slice_get (map (λ (l : WayPath). last_location l.path) are.sorted) i ≡ Some (last_location c.path))
  ends_with c (k, h, e) open_ended =
      let z = zipped (IsChain are.sorted are.next) are.orbits chains k c [] are.each h e in
      let o = get_or are.orbits k [] in
      let orbit = are.are_orbits.each k [] z.0 in
      let some = orbit.some in
      let inside = orbit_inside k z.0 (length o - 1) 0 (omega arith) in
      (last_number o, none (after are.next (last_number o)) (sym z.1.closed ∙ open_ended), line_get (λ (l : WayPath). last_location l.path) are.sorted (last_number o) inside ∙ ap Some (sym (end_of are.sorted are.next o c z.1 open_ended some)))
    where
      none : (o : Option ℕ) → is_some o ≡ false → o ≡ None
      none None t = refl
      none (Some j) t = absurd (cc)

  -- and starts where one starts that nothing goes on to
  starts_with : (c : Chain) → Contains chains c → c.closed ≡ false → (j : ℕ) × ((k : ℕ) → after are.next k ≢ Some j) × (slice_get (map (λ (l : WayPath). first_location l.path) are.sorted) j ≡ Some (first_location c.path))
  starts_with c (k, h, e) open_ended =
      let z = zipped (IsChain are.sorted are.next) are.orbits chains k c [] are.each h e in
      let o = get_or are.orbits k [] in
      let orbit = are.are_orbits.each k [] z.0 in
      let some = orbit.some in
      let inside = orbit_inside k z.0 0 0 (omega arith) in
      let line = sorted_lines ways are.sorted are.same (first o) (record { id = pos 0; path = [] }) inside in
      (first o, orbit.opens (none (after are.next (last_number o)) (sym z.1.closed ∙ open_ended)), line_get (λ (l : WayPath). first_location l.path) are.sorted (first o) inside ∙ ap Some (sym (start_of are.sorted are.next o c z.1 open_ended some line)))
    where
      none : (o : Option ℕ) → is_some o ≡ false → o ≡ None
      none None t = refl
      none (Some j) t = absurd (cc)

pub unclosed_ends : LocationOrderTellsApart → StandBelow → UnclosedEndsDiffer
unclosed_ends exact below ways chains are c d in_c in_d open_c open_d same =
    let i = ends_with below ways chains are c in_c open_c in
    let j = starts_with below ways chains are d in_d open_d in
    ends_apart exact (map (λ (l : WayPath). last_location l.path) are.sorted) (map (λ (l : WayPath). first_location l.path) are.sorted) are.next are.links i.0 j.0 (last_location c.path) i.1 j.1 i.2 (j.2 ∙ ap Some (sym same))
