-- Lines put one after the other are a line.
use Rattle.std.proofs.Common.{◌≡◌, ℕ, zero, suc, ◌+◌, ◌-◌, ◌<◌, ◌≤◌, Bool, true, false, cond, List, [], ◌∷◌, ◌++◌, length, take, map, get_or, All, Option, Some, None, option_map, is_some, filter, refl, sym, ap, subst, ◌∙◌, arith, pos, Vec, Global}
use Rattle.std.specs.List.{slice_get, flat_map, range_with_len, AllZip}
use Rattle.std.proofs.lemmas.List.{append_assoc, append-nil, length-append, length-map, get_or-map, get_or_default, take_more}
use Rattle.std.proofs.lemmas.Bool.{false≢true}
use Rattle.std.proofs.lemmas.List.Elements.{filter_more}
use Rattle.std.proofs.lemmas.Option.{same_Some, slice_get-get_or, slice_get-map}
use Rattle.std.specs.List.Sorted.{IsPermutation}
use Rattle.std.specs.Ordering.{int_cmp}
use Rattle.std.proofs.lemmas.List.FromFn.{fill_by_all, get_or-range_with_len, length-range_with_len}
use Rattle.std.proofs.lemmas.List.Sorted.{IsPermutation-map, All-permutation}
use Rattle.lists.specs.Rising.{IsRising}
use Rattle.coast_join.specs.ById.{AreById, id_at}
use Rattle.orbits.specs.Orbits.{after, last_number, IsOrbit}
use Rattle.coast_join.specs.declared.chain.Chain.{Chain}
use Rattle.coast_join.specs.Links.{AreNextWays}
use Rattle.lists.proofs.ListsKit.{map-map}
use Rattle.coast_rings.proofs.RingsKit.{closed_long, front_differ, front_first, front_last, front_length}
use Rattle.coast_join.proofs.Sorting.{map-same}
use Rattle.osm_lattice.specs.declared.loc.Loc.{Loc}
use Rattle.coast_join.specs.declared.way.CoastWay.{CoastWay}
use Rattle.coast_join.specs.Chains.{IsChain, WayPath, joined_path, line_at, way_path_of}
use Rattle.coast_join.specs.ChainSteps.{AreLinked, Makes, path_at, member, ways_at}
use Rattle.coast_rings.specs.Line.{IsLine, NeighboursDiffer, first_location, front_of, last_location}

differ_tail : (x : Loc) (xs : List Loc) → NeighboursDiffer (x ∷ xs) → NeighboursDiffer xs
differ_tail x xs h k = h (suc k)

same_head : (xs ys zs : List Loc) (y : Loc) → slice_get (xs ++ y ∷ ys) 0 ≡ slice_get (xs ++ y ∷ zs) 0
same_head [] ys zs y = refl
same_head (x ∷ xs) ys zs y = refl

glue : (xs : List Loc) (y : Loc) (ys : List Loc) → NeighboursDiffer (xs ++ y ∷ []) → NeighboursDiffer (y ∷ ys) → NeighboursDiffer (xs ++ y ∷ ys)
glue [] y ys g h k p e n = h k p e n
glue (x ∷ xs) y ys g h zero p e n = g zero p e (same_head xs [] ys y ∙ n)
glue (x ∷ xs) y ys g h (suc k) p e n = glue xs y ys (differ_tail x (xs ++ y ∷ []) g) h k p e n

abbrev flat : List (List Loc) → List Loc
flat paths = flat_map front_of paths

last_path : (p q : List Loc) (r : List (List Loc)) → path_at (p ∷ (q ∷ r)) (length (p ∷ (q ∷ r)) - 1) ≡ path_at (q ∷ r) (length (q ∷ r) - 1)
last_path p q r =
    let e : length (p ∷ (q ∷ r)) - 1 ≡ suc (length (q ∷ r) - 1) = omega arith in
    ap (λ n. get_or (p ∷ (q ∷ r)) n []) e

whole_one : (p : List Loc) → 0 < length p → joined_path false (p ∷ []) ≡ p
whole_one p h = rw (append-nil (front_of p)) (front_last p h)

whole_cons : (p q : List Loc) (r : List (List Loc)) → joined_path false (p ∷ (q ∷ r)) ≡ front_of p ++ joined_path false (q ∷ r)
whole_cons p q r = rw (last_path p q r) (append_assoc (front_of p) (flat (q ∷ r)) (last_location (path_at (q ∷ r) (length (q ∷ r) - 1)) ∷ []))

pub whole_first : (q : List Loc) (r : List (List Loc)) → 2 ≤ length q → (rest : List Loc) × (joined_path false (q ∷ r) ≡ first_location q ∷ rest)
whole_first q r h =
    let f = front_first q h in
    (f.0 ++ flat r ++ last_location (path_at (q ∷ r) (length (q ∷ r) - 1)) ∷ [], ap (λ xs. xs ++ flat r ++ last_location (path_at (q ∷ r) (length (q ∷ r) - 1)) ∷ []) f.1)

abbrev Steps : List (List Loc) → Type 0
Steps paths = (k : ℕ) → suc k < length paths → last_location (path_at paths k) ≡ first_location (path_at paths (suc k))

whole_differ : (p : List Loc) (r : List (List Loc)) → All IsLine (p ∷ r) → Steps (p ∷ r) → NeighboursDiffer (joined_path false (p ∷ r))
whole_differ p [] lines steps =
    let line : IsLine p = lines 0 [] (omega arith) in
    let long = line.long in
    subst NeighboursDiffer (sym (whole_one p (omega arith))) line.differ
whole_differ p (q ∷ r) lines steps =
    let line : IsLine p = lines 0 [] (omega arith) in
    let next : IsLine q = lines 1 [] (omega arith) in
    let long = line.long in
    let rest = whole_differ q r (λ k d h. lines (suc k) d (omega arith)) (λ k h. steps (suc k) (omega arith)) in
    let starts = whole_first q r next.long in
    let joint : last_location p ≡ first_location q = steps 0 (omega arith) in
    let tail : joined_path false (q ∷ r) ≡ last_location p ∷ starts.0 = starts.1 ∙ ap (λ x. x ∷ starts.0) (sym joint) in
    subst NeighboursDiffer (sym (whole_cons p q r ∙ ap (λ xs. front_of p ++ xs) tail))
    (glue (front_of p) (last_location p) starts.0 (subst NeighboursDiffer (sym (front_last p (omega arith))) line.differ) (subst NeighboursDiffer tail rest))

flat_long : (paths : List (List Loc)) → All IsLine paths → length paths ≤ length (flat paths)
flat_long [] lines = omega arith
flat_long (p ∷ r) lines =
    let line : IsLine p = lines 0 [] (omega arith) in
    let long = line.long in
    let rest = flat_long r (λ k d h. lines (suc k) d (omega arith)) in
    let here = front_length p in
    let both = length-append (front_of p) (flat r) in
    omega arith

pub line_joined : (closed : Bool) (paths : List (List Loc)) → AreLinked closed paths → IsLine (joined_path closed paths)
line_joined closed [] linked = let s = linked.some in absurd (omega arith)
line_joined false (p ∷ r) linked =
    let long = flat_long (p ∷ r) linked.lines in
    let both = length-append (flat (p ∷ r)) (last_location (path_at (p ∷ r) (length (p ∷ r) - 1)) ∷ []) in
    record { long = omega arith; differ = whole_differ p r linked.lines linked.steps }
line_joined true (p ∷ []) linked =
    let line : IsLine p = linked.lines 0 [] (omega arith) in
    let long = closed_long p line (linked.closes refl) in
    let here = front_length p in
    let differ = whole_differ p [] linked.lines linked.steps in
    let same : joined_path true (p ∷ []) ≡ front_of p = simp append-nil in
    subst IsLine (sym same) (record { long = omega arith; differ = front_differ (front_of p) (last_location p ∷ []) (subst NeighboursDiffer (sym (front_last p (omega arith))) line.differ) })
line_joined true (p ∷ (q ∷ r)) linked =
    let long = flat_long (p ∷ (q ∷ r)) linked.lines in
    let none = append-nil (flat (p ∷ (q ∷ r))) in
    let differ = whole_differ p (q ∷ r) linked.lines linked.steps in
    subst IsLine (sym none) (record { long = omega arith; differ = front_differ (flat (p ∷ (q ∷ r))) _ differ })

-- ---- the paths of members

flat_map-map : {A B C : Type 0} (f : B → List C) (g : A → B) (xs : List A) → flat_map f (map g xs) ≡ flat_map (λ x. f (g x)) xs
flat_map-map f g [] = refl
flat_map-map f g (x ∷ xs) = ap (λ ys. f (g x) ++ ys) (flat_map-map f g xs)

pub path_at-map : (lines : List WayPath) (n : ℕ) → path_at (map (λ (l : WayPath). l.path) lines) n ≡ (line_at lines n).path
path_at-map [] n = refl
path_at-map (l ∷ lines) zero = refl
path_at-map (l ∷ lines) (suc n) = path_at-map lines n

pub joined_closed : (lines : List WayPath) → joined_path true (map (λ (l : WayPath). l.path) lines) ≡ flat_map (λ (l : WayPath). front_of l.path) lines
joined_closed lines = append-nil (flat_map front_of (map (λ (l : WayPath). l.path) lines)) ∙ flat_map-map front_of (λ (l : WayPath). l.path) lines

pub joined_open : (lines : List WayPath) (n : ℕ) → n ≡ length lines → joined_path false (map (λ (l : WayPath). l.path) lines) ≡ flat_map (λ (l : WayPath). front_of l.path) lines ++ last_location (line_at lines (n - 1)).path ∷ []
joined_open lines n e =
    let same : length (map (λ (l : WayPath). l.path) lines) - 1 ≡ n - 1 = ap (λ m. m - 1) (length-map lines (λ (l : WayPath). l.path) ∙ sym e) in
    ap (λ xs. xs ++ last_location (path_at (map (λ (l : WayPath). l.path) lines) (length (map (λ (l : WayPath). l.path) lines) - 1)) ∷ []) (flat_map-map front_of (λ (l : WayPath). l.path) lines)
    ∙ ap (λ p. flat_map (λ (l : WayPath). front_of l.path) lines ++ last_location p ∷ []) (ap (path_at (map (λ (l : WayPath). l.path) lines)) same ∙ path_at-map lines (n - 1))

pub member_read : (ways : List CoastWay) (i : ℕ) (w : CoastWay) → i < length ways → w ≡ get_or ways i w → member ways i ≡ way_path_of w
member_read ways i w h e = get_or-map way_path_of ways i w (record { id = pos 0; path = [] }) h ∙ ap way_path_of (sym e)

pub members_at : (ways : List CoastWay) (places : List ℕ) (k : ℕ) → k < length places → line_at (ways_at ways places) k ≡ member ways (get_or places k 0)
members_at ways places k h = get_or-map (member ways) places k 0 (record { id = pos 0; path = [] }) h

pub places_some : (ways : List CoastWay) (places : List ℕ) (closed : Bool) → AreLinked closed (map (λ (l : WayPath). l.path) (ways_at ways places)) → 0 < length places
places_some ways [] closed linked = linked.some
places_some ways (k ∷ places) closed linked = omega arith

-- ---- the ways of an orbit

abbrev paths_in : List WayPath → List ℕ → List (List Loc)
paths_in ls o = map (λ (l : WayPath). l.path) (map (line_at ls) o)

pub way_lines : (ways : List CoastWay) (i : ℕ) → i < length ways → IsLine (member ways i).path
way_lines [] i h = absurd (omega arith)
way_lines (w ∷ ways) zero h = w.line
way_lines (w ∷ ways) (suc i) h = way_lines ways i (omega arith)

module _ (ways : List CoastWay) (order : List ℕ) (inside : All (λ i. i < length ways) order) where
  lines : List WayPath
  lines = ways_at ways order

  pub same_members : (orbit : List ℕ) → All (λ k. k < length order) orbit → ways_at ways (map (λ k. get_or order k 0) orbit) ≡ map (line_at (ways_at ways order)) orbit
  same_members orbit below =
      map-map (member ways) (λ k. get_or order k 0) orbit
      ∙ map-same (λ k. member ways (get_or order k 0)) (line_at (ways_at ways order)) orbit (λ k d h. sym (members_at ways order (get_or orbit k d) (below k d h)))

  order_line : (k : ℕ) → k < length order → IsLine (line_at (ways_at ways order) k).path
  order_line k h = subst (λ (l : WayPath). IsLine l.path) (sym (members_at ways order k h)) (way_lines ways (get_or order k 0) (inside k 0 h))

  at_place : (f : WayPath → Loc) (k : ℕ) (p : Loc) → slice_get (map f (ways_at ways order)) k ≡ Some p → k < length order → f (line_at (ways_at ways order) k) ≡ p
  at_place f k p e h =
      let sized = length-map order (member ways) in
      let none : WayPath = record { id = pos 0; path = [] } in
      let is = slice_get-get_or (ways_at ways order) k none (omega arith) in
      let both : slice_get (map f (ways_at ways order)) k ≡ Some (f (line_at (ways_at ways order) k)) = slice_get-map f (ways_at ways order) k ∙ ap (option_map f) is in
      same_Some _ _ (sym both ∙ e)

  module _ (next : List (Option ℕ)) (links : AreNextWays (map (λ (l : WayPath). last_location l.path) (ways_at ways order)) (map (λ (l : WayPath). first_location l.path) (ways_at ways order)) next) where
    joint : (i j : ℕ) → i < length order → j < length order → after next i ≡ Some j → last_location (line_at (ways_at ways order) i).path ≡ first_location (line_at (ways_at ways order) j).path
    joint i j hi hj e =
        let g = (links.exact i j).0 e in
        at_place (λ (l : WayPath). last_location l.path) i g.place g.ends_there hi ∙ sym (at_place (λ (l : WayPath). first_location l.path) j g.place g.starts_there hj)

    pub orbit_linked : (orbit : List ℕ) → IsOrbit next orbit → All (λ k. k < length order) orbit → AreLinked (is_some (after next (last_number orbit))) (map (λ (l : WayPath). l.path) (map (line_at (ways_at ways order)) orbit))
    orbit_linked orbit is below =
        let long = length-map (map (line_at (ways_at ways order)) orbit) (λ (l : WayPath). l.path) ∙ length-map orbit (line_at (ways_at ways order)) in
        let some = is.some in
        record {
          some = omega arith;
          lines = λ k d h. subst IsLine (sym (get_or_default (paths_in (ways_at ways order) orbit) k d [] h ∙ at orbit k (omega arith))) (order_line (get_or orbit k 0) (below k 0 (omega arith)));
          steps = λ k h.
              let one : k + 1 ≡ suc k = omega arith in
              ap last_location (at orbit k (omega arith)) ∙ (joint (get_or orbit k 0) (get_or orbit (suc k) 0) (below k 0 (omega arith)) (below (suc k) 0 (omega arith)) (is.steps k (omega arith) ∙ ap (λ m. Some (get_or orbit m 0)) one) ∙ ap first_location (sym (at orbit (suc k) (omega arith))));
          closes = λ e. by (after next (last_number orbit)) refl e;
        }
      where
        at : (o : List ℕ) (k : ℕ) → k < length o → path_at (paths_in (ways_at ways order) o) k ≡ (line_at (ways_at ways order) (get_or o k 0)).path
        at o k h = path_at-map (map (line_at (ways_at ways order)) o) k ∙ ap (λ (l : WayPath). l.path) (get_or-map (line_at (ways_at ways order)) o k 0 (record { id = pos 0; path = [] }) h)

        by : (o : Option ℕ) → after next (last_number orbit) ≡ o → is_some o ≡ true → last_location (path_at (paths_in (ways_at ways order) orbit) (length (paths_in (ways_at ways order) orbit) - 1)) ≡ first_location (path_at (paths_in (ways_at ways order) orbit) 0)
        by None e t = absurd (false≢true t)
        by (Some j) e t =
            let some = is.some in
            let long = length-map (map (line_at (ways_at ways order)) orbit) (λ (l : WayPath). l.path) ∙ length-map orbit (line_at (ways_at ways order)) in
            let n : length (paths_in (ways_at ways order) orbit) - 1 ≡ length orbit - 1 = omega arith in
            let j_is = is.closes j e in
            ap last_location (ap (path_at (paths_in (ways_at ways order) orbit)) n ∙ at orbit (length orbit - 1) (omega arith))
            ∙ (joint (last_number orbit) (get_or orbit 0 0) (below (length orbit - 1) 0 (omega arith)) (below 0 0 (omega arith)) (e ∙ ap Some j_is) ∙ ap first_location (sym (at orbit 0 (omega arith))))

    pub is_chain : (orbit : List ℕ) (chain : Chain) → 0 < length orbit → All (λ k. k < length order) orbit → Makes (ways_at ways (map (λ k. get_or order k 0) orbit)) (is_some (after next (last_number orbit))) chain → IsChain (ways_at ways order) next orbit chain
    is_chain orbit chain some below makes =
        let same = same_members orbit below in
        record {
          ways = makes.ways ∙ (ap (map (λ (l : WayPath). l.id)) same ∙ map-map (λ (l : WayPath). l.id) (line_at (ways_at ways order)) orbit);
          name = makes.name ∙ (ap (λ (ls : List WayPath). (line_at ls 0).id) same ∙ ap (λ (l : WayPath). l.id) (get_or-map (line_at (ways_at ways order)) orbit 0 0 (record { id = pos 0; path = [] }) some));
          closed = makes.closed;
          path = makes.path ∙ (ap (λ b. joined_path b (map (λ (l : WayPath). l.path) (ways_at ways (map (λ k. get_or order k 0) orbit)))) (sym makes.closed) ∙ ap (joined_path chain.closed) (ap (map (λ (l : WayPath). l.path)) same ∙ map-map (λ (l : WayPath). l.path) (line_at (ways_at ways order)) orbit));
        }

-- ---- a list of vectors

pub list_is : (os : List (Vec ℕ Global)) (i : ℕ) (o : Vec ℕ Global) → i < length os → o ≡ get_or os i o → o.items ≡ get_or (map (λ (o : Vec ℕ Global). o.items) os) i o.items
list_is os i o h e = ap (λ (o : Vec ℕ Global). o.items) e ∙ sym (get_or-map (λ (o : Vec ℕ Global). o.items) os i o o.items h)

pub list_at : (P : List ℕ → Type 0) (os : List (Vec ℕ Global)) (i : ℕ) (o : Vec ℕ Global) → All P (map (λ (o : Vec ℕ Global). o.items) os) → i < length os → o ≡ get_or os i o → P o.items
list_at P os i o all h e =
    let sized = length-map os (λ (o : Vec ℕ Global). o.items) in
    subst P (sym (list_is os i o h e)) (all i o.items (omega arith))

-- ---- the ways in order of id

range_below : (n : ℕ) → All (λ i. i < n) (range_with_len 0 n)
range_below n k d h =
    let inside : k < n = omega (arith, h, length-range_with_len 0 n) in
    let here = get_or-range_with_len 0 n k d inside in omega (arith, here, inside)

pub order_inside : (ways : List CoastWay) (order : List ℕ) → AreById (map (λ (w : CoastWay). w.id) ways) order → All (λ i. i < length ways) order
order_inside ways order h =
    let n = length-map ways (λ (w : CoastWay). w.id) in
    subst (λ m. All (λ i. i < m) order) n (All-permutation (λ i. i < length (map (λ (w : CoastWay). w.id) ways)) (range_with_len 0 (length (map (λ (w : CoastWay). w.id) ways))) order h.each (range_below (length (map (λ (w : CoastWay). w.id) ways))))

all_members : (ways : List CoastWay) → map (member ways) (range_with_len 0 (length ways)) ≡ map way_path_of ways
all_members ways = sym (fill_by_all (member ways) (map way_path_of ways) (length ways) (record { id = pos 0; path = [] }) (length-map ways way_path_of) (λ k h. refl))

pub sorted_same : (ways : List CoastWay) (order : List ℕ) → AreById (map (λ (w : CoastWay). w.id) ways) order → IsPermutation (map way_path_of ways) (ways_at ways order)
sorted_same ways order h =
    let n = length-map ways (λ (w : CoastWay). w.id) in
    let each : IsPermutation (range_with_len 0 (length ways)) order = subst (λ m. IsPermutation (range_with_len 0 m) order) n h.each in
    subst (λ (xs : List WayPath). IsPermutation xs (ways_at ways order)) (all_members ways) (IsPermutation-map (member ways) (range_with_len 0 (length ways)) order each)

member_id : (ways : List CoastWay) (i : ℕ) → id_at (map (λ (w : CoastWay). w.id) ways) i ≡ (member ways i).id
member_id [] i = refl
member_id (w ∷ ways) zero = refl
member_id (w ∷ ways) (suc i) = member_id ways i

pub sorted_rising : (ways : List CoastWay) (order : List ℕ) → AreById (map (λ (w : CoastWay). w.id) ways) order → IsRising int_cmp (map (λ (l : WayPath). l.id) (ways_at ways order))
sorted_rising ways order h =
    let same : map (id_at (map (λ (w : CoastWay). w.id) ways)) order ≡ map (λ (l : WayPath). l.id) (ways_at ways order) =
    map-same (id_at (map (λ (w : CoastWay). w.id) ways)) (λ i. (member ways i).id) order (λ k d l. member_id ways (get_or order k d)) ∙ sym (map-map (λ (l : WayPath). l.id) (member ways) order) in
    subst (IsRising int_cmp) same h.rising

-- ---- one more pair

zip_push : {A B : Type 0} (R : A → B → Type 0) (xs : List A) (ys : List B) (x : A) (y : B) → AllZip R xs ys → R x y → AllZip R (xs ++ x ∷ []) (ys ++ y ∷ [])
zip_push R [] [] x y h r = (r, tt)
zip_push R [] (z ∷ ys) x y h r = absurd h
zip_push R (z ∷ xs) [] x y h r = absurd h
zip_push R (z ∷ xs) (w ∷ ys) x y h r = (h.0, zip_push R xs ys x y h.1 r)

pub zip_more : {A B : Type 0} (R : A → B → Type 0) (xs : List A) (ys : List B) (i : ℕ) (x : A) (y : B) → i < length xs → x ≡ get_or xs i x → AllZip R (take i xs) ys → R x y → AllZip R (take (i + 1) xs) (ys ++ y ∷ [])
zip_more {A} R xs ys i x y h e z r =
    let taken : take (i + 1) xs ≡ take i xs ++ x ∷ [] = take_more xs i x h ∙ ap (λ (w : A). take i xs ++ w ∷ []) (sym e) in
    subst (λ (ws : List A). AllZip R ws (ys ++ y ∷ [])) (sym taken) (zip_push R (take i xs) ys x y z r)

-- ---- one more item of a filtered list

pub zip_kept : {A B : Type 0} (R : A → B → Type 0) (p : A → Bool) (xs : List A) (ys : List B) (i : ℕ) (x : A) (y : B) → i < length xs → x ≡ get_or xs i x → p x ≡ true → AllZip R (filter p (take i xs)) ys → R x y → AllZip R (filter p (take (i + 1) xs)) (ys ++ y ∷ [])
zip_kept {A} R p xs ys i x y h e t z r =
    let more : filter p (take (i + 1) xs) ≡ filter p (take i xs) ++ x ∷ [] = filter_more p xs i x h ∙ ap (λ (ws : List A). filter p (take i xs) ++ ws) (ap (λ b. cond b (get_or xs i x ∷ []) []) (ap p (sym e) ∙ t) ∙ ap (λ (w : A). w ∷ []) (sym e)) in
    subst (λ (ws : List A). AllZip R ws (ys ++ y ∷ [])) (sym more) (zip_push R (filter p (take i xs)) ys x y z r)

pub zip_passed : {A B : Type 0} (R : A → B → Type 0) (p : A → Bool) (xs : List A) (ys : List B) (i : ℕ) (x : A) → i < length xs → x ≡ get_or xs i x → p x ≡ false → AllZip R (filter p (take i xs)) ys → AllZip R (filter p (take (i + 1) xs)) ys
zip_passed {A} R p xs ys i x h e t z =
    let more : filter p (take (i + 1) xs) ≡ filter p (take i xs) = filter_more p xs i x h ∙ (ap (λ (ws : List A). filter p (take i xs) ++ ws) (ap (λ b. cond b (get_or xs i x ∷ []) []) (ap p (sym e) ∙ t)) ∙ append-nil (filter p (take i xs))) in
    subst (λ (ws : List A). AllZip R ws ys) (sym more) z
