-- The ways of chains.
use Rattle.std.proofs.Common.{◌≡◌, ℕ, ℤ, pos, zero, suc, ◌+◌, ◌<◌, ◌≤◌, ◌≤ℤ◌, Bool, cond, List, [], ◌∷◌, length, take, map, get_or, All, Option, refl, sym, ap, subst, ◌∙◌, arith, ⊎_elim, count_by}
use Rattle.std.specs.declared.cmp.Ordering.TheVariants.{Less}
use Rattle.std.specs.Ordering.{int_cmp, int_eq}
use Rattle.std.specs.List.{AllZip, sum_by}
use Rattle.std.proofs.lemmas.Bool.{cases_lt}
use Rattle.std.proofs.lemmas.Cmp.{int_ranked}
use Rattle.std.proofs.lemmas.Int.{ints}
use Rattle.std.proofs.lemmas.List.{get_or-map, length-map, take_all}
use Rattle.std.proofs.lemmas.List.Elements.{All-map}
use Rattle.std.proofs.lemmas.List.Sorted.{sum_by-IsPermutation}
use Rattle.std.proofs.lemmas.List.Sums.{sum_by-cons, sum_by_more}
use Rattle.lists.specs.Rising.{IsRising}
use Rattle.lists.proofs.ListsKit.{map-map, some_not_none, total-is, total-map}
use Rattle.orbits.specs.OnceLaws.{StandBelow, SumsAgree, sum_below}
use Rattle.orbits.specs.Orbits.{after, first, last_number}
use Rattle.coast_join.specs.declared.way.CoastWay.{CoastWay}
use Rattle.coast_join.specs.declared.chain.Chain.{Chain}
use Rattle.coast_join.specs.Chains.{IsChain, WayPath, line_at, way_path_of}
use Rattle.coast_join.specs.ChainLaws.{ClosedNamesAreLeast, WaysStandOnce}
use Rattle.coast_rings.specs.Line.{last_location}
use Rattle.coast_join.proofs.ChainEnds.{orbit_inside, zipped}

-- ---- ids rise with places

ids_up : (lines : List WayPath) → IsRising int_cmp (map (λ (l : WayPath). l.id) lines) → (i j : ℕ) → i ≤ j → j < length lines → (line_at lines i).id ≤ℤ (line_at lines j).id
ids_up lines up i j h l = ⊎_elim
    (λ m. let less : int_cmp (line_at lines i).id (line_at lines j).id ≡ Less = rw (← id_at_place i (omega arith), ← id_at_place j l) (up i j (pos 0) m (omega (arith, long))) in
    let r = int_ranked (line_at lines i).id (line_at lines j).id Less (sym less) in
    omega (arith, ints))
    (λ m. let same : i ≡ j = omega arith in subst (λ n. (line_at lines i).id ≤ℤ (line_at lines n).id) same (itself (line_at lines i).id))
    (cases_lt i j)
  where
    long : length (map (λ (x : WayPath). x.id) lines) ≡ length lines
    long = length-map lines (λ (x : WayPath). x.id)

    id_at_place : (k : ℕ) → k < length lines → get_or (map (λ (x : WayPath). x.id) lines) k (pos 0) ≡ (line_at lines k).id
    id_at_place k m = get_or-map (λ (x : WayPath). x.id) lines k (record { id = pos 0; path = [] }) (pos 0) m

    itself : (z : ℤ) → z ≤ℤ z
    itself z = omega (arith, ints)

pub least_names : StandBelow → ClosedNamesAreLeast
least_names below ways chains are c (k, h, e) closed =
    let z = zipped (IsChain are.sorted are.next) are.orbits chains k c [] are.each h e in
    let o = get_or are.orbits k [] in
    let inside = orbit_inside below ways chains are k z.0 in
    let lowest = are.in_order.least k [] z.0 (some_not_none (after are.next (last_number o)) (sym z.1.closed ∙ closed)) in
    subst (All (λ id. c.name ≤ℤ id)) (sym z.1.ways) (All-map (λ id. c.name ≤ℤ id) (λ i. (line_at are.sorted i).id) o
    (λ n d l. subst (λ name. name ≤ℤ (line_at are.sorted (get_or o n d)).id) (sym z.1.name) (ids_up are.sorted are.rising (first o) (get_or o n d) (lowest n d l) (inside n d l))))

-- ---- each way stands once

-- counting in a mapped list
count_map : {X : Type 0} (p : ℤ → Bool) (g : X → ℤ) (xs : List X) → count_by p (map g xs) ≡ sum_by (λ x. cond {A = ℕ} (p (g x)) 1 0) xs
count_map p g xs = sym (total-is (λ y. cond {A = ℕ} (p y) 1 0) (map g xs)) ∙ (total-map (λ y. cond {A = ℕ} (p y) 1 0) g xs ∙ total-is (λ x. cond {A = ℕ} (p (g x)) 1 0) xs)

-- in the orbits
in_orbits : (p : ℤ → Bool) (lines : List WayPath) (next : List (Option ℕ)) (os : List (List ℕ)) (chains : List Chain) → AllZip (IsChain lines next) os chains
    → sum_by (λ (c : Chain). count_by p c.ways) chains ≡ sum_by (λ o. sum_by (λ i. cond {A = ℕ} (p (line_at lines i).id) 1 0) o) os
in_orbits p lines next [] [] z = refl
in_orbits p lines next [] (c ∷ chains) z = absurd z
in_orbits p lines next (o ∷ os) [] z = absurd z
in_orbits p lines next (o ∷ os) (c ∷ chains) z =
    let here : count_by p c.ways ≡ sum_by (λ i. cond {A = ℕ} (p (line_at lines i).id) 1 0) o = ap (count_by p) z.0.ways ∙ count_map p (λ i. (line_at lines i).id) o in
    let rest = in_orbits p lines next os chains z.1 in
    let a = sum_by-cons (λ (c : Chain). count_by p c.ways) c chains in
    let b = sum_by-cons (λ o. sum_by (λ i. cond {A = ℕ} (p (line_at lines i).id) 1 0) o) o os in
    omega arith

-- over the places of a list
over_places : (f : WayPath → ℕ) (lines : List WayPath) (n : ℕ) → n ≤ length lines → sum_below (λ i. f (line_at lines i)) n ≡ sum_by f (take n lines)
over_places f lines zero h = refl
over_places f lines (suc n) h =
    let rest = over_places f lines n (omega arith) in
    let more = sum_by_more f lines n (record { id = pos 0; path = [] }) (omega arith) in
    let one : n + 1 ≡ suc n = omega arith in
    let taken : sum_by f (take (n + 1) lines) ≡ sum_by f (take (suc n) lines) = ap (λ m. sum_by f (take m lines)) one in
    omega arith

pub ways_once : SumsAgree → WaysStandOnce
ways_once sums ways chains are id =
    let f : WayPath → ℕ = λ l. cond {A = ℕ} (int_eq id l.id) 1 0 in
    let sized : length are.next ≡ length are.sorted = are.links.sized ∙ length-map are.sorted (λ (l : WayPath). last_location l.path) in
    let orbits = in_orbits (int_eq id) are.sorted are.next are.orbits chains are.each in
    let below = sums (length are.next) are.orbits are.are_orbits.once (λ i. cond {A = ℕ} (int_eq id (line_at are.sorted i).id) 1 0) in
    let places = over_places (λ l. cond {A = ℕ} (int_eq id l.id) 1 0) are.sorted (length are.sorted) (omega arith) in
    let whole = ap (sum_by (λ (l : WayPath). cond {A = ℕ} (int_eq id l.id) 1 0)) (take_all (length are.sorted) are.sorted (omega arith)) in
    let moved = sum_by-IsPermutation (λ (l : WayPath). cond {A = ℕ} (int_eq id l.id) 1 0) (map way_path_of ways) are.sorted are.same in
    let lines = count_map (int_eq id) (λ (l : WayPath). l.id) (map way_path_of ways) in
    let ids : map (λ (l : WayPath). l.id) (map way_path_of ways) ≡ map (λ (w : CoastWay). w.id) ways = map-map (λ (l : WayPath). l.id) way_path_of ways in
    orbits ∙ (below ∙ (ap (sum_below (λ i. cond {A = ℕ} (int_eq id (line_at are.sorted i).id) 1 0)) sized ∙ (places ∙ (whole ∙ (moved ∙ (sym lines ∙ ap (count_by (int_eq id)) ids))))))
