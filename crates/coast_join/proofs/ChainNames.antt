-- The names of chains.
use Rattle.std.proofs.Common.{◌≡◌, ℕ, ◌<◌, List, [], ◌∷◌, length, map, get_or, Option, refl, sym, subst, arith, pos}
use Rattle.std.specs.List.{AllZip}
use Rattle.std.specs.Ordering.{int_cmp}
use Rattle.std.proofs.lemmas.List.{get_or-map, length-map}
use Rattle.lists.specs.Rising.{IsRising}
use Rattle.orbits.specs.OnceLaws.{StandBelow}
use Rattle.orbits.specs.Orbits.{first}
use Rattle.coast_join.specs.declared.chain.Chain.{Chain}
use Rattle.coast_join.specs.Chains.{IsChain, WayPath, line_at}
use Rattle.coast_join.specs.ChainLaws.{NamesRise}
use Rattle.coast_join.proofs.ChainEnds.{orbit_inside}

names_are : (lines : List WayPath) (next : List (Option ℕ)) (os : List (List ℕ)) (chains : List Chain) → AllZip (IsChain lines next) os chains → map (λ (c : Chain). c.name) chains ≡ map (λ o. (line_at lines (first o)).id) os
names_are lines next [] [] z = refl
names_are lines next [] (c ∷ chains) z = absurd z
names_are lines next (o ∷ os) [] z = absurd z
names_are lines next (o ∷ os) (c ∷ chains) z =
    let here = z.0.name in
    let rest = names_are lines next os chains z.1 in
    cc

pub rising_names : StandBelow → NamesRise
rising_names below ways chains are = subst (IsRising int_cmp) (sym (names_are are.sorted are.next are.orbits chains are.each)) rises
  where
    rises : IsRising int_cmp (map (λ (o : List ℕ). (line_at are.sorted (first o)).id) are.orbits)
    rises i j d h l =
        let long = length-map are.orbits (λ (o : List ℕ). (line_at are.sorted (first o)).id) in
        let here = get_or-map (λ (o : List ℕ). (line_at are.sorted (first o)).id) are.orbits i [] d (omega arith) in
        let there = get_or-map (λ (o : List ℕ). (line_at are.sorted (first o)).id) are.orbits j [] d (omega arith) in
        let from = first (get_or are.orbits i []) in
        let to = first (get_or are.orbits j []) in
        let up : from < to = are.in_order.firsts i j [] h (omega arith) in
        let orbit = are.are_orbits.each j [] (omega arith) in
        let some = orbit.some in
        let inside : to < length are.sorted = orbit_inside below ways chains are j (omega arith) 0 0 some in
        let ids = length-map are.sorted (λ (x : WayPath). x.id) in
        let a = get_or-map (λ (x : WayPath). x.id) are.sorted from (record { id = pos 0; path = [] }) d (omega arith) in
        let b = get_or-map (λ (x : WayPath). x.id) are.sorted to (record { id = pos 0; path = [] }) d (omega arith) in
        rw (here, there, ← a, ← b) (are.rising from to d up (omega arith))
