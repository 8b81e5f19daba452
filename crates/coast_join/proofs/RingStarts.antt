-- Each ring begins with its chain of the least name.
use Rattle.std.proofs.Common.{◌≡◌, ◌≢◌, ℕ, ◌<◌, ◌≤◌, ◌≤ℤ◌, ℤ, pos, List, length, filter, get_or, All, None, sym, ap, subst, ◌∙◌, arith, ⊎_elim}
use Rattle.std.specs.declared.cmp.Ordering.TheVariants.{Less}
use Rattle.std.specs.Ordering.{int_cmp}
use Rattle.std.proofs.lemmas.Bool.{cases_lt}
use Rattle.std.proofs.lemmas.Cmp.{int_ranked}
use Rattle.std.proofs.lemmas.Int.{ints}
use Rattle.std.proofs.lemmas.List.{length-map}
use Rattle.orbits.specs.OnceLaws.{StandBelow}
use Rattle.orbits.specs.Orbits.{after, first, IsOrbit, last_number}
use Rattle.coast_join.specs.declared.chain.Chain.{Chain}
use Rattle.coast_join.specs.declared.gap.Closings.{Closings}
use Rattle.coast_join.specs.declared.joined.Joined.{Joined}
use Rattle.coast_join.specs.declared.way.CoastWay.{CoastWay}
use Rattle.coast_join.specs.ById.{id_at}
use Rattle.coast_join.specs.Chains.{AreChains}
use Rattle.coast_join.specs.ChainLaws.{NamesRise}
use Rattle.coast_join.specs.Closings.{names_of}
use Rattle.coast_join.specs.Joined.{AreJoined, chains_at, is_closed_orbit}
use Rattle.coast_join.specs.RingLaws.{BeginsWithLeastName}
use Rattle.coast_join.proofs.RingNames.{lead, name_at, part_in}
use Rattle.lists.proofs.ListsKit.{all-in, at-in, in-all, in-filter, in-passes, some_not_none}

int_up : (a b : ℤ) → int_cmp a b ≡ Less → a ≤ℤ b
int_up a b e = let r = int_ranked a b Less (sym e) in omega (arith, ints)

module _ (ways : List CoastWay) (chains : List Chain) (are : AreChains ways chains) (rise : NamesRise) (stand : StandBelow) where
  least_first : (o : List ℕ) → 0 < length o → All (λ k. k < length chains) o → All (λ i. first o ≤ i) o → BeginsWithLeastName (chains_at chains o)
  least_first o some inside least k d h =
      let l = lead chains o some inside in
      let here : id_at (names_of (chains_at chains o)) 0 ≡ id_at (names_of chains) (get_or o 0 0) = ap (λ (cs : List Chain). id_at (names_of cs) 0) l.2 ∙ sym (name_at chains (get_or o 0 0) l.0 l.3) in
      let c : Chain = get_or (chains_at chains o) k d in
      let p = part_in chains o c (at-in (chains_at chains o) k d h) in
      let at : id_at (names_of chains) p.0 ≡ c.name = name_at chains p.0 c p.2 in
      let up : get_or o 0 0 ≤ p.0 = in-all (λ i. first o ≤ i) o p.0 least p.1 in
      let within : p.0 < length chains = in-all (λ i. i < length chains) o p.0 inside p.1 in
      let long = length-map chains (λ (x : Chain). x.name) in
      let names : id_at (names_of chains) (get_or o 0 0) ≤ℤ id_at (names_of chains) p.0 = ⊎_elim
      (λ less. int_up (id_at (names_of chains) (get_or o 0 0)) (id_at (names_of chains) p.0) (rise ways chains are (get_or o 0 0) p.0 (pos 0) less (omega arith)))
      (λ r. let same : get_or o 0 0 ≡ p.0 = omega arith in subst (λ n. id_at (names_of chains) (get_or o 0 0) ≤ℤ id_at (names_of chains) n) same (omega (arith, ints)))
      (cases_lt (get_or o 0 0) p.0) in
      subst (λ z. z ≤ℤ c.name) (sym here) (subst (λ z. id_at (names_of chains) (get_or o 0 0) ≤ℤ z) at names)

  pub begin_least : (closings : Closings) (joined : Joined) (of : AreJoined chains closings joined) → All (λ o. BeginsWithLeastName (chains_at chains o)) (filter (is_closed_orbit of.next) of.orbits)
  begin_least closings joined of = all-in (λ o. BeginsWithLeastName (chains_at chains o)) (filter (is_closed_orbit of.next) of.orbits) (λ o i.
      let inside = in-filter (is_closed_orbit of.next) of.orbits o i in
      let orbit : IsOrbit of.next o = in-all (IsOrbit of.next) of.orbits o of.are_orbits.each inside in
      let below : All (λ k. k < length of.next) o = in-all (λ (p : List ℕ). All (λ k. k < length of.next) p) of.orbits o (stand (length of.next) of.orbits of.are_orbits.once) inside in
      let closed = in-passes (is_closed_orbit of.next) of.orbits o i in
      least_first o orbit.some (subst (λ n. All (λ k. k < n) o) of.are_next.sized below)
      (in-all (λ (p : List ℕ). after of.next (last_number p) ≢ None → All (λ k. first p ≤ k) p) of.orbits o of.in_order.least inside (some_not_none (after of.next (last_number o)) closed)))
