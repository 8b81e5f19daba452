-- The parts put together.
use Rattle.std.proofs.Common.{◌≡◌, ◌≢◌, ◌<◌, ℕ, All, AllPairs, List, Option, Vec, Global, filter, length, map, not, refl, ap, sym, subst}
use Rattle.orbits.specs.Orbits.{IsOneToOne, AreOrbits, AreOrbitsInOrder}
use Rattle.std.specs.List.{AllZip}
use Rattle.coast_join.specs.declared.chain.Chain.{Chain}
use Rattle.coast_rings.specs.declared.ring.CoastRing.{CoastRing}
use Rattle.coast_join.specs.declared.gap.Gap.{Gap}
use Rattle.coast_join.specs.declared.gap.Closings.{Closings}
use Rattle.coast_join.specs.declared.way.CoastWay.{CoastWay}
use Rattle.coast_join.specs.Chains.{AreChains}
use Rattle.coast_join.specs.ChainLaws.{UnclosedEndsDiffer}
use Rattle.coast_join.specs.Closings.{AreClosings, names_of}
use Rattle.coast_join.specs.RingLaws.{ClosedEndsDiffer}
use Rattle.coast_join.specs.Taken.{named_gap_cmp}
use Rattle.coast_join.specs.JoinSteps.{AreGapLinks, AreNextBy, AreParts}
use Rattle.coast_join.specs.Joined.{AreNext, IsCoastRing, IsUnclosed, chains_at, is_closed_orbit}
use Rattle.orbits.specs.OnceLaws.{StandBelow}
use Rattle.coast_join.proofs.Parts.{orbits_are_parts}
use Rattle.coast_join.proofs.RingNames.{names_apart, rising_names, rising_unclosed}
use Rattle.coast_join.proofs.Following.{gaps_from, gaps_apart, next_are, next_one}
use Rattle.coast_join.proofs.regained.closed_rings.Goals as goal

pub gap_links-requires-clause-from : goal.gap_links-requires-clause-from
gap_links-requires-clause-from c = subst (All (λ (g : Gap). g.from_chain < length c.args.chains.now)) (sym c.as_slice.ensures) (gaps_from (named_gap_cmp (names_of c.args.chains.now)) c.requires.are_closings.0 c.args.chains.now c.args.closings.now.gaps c.requires.are_closings.1.gaps)

pub gap_links-requires-clause-apart : goal.gap_links-requires-clause-apart
gap_links-requires-clause-apart c = subst (AllPairs (λ (g : Gap) (h : Gap). g.from_chain ≢ h.from_chain)) (sym c.as_slice.ensures) (gaps_apart (named_gap_cmp (names_of c.args.chains.now)) c.requires.are_closings.0 c.args.chains.now c.args.closings.now.gaps c.requires.are_closings.1.gaps)

next_of : (chains : List Chain) (gaps lent : List Gap) (links lent_2 next : List (Option ℕ)) → lent ≡ gaps → AreGapLinks lent (length chains) links → lent_2 ≡ links → AreNextBy lent_2 chains next → AreNext chains gaps next
next_of chains gaps lent links lent_2 next e by_gaps d by_links = next_are gaps chains links next (subst (λ (gs : List Gap). AreGapLinks gs (length chains) links) e by_gaps) (subst (λ (ls : List (Option ℕ)). AreNextBy ls chains next) d by_links)

pub orbits-requires : goal.orbits-requires
orbits-requires c =
    let chains = c.args.chains.now in
    let gaps = c.args.closings.now.gaps in
    let next = c.in_ok-next.next.items in
    let is = next_of chains gaps c.as_slice.result.now c.in_ok-links.links.items c.deref.result.now next c.as_slice.ensures c.in_ok-links.ensures c.deref.ensures.value c.in_ok-next.ensures in
    subst IsOneToOne (sym c.deref-2.ensures.value) (next_one (named_gap_cmp (names_of chains)) c.requires.are_closings.0 chains gaps c.requires.are_closings.1.gaps next is)

orbits_parts : (limit : ℕ) (ways : List CoastWay) (chains : List Chain) (closings : Closings) (next lent : List (Option ℕ)) (os lent_2 : List (List ℕ)) → AreChains ways chains → AreClosings chains limit closings → UnclosedEndsDiffer → ClosedEndsDiffer
    → AreNext chains closings.gaps next → lent ≡ next → AreOrbits lent os → StandBelow → lent_2 ≡ os → All (AreParts chains) lent_2
orbits_parts limit ways chains closings next lent os lent_2 are closing unclosed closed is e orbits stand e_2 =
    let are_orbits : AreOrbits next os = subst (λ (xs : List (Option ℕ)). AreOrbits xs os) e orbits in
    subst (All (AreParts chains)) (sym e_2) (orbits_are_parts ways chains are unclosed closed closings.gaps next is (next_one (named_gap_cmp (names_of chains)) limit chains closings.gaps closing.gaps next is) os are_orbits (stand (length next) os are_orbits.once))

pub unclosed-requires-clause-parts : goal.unclosed-requires-clause-parts
unclosed-requires-clause-parts c =
    let chains = c.args.chains.now in
    let closings = c.args.closings.now in
    let next = c.in_ok-next.next.items in
    let is = next_of chains closings.gaps c.as_slice.result.now c.in_ok-links.links.items c.deref.result.now next c.as_slice.ensures c.in_ok-links.ensures c.deref.ensures.value c.in_ok-next.ensures in
    orbits_parts c.requires.are_closings.0 c.requires.are_chains.0 chains closings next c.deref-2.result.now (map (λ o. o.items) c.in_ok-orbits.orbits.items) (map (λ o. o.items) c.deref-4.result.now) c.requires.are_chains.1 c.requires.are_closings.1
    c.unclosed_ends_differ.ensures c.closed_ends_differ.ensures is c.deref-2.ensures.value c.in_ok-orbits.ensures.orbits c.each_stands_once.ensures.below (ap (map (λ (o : Vec ℕ Global). o.items)) c.deref-4.ensures.value)

pub rings-requires-clause-parts : goal.rings-requires-clause-parts
rings-requires-clause-parts c =
    let chains = c.args.chains.now in
    let closings = c.args.closings.now in
    let next = c.in_ok-next.next.items in
    let is = next_of chains closings.gaps c.as_slice.result.now c.in_ok-links.links.items c.deref.result.now next c.as_slice.ensures c.in_ok-links.ensures c.deref.ensures.value c.in_ok-next.ensures in
    orbits_parts c.requires.are_closings.0 c.requires.are_chains.0 chains closings next c.deref-2.result.now (map (λ o. o.items) c.in_ok-orbits.orbits.items) (map (λ o. o.items) c.deref-6.result.now) c.requires.are_chains.1 c.requires.are_closings.1
    c.unclosed_ends_differ.ensures c.closed_ends_differ.ensures is c.deref-2.ensures.value c.in_ok-orbits.ensures.orbits c.each_stands_once.ensures.below (ap (map (λ (o : Vec ℕ Global). o.items)) c.deref-6.ensures.value)

pub returns : goal.returns
returns c =
    let chains = c.args.chains.now in
    let gaps = c.args.closings.now.gaps in
    let next = c.in_ok-next.next.items in
    let is = next_of chains gaps c.as_slice.result.now c.in_ok-links.links.items c.deref.result.now next c.as_slice.ensures c.in_ok-links.ensures c.deref.ensures.value c.in_ok-next.ensures in
    let os = map (λ o. o.items) c.in_ok-orbits.orbits.items in
    let are_orbits : AreOrbits next os = subst (λ (xs : List (Option ℕ)). AreOrbits xs os) c.deref-2.ensures.value c.in_ok-orbits.ensures.orbits in
    let in_order : AreOrbitsInOrder next os = subst (λ (xs : List (Option ℕ)). AreOrbitsInOrder xs os) c.deref-2.ensures.value c.in_ok-orbits.ensures.order in
    let parts = orbits_parts c.requires.are_closings.0 c.requires.are_chains.0 chains c.args.closings.now next next os os c.requires.are_chains.1 c.requires.are_closings.1 c.unclosed_ends_differ.ensures c.closed_ends_differ.ensures is refl are_orbits c.each_stands_once.ensures.below refl in
    let each_ring : AllZip (λ (o : List ℕ) (r : CoastRing). IsCoastRing (chains_at chains o) r) (filter (is_closed_orbit next) os) c.in_ok-rings.rings.items = rw (c.deref-5.ensures.value, c.deref-6.ensures.value) at c.in_ok-rings.ensures in
    let each_unclosed : AllZip (λ (o : List ℕ) (x : Chain). IsUnclosed (chains_at chains o) x) (filter (λ (o : List ℕ). not (is_closed_orbit next o)) os) c.in_ok-unclosed.unclosed = rw (c.deref-3.ensures.value, c.deref-4.ensures.value) at c.in_ok-unclosed.ensures in
    record {
      next = next;
      are_next = is;
      orbits = os;
      are_orbits = are_orbits;
      in_order = in_order;
      rings = c.in_ok-rings.rings.items;
      each_ring = each_ring;
      same = c.in_ok-rings-2.ensures.same;
      rings_rise = rising_names c.in_ok-rings.rings.items c.in_ok-rings-2.rings (names_apart c.requires.are_chains.0 chains c.requires.are_chains.1 (length next) os are_orbits.once (is_closed_orbit next) c.in_ok-rings.rings.items each_ring) c.in_ok-rings-2.ensures.same c.in_ok-rings-2.ensures.by_name;
      each_unclosed = each_unclosed;
      unclosed_rise = rising_unclosed c.requires.are_chains.0 chains c.requires.are_chains.1 c.names_rise.ensures os (λ (o : List ℕ). not (is_closed_orbit next o)) c.in_ok-unclosed.unclosed parts in_order.firsts each_unclosed;
    }
