-- The parts put together.
use Rattle.std.proofs.Common.{◌≡◌, ◌<◌, ℕ, ℤ, All, List, Option, length, map, sym, ap, subst, ◌∙◌}
use Rattle.std.proofs.lemmas.List.{length-map}
use Rattle.std.proofs.lemmas.Result.{IfOk-weaker}
use Rattle.osm_lattice.specs.declared.loc.Loc.{Loc}
use Rattle.coast_join.specs.declared.way.CoastWay.{CoastWay}
use Rattle.orbits.specs.Orbits.{IsOneToOne, AreOrbits, AreOrbitsInOrder}
use Rattle.coast_join.specs.ById.{AreById}
use Rattle.coast_join.specs.Chains.{WayPath}
use Rattle.coast_join.specs.ChainSteps.{member, ways_at}
use Rattle.coast_rings.specs.Line.{first_location, last_location}
use Rattle.coast_join.specs.Links.{AreNextWays}
use Rattle.coast_join.proofs.Joining.{order_inside, sorted_same, sorted_rising}
use Rattle.coast_join.proofs.Numbering.{one_to_one}
use Rattle.coast_join.proofs.chaining.chains.Goals as goal

-- what is known of the order, with what the vectors lend
order_of : (ways : List CoastWay) (ids lent : List ℤ) (order : List ℕ) → lent ≡ ids → ids ≡ map (λ (w : CoastWay). w.id) ways → AreById lent order → AreById (map (λ (w : CoastWay). w.id) ways) order
order_of ways ids lent order e d h = subst (λ (xs : List ℤ). AreById xs order) (e ∙ d) h

below_ways : (ways : List CoastWay) (order lent : List ℕ) → lent ≡ order → AreById (map (λ (w : CoastWay). w.id) ways) order → All (λ i. i < length ways) lent
below_ways ways order lent e h = subst (All (λ i. i < length ways)) (sym e) (order_inside ways order h)

pub starts-requires : goal.starts-requires
starts-requires c = below_ways c.args.ways.now c.in_ok-order.order.items c.deref-2.result.now c.deref-2.ensures.value (order_of c.args.ways.now c.in_ok-ids.ids.items c.deref.result.now c.in_ok-order.order.items c.deref.ensures.value c.in_ok-ids.ensures c.in_ok-order.ensures)

pub ends-requires : goal.ends-requires
ends-requires c = below_ways c.args.ways.now c.in_ok-order.order.items c.deref-3.result.now c.deref-3.ensures.value (order_of c.args.ways.now c.in_ok-ids.ids.items c.deref.result.now c.in_ok-order.order.items c.deref.ensures.value c.in_ok-ids.ensures c.in_ok-order.ensures)

pub chains_of-requires-clause-inside : goal.chains_of-requires-clause-inside
chains_of-requires-clause-inside c = below_ways c.args.ways.now c.in_ok-order.order.items c.deref-7.result.now c.deref-7.ensures.value (order_of c.args.ways.now c.in_ok-ids.ids.items c.deref.result.now c.in_ok-order.order.items c.deref.ensures.value c.in_ok-ids.ensures c.in_ok-order.ensures)

-- the links of the ways in order
links_of : (ways : List CoastWay) (order lent_2 lent_3 : List ℕ) (starts ends lent_4 lent_5 : List Loc) (next : List (Option ℕ)) → lent_2 ≡ order → lent_3 ≡ order
    → starts ≡ map (λ (l : WayPath). first_location l.path) (ways_at ways lent_2) → ends ≡ map (λ (l : WayPath). last_location l.path) (ways_at ways lent_3) → lent_4 ≡ ends → lent_5 ≡ starts → AreNextWays lent_4 lent_5 next
    → AreNextWays (map (λ (l : WayPath). last_location l.path) (ways_at ways order)) (map (λ (l : WayPath). first_location l.path) (ways_at ways order)) next
links_of ways order lent_2 lent_3 starts ends lent_4 lent_5 next e2 e3 s e e4 e5 h =
    let first = e5 ∙ (s ∙ ap (λ (ps : List ℕ). map (λ (l : WayPath). first_location l.path) (ways_at ways ps)) e2) in
    let last = e4 ∙ (e ∙ ap (λ (ps : List ℕ). map (λ (l : WayPath). last_location l.path) (ways_at ways ps)) e3) in
    subst (λ (xs : List Loc). AreNextWays xs (map (λ (l : WayPath). first_location l.path) (ways_at ways order)) next) last (subst (λ (xs : List Loc). AreNextWays lent_4 xs next) first h)

sized_of : (ways : List CoastWay) (order : List ℕ) → length (map (λ (l : WayPath). first_location l.path) (ways_at ways order)) ≡ length (map (λ (l : WayPath). last_location l.path) (ways_at ways order))
sized_of ways order = length-map (ways_at ways order) (λ (l : WayPath). first_location l.path) ∙ sym (length-map (ways_at ways order) (λ (l : WayPath). last_location l.path))

pub orbits-requires : goal.orbits-requires
orbits-requires c =
    let ways = c.args.ways.now in
    let order = c.in_ok-order.order.items in
    let next = c.in_ok-next.next.items in
    let links = links_of ways order c.deref-2.result.now c.deref-3.result.now c.in_ok-starts.starts.items c.in_ok-ends.ends.items c.deref-4.result.now c.deref-5.result.now next c.deref-2.ensures.value c.deref-3.ensures.value c.in_ok-starts.ensures c.in_ok-ends.ensures c.deref-4.ensures.value c.deref-5.ensures.value c.in_ok-next.ensures in
    subst IsOneToOne (sym c.deref-6.ensures.value) (one_to_one _ _ next (sized_of ways order) links)

pub chains_of-requires-clause-below : goal.chains_of-requires-clause-below
chains_of-requires-clause-below c =
    let ways = c.args.ways.now in
    let order = c.in_ok-order.order.items in
    let next = c.in_ok-next.next.items in
    let links = links_of ways order c.deref-2.result.now c.deref-3.result.now c.in_ok-starts.starts.items c.in_ok-ends.ends.items c.deref-4.result.now c.deref-5.result.now next c.deref-2.ensures.value c.deref-3.ensures.value c.in_ok-starts.ensures c.in_ok-ends.ensures c.deref-4.ensures.value c.deref-5.ensures.value c.in_ok-next.ensures in
    let sized : length next ≡ length order = links.sized ∙ (length-map (ways_at ways order) (λ (l : WayPath). last_location l.path) ∙ length-map order (member ways)) in
    let n : length c.deref-6.result.now ≡ length c.deref-7.result.now = ap length c.deref-6.ensures.value ∙ (sized ∙ ap length (sym c.deref-7.ensures.value)) in
    let os = map (λ o. o.items) c.in_ok-orbits.orbits.items in
    let below = c.each_stands_once.ensures.below (length c.deref-6.result.now) os c.in_ok-orbits.ensures.orbits.once in
    let all : All (λ (o : List ℕ). All (λ k. k < length c.deref-7.result.now) o) os = subst (λ m. All (λ (o : List ℕ). All (λ k. k < m) o) os) n below in
    rw c.deref-9.ensures.value all

pub returns : goal.returns
returns c =
    let ways = c.args.ways.now in
    let order = c.in_ok-order.order.items in
    let next = c.in_ok-next.next.items in
    let by_id = order_of ways c.in_ok-ids.ids.items c.deref.result.now order c.deref.ensures.value c.in_ok-ids.ensures c.in_ok-order.ensures in
    let links = links_of ways order c.deref-2.result.now c.deref-3.result.now c.in_ok-starts.starts.items c.in_ok-ends.ends.items c.deref-4.result.now c.deref-5.result.now next c.deref-2.ensures.value c.deref-3.ensures.value c.in_ok-starts.ensures c.in_ok-ends.ensures c.deref-4.ensures.value c.deref-5.ensures.value c.in_ok-next.ensures in
    let os = map (λ o. o.items) c.in_ok-orbits.orbits.items in
    IfOk-weaker c.chains_of.result _ _ (λ v each. record {
      sorted = ways_at ways order;
      same = sorted_same ways order by_id;
      rising = sorted_rising ways order by_id;
      next = next;
      links = links;
      orbits = os;
      are_orbits = subst (λ (xs : List (Option ℕ)). AreOrbits xs os) c.deref-6.ensures.value c.in_ok-orbits.ensures.orbits;
      in_order = subst (λ (xs : List (Option ℕ)). AreOrbitsInOrder xs os) c.deref-6.ensures.value c.in_ok-orbits.ensures.order;
      each = rw (c.deref-7.ensures.value, c.deref-8.ensures.value, c.deref-9.ensures.value) at each;
    }) c.chains_of.ensures
