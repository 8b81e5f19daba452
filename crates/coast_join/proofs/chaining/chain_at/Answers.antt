-- The ways of an orbit are linked.
use Rattle.std.proofs.Common.{◌≡◌, ◌<◌, ℕ, Bool, All, List, length, map, slice_index, is_some, get_or, sym, ap, subst, ◌∙◌, rules}
use Rattle.std.proofs.lemmas.List.Elements.{All-map}
use Rattle.std.proofs.lemmas.Result.{IfOk-weaker}
use Rattle.orbits.specs.Orbits.{after, last_number}
use Rattle.coast_join.specs.Chains.{WayPath}
use Rattle.coast_join.specs.ChainSteps.{AreLinked, Makes, ways_at}
use Rattle.coast_join.proofs.Joining.{same_members, orbit_linked, is_chain}
use Rattle.coast_join.proofs.chaining.chain_at.Goals as goal

pub chain_of-requires-clause-inside : goal.chain_of-requires-clause-inside
chain_of-requires-clause-inside c =
    let ways = c.args.ways.now in
    let order = c.args.order.now in
    let orbit = c.args.orbit.now in
    let P : ℕ → Type 0 = λ i. i < length ways in
    subst (All P) (sym (c.deref.ensures.value ∙ c.in_ok-places.ensures)) (All-map P (slice_index order) orbit (λ k d h. c.requires.inside (get_or orbit k d) 0 (c.requires.below k d h)))

pub chain_of-requires-clause-linked : goal.chain_of-requires-clause-linked
chain_of-requires-clause-linked c =
    let ways = c.args.ways.now in
    let order = c.args.order.now in
    let orbit = c.args.orbit.now in
    let closed : c.is_some-closed.result ≡ is_some (after c.args.next.now (last_number orbit)) = search rules in
    let places = c.deref.ensures.value ∙ c.in_ok-places.ensures in
    let same : ways_at ways c.deref.result.now ≡ _ = ap (ways_at ways) places ∙ same_members ways order c.requires.inside orbit c.requires.below in
    subst (λ (b : Bool). AreLinked b (map (λ (l : WayPath). l.path) (ways_at ways c.deref.result.now))) (sym closed)
    (subst (λ (ls : List WayPath). AreLinked (is_some (after c.args.next.now (last_number orbit))) (map (λ (l : WayPath). l.path) ls)) (sym same)
    (orbit_linked ways order c.requires.inside c.args.next.now c.requires.links orbit c.requires.orbit c.requires.below))

pub returns : goal.returns
returns c =
    let ways = c.args.ways.now in
    let order = c.args.order.now in
    let orbit = c.args.orbit.now in
    let closed : c.is_some-closed.result ≡ is_some (after c.args.next.now (last_number orbit)) = search rules in
    let places = c.deref.ensures.value ∙ c.in_ok-places.ensures in
    IfOk-weaker c.chain_of.result _ _ (λ chain makes.
    is_chain ways order c.requires.inside c.args.next.now c.requires.links orbit chain c.requires.orbit.some c.requires.below
    (subst (λ (b : Bool). Makes (ways_at ways (map (slice_index order) orbit)) b chain) closed (subst (λ (ps : List ℕ). Makes (ways_at ways ps) c.is_some-closed.result chain) places makes))) c.chain_of.ensures
