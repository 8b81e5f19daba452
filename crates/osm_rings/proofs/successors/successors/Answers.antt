-- One more successor, which each edge has.
use Rattle.std.proofs.Common.{◌≡◌, ◌++◌, ◌∷◌, [], Some, length, ap, subst, sym, ◌∙◌, arith}
use Rattle.std.proofs.lemmas.List.{length-append, length-map, map-append}
use Rattle.orbits.specs.Orbits.{after, total_map}
use Rattle.osm_geom.specs.InPlane.Multiple.{edge_times, product_of_denominators, whole_edges}
use Rattle.lists.specs.Member.{In}
use Rattle.osm_rings.specs.Numbered.{edge_at}
use Rattle.osm_rings.specs.Departures.{IsFirstMet}
use Rattle.osm_rings.proofs.FirstMets.{met-more}
use Rattle.osm_rings.proofs.Multiplied.{read-edge}
use Rattle.osm_rings.proofs.RingLists.{end-is-left}
use Rattle.osm_rings.proofs.successors.successors.Goals as goal
use Rattle.lists.proofs.ListsKit.{at-in}

pub unreachable-requires : goal.unreachable-requires
unreachable-requires c =
    let es = c.args.edges.now in let edge = c.edge-item.result in let m = product_of_denominators es in
    let member : In edge es = subst (λ e. In e es) (sym c.edge-item.is) (at-in es c.loop-edge.edge-index edge c.loop-edge-test.true) in
    end-is-left es c.requires.sided edge member
    (subst (IsFirstMet (whole_edges es) (edge_times m edge)) c.in-None.is (c.successor.ensures es c.requires.departures member))

pub loop-edge-preserved : goal.loop-edge-preserved
loop-edge-preserved c =
    let es = c.args.edges.now in let xs = whole_edges es in
    let n = c.loop-edge.edge-index in let next = c.loop-edge.next.items in
    let edge = c.edge-item.result in let new = c.in-Some.place in
    let items : c.push.new.self.items ≡ next ++ new ∷ [] = c.in_ok-push-in-Some.ensures.items in
    let all : total_map c.push.new.self.items ≡ total_map next ++ Some new ∷ [] = ap total_map items ∙ map-append Some next (new ∷ []) in
    let member : In edge es = subst (λ e. In e es) (sym c.edge-item.is) (at-in es n edge c.loop-edge-test.true) in
    let here : edge_at xs n ≡ edge_times (product_of_denominators es) edge = read-edge (product_of_denominators es) es n edge c.loop-edge-test.true ∙ ap (edge_times (product_of_denominators es)) (sym c.edge-item.is) in
    let met : IsFirstMet xs (edge_at xs n) (Some new) = subst (λ e. IsFirstMet xs e (Some new)) (sym here) (subst (IsFirstMet xs (edge_times (product_of_denominators es) edge)) c.in-Some.is (c.successor.ensures es c.requires.departures member)) in
    record {
      sized = ap length items ∙ (let sized = c.loop-edge.invariant.sized in omega (arith, length-append next (new ∷ [])));
      first = λ i h. subst (λ ns. IsFirstMet xs (edge_at xs i) (after ns i)) (sym all) (met-more xs n (total_map next) (Some new) (length-map next Some ∙ c.loop-edge.invariant.sized) c.loop-edge.invariant.first met i h);
    }
