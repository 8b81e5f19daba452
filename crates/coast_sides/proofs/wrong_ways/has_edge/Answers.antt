-- The edge along the segment stands where those that come before it end.
use Rattle.std.proofs.Common.{length, refl, rules, sym, ◌∙◌}
use Rattle.std.proofs.lemmas.List.Sorted.{IsPartitionPoint-from_clause}
use Rattle.osm_geom.specs.declared.edge.Edge.{Edge}
use Rattle.coast_sides.specs.WrongWays.{comes_before}
use Rattle.coast_sides.proofs.RingDirections.{found, missing, no_edge, parted}
use Rattle.coast_sides.proofs.RoundSteps.{test_no}
use Rattle.coast_sides.proofs.wrong_ways.has_edge.Goals as goal

pub returns-in_default : goal.returns-in_default
returns-in_default c = no_edge c.orders_are_exact.ensures.locations c.args.edges.now c.requires.whole c.requires.rising c.args.from c.args.to (c.in_default.ensures.none.0 refl)

pub returns-then-place-edges : goal.returns-then-place-edges
returns-then-place-edges c =
    let edges = c.args.edges.now in
    let seg = c.in-Some.seg in
    let place = c.partition_point-place.result in
    let between = sym c.new.ensures.between ∙ c.in-Some.is in
    let point = IsPartitionPoint-from_clause (λ (e : Edge). comes_before seg e.carrier) edges place c.partition_point-place.ensures.partitioned (parted c.orders_are_exact.ensures.locations edges c.requires.whole c.requires.rising c.args.from c.args.to seg between) (λ a r f' k. search rules) in
    found c.orders_are_exact.ensures.locations edges c.requires.whole c.requires.rising c.args.from c.args.to seg between place point c.index-edges-place.result c.runs_between.result c.if-place-edges.true c.index-edges-place.is c.runs_between.ensures

pub returns-else-place-edges : goal.returns-else-place-edges
returns-else-place-edges c =
    let edges = c.args.edges.now in
    let seg = c.in-Some.seg in
    let place = c.partition_point-place.result in
    let between = sym c.new.ensures.between ∙ c.in-Some.is in
    let point = IsPartitionPoint-from_clause (λ (e : Edge). comes_before seg e.carrier) edges place c.partition_point-place.ensures.partitioned (parted c.orders_are_exact.ensures.locations edges c.requires.whole c.requires.rising c.args.from c.args.to seg between) (λ a r f' k. search rules) in
    test_no place (length edges) c.if-place-edges.false ∙ missing c.orders_are_exact.ensures.locations edges c.requires.whole c.requires.rising c.args.from c.args.to seg between place point c.if-place-edges.false
