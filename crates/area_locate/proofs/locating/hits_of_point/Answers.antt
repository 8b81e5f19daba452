-- The point stands at the first place that isn't before it.
use Rattle.std.proofs.Common.{ap, arith, length, rules, ◌∙◌}
use Rattle.std.specs.Ordering.{is_lt}
use Rattle.std.proofs.lemmas.List.{length-map}
use Rattle.std.proofs.lemmas.List.Sorted.{IsPartitionPoint-from_clause}
use Rattle.osm_lattice.specs.declared.loc.Loc.{Loc}
use Rattle.osm_lattice.specs.Loc.{loc_cmp}
use Rattle.area_locate.proofs.SortedPoints.{before_parts, hits_read, place_inside}
use Rattle.area_locate.proofs.locating.hits_of_point.Goals as goal

pub bounds-hits-place : goal.bounds-hits-place
bounds-hits-place c =
    let points = c.args.sorted.now in let p = c.args.p in let place = c.partition_point-place.result in
    let point = IsPartitionPoint-from_clause (λ (q : Loc). is_lt (loc_cmp q p)) points place c.partition_point-place.ensures.partitioned (before_parts points c.requires.sorted p) (λ a r f' k. search rules) in
    let inside = place_inside points c.requires.sorted p c.requires.there place point in
    let long = ap length c.requires.hits.1 ∙ length-map points c.requires.hits.0 in
    omega (arith, inside, long)

pub returns : goal.returns
returns c f are =
    let points = c.args.sorted.now in let p = c.args.p in let place = c.partition_point-place.result in
    let point = IsPartitionPoint-from_clause (λ (q : Loc). is_lt (loc_cmp q p)) points place c.partition_point-place.ensures.partitioned (before_parts points c.requires.sorted p) (λ a r f' k. search rules) in
    c.from_vec.ensures ∙ c.in_ok-from_slice.ensures.items ∙ c.as_slice.ensures ∙ c.index-hits-place.is ∙ hits_read points c.requires.sorted p c.requires.there place point c.args.hits.now f _ are
