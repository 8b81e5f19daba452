-- The first departure after the direction, else the first.
use Rattle.std.proofs.Common.{◌≡◌, false, rules, subst, sym, true}
use Rattle.std.specs.List.Sorted.{IsPartitionPoint}
use Rattle.std.proofs.lemmas.List.Sorted.{IsPartitionPoint-from_clause}
use Rattle.osm_geom.specs.Dir.{vector_along}
use Rattle.osm_rings.proofs.DeparturesRound.{IsPicked, is_passed, passed-parts, picked}
use Rattle.osm_rings.proofs.successors.first_met.Goals as goal

pub returns : goal.returns
returns c =
    let ws = c.args.departures.now in
    let from = c.args.from in
    let after = c.partition_point-after.result in
    let test = is_passed ws c.requires from in
    let point : IsPartitionPoint (λ w. test w ≡ true) (λ w. test w ≡ false) ws after =
    IsPartitionPoint-from_clause test ws after c.partition_point-after.ensures.partitioned (passed-parts ws c.requires from) (λ a r f' k. search rules) in
    let found : IsPicked ws (vector_along from) c.or.result = subst (IsPicked ws (vector_along from)) (sym c.or.ensures) (picked ws c.requires from after point c.get.result c.first.result c.get.ensures.lookup c.first.ensures.item) in
    record { none = found.none; member = found.member; first = found.first }
