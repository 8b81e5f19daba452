-- All points in the rectangle are at its heights.
use Rattle.std.proofs.Common.{List, not, rules, subst, sym, ℕ}
use lib.Signed.{lt_z}
use Rattle.std.proofs.lemmas.List.Filters.{dedup_is}
use Rattle.std.proofs.lemmas.List.Sorted.{IsPartitionPoint-from_clause}
use Rattle.osm_lattice.specs.declared.loc.Loc.{Loc}
use Rattle.area_locate.specs.Index.{IsFromTo}
use Rattle.area_locate.specs.Within.{AddsWithin, AreAllWithin}
use Rattle.area_locate.proofs.WithinPoints.{all_within, heights_rise, high_parts, low_parts}
use Rattle.area_locate.proofs.within.places_within.Goals as goal

pub returns-clause-places : goal.returns-clause-places
returns-clause-places c =
    let points = c.args.points.now in let envelope = c.args.envelope.now in let from = c.partition_point-from.result in let to = c.partition_point-to.result in
    let found = c.add_from_to.new.found.items in let sorted = c.sort_unstable.new.self.items in
    let low = IsPartitionPoint-from_clause (λ (p : Loc). lt_z p.y envelope.low) points from c.partition_point-from.ensures.partitioned (low_parts points envelope.low (heights_rise points c.requires.sorted)) (λ a r f' k. search rules) in
    let high = IsPartitionPoint-from_clause (λ (p : Loc). not (lt_z envelope.high p.y)) points to c.partition_point-to.ensures.partitioned (high_parts points envelope.high (heights_rise points c.requires.sorted)) (λ a r f' k. search rules) in
    let adds = subst (λ (old : List ℕ). AddsWithin envelope points (IsFromTo from to) old found) c.new-places.ensures.items c.in_ok-add_from_to.ensures in
    subst (AreAllWithin envelope points) (sym (dedup_is _ sorted c.dedup.new.self.items c.dedup.ensures.filtered)) (all_within envelope points from to low.0 high.1 found sorted adds c.sort_unstable.ensures.permutation c.sort_unstable.ensures.sorted)
