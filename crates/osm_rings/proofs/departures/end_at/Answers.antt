-- The departures that begin after a point stand after the others.
use Rattle.std.proofs.Common.{not, rules}
use Rattle.std.proofs.lemmas.List.Sorted.{IsPartitionPoint-from_clause}
use Rattle.osm_rings.proofs.Starts.{after-parts, lt}
use Rattle.osm_rings.proofs.departures.end_at.Goals as goal

pub returns-clause-end : goal.returns-clause-end
returns-clause-end c = IsPartitionPoint-from_clause (λ w. not (lt c.args.p w.edge.now.from)) c.args.departures.now c.partition_point.result c.partition_point.ensures.partitioned (after-parts c.args.departures.now c.requires.rising c.args.p) (λ a r f' k. search rules)
