-- The departures that begin before a point stand before the others.
use Rattle.std.proofs.Common.{rules}
use Rattle.std.proofs.lemmas.List.Sorted.{IsPartitionPoint-from_clause}
use Rattle.osm_rings.proofs.Starts.{before-parts, lt}
use Rattle.osm_rings.proofs.departures.first_at.Goals as goal

pub returns-clause-first : goal.returns-clause-first
returns-clause-first c = IsPartitionPoint-from_clause (λ w. lt w.edge.now.from c.args.p) c.args.departures.now c.partition_point.result c.partition_point.ensures.partitioned (before-parts c.args.departures.now c.requires.rising c.args.p) (λ a r f' k. search rules)
