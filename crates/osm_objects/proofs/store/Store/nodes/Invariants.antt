use Rattle.std.proofs.Common.{◌≡◌, ◌++◌, ℕ, drop}
use Rattle.osm_objects.specs.Held.{others_from}
use Rattle.osm_objects.specs.Merged.{merged, Fit}
use Rattle.osm_objects.specs.Nodes.{node_ids}
use Rattle.osm_objects.specs.Plain.{nodes_from}
use Rattle.osm_objects.proofs.store.Store.nodes.Given as goal

-- what is listed and what the nodes and others to come give are all
abbrev pub invariant-loop-placed : goal.invariant-loop-placed
invariant-loop-placed l = record {
  listed : l.ids.items ++ node_ids (merged (nodes_from l.plain) (others_from (drop l.placed-index l.others))) ≡ node_ids l.self;
  fit : (since : ℕ) × Fit (nodes_from l.plain) (others_from (drop l.placed-index l.others)) since;
}
