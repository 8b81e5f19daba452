use Rattle.std.proofs.Common.{◌≡◌, ◌++◌, drop}
use Rattle.osm_objects.specs.Candidates.{candidates}
use Rattle.osm_objects.proofs.StoreLemmas.{objects_from}
use Rattle.osm_objects.proofs.store.Store.candidates.Given as goal

-- what is listed and what the others to come give are all, since no plain node is a candidate
abbrev pub invariant-loop-placed : goal.invariant-loop-placed
invariant-loop-placed l = l.list.items ++ candidates l.choice (objects_from (drop l.placed-index l.others)) ≡ candidates l.choice l.self
