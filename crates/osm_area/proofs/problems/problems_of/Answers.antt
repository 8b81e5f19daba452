-- The faults that are held, as their list.
use Rattle.std.proofs.Common.{List, subst}
use Rattle.osm_lattice.specs.declared.seg.Seg.{Seg}
use Rattle.osm_area.specs.FaultsHeld.{AreFaultsHeld}
use Rattle.osm_area.proofs.HeldFaults.{faults_are}
use Rattle.osm_area.proofs.problems.problems_of.Goals as goal

pub returns-in-Ok : goal.returns-in-Ok
returns-in-Ok c =
    faults_are c.args.survivors.items c.in-Ok.conflicts.items c.in-Ok.odd_nodes.items
    (subst (λ (ss : List Seg). AreFaultsHeld ss c.in-Ok.conflicts.items c.in-Ok.odd_nodes.items) c.deref.ensures.value c.in-Ok.ensures)
