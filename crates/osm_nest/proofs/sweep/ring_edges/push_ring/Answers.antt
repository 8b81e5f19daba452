use Rattle.std.proofs.Common.{sym, ◌++◌, ◌∙◌}
use Rattle.osm_geom.specs.Span.{lower_end, spans}
use Rattle.lists.proofs.ListsKit.{clash}
use Rattle.osm_nest.proofs.RingEdges.{one-added, one-passed}
use Rattle.osm_nest.proofs.sweep.ring_edges.push_ring.Goals as goal
use Rattle.osm_nest.proofs.sweep.ring_edges.push_ring.Goals.{then-is_sloping+in_ok-push_edge, else-is_sloping}

pub loop-edge-preserved : goal.loop-edge-preserved
loop-edge-preserved c =
    let place = c.args.place in let n = c.loop-edge.edge-index in let ring = c.args.ring.now in let old = c.args.up.now.items ++ c.args.down.now.items in let e = c.edge-item.result in
    let so_far = c.loop-edge.up.items ++ c.loop-edge.down.items in
    elim c.if-is_sloping.branch [
      | then-is_sloping+in_ok-push_edge w ↦
          rw (w.up-is, w.down-is)
          (one-added place n ring old so_far e c.loop-edge-test.true c.edge-item.is c.loop-edge.invariant w.of.result w.of.ensures.edge w.of.ensures.ring (sym c.is_sloping.ensures ∙ w.if-is_sloping.true) _ w.in_ok-push_edge.ensures)
      | else-is_sloping w ↦
          rw (w.up-is, w.down-is)
          (one-passed place n ring old so_far e c.loop-edge-test.true c.edge-item.is c.loop-edge.invariant (λ s. clash (spans e (lower_end e)) s (sym c.is_sloping.ensures ∙ w.if-is_sloping.false)))
    ]
