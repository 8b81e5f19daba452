-- The next anchor is one of those given, and begins at the height of the row.
use Rattle.std.proofs.Common.{subst, sym, true, ◌≡◌}
use Rattle.osm_nest.specs.declared.sweep.ring_edge.RingEdge.{RingEdge}
use Rattle.osm_nest.specs.SweptEdges.{IsInnerAnchor, begin_level}
use Rattle.osm_nest.proofs.sweep.enclosers.settle_row.Goals as goal

pub settle-requires-clause-tells : goal.settle-requires-clause-tells
settle-requires-clause-tells c =
    let a = c.index-inner-next.result in let here = sym c.index-inner-next.is in
    c.requires.tells a
    (subst (IsInnerAnchor c.args.rings.now) here (c.requires.inner c.loop-known.next a (c.begins_there.ensures.inside c.loop-known-test.true)))
    (subst (λ (t : RingEdge). begin_level c.args.first.now t.edge.now ≡ true) here (c.begins_there.ensures.level c.loop-known-test.true a))
