-- One more in the one list or in the other.
use Rattle.std.proofs.Common.{subst, sym, ◌++◌}
use Rattle.osm_nest.specs.SweptEdges.{IsOneMore}
use Rattle.osm_nest.proofs.RingEdges.{first-more, second-more}
use Rattle.osm_nest.proofs.sweep.ring_edges.push_edge.Goals as goal

pub returns-in_ok-push : goal.returns-in_ok-push
returns-in_ok-push c =
    let i = c.args.item.now in let up = c.args.up.now.items in let down = c.args.down.now.items in
    subst (λ xs. IsOneMore i (up ++ down) (xs ++ down)) (sym c.in_ok-push.ensures.items) (first-more i up down)

pub returns-in_ok-push-2 : goal.returns-in_ok-push-2
returns-in_ok-push-2 c =
    let i = c.args.item.now in let up = c.args.up.now.items in let down = c.args.down.now.items in
    subst (λ xs. IsOneMore i (up ++ down) (up ++ xs)) (sym c.in_ok-push-2.ensures.items) (second-more i up down)
