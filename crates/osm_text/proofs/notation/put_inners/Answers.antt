use Rattle.osm_text.proofs.KeptLemmas.{kept_behind}
use Rattle.osm_text.proofs.notation.put_inners.Goals as goal

pub returns-in_err-put_ring_along-clause-kept : goal.returns-in_err-put_ring_along-clause-kept
returns-in_err-put_ring_along-clause-kept c =
    kept_behind c.from_residual-in_err-put_ring_along.result c.args.text.now.items c.loop-ring.text.items _ c.push.new.self.items c.put_ring_along.new.text.items
    c.loop-ring.invariant.kept c.in_ok-push.ensures.items c.in_err-put_ring_along.ensures.kept
