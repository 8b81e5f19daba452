use Rattle.osm_text.proofs.KeptLemmas.{kept_behind}
use Rattle.osm_text.proofs.notation.put_each.Goals as goal

pub returns-in_err-put_polygon-clause-kept : goal.returns-in_err-put_polygon-clause-kept
returns-in_err-put_polygon-clause-kept c =
    kept_behind c.from_residual-in_err-put_polygon.result c.args.text.now.items c.loop-polygon.text.items _ c.push.new.self.items c.put_polygon.new.text.items
    c.loop-polygon.invariant.kept c.in_ok-push.ensures.items c.in_err-put_polygon.ensures.kept
