use Rattle.osm_text.proofs.KeptLemmas.{kept_behind}
use Rattle.osm_text.proofs.notation.put_points.Goals as goal

pub returns-in_err-put_location-clause-kept : goal.returns-in_err-put_location-clause-kept
returns-in_err-put_location-clause-kept c =
    kept_behind c.from_residual-in_err-put_location.result c.args.text.now.items c.loop-point.text.items _ c.push.new.self.items c.put_location.new.text.items
    c.loop-point.invariant.kept c.in_ok-push.ensures.items c.in_err-put_location.ensures.kept
