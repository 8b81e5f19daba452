-- One more hole.
use Rattle.osm_text.specs.PieceSteps.{hole_text}
use Rattle.osm_text.specs.Rounded.{vanished_at}
use Rattle.osm_text.proofs.KeptLemmas.{kept_further}
use Rattle.osm_text.proofs.StepLemmas.{filter_step, flat_step}
use Rattle.osm_text.proofs.piece.put_holes.Goals as goal

pub loop-ring-preserved : goal.loop-ring-preserved
loop-ring-preserved c =
    let rings = c.args.rings.now in
    let k = c.loop-ring.ring-index in
    let ring = c.ring-item.result in
    record {
      whole = flat_step rings k ring c.loop-ring-test.true c.ring-item.is hole_text c.loop-ring.text.items c.put_hole.new.text.items _ c.in_ok-put_hole.ensures.text c.loop-ring.invariant.whole;
      noted = filter_step rings k ring c.loop-ring-test.true c.ring-item.is vanished_at c.loop-ring.vanished c.put_hole.new.vanished _ c.in_ok-put_hole.ensures.noted c.loop-ring.invariant.noted;
      kept = kept_further c.args.text.now.items c.loop-ring.text.items (hole_text ring) c.put_hole.new.text.items c.loop-ring.invariant.kept c.in_ok-put_hole.ensures.text;
    }
