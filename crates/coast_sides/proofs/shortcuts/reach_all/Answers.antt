-- One more conflict.
use Rattle.std.proofs.Common.{length, ap, ◌||◌, ◌∙◌, arith}
use Rattle.std.proofs.lemmas.List.{get_or_default}
use Rattle.osm_segments.specs.Places.{pair_at}
use Rattle.osm_segments.specs.declared.places.Places.{Places}
use Rattle.coast_sides.specs.ShortcutSteps.{is_reached, told_cuts_out}
use Rattle.coast_sides.proofs.ListSteps.{or_any_step}
use Rattle.coast_sides.proofs.shortcuts.reach_all.Goals as goal

pub loop-places-preserved : goal.loop-places-preserved
loop-places-preserved c = λ k h.
    let n = length c.args.reach.now in
    let steps = c.args.steps.now in
    let same = c.loop-places.auto.reach in
    or_any_step (λ (places : Places). told_cuts_out n k steps (pair_at c.args.segs.now places)) c.args.conflicts.now c.loop-places.places-index _ (is_reached c.args.reach.now k) (is_reached c.loop-places.reach k) (is_reached c.reach_told.new.reach k)
    c.loop-places-test.true (get_or_default c.args.conflicts.now c.loop-places.places-index _ _ c.loop-places-test.true) (c.loop-places.invariant k h)
    (c.reach_told.ensures k (omega (arith, h, same)) ∙ ap (λ m. is_reached c.loop-places.reach k || told_cuts_out m k steps c.pair_at.result) same ∙ ap (λ told. is_reached c.loop-places.reach k || told_cuts_out n k steps told) c.pair_at.ensures)
