-- One more ring.
use Rattle.std.proofs.Common.{Bool, ◌++◌, ◌∷◌, [], if◌then◌else◌, ap, ◌∙◌}
use Rattle.std.specs.BTreeSet.{contains}
use Rattle.std.specs.Ordering.{int_cmp}
use Rattle.coast_rings.specs.declared.ring.CoastRing.{CoastRing}
use Rattle.coast_sides.proofs.ListSteps.{kept_step, left_step}
use Rattle.coast_sides.proofs.choosing.parted_by_name.Goals as goal

pub loop-ring-preserved : goal.loop-ring-preserved
loop-ring-preserved c =
    let p : CoastRing → Bool = λ ring. contains int_cmp c.args.names.now ring.name in
    let is = c.contains-is_named.result in (
      kept_step p c.args.rings.now c.loop-ring.ring-index c.ring-item.result is c.loop-ring.named _ c.loop-ring-test.true c.ring-item.is c.contains-is_named.ensures c.loop-ring.invariant.0
          (c.in_ok-put.ensures.along ∙ ap (λ (r : CoastRing). c.loop-ring.named ++ (if is then r ∷ [] else [])) c.in_ok-copy.ensures),
      left_step p c.args.rings.now c.loop-ring.ring-index c.ring-item.result is c.loop-ring.others _ c.loop-ring-test.true c.ring-item.is c.contains-is_named.ensures c.loop-ring.invariant.1
          (c.in_ok-put.ensures.free ∙ ap (λ (r : CoastRing). c.loop-ring.others ++ (if is then [] else r ∷ [])) c.in_ok-copy.ensures),
    )
